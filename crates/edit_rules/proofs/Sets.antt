-- An edit of the set at its cuts.
use mathlib.Core.Path.{◌≡◌, refl, sym, ap, ◌∙◌}
use Prim.Native.Nat.{ℕ, ◌+◌}
use native.Mathlib.Omega.{arith}
use mathlib.Core.Bool.{Bool, true, false}
use mathlib.Core.List.{List, ◌++◌, append_assoc, map}
use lib.ListN.{length, drop, length-append}
use lib.Dec.{eqb, ltb}
use borrow.Author.Tests.{ltb-true, ltb-false, le-ltb}
use Rattle.format.specs.Answer.{ok}
use Rattle.format.specs.Coding.{Bytes}
use Rattle.format.specs.Lists.{has, flat_all}
use Rattle.format.specs.Table.{Form, set, nameable}
use Rattle.format.specs.Packet.{Entry, tag_of_entry, flat_entry}
use Rattle.format.specs.Sheet.{tag_of_part, part_of}
use Rattle.format.specs.Edit.{Changes, the_set, tags_at}
use Rattle.format.proofs.Words.Keys.{flip, all_map}
use Rattle.format.proofs.Words.Together.{map_keys}
use Rattle.format.proofs.Table.Tags.{nameable_set}
use Rattle.format.proofs.Sheets.Content.{part_tag}
use Rattle.find.specs.declared.Spot.{Spot}
use Rattle.find.specs.declared.Place.{Place}
use Rattle.find.specs.Spots.{no_spot, spot_in, Missed, has_tag, entries_of, entry_lead, entry_spot}
use Rattle.find.specs.Places.{SetOf, kept_of, place_in, SetPlaced, Ordered}
use Rattle.find.proofs.Splices.{missed_spot, spot_present, spot_room, narrowed, absent_too}
use Rattle.find.proofs.Entries.{entry_some, tag_absent}
use Rattle.find.proofs.Finds.{set_there, set_added}
use Rattle.find.proofs.Sets.{Seal, rest_of, the_rest, set_bytes, set_long}
use Rattle.edit_rules.specs.declared.Cuts.{Cuts}
use Rattle.edit_rules.specs.Meet.{edited_of}
use Rattle.edit_rules.specs.Cuts.{head_of, with_two, Spans}
use Rattle.edit_rules.proofs.Levels.{has_spot, piece, Swapped}

pub set_tags : (es : List Entry) → tags_at the_set (map part_of es) ≡ ok (map tag_of_entry es)
unfolding tags_at
set_tags es = ap ok (map_keys part_of tag_of_entry tag_of_part part_tag es)

-- ---- where the item stands

-- the spot of a tag in the entries but the checksum
abbrev pub kept_spot : Form → ℕ → List ℕ → Spot
kept_spot f tag s = spot_in (has_tag tag) flat_entry entry_lead entry_lead 0 (kept_of f s)

pub record SetSpot (f : Form) (tag : ℕ) (s : List ℕ) (p : Place) : Type 0 where
  pub from_0 : (p.series ≡ 0) × (p.packs ≡ 0) × (p.pack ≡ 0) × (p.body ≡ 0)
  pub at_is : p.at ≡ (kept_spot f tag s).at
  pub next_is : p.next ≡ (kept_spot f tag s).next
  pub to_stop : (p.last ≡ p.stop) × (p.tail ≡ p.stop)
  pub stop_is : p.stop ≡ length (flat_all flat_entry (kept_of f s))

module _ (f : Form) (s : List ℕ) (b : Bytes s) (k : SetOf f s) where
  abbrev rest : List Entry
  rest = the_rest f s b k

  module _ (tag : ℕ) (n : nameable set tag ≡ true) where
    other_tag : Missed (has_tag tag) rest
    other_tag = all_map Seal (λ e. has_tag tag e ≡ false) (λ e h. ap (λ t. eqb t tag) h.0 ∙ flip tag 1 (nameable_set tag n).0) rest (rest_of f s k).seals

    -- the spot that was found, or where it would be added
    pub set_spot : (p : Place) → SetPlaced f tag s p → SetSpot f tag s p
    set_spot p t = go (ltb (entry_spot set f tag s).at (entry_spot set f tag s).next) refl
      where
        go : (x : Bool) → ltb (entry_spot set f tag s).at (entry_spot set f tag s).next ≡ x → SetSpot f tag s p
        go true z =
            let e = t.there (ltb-true _ _ z) in
            let h = ltb-true (entry_spot set f tag s).at (entry_spot set f tag s).next z in
            let h₁ = spot_present (has_tag tag) flat_entry entry_lead entry_lead (entries_of set f s) refl (λ y. omega arith) in
            let (_, _, y) = narrowed (has_tag tag) (kept_of f s) rest (rest_of f s k).is other_tag flat_entry entry_lead entry_lead h₁ in
            rw e (record { from_0 = (refl, refl, refl, refl); at_is = ap (λ r. r.at) (sym y); next_is = ap (λ r. r.next) (sym y); to_stop = (refl, refl); stop_is = t.stop_is })
        go false z =
            let e = t.added (ltb-false _ _ z) in
            let m = absent_too (has_tag tag) (kept_of f s) rest (rest_of f s k).is (tag_absent set f tag s refl (ltb-false _ _ z)) in
            let y = missed_spot (has_tag tag) flat_entry entry_lead entry_lead (kept_of f s) m in
            rw e (record { from_0 = (refl, refl, refl, refl); at_is = t.stop_is ∙ sym (ap (λ r. r.at) y); next_is = t.stop_is ∙ sym (ap (λ r. r.next) y); to_stop = (refl, refl); stop_is = t.stop_is })

  pub set_stands : (tag : ℕ) (p : Place) → SetSpot f tag s p → has tag (map tag_of_entry (kept_of f s)) ≡ ltb p.at p.next
  set_stands tag p z = has_spot tag_of_entry tag flat_entry entry_lead entry_lead entry_some (kept_of f s) 0 p.at p.next (omega (arith, z.at_is)) (omega (arith, z.next_is))

  set_ordered : {tag : ℕ} {p : Place} → SetSpot f tag s p → Ordered (length s) p
  set_ordered {tag = tag} z =
      let room = spot_room (has_tag tag) flat_entry entry_lead entry_lead (kept_of f s) in
      record {
        to_packs = omega (arith, z.from_0);
        to_pack = omega (arith, z.from_0);
        to_body = omega (arith, z.from_0);
        to_at = omega (arith, z.from_0);
        to_next = omega (arith, z.at_is, z.next_is, room);
        to_last = omega (arith, z.next_is, z.to_stop, z.stop_is, room);
        to_tail = omega (arith, z.to_stop);
        to_stop = omega (arith, z.to_stop);
        to_end = omega (arith, z.stop_is, set_long f s b k);
      }

  -- by its spot alone
  pub spot_stands : (tag : ℕ) → nameable set tag ≡ true → {a : Spot} → a ≡ entry_spot set f tag s → has tag (map tag_of_entry (kept_of f s)) ≡ ltb a.at a.next
  spot_stands tag n {a = a} e = go (ltb a.at a.next) refl
    where
      stop : ℕ
      stop = length (flat_all flat_entry (kept_of f s))

      go : (x : Bool) → ltb a.at a.next ≡ x → has tag (map tag_of_entry (kept_of f s)) ≡ ltb a.at a.next
      go true z = set_stands tag (place_in a stop) (set_spot tag n (place_in a stop) (set_there f tag s e refl (ltb-true _ _ z) refl))
      go false z = set_stands tag (place_in (no_spot stop) stop) (set_spot tag n (place_in (no_spot stop) stop) (set_added f tag s e refl (ltb-false _ _ z) refl)) ∙ le-ltb stop stop (omega arith) ∙ sym z

  -- ---- the edited entries, where i and j are put at the cuts

  module _ {tag : ℕ} (q : Cuts) (z : SetSpot f tag s q.place) (cs : Changes) {a n m e : ℕ} (i j : List ℕ) (x : Swapped (flat_all flat_entry (kept_of f s)) (edited_of f the_set cs s) a n i m e j)
      (low_at : q.lo.at ≡ a) (low_next : q.lo.next ≡ n) (high_at : q.hi.at ≡ m) (high_next : q.hi.next ≡ e)
    where
      entries_long : length (flat_all flat_entry (kept_of f s)) ≡ length x.front + (length x.gone + (length x.mid + (length x.gone' + length x.back)))
      entries_long = ap length x.was ∙ simp length-append

      pub set_edits : edited_of f the_set cs s ≡ with_two set s q i j
      unfolding with_two head_of
      set_edits =
          let t : List ℕ = flat_all flat_entry rest in
          let b₀ : s ≡ x.front ++ (x.gone ++ (x.mid ++ (x.gone' ++ (x.back ++ t)))) = set_bytes f s b k ∙ ap (λ r. r ++ t) x.was ∙ simp append_assoc in
          let (p₁, d₁) = piece s q.place.body q.lo.at x.front _ (ap (λ n. drop n s) z.from_0.3 ∙ b₀) (omega (arith, low_at, x.low_at, z.from_0)) in
          let (_, d₂) = piece s q.lo.at q.lo.next x.gone _ d₁ (omega (arith, low_at, low_next, x.low_next)) in
          let (p₃, d₃) = piece s q.lo.next q.hi.at x.mid _ d₂ (omega (arith, low_next, high_at, x.high_at)) in
          let (_, d₄) = piece s q.hi.at q.hi.next x.gone' _ d₃ (omega (arith, high_at, high_next, x.high_next)) in
          let (p₅, _) = piece s q.hi.next q.place.stop x.back t d₄ (omega (arith, z.stop_is, entries_long, high_next, x.low_at, x.low_next, x.high_at, x.high_next)) in
          x.is ∙ rw (p₁, p₃, p₅)

      pub set_spans : Spans set (length s) q
      set_spans = record {
        ordered = set_ordered z;
        to_low = omega (arith, z.from_0);
        low = omega (arith, low_at, low_next, x.low_next);
        to_high = omega (arith, low_next, high_at, x.high_at);
        high = omega (arith, high_at, high_next, x.high_next);
        to_last = omega (arith, z.to_stop, z.stop_is, entries_long, high_next, x.low_at, x.low_next, x.high_at, x.high_next);
        whole = λ _. (z.from_0.3, z.to_stop.0);
      }
