-- What stands around the series: the entries before it and after it, the numbers that say where, and the bytes between them.
use mathlib.Core.Path.{◌≡◌, refl, sym, ap, ◌∙◌}
use mathlib.Core.Logic.{◌⊎◌, inl, inr}
use Prim.Native.Nat.{ℕ, ◌+◌, ◌≤◌, ◌<◌}
use native.Mathlib.Omega.{arith}
use mathlib.Core.Bool.{true, false}
use mathlib.Core.List.{List, [], ◌∷◌, ◌++◌, append_assoc, append-nil, map}
use lib.ListN.{length, take, drop, length-append, length-drop, take-append-drop}
use lib.Seq.{length-take-le}
use lib.Dec.{eqb}
use borrow.Author.Tests.{eqb-true}
use Rattle.format.specs.Coding.{len_bytes, oid_bytes}
use Rattle.format.specs.Lists.{flat_all, put_in, take_out}
use Rattle.format.specs.Table.{Form}
use Rattle.format.specs.Packet.{Pack, Entry, plain, series, tag_of_entry, flat_pack, flat_entry}
use Rattle.format.specs.Targets.{packs_in}
use Rattle.format.specs.Valid.{All, Once, EntryValid}
use Rattle.format.proofs.Words.Answers.{no_bool}
use Rattle.format.proofs.Words.Flats.{flat_append}
use Rattle.format.proofs.Words.Keys.{all_both}
use Rattle.format.proofs.Coding.Lengths.{length_len}
use Rattle.format.proofs.Table.Tags.{nameable_set}
use Rattle.find.specs.declared.Spot.{Spot}
use Rattle.find.specs.declared.around.Series.{Series}
use Rattle.find.specs.Spots.{Missed, Hit, has_tag, has_id, entry_lead, pack_lead}
use Rattle.find.specs.Series.{tag_spot, id_spot, series_in}
use Rattle.find.proofs.Splices.{place, put_hit, out_hit, put_absent, out_absent, hit_flat, spot_past, hit_spot, missed_spot, spot_room, grown}
use Rattle.find.proofs.Entries.{entry_some}
use Rattle.edit_rules.specs.Cuts.{part}
use Rattle.edit_rules.proofs.Levels.{piece}
use Rattle.target_bytes.proofs.Stretches.{all_later, spot_beyond, flatten, Stretch}

abbrev pub flat_packs : List Pack → List ℕ
flat_packs ps = flat_all flat_pack ps

-- ---- the series among the entries

-- tag 101 is the series'
as_series : (f : Form) (e : Entry) → EntryValid f e → has_tag 101 e ≡ true → (w : ℕ) × (ps : List Pack) × (e ≡ series w ps)
as_series f (plain i) v z = no_bool (sym (nameable_set i.tag v.meets.named).1 ∙ z)
as_series f (series w ps) v z = (w, ps, refl)

packs_past : (xs : List Entry) (w : ℕ) (ps : List Pack) (ys : List Entry) → Missed (has_tag 101) xs → packs_in (xs ++ series w ps ∷ ys) ≡ ps
unfolding packs_in
packs_past [] w ps ys m = refl
packs_past (plain i ∷ xs) w ps ys m = packs_past xs w ps ys m.1
packs_past (series v qs ∷ xs) w ps ys m = no_bool (sym m.0)

packs_none : (xs : List Entry) → Missed (has_tag 101) xs → packs_in xs ≡ []
unfolding packs_in
packs_none [] m = refl
packs_none (plain i ∷ xs) m = packs_none xs m.1
packs_none (series v qs ∷ xs) m = no_bool (sym m.0)

was_series : (w : ℕ) (ps : List Pack) → flat_entry (series w ps) ≡ (oid_bytes 101 ++ len_bytes w (length (flat_packs ps))) ++ flat_packs ps
unfolding flat_entry
was_series w ps = sym (append_assoc (oid_bytes 101) _ _)

-- the entries before the series, this, and those after it; where there is none, it would stand at the end
pub record Around (es : List Entry) (a : Spot) : Type 0 where
  pub before : List Entry
  pub mid : List Entry
  pub later : List Entry
  pub lead : List ℕ
  pub list_is : es ≡ before ++ (mid ++ later)
  pub mid_is : flatten mid ≡ lead ++ flat_packs (packs_in es)
  pub no_six : Missed (has_tag 6) mid
  pub put_is : (e : Entry) → put_in (has_tag 101) e es ≡ before ++ e ∷ later
  pub out_is : take_out (has_tag 101) es ≡ before ++ later
  pub at_is : a.at ≡ length (flatten before)
  pub from_is : a.from ≡ a.at + length lead
  pub next_is : a.next ≡ a.at + length (flatten mid)

around_none : (es : List Entry) → Missed (has_tag 101) es → Around es (tag_spot 101 es)
unfolding flat_all
around_none es m =
    let z = missed_spot (has_tag 101) flat_entry entry_lead entry_lead es m in
    record {
      before = es;
      mid = [];
      later = [];
      lead = [];
      list_is = sym (append-nil es);
      mid_is = sym (ap flat_packs (packs_none es m));
      no_six = tt;
      put_is = put_absent (has_tag 101) es m;
      out_is = out_absent (has_tag 101) es m ∙ sym (append-nil es);
      at_is = ap (λ p. p.at) z;
      from_is = omega (arith, ap (λ p. p.at) z, ap (λ p. p.from) z);
      next_is = omega (arith, ap (λ p. p.at) z, ap (λ p. p.next) z);
    }

around_one : (es : List Entry) (k : Hit (has_tag 101) es) (w : ℕ) (ps : List Pack) → k.it ≡ series w ps → Around es (tag_spot 101 es)
unfolding flat_all
around_one es k w ps e =
    let z = hit_spot (has_tag 101) flat_entry entry_lead entry_lead k in
    let q : packs_in es ≡ ps = ap packs_in (k.list_is ∙ ap (λ x. k.before ++ x ∷ k.later) e) ∙ packs_past k.before w ps k.later k.missed in
    let l : entry_lead k.it ≡ length (oid_bytes 101) + w = ap entry_lead e in
    record {
      before = k.before;
      mid = k.it ∷ [];
      later = k.later;
      lead = oid_bytes 101 ++ len_bytes w (length (flat_packs ps));
      list_is = k.list_is;
      mid_is = append-nil (flat_entry k.it) ∙ ap flat_entry e ∙ was_series w ps ∙ ap (λ x. (oid_bytes 101 ++ len_bytes w (length (flat_packs ps))) ++ flat_packs x) (sym q);
      no_six = (ap (λ n. eqb n 6) (eqb-true (tag_of_entry k.it) 101 k.hits), tt);
      put_is = put_hit (has_tag 101) k;
      out_is = out_hit (has_tag 101) k;
      at_is = ap (λ p. p.at) z;
      from_is = simp (length-append, length_len) (omega (arith, ap (λ p. p.at) z, ap (λ p. p.from) z, l));
      next_is = simp append-nil (omega (arith, ap (λ p. p.at) z, ap (λ p. p.next) z));
    }

pub around : (f : Form) (es : List Entry) → All (EntryValid f) es → Around es (tag_spot 101 es)
around f es v = go (place (has_tag 101) es)
  where
    go : Hit (has_tag 101) es ⊎ Missed (has_tag 101) es → Around es (tag_spot 101 es)
    go (inr m) = around_none es m
    go (inl k) =
        let (w, ps, e) = as_series f k.it (all_later (EntryValid f) k.before (k.it ∷ k.later) (rw k.list_is at v)).0 k.hits in
        around_one es k w ps e

-- ---- the numbers

-- r says where they stand in s
module _ (id : ℕ) {es : List Entry} {r : Series} (e : r ≡ series_in id es) (a : Around es (tag_spot 101 es)) where
  abbrev packs : List ℕ
  packs = flat_packs (packs_in es)

  abbrev spot : Spot
  spot = id_spot id (packs_in es)

  at_here : r.at ≡ length (flatten a.before)
  at_here = ap (λ x. x.at) e ∙ a.at_is

  packs_here : r.packs ≡ r.at + length a.lead
  packs_here = ap (λ x. x.packs) e ∙ a.from_is ∙ ap (λ n. n + length a.lead) (sym (ap (λ x. x.at) e))

  tail_here : r.tail ≡ r.at + length (flatten a.mid)
  tail_here = ap (λ x. x.tail) e ∙ a.next_is ∙ ap (λ n. n + length (flatten a.mid)) (sym (ap (λ x. x.at) e))

  pack_here : r.pack ≡ r.packs + spot.at
  pack_here = ap (λ x. x.pack) e ∙ ap (λ n. n + spot.at) (sym (ap (λ x. x.packs) e))

  last_here : r.last ≡ r.packs + spot.next
  last_here = ap (λ x. x.last) e ∙ ap (λ n. n + spot.next) (sym (ap (λ x. x.packs) e))

  stop_here : r.stop ≡ r.tail + length (flatten a.later)
  stop_here =
      let l = ap (λ x. length (flatten x)) a.list_is ∙ ap length (flat_append flat_entry a.before (a.mid ++ a.later) ∙ ap (λ x. flatten a.before ++ x) (flat_append flat_entry a.mid a.later)) in
      omega (arith, ap (λ x. x.stop) e, simp length-append at l, at_here, tail_here)

  mid_long : length (flatten a.mid) ≡ length a.lead + length packs
  mid_long = ap length a.mid_is ∙ length-append a.lead packs

  room : (spot.at ≤ spot.next) × (spot.next ≤ length packs)
  room = spot_room (has_id id) flat_pack (λ p. p.width) pack_lead (packs_in es)

  -- ---- the bytes

  module _ {s : List ℕ} (rest : List ℕ) (bytes : s ≡ flatten es ++ rest) where
    pub to_end : r.stop ≤ length s
    to_end = omega (arith, ap (λ x. x.stop) e, simp length-append at (ap length bytes))

    from_packs : drop r.packs s ≡ packs ++ (flatten a.later ++ rest)
    from_packs =
        let z : s ≡ flatten a.before ++ (a.lead ++ (packs ++ (flatten a.later ++ rest)))
        = bytes
        ∙ ap (λ x. flatten x ++ rest) a.list_is
        ∙ ap (λ x. x ++ rest) (flat_append flat_entry a.before (a.mid ++ a.later) ∙ ap (λ x. flatten a.before ++ x) (flat_append flat_entry a.mid a.later ∙ ap (λ x. x ++ flatten a.later) a.mid_is))
        ∙ simp append_assoc in
        let (_, d) = piece s 0 r.at (flatten a.before) _ z (omega (arith, at_here)) in
        (piece s r.at r.packs a.lead _ d packs_here).1

    -- the packs before the one that is taken out, and after it
    pub packs_before : part s r.packs r.pack ≡ take (id_spot id (packs_in es)).at (flat_packs (packs_in es))
    packs_before =
        let z : packs ++ (flatten a.later ++ rest) ≡ take spot.at packs ++ (drop spot.at packs ++ (flatten a.later ++ rest))
        = ap (λ x. x ++ (flatten a.later ++ rest)) (sym (take-append-drop spot.at packs)) ∙ append_assoc (take spot.at packs) _ _ in
        (piece s r.packs r.pack (take spot.at packs) _ (from_packs ∙ z) (omega (arith, pack_here, length-take-le spot.at packs (omega (arith, room))))).0

    pub packs_later : part s r.last r.tail ≡ drop (id_spot id (packs_in es)).next (flat_packs (packs_in es))
    packs_later =
        let z : packs ++ (flatten a.later ++ rest) ≡ take spot.next packs ++ (drop spot.next packs ++ (flatten a.later ++ rest))
        = ap (λ x. x ++ (flatten a.later ++ rest)) (sym (take-append-drop spot.next packs)) ∙ append_assoc (take spot.next packs) _ _ in
        let (_, d) = piece s r.packs r.last (take spot.next packs) _ (from_packs ∙ z) (omega (arith, last_here, length-take-le spot.next packs room.1)) in
        (piece s r.last r.tail (drop spot.next packs) _ d (omega (arith, last_here, packs_here, tail_here, mid_long, room, length-drop spot.next packs))).0

    module _ (once : Once (map tag_of_entry es)) where
      pub first_stretch : Stretch s r [] a.before (a.mid ++ a.later) 0 r.at
      unfolding flat_all
      first_stretch = record {
        rest = rest;
        bytes = rw (← a.list_is) bytes;
        once = rw (← a.list_is) once;
        six_is = rw (← a.list_is) (ap (λ x. x.six) e);
        after_is = rw (← a.list_is) (ap (λ x. x.after) e);
        from_is = refl;
        to_is = omega (arith, at_here);
      }

      pub last_stretch : Stretch s r (a.before ++ a.mid) a.later [] r.tail r.stop
      last_stretch =
          let z : es ≡ (a.before ++ a.mid) ++ (a.later ++ []) = a.list_is ∙ sym (append_assoc a.before a.mid a.later) ∙ ap (λ x. (a.before ++ a.mid) ++ x) (sym (append-nil a.later)) in
          let l = ap length (flat_append flat_entry a.before a.mid) in
          record {
            rest = rest;
            bytes = bytes ∙ ap (λ x. flatten x ++ rest) z;
            once = rw z at once;
            six_is = ap (λ x. x.six) e ∙ ap (λ x. (tag_spot 6 x).at) z;
            after_is = ap (λ x. x.after) e ∙ ap (λ x. (tag_spot 6 x).next) z;
            from_is = omega (arith, at_here, tail_here, simp length-append at l);
            to_is = stop_here;
          }
