-- A pack that was begun and is left to be stored anew: what was stored of it lies under what will be.
use mathlib.Core.Path.{◌≡◌, refl, sym, ap, ◌∙◌}
use Prim.Native.Nat.{ℕ, ◌+◌, ◌-◌, ◌≤◌, ◌<◌}
use native.Mathlib.Omega.{arith}
use mathlib.Core.Bool.{false}
use mathlib.Core.List.{List, [], ◌∷◌, ◌++◌, append-nil}
use lib.ListN.{length, get_or, take, drop, length-append, length-drop, drop_of_length-le}
use lib.Seq.{sets, drop_at, length-take-le, length-sets}
use borrow.Rule.Slice.PartMut.{put_mid, take_put, same_len_mid}
use Rattle.format.specs.Answer.{ok}
use Rattle.format.specs.Coding.{fixed}
use Rattle.format.specs.Lists.{flat_all}
use Rattle.format.specs.Read.{pack_head}
use Rattle.format.specs.Sheet.{TG}
use Rattle.format.specs.Table.{Form, pack}
use Rattle.std.proofs.Common.{Fits, w8}
use Rattle.coding.proofs.Rooms.{tail_part}
use Rattle.heads.specs.declared.Head.{Head}
use Rattle.heads.specs.Meet.{pack_head_from}
use Rattle.heads.proofs.Heads.{pack_within}
use Rattle.stores.proofs.Stores.{sets_append, sets_swap, sets_under, sets_tail, tail_stored}
use Rattle.stores.proofs.Puts.{Puts, Parted}
use Rattle.write_laws.proofs.Writing.{each}
use Rattle.write_laws.proofs.Entries.{level_done}
use Rattle.write_laws.proofs.Packs.{pack_spans, items_at, items_long, pack_room, one_pack_lem, packed}
use Rattle.write_sheet.specs.Meet.{entry_sheet, pack_sheet, LevelAsked}
use Rattle.write_sheet.specs.Quick.{LevelPassed, ItemsPassed}
use Rattle.write_sheet.proofs.Turns.{LevelSheets, SeriesSheets, SheetPack, pack_sheet_lem, target_put, items_behind, items_tail, level_asked, items_stored, PacksGoing, packs_go, packs_begin, packs_passed, held, pack_in, items_here}

-- a tail that was lent came back as e
module _ (l : List ℕ) (m : ℕ) (e : List ℕ) (h : m ≤ length l) where
  abbrev back : List ℕ
  back = put_mid m (length l - m) l e

  none : drop (length l - m) (drop m l) ≡ []
  none = drop_of_length-le (drop m l) {i = length l - m} (simp length-drop (omega arith))

  tail_sets : (i : ℕ) (vs : List ℕ) → sets back (m + i) vs ≡ put_mid m (length l - m) l (sets e i vs)
  tail_sets i vs =
      sym (sets_tail m i back vs) ∙ ap (λ x. x ++ sets (drop m back) i vs) (take_put m (length l - m) l e h)
      ∙ ap (λ x. take m l ++ sets x i vs) (drop_at (take m l) (e ++ drop (length l - m) (drop m l)) m (length-take-le m l h))
      ∙ rw (none, append-nil e, append-nil (sets e i vs)) refl

  -- with all of whole but rest, which belongs from i on
  tail_again : (whole : List ℕ) (i : ℕ) (rest : List ℕ) → i + length rest ≡ length whole → sets (take (length l - m) (drop m l)) 0 whole ≡ sets e i rest → sets back m whole ≡ sets l m whole
  tail_again whole i rest g r =
      sym (sets_under back (m + i) rest m whole (omega arith) (omega arith)) ∙ ap (λ x. sets x m whole) (tail_sets i rest ∙ tail_stored l m (sets e i rest) whole (sym r))
      ∙ sets_under l m whole m whole (omega arith) (omega arith)

-- the same where a head stands before it
module _ {out : List ℕ} {k : ℕ} {whole head rest : List ℕ} (t : Parted out k whole head rest) {m : ℕ} {out₁ : List ℕ} (em : Puts out k head m out₁) where
  parts : (x : List ℕ) → sets x k whole ≡ sets (sets x m rest) k head
  parts x =
      ap (sets x k) t.is ∙ sets_append x k head rest ∙ ap (λ j. sets (sets x k head) j rest) (sym em.0) ∙ sym (sets_swap x k head m rest (omega (arith, em.0)))

  part_again : m ≤ length out₁ → (e : List ℕ) (i : ℕ) (left : List ℕ) → i + length left ≡ length rest → sets (take (length out₁ - m) (drop m out₁)) 0 rest ≡ sets e i left
      → sets (put_mid m (length out₁ - m) out₁ e) k whole ≡ sets out k whole
  part_again h e i left g r =
      parts (put_mid m (length out₁ - m) out₁ e) ∙ ap (λ x. sets x k head) (tail_again out₁ m e h rest i left g r ∙ ap (λ x. sets x m rest) em.1) ∙ sym (parts (sets out k head))
      ∙ parts_over
    where
      parts_over : sets (sets out k head) k whole ≡ sets out k whole
      parts_over = ap (sets (sets out k head) k) t.is ∙ sets_under out k head k (head ++ rest) (omega arith) (simp length-append (omega arith)) ∙ ap (sets out k) (sym t.is)

module _ {f : Form} {s out₀ out : List ℕ} {p k : ℕ} {h : Head} (i : SheetPack f s out₀ out p k h) {m : ℕ} {out₁ : List ℕ}
    (em : (m ≡ k + 10) × (out₁ ≡ sets out k (TG.0 ∷ TG.1 ∷ fixed 8 h.key))) where
  -- the quick way over its items passed u bytes
  module _ {u r : ℕ} {o : List ℕ} (q : ItemsPassed (items_at i) (items_tail i em) o u r) where
    g : LevelPassed false f (items_at i) (items_tail i em) o u r
    g = q f (level_asked i em)

    pub items_passed : p + h.width + h.size - (p + h.width + h.used) ≤ u → SeriesSheets f s out₀ (put_mid m (length out₁ - m) out₁ o) (p + h.width + h.size) (m + r)
    items_passed l =
        let w : LevelSheets false f (items_at i) (items_tail i em) o u r = record { writes = g } in
        items_stored i em (level_done w (omega (arith, items_long i, pack_room i)))

    pub items_begun : SeriesSheets f s out₀ (put_mid m (length out₁ - m) out₁ o) p k
    items_begun =
        let w = i.going.writes in
        let n = one_pack_lem i in
        let split : flat_all pack_sheet w.things.val ≡ packed i ++ flat_all pack_sheet n.after_it.val = ap (flat_all pack_sheet) n.first ∙ (each pack_sheet).more tt n.it.val n.after_it.val in
        let over : (x : List ℕ) → sets x k (flat_all pack_sheet w.things.val) ≡ sets (sets x k (packed i)) (k + length (packed i)) (flat_all pack_sheet n.after_it.val) =
        λ x. ap (sets x k) split ∙ sets_append x k (packed i) (flat_all pack_sheet n.after_it.val) in
        record {
          writes = record {
            seen = w.seen;
            things = w.things;
            reads = w.reads;
            to = w.to;
            same = same_len_mid m (length out₁ - m) out₁ o g.same ∙ ap length em.1 ∙ length-sets out k (TG.0 ∷ TG.1 ∷ fixed 8 h.key) ∙ w.same;
            sum = w.sum;
            rest = w.rest ∙ over out
                ∙ ap (λ x. sets x (k + length (packed i)) (flat_all pack_sheet n.after_it.val)) (sym (part_again (pack_sheet_lem i) (target_put i em) (items_behind i em) o r (flat_all (entry_sheet pack) g.things.val) g.sum g.rest))
                ∙ sym (over (put_mid m (length out₁ - m) out₁ o));
          };
        }

-- a short head stands before the end
pub short_here : (s : List ℕ) (p : ℕ) (h : Head) → ok (pack_head_from h) ≡ pack_head (take (length s - p) (drop p s)) → h.width ≡ 1 → p < length s
short_here s p h e w = omega (arith, w, pack_within (drop p s) h (rw tail_part at e), length-drop p s)

-- the quick way over a series, at such a pack
module _ {s out₀ out : List ℕ} {p k : ℕ} (g : PacksGoing s out₀ out p k) (h : Head) (e : ok (pack_head_from h) ≡ pack_head (take (length s - p) (drop p s))) (w : h.width ≡ 1)
    (bs : (i : ℕ) → Fits w8 (get_or s i 0)) where
  here : p < length s
  here = short_here s p h e w

  module _ (m : ℕ) (o₁ : List ℕ) (em : (m ≡ k + 10) × (o₁ ≡ sets out k (TG.0 ∷ TG.1 ∷ fixed 8 h.key))) where
    pub items_lent : (f : Form) × LevelAsked pack (held h s p) (length (take (length o₁ - m) (drop m o₁))) f
    items_lent = items_here g here h e bs m o₁ em

    module _ (u r : ℕ) (o₂ : List ℕ) (q : ItemsPassed (held h s p) (take (length o₁ - m) (drop m o₁)) o₂ u r) where
      pub pack_passed : p + h.width + h.size - (p + h.width + h.used) ≤ u → PacksGoing s out₀ (put_mid m (length o₁ - m) o₁ o₂) (p + h.width + h.size) (m + r)
      pack_passed y = packs_go g.form g.asked (λ f a. items_passed (pack_in g here h e bs f a) em q y)

      pub pack_begun : PacksGoing s out₀ (put_mid m (length o₁ - m) o₁ o₂) p k
      pack_begun = packs_go g.form g.asked (λ f a. items_begun (pack_in g here h e bs f a) em q)

      pub small_end : p + h.width + h.size - (p + h.width + h.used) ≤ u → m + r ≤ length out₀
      small_end y = omega (arith, ((pack_passed y).goes g.form g.asked).writes.sum, g.asked.fits)

-- what it is proved by
pub ruleset quick_turns = (pack_spans, short_here, packs_begin, packs_passed, pack_passed, pack_begun)
