-- What is laid out as records told at a glance is walked as they are: it has their heads, and its values begin as they may.
use Rattle.std.proofs.Common.{◌≡◌, ℕ, ◌+◌, ◌-◌, ◌*◌, ◌<◌, ◌≤◌, false, List, [], ◌∷◌, length, get_or, take, drop, sym, refl, ap, ◌∙◌, arith, length-drop, get_or-drop}
use lib.Bits.{bit_or}
use Rattle.format.specs.Coding.{Bytes, bytes_number}
use Rattle.format.specs.Sheet.{Mark, mark_of, is}
use Rattle.format.specs.Table.{Form}
use Rattle.coding.specs.Alike.{AlikeTo, ItemMasked}
use Rattle.coding.proofs.Alikes.{masked_before, masked_head, masked_value}
use Rattle.items.specs.Meet.{level_of}
use Rattle.items.specs.Quick.{Glanced}
use Rattle.tally.specs.Meet.{bit_of}
use Rattle.quick_packs.proofs.Alikes.{quick_alike}
use Rattle.tally_records.specs.Going.{RecordsGoing}
use Rattle.tally_records.proofs.PartTurns.{records_start}
use Rattle.quick_records.specs.Going.{RecordGlanced}
use Rattle.quick_records.proofs.Glances.{told_sizes, glance_of, glance_next, glance_more}

-- ---- two bytes that are the same

two_same : (u v : List ℕ) → 2 ≤ length u → 2 ≤ length v → get_or u 0 0 ≡ get_or v 0 0 → get_or u 1 0 ≡ get_or v 1 0 → take 2 u ≡ take 2 v
two_same [] v h g e d = absurd (omega arith)
two_same (x ∷ []) v h g e d = absurd (omega arith)
two_same (x ∷ y ∷ u) [] h g e d = absurd (omega arith)
two_same (x ∷ y ∷ u) (z ∷ []) h g e d = absurd (omega arith)
two_same (x ∷ y ∷ u) (z ∷ w ∷ v) h g e d = rw (e, d)

mark_same : (m : Mark) (u v : List ℕ) → 2 ≤ length u → 2 ≤ length v → get_or u 0 0 ≡ get_or v 0 0 → get_or u 1 0 ≡ get_or v 1 0 → is m u ≡ is m v
mark_same m [] v h g e d = absurd (omega arith)
mark_same m (x ∷ []) v h g e d = absurd (omega arith)
mark_same m (x ∷ y ∷ u) [] h g e d = absurd (omega arith)
mark_same m (x ∷ y ∷ u) (z ∷ []) h g e d = absurd (omega arith)
mark_same m (x ∷ y ∷ u) (z ∷ w ∷ v) h g e d = rw (e, d)

byte_at : (l : List ℕ) (p k i : ℕ) → get_or (drop k (drop p l)) i 0 ≡ get_or l (p + (k + i)) 0
byte_at l p k i = get_or-drop k (drop p l) i 0 ∙ get_or-drop p l (k + i) 0

-- ---- a record of a, and what stands at its place in b

module _ {a b m m' : List ℕ} {p v next : ℕ} (i : ItemMasked m m' p 6 v) (room : p + 6 < next) (h : AlikeTo m' a b next) (here : p + 6 ≤ length a) (there : p + 6 ≤ length b) where
  byte_same : (k j : ℕ) → k + j < 6 → get_or (drop k (drop p a)) j 0 ≡ get_or (drop k (drop p b)) j 0
  byte_same k j l = byte_at a p k j ∙ masked_head i room h (k + j) l ∙ sym (byte_at b p k j)

  number_same : (k : ℕ) → k ≤ 4 → take 2 (drop k (drop p a)) ≡ take 2 (drop k (drop p b))
  number_same k l =
      two_same (drop k (drop p a)) (drop k (drop p b)) (rw (length-drop, length-drop) (omega arith)) (rw (length-drop, length-drop) (omega arith)) (byte_same k 0 (omega arith)) (byte_same k 1 (omega arith))

  glance_alike : {f : Form} {top tag n : ℕ} → (v ≡ 0 → Glanced (level_of false) f tag n 0) → p + 6 + n ≤ length b → RecordGlanced false f a p top tag n → RecordGlanced false f b p top tag n
  glance_alike {f = f} any long g =
      glance_of false f b p
      (sym (mark_same (mark_of (level_of false)) (drop p a) (drop p b) (rw length-drop (omega arith)) (rw length-drop (omega arith)) (byte_same 0 0 (omega arith)) (byte_same 0 1 (omega arith))) ∙ g.mark)
      (g.tag_is ∙ ap bytes_number (number_same 2 (omega arith)))
      (g.size_is ∙ ap bytes_number (number_same 4 (omega arith)))
      long g.above g.small g.few (quick_alike any g.quick (masked_value i room h))

-- the records of a up to p, and while there is room for masks, of whatever is laid out so
pub record Laying (f : Form) (masks a : List ℕ) (p count held top : ℕ) : Type 0 where
  pub long : length masks ≡ 160
  pub own : RecordsGoing false f a p (told_sizes count p) held top 0
  pub few : 4 * count ≤ p
  pub walked : p < 128 → (b : List ℕ) → Bytes b → length b ≤ 65536 → p ≤ length b → AlikeTo masks a b p → RecordsGoing false f b p (told_sizes count p) held top 0

pub laying_start : {f : Form} {masks a : List ℕ} → length masks ≡ 160 → Laying f masks a 0 0 0 0
laying_start long = record { long = long; own = records_start _ _ _; few = omega arith; walked = λ _ b _ _ _ _. records_start _ _ _ }

-- the code masked it, if there is room
pub record Remasked (f : Form) (m m' : List ℕ) (p tag n : ℕ) : Type 0 where
  pub first : ℕ
  pub item : ItemMasked m m' p 6 first
  pub any : first ≡ 0 → Glanced (level_of false) f tag n 0

pub laying_more : {f : Form} {m a : List ℕ} {p count held top : ℕ} → Laying f m a p count held top → {tag next : ℕ} → RecordGlanced false f a p top tag (next - (p + 6)) → Bytes a → length a ≤ 65536
    → {m' : List ℕ} → length m' ≡ 160 → (p < 128 → Remasked f m m' p tag (next - (p + 6)))
    → {y held' : ℕ} → y ≡ bit_of tag → held' ≡ bit_or held y
    → Laying f m' a next (count + 1) held' tag
laying_more {p = p} l {next = next} g bytes most long masked ey em = record {
  long = long;
  own = glance_more g refl l.own (omega arith) l.few bytes most ey em;
  few = omega (arith, l.few, glance_next g);
  walked = λ r b by mo to h.
      let after = glance_next g in
      let k = masked (omega (arith, r, after)) in
      let alike = glance_alike k.item after.0 h (omega (arith, after)) (omega (arith, after, to)) k.any (omega (arith, after, to)) g in
      glance_more alike refl (l.walked (omega (arith, r, after)) b by mo (omega (arith, after, to)) (masked_before k.item after.0 h)) (omega arith) l.few by mo ey em;
}
