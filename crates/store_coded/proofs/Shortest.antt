-- The shortest form of a value, which is a tail of it, as the code lends it; and the items that have no place in a sheet or in normal form.
use mathlib.Core.Path.{◌≡◌, refl, sym, ap, ◌∙◌}
use Prim.Native.Nat.{ℕ, suc, ◌-◌, ◌≤◌}
use native.Mathlib.Omega.{arith}
use mathlib.Core.Bool.{Bool, true, false, not, ◌&&◌}
use mathlib.Core.List.{List, [], ◌∷◌}
use lib.Dec.{eqb}
use borrow.Author.Tests.{ne_eqb}
use lib.ListN.{length, take, drop, length-drop}
use Rattle.format.specs.Lists.{none?}
use Rattle.format.specs.Table.{Rule, is_set, is_number, rule_of, strip, short}
use Rattle.coding.proofs.Rooms.{tail_part}
use Rattle.items.specs.Meet.{level_of}

-- a is what v ends with
abbrev Tail : List ℕ → List ℕ → Type 0
Tail v a = (k : ℕ) × (k ≤ length v) × (a ≡ drop k v)

tail_of : (c : Bool) (v a b : List ℕ) → Tail v a → Tail v b → Tail v (elim c [ true ↦ a | false ↦ b ])
tail_of true v a b p q = p
tail_of false v a b p q = q

whole_tail : (v : List ℕ) → Tail v v
whole_tail v = (0, omega arith, refl)

strip_tail : (v : List ℕ) → Tail v (strip v)
unfolding strip
strip_tail [] = whole_tail []
strip_tail (x ∷ s) =
    let (k, l, e) = strip_tail s in
    tail_of (eqb x 0 && not (none? s)) (x ∷ s) (strip s) (x ∷ s) (suc k, omega arith, e) (whole_tail (x ∷ s))

short_tail : (r : Rule) (v : List ℕ) → Tail v (short r v)
unfolding short
short_tail r v = tail_of (is_number r.kind) v (strip v) v (strip_tail v) (whole_tail v)

pub short_less : (r : Rule) (v : List ℕ) {n : ℕ} → n ≡ length (short r v) → n ≤ length v
short_less r v h = let (k, l, e) = short_tail r v in omega (arith, ap length e, length-drop k v)

short_is : (r : Rule) (v : List ℕ) → drop (length v - length (short r v)) v ≡ short r v
short_is r v =
    let (k, l, e) = short_tail r v in
    let j : length v - length (short r v) ≡ k = omega (arith, l, ap length e, length-drop k v) in
    ap (λ n. drop n v) j ∙ sym e

-- n bytes from the end of v, as they are lent
abbrev pub last_of : List ℕ → ℕ → List ℕ
last_of v n = take (length v - (length v - n)) (drop (length v - n) v)

pub last_is : (b : Bool) (tag : ℕ) (v : List ℕ) {r : Rule} → r ≡ rule_of (level_of b) tag → {n : ℕ} → n ≡ length (short r v) → last_of v n ≡ short (rule_of (level_of b) tag) v
last_is b tag v {r = r} er {n = n} en = tail_part (length v - n) v ∙ rw en (short_is r v) ∙ ap (λ x. short x v) er

-- ---- not the set's checksum

abbrev pub NoSeal : Bool → ℕ → Type 0
NoSeal b tag = is_set (level_of b) && eqb tag 1 ≡ false

pub other_tag : (b : Bool) (tag : ℕ) → (tag ≡ 1 → ⊥) → NoSeal b tag
other_tag true tag h = ne_eqb tag 1 h
other_tag false tag h = refl

pub of_pack : (b : Bool) (tag : ℕ) → b ≡ false → NoSeal b tag
of_pack b tag e = rw e

-- ---- by the rule that the code finds

pub short_by : (v : List ℕ) {r q : Rule} {n : ℕ} → r ≡ q → n ≡ length (short r v) → n ≡ length (short q v)
short_by v er en = en ∙ ap (λ x. length (short x v)) er
