-- A bit that is set stays set, and that of a key that is noted is set.
use mathlib.Core.Path.{◌≡◌, refl, ap, ◌∙◌}
use Prim.Native.Nat.{ℕ, zero, suc, ◌*◌, ◌/◌, ◌%◌, ◌^◌, ◌≤◌, ◌<◌}
use native.Mathlib.Omega.{arith}
use native.Mathlib.Nat.{mod-lt}
use mathlib.Core.Bool.{Bool, true, false}
use mathlib.Core.List.{List}
use lib.ListN.{length, get_or, set, length-set}
use lib.Seq.{get_or-set_same, get_or-set_other}
use lib.Dec.{eqb, lit<}
use lib.Pow.{shl_exact, shl-shr}
use lib.Bits.{bit_or, or_comm, or_mod, or_shr}
use borrow.Author.Tests.{eqb-true, eqb-false, eq-eqb}
use Rattle.repeats.specs.Notes.{noted, Noting}

or_odd : (a b : ℕ) → a % 2 ≡ 1 → bit_or a b % 2 ≡ 1
or_odd a b e = or_mod a b 1 ∙ ap (λ x. bit_or x (b % 2)) e ∙ go (b % 2) (mod-lt b (lit< tt))
  where
    go : (x : ℕ) → x < 2 → bit_or 1 x ≡ 1
    go zero h = refl
    go (suc zero) h = refl
    go (suc (suc x)) h = absurd (omega arith)

module _ (x m j : ℕ) where
  or_kept : x / 2 ^ j % 2 ≡ 1 → bit_or x m / 2 ^ j % 2 ≡ 1
  or_kept e = ap (λ y. y % 2) (or_shr x m j) ∙ or_odd (x / 2 ^ j) (m / 2 ^ j) e

  or_new : m ≡ 1 * 2 ^ j → bit_or x m / 2 ^ j % 2 ≡ 1
  or_new e =
      ap (λ y. y % 2) (or_shr x m j ∙ or_comm (x / 2 ^ j) (m / 2 ^ j))
      ∙ or_odd (m / 2 ^ j) (x / 2 ^ j) (ap (λ y. y / 2 ^ j % 2) e ∙ ap (λ y. y % 2) (shl-shr 1 j))

-- as the code sets it
pub notes_more : (l : List ℕ) (key : ℕ) → key / 64 < length l → Noting l (set l (key / 64) (bit_or (get_or l (key / 64) 0) (1 * 2 ^ (key % 64) % 2 ^ 64))) key
unfolding noted
notes_more l key h = record {
  long = length-set l i w;
  new = λ z. eq-eqb (get_or (set l i w) i 0 / 2 ^ (key % 64) % 2) 1 (rw (get_or-set_same l i w 0 h) (or_new (get_or l i 0) m (key % 64) (shl_exact 1 (key % 64) 64 (lit< tt) (omega arith))));
  kept = λ k e. go k e (eqb (k / 64) i) refl;
}
  where
    i : ℕ
    i = key / 64

    m : ℕ
    m = 1 * 2 ^ (key % 64) % 2 ^ 64

    w : ℕ
    w = bit_or (get_or l i 0) m

    go : (k : ℕ) → eqb (get_or l (k / 64) 0 / 2 ^ (k % 64) % 2) 1 ≡ true → (b : Bool) → eqb (k / 64) i ≡ b
        → eqb (get_or (set l i w) (k / 64) 0 / 2 ^ (k % 64) % 2) 1 ≡ true
    go k e true t =
        let z : k / 64 ≡ i = eqb-true _ _ t in
        eq-eqb (get_or (set l i w) (k / 64) 0 / 2 ^ (k % 64) % 2) 1 (rw (z, get_or-set_same l i w 0 h) (or_kept (get_or l i 0) m (k % 64) (rw z at (eqb-true (get_or l (k / 64) 0 / 2 ^ (k % 64) % 2) 1 e))))
    go k e false t = rw (get_or-set_other l i (k / 64) w 0 (eqb-false _ _ t)) e

-- a key that has no bit
pub notes_same : (l : List ℕ) (key : ℕ) → length l ≤ key / 64 → Noting l l key
notes_same l key h = record { long = refl; new = λ z. absurd (omega arith); kept = λ k e. e }
