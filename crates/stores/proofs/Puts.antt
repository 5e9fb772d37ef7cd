-- Stores one after another: where each ends, what the output is then, and a tail of it that is lent for the last.
use mathlib.Core.Path.{◌≡◌, sym, ap, ◌∙◌}
use Prim.Native.Nat.{ℕ, ◌+◌, ◌-◌, ◌≤◌}
use native.Mathlib.Omega.{arith}
use mathlib.Core.List.{List, ◌++◌}
use lib.ListN.{length, take, drop, length-append}
use lib.Seq.{sets, length-sets}
use borrow.Rule.Slice.PartMut.{put_mid}
use Rattle.format.specs.Coding.{fixed}
use Rattle.format.proofs.Coding.Digits.{length_fixed}
pub use Rattle.stores.specs.Puts.{Puts}
use Rattle.stores.proofs.Stores.{sets_append, tail_length, tail_stored}

pub puts_then : (o : List ℕ) (a : ℕ) (xs ys : List ℕ) {o₁ o₂ : List ℕ} {b r : ℕ} → Puts o a xs b o₁ → Puts o₁ b ys r o₂ → Puts o a (xs ++ ys) r o₂
puts_then o a xs ys {b = b} p q =
    (omega (arith, p.0, q.0, length-append xs ys), q.1 ∙ ap (λ x. sets x b ys) p.1 ∙ ap (λ k. sets (sets o a xs) k ys) p.0 ∙ sym (sets_append o a xs ys))

-- so many of them
pub puts_sized : (o : List ℕ) (a : ℕ) (xs : List ℕ) {k : ℕ} → length xs ≡ k → {o₁ : List ℕ} {r : ℕ} → (r ≡ a + k) × (o₁ ≡ sets o a xs) → Puts o a xs r o₁
puts_sized o a xs e p = (omega (arith, p.0, e), p.1)

pub puts_fixed : (o : List ℕ) (a k n : ℕ) {o₁ : List ℕ} {r : ℕ} → (r ≡ a + k) × (o₁ ≡ sets o a (fixed k n)) → Puts o a (fixed k n) r o₁
puts_fixed o a k n p = puts_sized o a (fixed k n) (length_fixed k n) p

-- What is to be stored into out from k on, where it fits: a head, and a rest for which the tail of out behind the head is lent.
pub record Parted (out : List ℕ) (k : ℕ) (whole head rest : List ℕ) : Type 0 where
  pub is : whole ≡ head ++ rest
  pub fits : k + length whole ≤ length out

module _ {out : List ℕ} {k : ℕ} {whole head rest : List ℕ} (t : Parted out k whole head rest) where
  pub head_room : k + length head ≤ length out
  head_room = omega (arith, t.fits, ap length t.is, length-append head rest)

  module _ {m : ℕ} {out₁ : List ℕ} (em : Puts out k head m out₁) where
    pub head_behind : m ≤ length out₁
    head_behind = omega (arith, em.0, head_room, ap length em.1, length-sets out k head)

    pub rest_room : length rest ≤ length (take (length out₁ - m) (drop m out₁))
    rest_room = rw tail_length (omega (arith, t.fits, ap length t.is, length-append head rest, em.0, ap length em.1, length-sets out k head))

    pub rest_put : {r : ℕ} {o : List ℕ} → (r ≡ length rest) × (o ≡ sets (take (length out₁ - m) (drop m out₁)) 0 rest) → Puts out k whole (m + r) (put_mid m (length out₁ - m) out₁ o)
    rest_put {o = o} q = rw t.is (puts_then out k head rest em (ap (λ j. m + j) q.0, tail_stored out₁ m o rest q.1))
