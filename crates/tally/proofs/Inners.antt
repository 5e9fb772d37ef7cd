-- Of things whose keys differ at most one has the key of a series: its inner size is that of them all.
use mathlib.Core.Path.{◌≡◌, refl, sym, ap, ◌∙◌}
use mathlib.Core.Logic.{◌⊎◌, ⊎_elim}
use Prim.Native.Nat.{ℕ}
use native.Mathlib.Omega.{arith}
use mathlib.Core.Bool.{false}
use mathlib.Core.List.{List, [], ◌∷◌, map}
use borrow.Author.Tests.{eq-eqb}
use Rattle.format.specs.Lists.{has}
use Rattle.format.specs.Valid.{All, Once}
use Rattle.format.proofs.Words.Answers.{no_bool}
use Rattle.format.proofs.Words.Keys.{has_none}
use Rattle.tally.specs.declared.Sizes.{Sizes}
use Rattle.tally.specs.Meet.{total}

-- Of things whose tags stand once, only one with the tag k weighs inside, and P n says that it weighs n.
module _ {X : Type 0} (tag : X → ℕ) (weight : X → Sizes) (P : ℕ → X → Type 0) (k : ℕ)
    (each : (n : ℕ) (x : X) → (((weight x).inner ≡ 0) × P n x) ⊎ ((tag x ≡ k) × (n ≡ (weight x).inner → P n x))) where
  none_inside : (n : ℕ) (xs : List X) → has k (map tag xs) ≡ false → ((total weight xs).inner ≡ 0) × All (P n) xs
  unfolding total
  none_inside n [] h = (refl, tt)
  none_inside n (x ∷ xs) h =
      let (a, b) = none_inside n xs (has_none (tag x) k (map tag xs) h).1 in
      ⊎_elim (λ y. (omega (arith, y.0, a), (y.1, b))) (λ y. no_bool (sym (has_none (tag x) k (map tag xs) h).0 ∙ eq-eqb (tag x) k y.0)) (each n x)

  pub one_inside : (n : ℕ) (xs : List X) → Once (map tag xs) → n ≡ (total weight xs).inner → All (P n) xs
  unfolding total
  one_inside n [] h e = tt
  one_inside n (x ∷ xs) h e =
      ⊎_elim (λ y. (y.1, one_inside n xs h.1 (omega (arith, y.0, e))))
      (λ y. let (a, b) = none_inside n xs (ap (λ j. has j (map tag xs)) (sym y.0) ∙ h.0) in (y.1 (omega (arith, a, e)), b)) (each n x)
