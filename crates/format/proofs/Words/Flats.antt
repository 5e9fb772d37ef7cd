-- Things laid flat, one after the other.
use mathlib.Core.Path.{◌≡◌, refl}
use Prim.Native.Nat.{ℕ, ◌+◌, ◌≤◌}
use native.Mathlib.Omega.{arith}
use mathlib.Core.List.{List, [], ◌∷◌, ◌++◌, append_assoc, append-nil}
use lib.ListN.{length, length-append}
use Rattle.format.specs.Lists.{flat_all}
use Rattle.format.specs.Valid.{All}

module _ {X : Type 0} (flat : X → List ℕ) where
  pub flat_append : (xs ys : List X) → flat_all flat (xs ++ ys) ≡ flat_all flat xs ++ flat_all flat ys
  unfolding flat_all
  flat_append [] ys = refl
  flat_append (x ∷ xs) ys = rw (flat_append xs ys, append_assoc)

  pub flat_snoc : (xs : List X) (y : X) → flat_all flat (xs ++ (y ∷ [])) ≡ flat_all flat xs ++ flat y
  unfolding flat_all
  flat_snoc xs y = rw (flat_append xs (y ∷ []), append-nil)

-- each thing is no longer than all of them
pub all_sized : {X : Type 0} (P : X → Type 0) (flat : X → List ℕ) (n : ℕ) (xs : List X) → length (flat_all flat xs) ≤ n → All P xs → All (λ x. P x × (length (flat x) ≤ n)) xs
unfolding flat_all
all_sized P flat n [] l h = tt
all_sized P flat n (x ∷ xs) l h =
    let e : length (flat x) + length (flat_all flat xs) ≤ n = rw length-append at l in
    ((h.0, omega arith), all_sized P flat n xs (omega arith) h.1)
