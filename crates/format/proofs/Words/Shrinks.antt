-- Bytes that are no more than others, and the very same where they are as many.
use mathlib.Core.Path.{◌≡◌, refl, sym, ap, ◌∙◌}
use Prim.Native.Nat.{ℕ, ◌+◌, ◌≤◌}
use native.Mathlib.Omega.{arith}
use mathlib.Core.List.{List, [], ◌∷◌, ◌++◌, map}
use lib.ListN.{length, length-append}
use Rattle.format.specs.Lists.{flat_all}
use Rattle.format.specs.Valid.{All}

pub record Shrinks (a b : List ℕ) : Type 0 where
  pub less : length a ≤ length b
  pub same : length a ≡ length b → a ≡ b

pub shrinks_not : (a : List ℕ) → Shrinks a a
shrinks_not a = record { less = omega arith; same = λ _. refl }

-- one piece after another, of which each shrinks: in all as many only where each is
pub shrinks_append : (a b c d : List ℕ) → Shrinks a b → Shrinks c d → Shrinks (a ++ c) (b ++ d)
shrinks_append a b c d h k = record {
  less = simp length-append (omega (arith, h.less, k.less));
  same = λ e.
      let z : length a + length c ≡ length b + length d = sym (length-append a c) ∙ e ∙ length-append b d in
      ap (λ x. x ++ c) (h.same (omega (arith, z, h.less, k.less))) ∙ ap (λ x. b ++ x) (k.same (omega (arith, z, h.less, k.less)));
}

pub shrinks_all : {X Y : Type 0} (g : X → Y) (flat : X → List ℕ) (flat' : Y → List ℕ) (P : X → Type 0)
    → ((x : X) → P x → Shrinks (flat' (g x)) (flat x)) → (xs : List X) → All P xs → Shrinks (flat_all flat' (map g xs)) (flat_all flat xs)
unfolding flat_all
shrinks_all g flat flat' P k [] h = shrinks_not []
shrinks_all g flat flat' P k (x ∷ xs) h = shrinks_append _ _ _ _ (k x h.0) (shrinks_all g flat flat' P k xs h.1)
