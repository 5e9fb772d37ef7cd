-- Lists: the first thing that a test hits, and one change there. For packets and sheets alike.
use Rattle.std.specs.Prelude.{ℕ, Bool, true, false, ◌||◌, ◌&&◌, List, [], ◌∷◌, ◌++◌, eqb}
use Rattle.format.specs.Answer.{Ans, refused}

abbrev pub none? : {A : Type 0} → List A → Bool
none? [] = true
none? (x ∷ xs) = false

unfoldable pub has : ℕ → List ℕ → Bool
has x [] = false
has x (y ∷ ys) = eqb y x || has x ys

unfoldable pub same : List ℕ → List ℕ → Bool
same [] [] = true
same [] (y ∷ ys) = false
same (x ∷ xs) [] = false
same (x ∷ xs) (y ∷ ys) = eqb x y && same xs ys

unfoldable pub flat_all : {X : Type 0} → (X → List ℕ) → List X → List ℕ
flat_all f [] = []
flat_all f (x ∷ xs) = f x ++ flat_all f xs

-- x in the place of the first hit, or at the end
unfoldable pub put_in : {X : Type 0} → (X → Bool) → X → List X → List X
put_in hit x [] = x ∷ []
put_in hit x (y ∷ ys) = elim (hit y) [ true ↦ x ∷ ys | false ↦ y ∷ put_in hit x ys ]

-- without the first hit
unfoldable pub take_out : {X : Type 0} → (X → Bool) → List X → List X
take_out hit [] = []
take_out hit (y ∷ ys) = elim (hit y) [ true ↦ ys | false ↦ y ∷ take_out hit ys ]

-- the first hit changed by f
unfoldable pub on_hit : {X : Type 0} → (X → Bool) → (X → X) → List X → List X
on_hit hit f [] = []
on_hit hit f (y ∷ ys) = elim (hit y) [ true ↦ f y ∷ ys | false ↦ y ∷ on_hit hit f ys ]

-- what the first hit answers; 18 where there is none
unfoldable pub ask_hit : {X A : Type 0} → (X → Bool) → (X → Ans A) → List X → Ans A
ask_hit hit f [] = refused 18 0
ask_hit hit f (y ∷ ys) = elim (hit y) [ true ↦ f y | false ↦ ask_hit hit f ys ]
