-- A run of things, left to right, each read by `step`, which sees the keys of those before it. It goes on while `more` says so.
-- It recurs on the bytes, with a count of those still to be passed over.
use Rattle.std.specs.Prelude.{ℕ, zero, suc, ◌+◌, ◌-◌, Bool, true, false, List, [], ◌∷◌}
use Rattle.format.specs.Answer.{Ans, ok, Got, got, ◌>>=◌, after}

abbrev pub Step : Type 0 → Type 0
Step X = List ℕ → List ℕ → Ans (Got X)

abbrev pub always : List ℕ → Bool
always s = true

unfoldable pub skip : {X : Type 0} → (List ℕ → Bool) → (X → ℕ) → Step X → List ℕ → ℕ → List ℕ → Ans (Got (List X))
skip more key step seen k [] = ok (got [] 0)
skip more key step seen (suc k) (b ∷ s) = skip more key step seen k s
skip more key step seen zero (b ∷ s) =
    elim (more (b ∷ s)) [
      | true ↦ (step seen (b ∷ s) >>= λ r.
          after r.used (skip more key step (key r.val ∷ seen) (r.used - 1) s) >>= λ rs.
          ok (got (r.val ∷ rs.val) (r.used + rs.used)))
      | false ↦ ok (got [] 0)
    ]

unfoldable pub run : {X : Type 0} → (List ℕ → Bool) → (X → ℕ) → Step X → List ℕ → Ans (Got (List X))
run more key step s = skip more key step [] 0 s
