-- What a store leaves behind.
use Rattle.std.specs.Prelude.{◌≡◌, List, ℕ, ◌+◌, length}
use Rattle.std.proofs.lemmas.List.Edits.{sets}

-- xs stored into o from a on: where they end, and what o is then
abbrev pub Puts : List ℕ → ℕ → List ℕ → ℕ → List ℕ → Type 0
Puts o a xs r o' = (r ≡ a + length xs) × (o' ≡ sets o a xs)

-- xs stored from the start: how many they are
abbrev pub Fills : List ℕ → List ℕ → ℕ → List ℕ → Type 0
Fills o xs n o' = (n ≡ length xs) × (o' ≡ sets o 0 xs)
