-- A bit for each of the first keys, in words of 64.
use Rattle.std.specs.Prelude.{◌≡◌, ℕ, ◌/◌, ◌%◌, ◌^◌, ◌<◌, Bool, true, List, length, get_or, eqb}

unfoldable pub noted : List ℕ → ℕ → Bool
noted bits k = eqb (get_or bits (k / 64) 0 / 2 ^ (k % 64) % 2) 1

-- key is noted, if it has a bit, and what was noted
pub record Noting (before after : List ℕ) (key : ℕ) : Type 0 where
  pub long : length after ≡ length before
  pub new : key / 64 < length before → noted after key ≡ true
  pub kept : (k : ℕ) → noted before k ≡ true → noted after k ≡ true
