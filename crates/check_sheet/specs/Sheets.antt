-- What a check says of a sheet: its form, the bytes of its packet's set, and those of the series' packs; or the refusal.
use Rattle.std.specs.Prelude.{ℕ, Bool}

pub data Sheeted : Type 0 where
  Fine : (alone : Bool) (normal inner : ℕ) → Sheeted
  Wrong : (number place : ℕ) → Sheeted
