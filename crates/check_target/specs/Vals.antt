-- What is said of a target's `TI`s: the bits of their tags, and how many bytes their items have; or the refusal's number.
use Rattle.std.specs.Prelude.{ℕ}

pub data Vals : Type 0 where
  Fine : (held normal : ℕ) → Vals
  Wrong : (number : ℕ) → Vals
