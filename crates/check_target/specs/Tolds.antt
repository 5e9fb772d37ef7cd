-- What is said of a target's records: its id, the bits of their tags, and the bytes of its pack; or the refusal's number.
use Rattle.std.specs.Prelude.{ℕ}

pub data Told : Type 0 where
  Fine : (id held size : ℕ) → Told
  Wrong : (number : ℕ) → Told
