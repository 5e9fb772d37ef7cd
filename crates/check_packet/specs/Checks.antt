-- What a check says of a packet: the sizes of what it says, and where its set begins; or the refusal.
use Rattle.std.specs.Prelude.{ℕ}
use Rattle.tally.specs.declared.Sizes.{Sizes}

pub data Checked : Type 0 where
  Fine : (sizes : Sizes) (from : ℕ) → Checked
  Wrong : (number place : ℕ) → Checked
