-- `clear::is_noted_part` meets its contract.
use native.Mathlib.Omega.{arith}
use Rattle.repeats.specs.Parts.{noted_part}
use Rattle.repeats.proofs.clear.is_noted_part.Goals as goal

pub is_noted-requires : goal.is_noted-requires
is_noted-requires c = omega (arith, c.requires)

pub returns : goal.returns
unfolding noted_part
returns c = c.is_noted.ensures
