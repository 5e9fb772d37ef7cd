-- `tally::is_held` meets its contract.
use mathlib.Core.Path.{refl}
use Rattle.tally.specs.Meet.{is_held}
use Rattle.tally.proofs.is_held.Goals as goal

pub returns : goal.returns
unfolding is_held
returns c = refl
