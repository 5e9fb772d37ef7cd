-- `notes::is_noted` meets its contract.
use mathlib.Core.Path.{refl}
use Rattle.repeats.specs.Notes.{noted}
use Rattle.repeats.proofs.notes.is_noted.Goals as goal

pub returns : goal.returns
unfolding noted
returns c = refl
