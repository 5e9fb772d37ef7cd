-- `find::around::within` meets its contract.
use mathlib.Core.Path.{sym, ◌∙◌}
use Rattle.find.proofs.Arounds.{within_there, within_none}
use Rattle.find.proofs.around.within.Goals as goal

pub returns-then-a : goal.returns-then-a
returns-then-a c = sym (within_there _ _ c.if-a.true)

pub returns : goal.returns
returns c = c.no_spot.ensures ∙ sym (within_none _ _ c.if-a.false)
