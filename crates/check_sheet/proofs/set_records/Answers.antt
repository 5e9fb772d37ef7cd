-- `check_sheet::set_records` meets its contract: what was told at a glance is all, or the walks go on from there.
use Rattle.std.proofs.Common.{arith}
use Rattle.tally.proofs.Turns.{turn_done, told_as}
use Rattle.check_sheet.proofs.set_records.Goals as goal

pub returns-then-q-s : goal.returns-then-q-s
returns-then-q-s c = told_as _ c.walked.ensures (turn_done c.set_glanced-q.ensures (omega (arith, c.if-q-s.true)))
