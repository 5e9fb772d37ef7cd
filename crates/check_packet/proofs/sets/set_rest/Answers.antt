-- `sets::set_rest` meets its contract: what was walked is all, or the item walk goes on.
use Rattle.std.proofs.Common.{length, arith}
use Rattle.tally.proofs.Turns.{turn_done, told_as}
use Rattle.check_packet.proofs.sets.set_rest.Goals as goal

pub returns-then-q-s : goal.returns-then-q-s
returns-then-q-s c = told_as (length c.args.s.now) c.walked.ensures (turn_done c.seal-q.ensures (omega (arith, c.if-q-s.true)))
