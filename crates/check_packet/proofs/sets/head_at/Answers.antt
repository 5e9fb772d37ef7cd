-- `sets::head_at` meets its contract.
use Rattle.std.proofs.Common.{arith}
use Rattle.check_packet.proofs.SetTurns.{head_read}
use Rattle.check_packet.proofs.sets.head_at.Goals as goal

pub returns-in-Ok : goal.returns-in-Ok
returns-in-Ok c = head_read _ _ _ (omega (arith, c.if-s-p.false)) c.in-Ok.ensures
