-- `sets::series_at` meets its contract.
use Rattle.std.proofs.Common.{arith}
use Rattle.check_packet.proofs.SetTurns.{series_next}
use Rattle.check_packet.proofs.sets.series_at.Goals as goal

pub returns : goal.returns
returns c =
    let new = c.is_series_new.ensures c.if-not-is_series_new.false in
    series_next c.args.s.now c.args.p c.args.top _ _ _ _ c.in_ok-head.ensures (new.0, new.1, omega (arith, c.if-head-eq0.false), omega (arith, c.if-head-ne101.false))
