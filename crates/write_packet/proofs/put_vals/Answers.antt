-- `write_packet::put_vals` meets its contract: each turn stores what one record of a target is in the packet.
use Rattle.write_packet.proofs.Turns.{one_here, val_asked, vals_over}
use Rattle.write_packet.proofs.put_vals.Goals as goal

pub put_one-k-requires : goal.put_one-k-requires
put_one-k-requires c = one_here c.loop-out.invariant c.is_mark.ensures c.loop-out-test.true (c.is_small.ensures c.if-not-is_small.false) c.wide-n.ensures.0 c.if-n-eq1.true

pub put_small-k-requires : goal.put_small-k-requires
put_small-k-requires c = val_asked c.loop-out.invariant c.is_mark.ensures c.loop-out-test.true (c.is_small.ensures c.if-not-is_small.false) c.wide-n.ensures.0

pub returns : goal.returns
returns c = vals_over c.loop-out.invariant c.is_mark.ensures c.loop-out-test.false
