-- `coding::has_key` meets its contract: after i bytes, the whole comparison is that of those and the one from here.
use Rattle.std.proofs.Common.{arith}
use Rattle.format.specs.Packet.{the_key}
use Rattle.coding.proofs.TheKey.{key_start, key_short, key_more, key_done}
use Rattle.coding.proofs.has_key.Goals as goal

pub returns-then-s-lt16 : goal.returns-then-s-lt16
returns-then-s-lt16 c = key_short c.args.s.now (omega arith)

pub loop-i-init : goal.loop-i-init
loop-i-init c = key_start _

pub loop-i-preserved : goal.loop-i-preserved
unfolding the_key
loop-i-preserved c = rw c.both-alike.ensures (key_more _ _ _ c.loop-i.invariant (omega arith) (omega arith))

pub returns : goal.returns
returns c = key_done _ _ _ c.loop-i.invariant (omega arith)
