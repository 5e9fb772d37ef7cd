-- `blocks::is_among` meets its contract: after i of the block, the key is among it where it was found or is among the rest.
use native.Mathlib.Omega.{arith}
use Rattle.repeats.proofs.Gathers.{among_start, among_more, among_done}
use Rattle.repeats.proofs.blocks.is_among.Goals as goal

pub loop-k-init : goal.loop-k-init
loop-k-init c = among_start _ _

pub loop-k-preserved : goal.loop-k-preserved
loop-k-preserved c = rw c.either-found.ensures (among_more _ _ _ _ c.loop-k.invariant (omega arith))

pub returns : goal.returns
returns c = among_done _ _ _ _ c.loop-k.invariant (omega arith)
