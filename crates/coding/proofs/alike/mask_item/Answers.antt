-- `coding::alike::mask_item` meets its contract: after i turns, i bytes of the head are masked.
use Rattle.std.proofs.Common.{arith}
use Rattle.coding.proofs.Alikes.{head_none, head_more, item_masked}
use Rattle.coding.proofs.alike.mask_item.Goals as goal

pub loop-i-init : goal.loop-i-init
loop-i-init c = (head_none _ _, omega arith)

pub loop-i-preserved : goal.loop-i-preserved
loop-i-preserved c = (head_more c.loop-i.invariant.0 (omega (arith, c.requires.0, c.requires.1, c.loop-i-test.true)), omega (arith, c.loop-i-test.true))

pub returns : goal.returns
returns c = item_masked c.loop-i.invariant.0 (omega (arith, c.loop-i-test.false)) (omega (arith, c.requires.0, c.requires.1)) _
