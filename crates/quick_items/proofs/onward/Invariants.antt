-- `quick_items::onward` meets its contract: each turn is a turn of the item walk.
use Prim.Native.Nat.{◌-◌}
use lib.ListN.{length}
use Rattle.items.specs.Meet.{form_of}
use Rattle.tally.specs.Going.{LevelGoing}
use Rattle.quick_items.proofs.onward.Given as goal

abbrev pub invariant-loop-p : goal.invariant-loop-p
invariant-loop-p l = LevelGoing l.set (form_of l.alone) l.s l.p l.sum l.q.held l.top l.low

abbrev pub decreases-loop-p : goal.decreases-loop-p
decreases-loop-p l = length l.s - l.p
