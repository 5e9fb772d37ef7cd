-- `closer::packs` meets its contract: each turn is a turn of the pack walk.
use Prim.Native.Nat.{◌-◌}
use lib.ListN.{length}
use Rattle.items.specs.Meet.{form_of}
use Rattle.tally.specs.Going.{SeriesGoing}
use Rattle.quick_packs.proofs.closer.packs.Given as goal

abbrev pub invariant-loop-p : goal.invariant-loop-p
invariant-loop-p l = SeriesGoing (form_of l.alone) l.s l.p l.sum l.top l.low

abbrev pub decreases-loop-p : goal.decreases-loop-p
decreases-loop-p l = length l.s - l.p
