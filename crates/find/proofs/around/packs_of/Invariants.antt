-- `find::around::packs_of` meets its contract: each turn passes one pack, and those like it.
use Prim.Native.Nat.{◌-◌}
use lib.ListN.{length}
use Rattle.format.specs.Table.{Form}
use Rattle.tally.specs.Runs.{Ran, series_run}
use Rattle.find.proofs.Passes.{PackPass}
use Rattle.find.proofs.around.packs_of.Given as goal

abbrev pub invariant-loop-p : goal.invariant-loop-p
invariant-loop-p l = (f : Form) → Ran (series_run f l.s) → PackPass f l.id l.s l.p l.at l.next l.count

abbrev pub decreases-loop-p : goal.decreases-loop-p
decreases-loop-p l = length l.s - l.p
