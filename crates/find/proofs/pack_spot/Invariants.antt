-- `find::pack_spot` meets its contract: each turn passes one pack that is not the one sought.
use Prim.Native.Nat.{◌-◌}
use lib.ListN.{length}
use Rattle.format.specs.Table.{Form}
use Rattle.tally.specs.Runs.{Ran, series_run}
use Rattle.find.specs.Spots.{has_id}
use Rattle.find.proofs.Packs.{PackTurn}
use Rattle.find.proofs.pack_spot.Given as goal

abbrev pub invariant-loop-p : goal.invariant-loop-p
invariant-loop-p l = (f : Form) → Ran (series_run f l.s) → PackTurn f (has_id l.id) l.s l.p

abbrev pub decreases-loop-p : goal.decreases-loop-p
decreases-loop-p l = length l.s - l.p
