-- `find::item_spot` meets its contract: each turn passes one entry that is not the one sought.
use Prim.Native.Nat.{◌-◌}
use lib.ListN.{length}
use Rattle.format.specs.Table.{Form}
use Rattle.items.specs.Meet.{level_of}
use Rattle.tally.specs.Runs.{Ran, level_run}
use Rattle.find.proofs.Entries.{EntryTurn}
use Rattle.find.proofs.item_spot.Given as goal

abbrev pub invariant-loop-p : goal.invariant-loop-p
invariant-loop-p l = (f : Form) → Ran (level_run (level_of l.set) f l.s) → EntryTurn (level_of l.set) f l.tag l.s l.p

abbrev pub decreases-loop-p : goal.decreases-loop-p
decreases-loop-p l = length l.s - l.p
