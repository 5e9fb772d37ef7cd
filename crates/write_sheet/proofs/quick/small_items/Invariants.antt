-- `write_sheet::quick::small_items` meets its contract: each turn is a turn of the item walk.
use Prim.Native.Nat.{◌-◌}
use lib.ListN.{length}
use Rattle.write_sheet.proofs.Smalls.{ItemsGoing}
use Rattle.write_sheet.proofs.quick.small_items.Given as goal

abbrev pub invariant-loop-n : goal.invariant-loop-n
invariant-loop-n l = ItemsGoing l.s l.initial.out l.out l.p l.k

abbrev pub decreases-loop-n : goal.decreases-loop-n
decreases-loop-n l = length l.s - l.p
