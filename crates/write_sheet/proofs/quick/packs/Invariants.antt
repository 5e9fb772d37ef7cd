-- `write_sheet::quick::packs` meets its contract: each turn is a turn of the pack walk, or leaves it a pack begun.
use Prim.Native.Nat.{◌-◌}
use lib.ListN.{length}
use Rattle.write_sheet.proofs.Turns.{PacksGoing}
use Rattle.write_sheet.proofs.quick.packs.Given as goal

abbrev pub invariant-loop-head : goal.invariant-loop-head
invariant-loop-head l = PacksGoing l.s l.initial.out l.out l.p l.k

abbrev pub decreases-loop-head : goal.decreases-loop-head
decreases-loop-head l = length l.s - l.p
