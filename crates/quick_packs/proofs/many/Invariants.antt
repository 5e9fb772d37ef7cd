-- `quick_packs::many` meets its contract: each turn is a turn of the pack walk.
use Prim.Native.Nat.{◌-◌}
use lib.ListN.{length}
use Rattle.quick_packs.proofs.Passings.{Passing}
use Rattle.quick_packs.proofs.many.Given as goal

abbrev pub invariant-loop-p : goal.invariant-loop-p
invariant-loop-p l = Passing l.alone l.s l.bits l.masks l.p l.rows l.more l.b l.c

abbrev pub decreases-loop-p : goal.decreases-loop-p
decreases-loop-p l = length l.s - l.p
