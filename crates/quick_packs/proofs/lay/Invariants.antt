-- `quick_packs::lay` meets its contract: each turn is one of `quick_items::glance_items`, for whatever is laid out so far as the items are.
use Prim.Native.Nat.{◌-◌}
use lib.ListN.{length}
use Rattle.items.specs.Meet.{form_of}
use Rattle.quick_packs.proofs.Alikes.{Laying}
use Rattle.quick_packs.proofs.lay.Given as goal

abbrev pub invariant-loop-next : goal.invariant-loop-next
invariant-loop-next l = Laying (form_of l.alone) l.masks l.s l.p l.count l.held l.top l.low

abbrev pub decreases-loop-next : goal.decreases-loop-next
decreases-loop-next l = length l.s - l.p
