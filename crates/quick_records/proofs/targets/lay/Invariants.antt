-- `quick_records::targets::lay` meets its contract: each turn is one of `quick::glance_records`, for whatever is laid out so far as the records are.
use Rattle.std.proofs.Common.{◌-◌, length}
use Rattle.items.specs.Meet.{form_of}
use Rattle.quick_records.proofs.Alikes.{Laying}
use Rattle.quick_records.proofs.targets.lay.Given as goal

abbrev pub invariant-loop-told : goal.invariant-loop-told
invariant-loop-told l = Laying (form_of l.alone) l.masks l.s l.p l.count l.held l.top

abbrev pub decreases-loop-told : goal.decreases-loop-told
decreases-loop-told l = length l.s - l.p
