-- `quick_records::quick::glance_rising` meets its contract: each turn is a turn of the walk.
use Rattle.std.proofs.Common.{◌-◌, length}
use Rattle.items.specs.Meet.{form_of}
use Rattle.quick_records.proofs.Glances.{Rising}
use Rattle.quick_records.proofs.quick.glance_rising.Given as goal

abbrev pub invariant-loop-told : goal.invariant-loop-told
invariant-loop-told l = Rising l.set (form_of l.alone) l.s l.p l.count l.held l.top

abbrev pub decreases-loop-told : goal.decreases-loop-told
decreases-loop-told l = length l.s - l.p
