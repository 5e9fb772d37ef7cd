-- `quick_records::targets::many` meets its contract: each turn is a turn of the target walk. `l` is where the loop stands, `j` where a target's id
-- was found to be new, and `v` where it had a model.
use Rattle.std.proofs.Common.{◌≡◌, ◌-◌, length}
use Rattle.quick_records.proofs.Passings.{Passing}
use Rattle.quick_records.proofs.targets.many.Given as goal

abbrev pub invariant-loop-p : goal.invariant-loop-p
invariant-loop-p l = Passing l.alone l.s l.bits l.masks l.p l.rows l.normal l.b l.last × (length l.bits ≡ length l.initial.bits)

abbrev pub decreases-loop-p : goal.decreases-loop-p
decreases-loop-p l = length l.s - l.p
