-- `coding::sum_of` meets its contract: after i bytes the sum is what they add up to, each by its weight.
use Rattle.std.proofs.Common.{refl, arith, ◌∙◌}
use Rattle.coding.proofs.Sums.{sum_start, sum_more, sum_all, weight_small}
use Rattle.coding.proofs.sum_of.Goals as goal

pub loop-i-init : goal.loop-i-init
loop-i-init c = sum_start _ _

pub overflow_mul-t : goal.overflow_mul-t
overflow_mul-t c =
    rw c.from.ensures (omega (arith, weight_small _ c.loop-i.i (c.type_inv.s c.loop-i.i).fits))

pub loop-i-preserved : goal.loop-i-preserved
loop-i-preserved c = sum_more _ _ _ _ c.loop-i.invariant (omega arith) (omega arith) _ _ c.from.ensures refl

pub returns : goal.returns
returns c = c.from-2.ensures ∙ sum_all _ _ _ _ c.loop-i.invariant (omega arith) (omega arith)
