-- `clear::passes` meets its contract: as far as each part tells, or as the blocks do.
use native.Mathlib.Omega.{arith}
use Rattle.repeats.proofs.Clears.{below_more}
use Rattle.repeats.proofs.clear.passes.Goals as goal

pub loop-part-init : goal.loop-part-init
loop-part-init c x h = absurd (omega arith)

pub loop-part-preserved : goal.loop-part-preserved
loop-part-preserved c = below_more _ _ _ _ c.loop-part.invariant _ _ c.part_clear.ensures (omega (arith, c.min-r.ensures), omega (arith, c.min-r.ensures))
