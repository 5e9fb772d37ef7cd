-- `blocks::clear_to` meets its contract: each turn adds a block, of which none stood before.
use native.Mathlib.Omega.{arith}
use Rattle.repeats.proofs.Gathers.{told_start, told_more}
use Rattle.repeats.proofs.blocks.clear_to.Goals as goal

pub loop-from-init : goal.loop-from-init
loop-from-init c = told_start _ _

pub returns-then-to-from : goal.returns-then-to-from
returns-then-to-from c = c.loop-from.invariant.clear

pub returns-then-may_be_before : goal.returns-then-may_be_before
returns-then-may_be_before c = c.loop-from.invariant.clear

pub loop-from-smaller : goal.loop-from-smaller
loop-from-smaller c =
    let g = c.gather-to.ensures.1 in
    omega (arith, g.on, g.within, c.if-to-from.false)

pub loop-from-preserved : goal.loop-from-preserved
loop-from-preserved c = told_more _ _ _ _ _ _ c.loop-from.invariant c.gather-to.ensures.1 (c.may_be_before.ensures c.if-may_be_before.false)
