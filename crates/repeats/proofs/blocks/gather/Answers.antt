-- `blocks::gather` meets its contract: the loop puts one key after the other into the block, as none is among it.
use mathlib.Core.Path.{sym, ◌∙◌}
use native.Mathlib.Omega.{arith}
use Rattle.heads.proofs.Before.{look_room}
use Rattle.repeats.proofs.Gathers.{first_start, first_more, first_room}
use Rattle.repeats.proofs.blocks.gather.Goals as goal

pub loop-i-init : goal.loop-i-init
loop-i-init c = first_start _ _ _ _ c.requires.0 c.requires.1

pub returns-then-is_other : goal.returns-then-is_other
returns-then-is_other c = (_, c.loop-i.invariant)

pub returns-in_default : goal.returns-in_default
returns-in_default c = (_, c.loop-i.invariant)

pub returns-then-is_among : goal.returns-then-is_among
returns-then-is_among c = (_, c.loop-i.invariant)

pub loop-i-preserved : goal.loop-i-preserved
loop-i-preserved c = first_more _ _ _ _ _ _ c.loop-i.invariant (look_room _) c.loop-i-test.true _ c.in-Some.ensures (sym c.is_among.ensures ∙ c.if-is_among.false)

pub overflow_add-q : goal.overflow_add-q
overflow_add-q c = omega (arith, first_room _ _ _ _ _ _ c.loop-i.invariant (look_room _) c.loop-i-test.true _ c.in-Some.ensures, c.well_formed)

pub returns : goal.returns
returns c = (_, c.loop-i.invariant)
