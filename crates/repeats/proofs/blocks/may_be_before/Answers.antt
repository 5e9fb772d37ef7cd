-- `blocks::may_be_before` meets its contract: the loop passes one head after the other, as none of their keys is among the block.
use mathlib.Core.Path.{sym, ◌∙◌}
use native.Mathlib.Omega.{arith}
use Rattle.format.proofs.Words.Answers.{no_bool}
use Rattle.heads.proofs.Before.{look_room}
use Rattle.repeats.proofs.Gathers.{missed_start, missed_more, missed_room, missed_done}
use Rattle.repeats.proofs.blocks.may_be_before.Goals as goal

pub loop-q-init : goal.loop-q-init
loop-q-init c = missed_start _ _ _ _

pub returns-in_default : goal.returns-in_default
returns-in_default c = λ e. no_bool (sym e)

pub returns-then-is_among : goal.returns-then-is_among
returns-then-is_among c = λ e. no_bool (sym e)

pub loop-q-preserved : goal.loop-q-preserved
loop-q-preserved c = missed_more _ _ _ _ _ c.loop-q.invariant (look_room _) c.loop-q-test.true _ c.in-Some.ensures (sym c.is_among.ensures ∙ c.if-is_among.false)

pub overflow_add-q : goal.overflow_add-q
overflow_add-q c = omega (arith, missed_room _ _ _ _ _ c.loop-q.invariant (look_room _) c.loop-q-test.true _ c.in-Some.ensures, c.well_formed)

pub loop-q-smaller : goal.loop-q-smaller
loop-q-smaller c = omega (arith, c.in-Some.ensures.1, c.loop-q-test.true)

pub returns : goal.returns
returns c = λ e. missed_done _ _ _ _ _ c.loop-q.invariant (omega arith)
