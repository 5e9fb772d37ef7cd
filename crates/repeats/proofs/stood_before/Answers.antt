-- `repeats::stood_before` meets its contract: the loop passes what heads the first p bytes, one after the other.
use native.Mathlib.Omega.{arith}
use Rattle.heads.proofs.Before.{left_start, left_done, left_gone, left_found, left_passed, look_room}
use Rattle.repeats.proofs.stood_before.Goals as goal

pub loop-q-init : goal.loop-q-init
loop-q-init c = left_start _ _ _ _

pub returns-in_default : goal.returns-in_default
returns-in_default c = left_gone _ _ _ _ _ c.loop-q.invariant c.loop-q-test.true c.in_default.ensures _

pub returns-then-next-key : goal.returns-then-next-key
returns-then-next-key c =
    left_found _ _ _ _ _ c.loop-q.invariant c.loop-q-test.true _ c.in-Some.ensures c.if-next-key.true

pub loop-q-preserved : goal.loop-q-preserved
loop-q-preserved c =
    left_passed _ _ _ _ _ c.loop-q.invariant c.loop-q-test.true _ c.in-Some.ensures (look_room _) c.if-next-key.false

pub overflow_add-q : goal.overflow_add-q
overflow_add-q c = omega (arith, (left_passed _ _ _ _ _ c.loop-q.invariant c.loop-q-test.true _ c.in-Some.ensures (look_room _) c.if-next-key.false).within, c.well_formed)

pub loop-q-smaller : goal.loop-q-smaller
loop-q-smaller c = omega (arith, c.in-Some.ensures.1, c.loop-q-test.true)

pub returns : goal.returns
returns c = left_done _ _ _ _ _ c.loop-q.invariant (omega arith)
