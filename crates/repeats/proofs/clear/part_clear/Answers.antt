-- `clear::part_clear` meets its contract: the loop passes one head after the other, and notes its key.
use mathlib.Core.Path.{refl}
use native.Mathlib.Omega.{arith}
use Rattle.heads.proofs.Before.{look_room}
use Rattle.repeats.proofs.Clears.{clearing_start, clearing_more, passed_room}
use Rattle.repeats.proofs.clear.part_clear.Goals as goal

pub loop-q-init : goal.loop-q-init
loop-q-init c = clearing_start _ _ _ _ refl

pub returns-then-is_other : goal.returns-then-is_other
returns-then-is_other c = c.loop-q.invariant.clear

pub returns-in_default : goal.returns-in_default
returns-in_default c = c.loop-q.invariant.clear

pub may_stand-requires : goal.may_stand-requires
may_stand-requires c = c.loop-q.invariant.long

pub returns-then-may_stand : goal.returns-then-may_stand
returns-then-may_stand c = c.loop-q.invariant.clear

pub note_part-requires : goal.note_part-requires
note_part-requires c = c.loop-q.invariant.long

pub loop-q-preserved : goal.loop-q-preserved
loop-q-preserved c =
    let so_far = c.loop-q.invariant in
    let unseen = c.may_stand.ensures c.if-may_stand.false in
    clearing_more _ _ _ _ _ so_far (look_room _) _ c.in-Some.ensures unseen _ c.note_part.ensures

pub overflow_add-q : goal.overflow_add-q
overflow_add-q c = omega (arith, passed_room _ _ _ _ _ c.loop-q.invariant (look_room _) _ c.in-Some.ensures (c.may_stand.ensures c.if-may_stand.false), c.well_formed)

pub loop-q-smaller : goal.loop-q-smaller
loop-q-smaller c = omega (arith, c.in-Some.ensures.1, c.loop-q-test.true)

pub returns : goal.returns
returns c = c.loop-q.invariant.clear
