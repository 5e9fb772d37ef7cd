-- `quick_items::closer::items` meets its contract: each turn is a turn of the item walk.
use mathlib.Core.Path.{refl}
use native.Mathlib.Omega.{arith}
use Rattle.items.specs.Meet.{form_of}
use Rattle.tally.proofs.ItemTurns.{level_start}
use Rattle.quick_items.proofs.Looks.{CloserHere, closer_next, closer_more}
use Rattle.quick_items.proofs.closer.items.Goals as goal
use Rattle.quick_items.proofs.closer.items.Goals.{In-Some}

-- where an item was told
here : (c : In-Some) → CloserHere c.args.set (form_of c.args.alone) c.args.s.now c.loop-p.p c.loop-p.count c.loop-p.normal c.loop-p.held c.loop-p.top c.loop-p.low c.in-Some.piece
here c = record { going = c.loop-p.invariant; here = c.loop-p-test.true; look = c.in-Some.ensures; bytes = λ i. (c.type_inv.s i).fits; most = c.requires }

pub loop-p-init : goal.loop-p-init
loop-p-init c = level_start _ _ _

pub overflow_add-p : goal.overflow_add-p
overflow_add-p c = omega (arith, closer_next (here (goal.at.overflow_add-p c).In-Some))

pub overflow_add-p-in-loop-p : goal.overflow_add-p-in-loop-p
overflow_add-p-in-loop-p c = omega (arith, closer_next (here (goal.at.overflow_add-p-in-loop-p c).In-Some))

pub loop-p-smaller : goal.loop-p-smaller
loop-p-smaller c = omega (arith, closer_next (here (goal.at.loop-p-smaller c).In-Some))

pub loop-p-preserved : goal.loop-p-preserved
loop-p-preserved c = closer_more (here (goal.at.loop-p-preserved c).In-Some) c.bit_of-held.ensures refl c.larger-top.ensures.over c.smaller-low.ensures
