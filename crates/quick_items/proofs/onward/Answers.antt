-- `quick_items::onward` meets its contract: each turn is a turn of the item walk.
use native.Mathlib.Omega.{arith}
use Rattle.items.specs.Meet.{form_of}
use Rattle.quick_items.proofs.Beyond.{PlainAt, plain_small, plain_next, plain_sums, plain_more}
use Rattle.quick_items.proofs.onward.Goals as goal
use Rattle.quick_items.proofs.onward.Goals.{Else-not-is_plain}

-- where an item was found to be plain
here : (c : Else-not-is_plain) → PlainAt c.args.set (form_of c.args.alone) c.args.s.now c.loop-p.p c.loop-p.sum c.args.q.held c.loop-p.top c.loop-p.low c.in-Ok.head
here c = record {
  going = c.loop-p.invariant;
  here = c.loop-p-test.true;
  told = c.in-Ok.ensures;
  plain = c.is_plain.ensures c.if-not-is_plain.false;
  bytes = λ i. (c.type_inv.s i).fits;
  most = c.requires.0;
}

pub plain_sizes-requires : goal.plain_sizes-requires
plain_sizes-requires c = plain_small (here (goal.at.plain_sizes-requires c).Else-not-is_plain)

pub plus-sum-requires : goal.plus-sum-requires
plus-sum-requires c = plain_sums (here (goal.at.plus-sum-requires c).Else-not-is_plain) c.plain_sizes.ensures

pub overflow_add-p : goal.overflow_add-p
overflow_add-p c = omega (arith, plain_next (here (goal.at.overflow_add-p c).Else-not-is_plain))

pub overflow_add-p-in-loop-p : goal.overflow_add-p-in-loop-p
overflow_add-p-in-loop-p c = omega (arith, plain_next (here (goal.at.overflow_add-p-in-loop-p c).Else-not-is_plain))

pub overflow_add-p-in-loop-p-2 : goal.overflow_add-p-in-loop-p-2
overflow_add-p-in-loop-p-2 c = omega (arith, plain_next (here (goal.at.overflow_add-p-in-loop-p-2 c).Else-not-is_plain))

pub loop-p-preserved : goal.loop-p-preserved
loop-p-preserved c = plain_more (here (goal.at.loop-p-preserved c).Else-not-is_plain) c.plain_sizes.ensures c.plus-sum.ensures c.larger-top.ensures.over c.smaller-low.ensures
