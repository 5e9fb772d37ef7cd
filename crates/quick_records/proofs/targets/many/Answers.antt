-- `quick_records::targets::many` meets its contract: each turn is a turn of the target walk.
use Rattle.std.proofs.Common.{refl, arith}
use Rattle.quick_records.proofs.Passings.{passing_none, passing_wide, passing_more}
use Rattle.quick_records.proofs.targets.many.Goals as goal

pub loop-p-init : goal.loop-p-init
loop-p-init c = (rw c.none-b.ensures (passing_none c.requires.1), refl)

pub returns-then-body-gt127 : goal.returns-then-body-gt127
returns-then-body-gt127 c = rw c.passed-then-body-gt127.ensures (passing_wide c.loop-p.invariant.0 (omega arith) c.in-Some.ensures.told c.in-Some.ensures.most)

pub loop-p-preserved : goal.loop-p-preserved
loop-p-preserved c = (
  passing_more c.loop-p.invariant.0 (omega arith) c.in-Some.ensures.told c.in-Some.ensures.most (λ i. (c.type_inv.s i).fits) c.requires.0 c.loop-p-test.true c.eight_of-id.ensures
      c.in-Some-model_at.ensures c.oid_width.ensures refl (omega (arith, c.if-body-gt127.false)),
  omega (arith, c.loop-p.invariant.1, c.reach.ensures.long),
)
