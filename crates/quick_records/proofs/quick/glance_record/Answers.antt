-- `quick_records::quick::glance_record` meets its contract.
use Rattle.std.proofs.Common.{refl, arith}
use Rattle.quick_records.proofs.Glances.{head_fits, glance_from}
use Rattle.quick_records.proofs.quick.glance_record.Goals as goal

pub overflow_cast-head : goal.overflow_cast-head
overflow_cast-head c = omega (arith, head_fits c.args.s.now c.args.p (λ i. (c.type_inv.s i).fits) (omega arith) c.number_of-head.ensures)

pub returns : goal.returns
returns c =
    glance_from _ _ _ _ _ (λ i. (c.type_inv.s i).fits) c.if-s-from.false c.number_of-head.ensures c.word_of.ensures c.from-tag.ensures c.if-tag-top.false
    c.if-s-p-ne0.false c.wide-n.ensures.0 c.if-s-next.false (c.if-not-is_glanced.ensures refl)
