-- `quick_packs::model_of` meets its contract.
use Rattle.quick_packs.proofs.Models.{items_chosen, ends_well}
use Rattle.quick_packs.proofs.model_of.Goals as goal

pub returns : goal.returns
returns c =
    let a = c.args in
    items_chosen a.alone a.s.now a.from a.next c.lay-q.ensures.0 c.requires c.if-q-next.false (ends_well _ c.ended_of.ensures c.if-is_err.ensures.value)
