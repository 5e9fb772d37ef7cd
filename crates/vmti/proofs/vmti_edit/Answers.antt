-- `vmti::vmti_edit` meets its contract: the answer of `edit` on the one change, as one number.
use Rattle.vmti.proofs.Bounds.{edit_small, one_number_lem}
use Rattle.vmti.proofs.Naming.{one_named}
use Rattle.vmti.proofs.vmti_edit.Goals as goal

pub one_number-requires : goal.one_number-requires
one_number-requires c = edit_small _ _ _ _ _ _ _ c.edit.ensures

pub returns : goal.returns
returns c =
    let i = c.args in
    one_number_lem _ _ _ (one_named _ i.level i.target c.change.ensures c.asked-a.ensures _ _ _ _ _ c.edit.ensures) c.one_number.ensures
