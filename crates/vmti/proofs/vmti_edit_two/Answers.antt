-- `vmti::vmti_edit_two` meets its contract: the answer of `edit_two` on the two changes, as one number.
use Rattle.vmti.proofs.Bounds.{edit_small, one_number_lem}
use Rattle.vmti.proofs.Naming.{two_named}
use Rattle.vmti.proofs.vmti_edit_two.Goals as goal

pub one_number-requires : goal.one_number-requires
one_number-requires c = edit_small _ _ _ _ _ _ _ c.edit_two.ensures

pub returns : goal.returns
returns c =
    let i = c.args in
    one_number_lem _ _ _
    (two_named _ i.level i.target c.change.ensures c.asked-first.ensures _ _ _ _ _ c.change-second.ensures _ c.edit_two.ensures)
    c.one_number.ensures
