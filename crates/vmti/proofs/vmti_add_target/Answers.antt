-- `vmti::vmti_add_target` meets its contract: the answer of `add_target`, as one number.
use Rattle.vmti.proofs.Bounds.{add_small, one_number_lem}
use Rattle.vmti.proofs.vmti_add_target.Goals as goal

pub one_number-requires : goal.one_number-requires
one_number-requires c = add_small _ _ _ _ _ _ c.add_target.ensures

pub returns : goal.returns
returns c = one_number_lem _ _ _ c.add_target.ensures c.one_number.ensures
