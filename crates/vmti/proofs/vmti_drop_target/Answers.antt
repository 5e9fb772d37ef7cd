-- `vmti::vmti_drop_target` meets its contract: the answer of `drop_target`, as one number.
use Rattle.vmti.proofs.Bounds.{drop_small, one_number_lem}
use Rattle.vmti.proofs.vmti_drop_target.Goals as goal

pub one_number-requires : goal.one_number-requires
one_number-requires c = drop_small _ _ _ _ _ _ c.drop_target.ensures

pub returns : goal.returns
returns c = one_number_lem _ _ _ c.drop_target.ensures c.one_number.ensures
