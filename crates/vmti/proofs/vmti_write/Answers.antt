-- `vmti::vmti_write` meets its contract: the answer of `write`, as one number.
use Rattle.vmti.proofs.Bounds.{write_small, one_number_lem}
use Rattle.vmti.proofs.vmti_write.Goals as goal

pub one_number-requires : goal.one_number-requires
one_number-requires c = write_small _ _ _ _ c.write.ensures

pub returns : goal.returns
returns c = one_number_lem _ _ _ c.write.ensures c.one_number.ensures
