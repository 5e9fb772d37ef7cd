-- `vmti::vmti_read` meets its contract: the answer of `read`, as one number.
use Rattle.vmti.proofs.Bounds.{read_small, one_number_lem}
use Rattle.vmti.proofs.vmti_read.Goals as goal

pub one_number-requires : goal.one_number-requires
one_number-requires c =
    read_small _ _ _ _ _ (λ i. (c.type_inv.packet i).fits) c.read.ensures

pub returns : goal.returns
returns c = one_number_lem _ _ _ c.read.ensures c.one_number.ensures
