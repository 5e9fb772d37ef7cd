-- `vmti::vmti_normalise` meets its contract: the answer of `normalise`, as one number.
use Rattle.vmti.proofs.Bounds.{normalise_small, one_number_lem}
use Rattle.vmti.proofs.vmti_normalise.Goals as goal

pub one_number-requires : goal.one_number-requires
one_number-requires c =
    normalise_small _ _ _ _ _ (λ i. (c.type_inv.packet i).fits) c.normalise.ensures

pub returns : goal.returns
returns c = one_number_lem _ _ _ c.normalise.ensures c.one_number.ensures
