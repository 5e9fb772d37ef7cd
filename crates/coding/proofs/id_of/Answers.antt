-- `coding::id_of` meets its contract.
use Rattle.format.specs.Coding.{id_of}
use Rattle.coding.proofs.id_of.Goals as goal

pub returns : goal.returns
unfolding id_of
returns c = c.oid_of.ensures
