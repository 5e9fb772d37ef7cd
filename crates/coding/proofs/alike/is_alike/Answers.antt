-- `coding::alike::is_alike` meets its contract.
use Rattle.coding.proofs.Alikes.{alike_told}
use Rattle.coding.proofs.alike.is_alike.Goals as goal

pub returns : goal.returns
returns c = alike_told _ _ _ c.either.ensures c.both.ensures c.either-2.ensures
