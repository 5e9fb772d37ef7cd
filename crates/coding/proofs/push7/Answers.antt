-- `coding::push7` meets its contract.
use Rattle.coding.proofs.Oid.{pushed}
use Rattle.coding.proofs.push7.Goals as goal

pub returns : goal.returns
returns c = pushed c.args.v c.args.b c.requires
