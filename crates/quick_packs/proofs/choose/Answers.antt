-- `quick_packs::choose` meets its contract.
use Rattle.quick_packs.proofs.Passings.{use_as}
use Rattle.quick_packs.proofs.choose.Goals as goal

pub returns-then-is_pack_as : goal.returns-then-is_pack_as
returns-then-is_pack_as c = use_as c.in-Some.is c.requires.1 c.requires.0 (c.is_pack_as.ensures c.if-is_pack_as.true)
