-- `edit_rules::put_size` meets its contract.
use Rattle.items.specs.Meet.{form_of, level_of}
use Rattle.edit_rules.proofs.Rules.{put_told}
use Rattle.edit_rules.proofs.put_size.Goals as goal

pub returns-then-is_told : goal.returns-then-is_told
returns-then-is_told c = let i = c.args in put_told (form_of i.alone) (level_of i.set) i.tag i.v.now (c.is_told.ensures c.if-is_told.true)
