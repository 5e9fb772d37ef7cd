-- `items::Table::new` meets its contract: the rows are those of `rules`.
use Rattle.std.proofs.Common.{refl}
use Rattle.format.specs.Table.{rules, find, rule_of}
use Rattle.items.specs.Meet.{item_table}
use Rattle.items.proofs.Table.new.Goals as goal

pub invariant_of-result : goal.invariant_of-result
unfolding item_table rule_of rules find
invariant_of-result c = record { listed = refl }
