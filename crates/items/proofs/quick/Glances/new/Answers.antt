-- `items::quick::Glances::new` meets its contract: the rows are those of `rules`.
use Rattle.std.proofs.Common.{refl}
use Rattle.format.specs.Lists.{has}
use Rattle.format.specs.Table.{rules, find, rule_of, nameable, may_stand, sized}
use Rattle.items.specs.Meet.{glance_table}
use Rattle.items.proofs.quick.Glances.new.Goals as goal

pub invariant_of-result : goal.invariant_of-result
unfolding glance_table rule_of rules find nameable may_stand sized has
invariant_of-result c = record { told = refl }
