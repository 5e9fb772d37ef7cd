-- `items::rule_from` meets its contract.
use Rattle.items.proofs.rule_from.Goals as goal

pub returns : goal.returns
returns c = c.kind_from.ensures _ _
