-- `items::rule_of` meets its contract: the row at a tag's place stands for the tag's rule.
use Rattle.std.proofs.Common.{◌∙◌, ap}
use Rattle.items.specs.Meet.{row_from}
use Rattle.items.proofs.Rows.{item_at, rule_over}
use Rattle.items.proofs.rule_of.Goals as goal

pub returns-then-most_tag-tag : goal.returns-then-most_tag-tag
returns-then-most_tag-tag c = rule_over c.args.set _ (rw c.most_tag.ensures at c.if-most_tag-tag.true)

pub returns : goal.returns
returns c =
    c.rule_from.ensures ∙ ap row_from c.row_at.ensures ∙ item_at c.args.set _ (rw c.most_tag.ensures at c.if-most_tag-tag.false) c.args.table.now.listed
