-- `items::quick::is_glanced` meets its contract: the row at a tag's place has the bits of its rule.
use Rattle.format.proofs.Words.Answers.{no_bool}
use Rattle.items.proofs.Rows.{glances_long}
use Rattle.items.proofs.Glances.{quick_from, quick_other}
use Rattle.items.proofs.quick.is_glanced.Goals as goal

pub returns-then-most_tag-tag : goal.returns-then-most_tag-tag
returns-then-most_tag-tag c = quick_other c.args.set _ _ _ _ c.is_other.ensures

pub row_at-row-requires : goal.row_at-row-requires
row_at-row-requires c = (glances_long c.args.glances.now.told, rw c.most_tag.ensures at c.if-most_tag-tag.false)

pub returns-then-row-least_row : goal.returns-then-row-least_row
returns-then-row-least_row c = λ e. no_bool e

pub returns : goal.returns
returns c =
    quick_from c.args.set c.args.alone _ (rw c.most_tag.ensures at c.if-most_tag-tag.false) c.least_row.ensures c.args.glances.now.told c.row_at-row.ensures c.if-row-least_row.false c.fits.ensures
