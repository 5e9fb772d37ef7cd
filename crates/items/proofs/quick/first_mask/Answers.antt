-- `items::quick::first_mask` meets its contract: each 1 says nothing.
use mathlib.Core.Path.{refl, sym, ◌∙◌}
use native.Mathlib.Omega.{arith}
use borrow.Author.Tests.{not-false}
use Rattle.items.proofs.Rows.{glances_long}
use Rattle.items.proofs.Glances.{quick_from, quick_other, row_any}
use Rattle.items.proofs.quick.first_mask.Goals as goal

pub returns-then-is_other : goal.returns-then-is_other
returns-then-is_other c = λ _. (quick_other c.args.set _ _ _ _ c.is_other.ensures c.if-is_other.true).2

pub returns-then-most_tag-tag : goal.returns-then-most_tag-tag
returns-then-most_tag-tag c = λ e. absurd (omega (arith, e))

pub row_at-row-requires : goal.row_at-row-requires
row_at-row-requires c = (glances_long c.args.glances.now.told, rw c.most_tag.ensures at c.if-most_tag-tag.false)

pub returns-then-row-least_row : goal.returns-then-row-least_row
returns-then-row-least_row c = λ e. absurd (omega (arith, e))

pub returns-then-not-fits : goal.returns-then-not-fits
returns-then-not-fits c = λ e. absurd (omega (arith, e))

pub returns : goal.returns
returns c =
    let told = sym c.fits.ensures ∙ not-false _ c.if-not-fits.false-raw in
    λ e.
    (quick_from c.args.set c.args.alone _ (rw c.most_tag.ensures at c.if-most_tag-tag.false) c.least_row.ensures c.args.glances.now.told c.row_at-row.ensures c.if-row-least_row.false
    (row_any _ _ told e) refl).2
