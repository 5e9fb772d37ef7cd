-- `items::quick::closer_size` meets its contract: each 0 says nothing.
use mathlib.Core.Path.{refl, sym, ◌∙◌}
use mathlib.Core.Logic.{inl}
use native.Mathlib.Omega.{arith}
use borrow.Author.Tests.{not-false}
use Rattle.items.proofs.Rows.{glances_long}
use Rattle.items.proofs.Glances.{quick_from, quick_other, row_any}
use Rattle.items.proofs.Looks.{looked_glanced, zeros_most, number_from}
use Rattle.items.proofs.quick.closer_size.Goals as goal

pub returns-then-is_other : goal.returns-then-is_other
returns-then-is_other c =
    let (few, short, q) = quick_other c.args.set _ _ _ 0 c.is_other.ensures c.if-is_other.true in
    (few, short, looked_glanced c.args.v.now refl (inl refl) q)

pub row_at-row-requires : goal.row_at-row-requires
row_at-row-requires c = (glances_long c.args.glances.now.told, rw c.most_tag.ensures at c.if-most_tag-tag.false)

pub returns-then-row-eq0 : goal.returns-then-row-eq0
returns-then-row-eq0 c =
    let told = sym c.fits.ensures ∙ not-false _ c.if-not-fits.false-raw in
    let (few, short, q) = quick_from c.args.set c.args.alone _ (rw c.most_tag.ensures at c.if-most_tag-tag.false) c.least_row.ensures c.args.glances.now.told c.row_at-row.ensures
    c.if-row-least_row.false (row_any _ _ told c.if-row-eq0.true) refl in
    (few, short, looked_glanced c.args.v.now refl (inl refl) q)

pub overflow_sub-shortest : goal.overflow_sub-shortest
overflow_sub-shortest c =
    omega (arith, c.leading.ensures, zeros_most c.args.v.now)

pub returns : goal.returns
returns c =
    number_from c.args.set c.args.alone _ (rw c.most_tag.ensures at c.if-most_tag-tag.false) c.least_row.ensures c.args.glances.now.told c.row_at-row.ensures
    c.if-row-least_row.false c.fits.ensures (not-false _ c.if-not-fits.false-raw) c.if-row-eq0.false c.leading.ensures (omega (arith, c.if-shortest-eq0.false))
