-- `items::row_at` meets its contract.
use native.Mathlib.Omega.{arith}
use Rattle.items.proofs.Rows.{row_in}
use Rattle.items.proofs.row_at.Goals as goal

pub overflow_add-at : goal.overflow_add-at
overflow_add-at c = omega (arith, row_in c.args.set _ c.requires.1, c.rows_from.ensures)

pub offset_bounds-rows-at : goal.offset_bounds-rows-at
offset_bounds-rows-at c = omega (arith, row_in c.args.set _ c.requires.1, c.rows_from.ensures)

pub bounds-rows-at : goal.bounds-rows-at
bounds-rows-at c =
    let s = c.before.before.before.before in
    omega (arith, row_in s.args.set _ s.requires.1, c.rows_from.ensures, s.requires.0)

pub returns : goal.returns
returns c = rw c.rows_from.ensures
