-- `locate::table::locate` meets its contract: the rows are what the numbers say of a table with so much room.
use Rattle.std.proofs.Common.{refl}
use Rattle.answers.proofs.Results.{passed_on}
use Rattle.locate.proofs.Tabled.{left_none}
use Rattle.locate.proofs.table.locate.Goals as goal

pub returns-in_err-count : goal.returns-in_err-count
returns-in_err-count c =
    rw (passed_on _ _ c.from_residual.ensures) (left_none c.in_err-count.field-0.0 c.in_err-count.ensures c.args.rows.now refl)

pub fill_rows-requires : goal.fill_rows-requires
fill_rows-requires c = (c.in_ok-count.ensures.held, c.in_ok-count.ensures.fits)

pub returns : goal.returns
returns c = rw c.fill_rows.ensures (c.in_ok-count.ensures.left c.args.rows.now refl)
