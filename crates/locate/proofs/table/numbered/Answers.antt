-- `locate::table::numbered` meets its contract.
use Rattle.std.proofs.Common.{refl, arith}
use Rattle.answers.proofs.Results.{refuses, passed_on}
use Rattle.locate.proofs.Tabled.{none_counted, table_filled, table_asked}
use Rattle.locate.proofs.table.numbered.Goals as goal

-- a refusal counts no rows
pub returns-in_err-count : goal.returns-in_err-count
returns-in_err-count c =
    rw (passed_on _ _ c.from_residual.ensures)
    (table_filled _ _ (λ i. (c.type_inv.packet i).fits) _ _ _ c.requires _ c.in_err-count.ensures (none_counted c.in_err-count.field-0.0) (omega arith))

pub returns-then-room-count : goal.returns-then-room-count
returns-then-room-count c =
    table_asked _ _ (λ i. (c.type_inv.packet i).fits) _ _ _ c.requires _ c.in_ok-count.ensures refl c.if-room-count.true (refuses c.at.ensures)

pub returns : goal.returns
returns c =
    table_filled _ _ (λ i. (c.type_inv.packet i).fits) _ _ _ c.requires _ c.in_ok-count.ensures refl c.if-room-count.false
