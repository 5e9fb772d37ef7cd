-- `locate::locate_numbers` meets its contract: each way out is a case of what is left behind.
use Rattle.std.proofs.Common.{refl, arith}
use Rattle.items.specs.Meet.{form_of}
use Rattle.check_packet.proofs.Opened.{set_room}
use Rattle.answers.proofs.Results.{refuses, passed_on}
use Rattle.locate.proofs.Locating.{locate_refused, found_few, locate_short, rows_asked, locate_done}
use Rattle.locate.proofs.locate_numbers.Goals as goal

pub returns-in_err-checked : goal.returns-in_err-checked
returns-in_err-checked c = locate_refused _ _ _ c.in_err-checked.ensures refl (passed_on _ _ c.from_residual.ensures)

pub overflow_mul-count : goal.overflow_mul-count
overflow_mul-count c = omega (arith, found_few _ _ c.args.rows.now c.in_ok-checked.ensures (λ i. (c.type_inv.packet i).fits) refl)

pub returns-then-rows-count : goal.returns-then-rows-count
returns-then-rows-count c =
    locate_short _ _ _ c.in_ok-checked.ensures (λ i. (c.type_inv.packet i).fits) refl c.if-rows-count.true (refuses c.at.ensures)

pub slice_bounds-item_rows-count : goal.slice_bounds-item_rows-count
slice_bounds-item_rows-count c = set_room _ _ c.in_ok-checked.ensures (λ i. (c.type_inv.packet i).fits) refl

pub slice_bounds-item_rows-start : goal.slice_bounds-item_rows-start
slice_bounds-item_rows-start c = set_room _ _ c.in_ok-checked.ensures (λ i. (c.type_inv.packet i).fits) refl

pub item_rows-requires : goal.item_rows-requires
item_rows-requires c =
    (form_of c.args.alone, rows_asked _ _ c.args.rows.now c.in_ok-checked.ensures (λ i. (c.type_inv.packet i).fits) refl c.if-rows-count.false)

pub returns : goal.returns
returns c =
    locate_done _ _ _ c.in_ok-checked.ensures (λ i. (c.type_inv.packet i).fits) refl c.if-rows-count.false c.item_rows.ensures refl
