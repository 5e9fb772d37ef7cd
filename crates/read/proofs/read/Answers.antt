-- `read::read` meets its contract: each way out is a case of what is left behind.
use Rattle.std.proofs.Common.{refl, arith}
use Rattle.check_packet.proofs.Opened.{set_room}
use Rattle.answers.proofs.Results.{refuses, passed_on}
use Rattle.read.proofs.Reading.{head_bytes, read_refused, read_short, set_size, rest_from, set_asked, read_done}
use Rattle.read.proofs.read.Goals as goal

pub returns-in_err-checked : goal.returns-in_err-checked
returns-in_err-checked c = read_refused _ _ _ c.in_err-checked.ensures refl (passed_on _ _ c.from_residual.ensures)

pub returns-then-sheet-size : goal.returns-then-sheet-size
returns-then-sheet-size c =
    read_short _ _ _ c.in_ok-checked.ensures (λ i. (c.type_inv.packet i).fits) refl c.if-sheet-size.true (refuses c.at.ensures)

pub put_number-requires : goal.put_number-requires
put_number-requires c =
    let head = head_bytes c.args.alone c.head_of.ensures in
    omega (arith, set_size _ _ c.args.sheet.now c.in_ok-checked.ensures (λ i. (c.type_inv.packet i).fits) refl _ head c.if-sheet-size.false)

pub slice_bounds-item_sheet-count : goal.slice_bounds-item_sheet-count
slice_bounds-item_sheet-count c = set_room _ _ c.in_ok-checked.ensures (λ i. (c.type_inv.packet i).fits) refl

pub slice_bounds-item_sheet-start : goal.slice_bounds-item_sheet-start
slice_bounds-item_sheet-start c = set_room _ _ c.in_ok-checked.ensures (λ i. (c.type_inv.packet i).fits) refl

pub slice_bounds-item_sheet-count-2 : goal.slice_bounds-item_sheet-count-2
slice_bounds-item_sheet-count-2 c =
    let head = head_bytes c.args.alone c.head_of.ensures in
    rest_from _ _ c.args.sheet.now c.in_ok-checked.ensures (λ i. (c.type_inv.packet i).fits) refl _ head c.if-sheet-size.false c.put_number.ensures.1

pub slice_bounds-item_sheet-start-2 : goal.slice_bounds-item_sheet-start-2
slice_bounds-item_sheet-start-2 c =
    let head = head_bytes c.args.alone c.head_of.ensures in
    rest_from _ _ c.args.sheet.now c.in_ok-checked.ensures (λ i. (c.type_inv.packet i).fits) refl _ head c.if-sheet-size.false c.put_number.ensures.1

pub item_sheet-requires : goal.item_sheet-requires
item_sheet-requires c =
    let head = head_bytes c.args.alone c.head_of.ensures in
    (_, set_asked _ _ c.args.sheet.now c.in_ok-checked.ensures (λ i. (c.type_inv.packet i).fits) refl _ head c.if-sheet-size.false c.put_number.ensures.1)

pub returns : goal.returns
returns c =
    let head = head_bytes c.args.alone c.head_of.ensures in
    read_done _ _ _ c.in_ok-checked.ensures (λ i. (c.type_inv.packet i).fits) refl _ head c.if-sheet-size.false c.put_number.ensures.1 c.item_sheet.ensures refl
