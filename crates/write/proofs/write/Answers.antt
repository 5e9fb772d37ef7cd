-- `write::write` meets its contract: each way out is a case of what is left behind.
use Rattle.std.proofs.Common.{refl, arith}
use Rattle.answers.proofs.Results.{refuses, passed_on}
use Rattle.write.proofs.Written.{write_refused, size_asked, over_limit, no_room, opening, parts_begin, entries_from, entries_asked, entries_to, closing, closed_left}
use Rattle.write.proofs.write.Goals as goal

pub returns-in_err-checked : goal.returns-in_err-checked
returns-in_err-checked c = write_refused _ c.in_err-checked.ensures _ refl (passed_on _ _ c.from_residual.ensures)

pub frame_size-size-requires : goal.frame_size-size-requires
frame_size-size-requires c = size_asked _ c.in_ok-checked.ensures (λ i. (c.type_inv.sheet i).fits)

pub returns-then-size-gt8192 : goal.returns-then-size-gt8192
returns-then-size-gt8192 c =
    over_limit _ c.in_ok-checked.ensures (λ i. (c.type_inv.sheet i).fits) c.frame_size-size.ensures _ c.if-size-gt8192.true (refuses c.at.ensures)

pub returns-then-packet-size : goal.returns-then-packet-size
returns-then-packet-size c =
    no_room _ c.in_ok-checked.ensures (λ i. (c.type_inv.sheet i).fits) c.frame_size-size.ensures _ c.if-size-gt8192.false c.if-packet-size.true
    (refuses c.at-then-packet-size.ensures)

pub open-from-requires : goal.open-from-requires
open-from-requires c =
    opening _ c.in_ok-checked.ensures (λ i. (c.type_inv.sheet i).fits) c.frame_size-size.ensures _ c.if-size-gt8192.false c.if-packet-size.false

pub slice_bounds-item_packet-count : goal.slice_bounds-item_packet-count
slice_bounds-item_packet-count c = parts_begin _ c.in_ok-checked.ensures (λ i. (c.type_inv.sheet i).fits)

pub slice_bounds-item_packet-start : goal.slice_bounds-item_packet-start
slice_bounds-item_packet-start c = parts_begin _ c.in_ok-checked.ensures (λ i. (c.type_inv.sheet i).fits)

pub slice_bounds-item_packet-count-2 : goal.slice_bounds-item_packet-count-2
slice_bounds-item_packet-count-2 c =
    entries_from _ c.in_ok-checked.ensures (λ i. (c.type_inv.sheet i).fits) c.frame_size-size.ensures _ c.if-size-gt8192.false c.if-packet-size.false
    c.open-from.ensures

pub slice_bounds-item_packet-start-2 : goal.slice_bounds-item_packet-start-2
slice_bounds-item_packet-start-2 c =
    entries_from _ c.in_ok-checked.ensures (λ i. (c.type_inv.sheet i).fits) c.frame_size-size.ensures _ c.if-size-gt8192.false c.if-packet-size.false
    c.open-from.ensures

pub item_packet-wrote-requires : goal.item_packet-wrote-requires
item_packet-wrote-requires c = (
  _,
  entries_asked _ c.in_ok-checked.ensures (λ i. (c.type_inv.sheet i).fits) c.frame_size-size.ensures _ c.if-size-gt8192.false c.if-packet-size.false
      c.open-from.ensures,
)

pub overflow_add-from : goal.overflow_add-from
overflow_add-from c =
    omega (
      arith,
      entries_to _ c.in_ok-checked.ensures (λ i. (c.type_inv.sheet i).fits) c.frame_size-size.ensures _ c.if-size-gt8192.false c.if-packet-size.false
          c.open-from.ensures c.item_packet-wrote.ensures,
    )

pub close-requires : goal.close-requires
close-requires c =
    closing _ c.in_ok-checked.ensures (λ i. (c.type_inv.sheet i).fits) c.frame_size-size.ensures _ c.if-size-gt8192.false c.if-packet-size.false
    c.open-from.ensures c.item_packet-wrote.ensures

pub returns : goal.returns
returns c =
    closed_left _ c.in_ok-checked.ensures (λ i. (c.type_inv.sheet i).fits) c.frame_size-size.ensures _ c.if-size-gt8192.false c.if-packet-size.false
    c.open-from.ensures c.item_packet-wrote.ensures c.close.ensures
