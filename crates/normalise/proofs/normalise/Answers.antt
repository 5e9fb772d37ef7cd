-- `normalise::normalise` meets its contract: each way out is a case of what is left behind.
use Rattle.std.proofs.Common.{refl, arith}
use Rattle.answers.proofs.Results.{refuses, passed_on}
use Rattle.normalise.proofs.Normalising.{normal_refused, size_asked, set_begins, no_room, copied_left, opening, entries_from, entries_asked, entries_to, closing, closed_left}
use Rattle.normalise.proofs.normalise.Goals as goal

pub returns-in_err-checked : goal.returns-in_err-checked
returns-in_err-checked c = normal_refused _ _ c.in_err-checked.ensures _ refl (passed_on _ _ c.from_residual.ensures)

pub frame_size-size-requires : goal.frame_size-size-requires
frame_size-size-requires c = size_asked _ _ c.in_ok-checked.ensures (λ i. (c.type_inv.packet i).fits)

pub returns-then-out-size : goal.returns-then-out-size
returns-then-out-size c =
    no_room _ _ c.in_ok-checked.ensures (λ i. (c.type_inv.packet i).fits) c.frame_size-size.ensures _ c.if-out-size.true (refuses c.at.ensures)

pub copy_all-requires : goal.copy_all-requires
copy_all-requires c = omega (arith, c.if-out-size.false, c.if-size-packet.true)

pub returns-then-size-packet : goal.returns-then-size-packet
returns-then-size-packet c =
    copied_left _ _ c.in_ok-checked.ensures (λ i. (c.type_inv.packet i).fits) c.frame_size-size.ensures _ c.if-out-size.false c.if-size-packet.true
    c.copy_all.ensures.1

pub open-from-requires : goal.open-from-requires
open-from-requires c =
    opening _ _ c.in_ok-checked.ensures (λ i. (c.type_inv.packet i).fits) c.frame_size-size.ensures _ c.if-out-size.false

pub slice_bounds-item_normal-count : goal.slice_bounds-item_normal-count
slice_bounds-item_normal-count c = set_begins _ _ c.in_ok-checked.ensures (λ i. (c.type_inv.packet i).fits)

pub slice_bounds-item_normal-start : goal.slice_bounds-item_normal-start
slice_bounds-item_normal-start c = set_begins _ _ c.in_ok-checked.ensures (λ i. (c.type_inv.packet i).fits)

pub slice_bounds-item_normal-count-2 : goal.slice_bounds-item_normal-count-2
slice_bounds-item_normal-count-2 c =
    entries_from _ _ c.in_ok-checked.ensures (λ i. (c.type_inv.packet i).fits) c.frame_size-size.ensures _ c.if-out-size.false c.open-from.ensures

pub slice_bounds-item_normal-start-2 : goal.slice_bounds-item_normal-start-2
slice_bounds-item_normal-start-2 c =
    entries_from _ _ c.in_ok-checked.ensures (λ i. (c.type_inv.packet i).fits) c.frame_size-size.ensures _ c.if-out-size.false c.open-from.ensures

pub item_normal-wrote-requires : goal.item_normal-wrote-requires
item_normal-wrote-requires c =
    entries_asked _ _ c.in_ok-checked.ensures (λ i. (c.type_inv.packet i).fits) c.frame_size-size.ensures _ c.if-out-size.false c.open-from.ensures

pub overflow_add-from : goal.overflow_add-from
overflow_add-from c =
    omega (
      arith,
      entries_to _ _ c.in_ok-checked.ensures (λ i. (c.type_inv.packet i).fits) c.frame_size-size.ensures _ c.if-out-size.false c.open-from.ensures
          c.item_normal-wrote.ensures,
    )

pub close-requires : goal.close-requires
close-requires c =
    closing _ _ c.in_ok-checked.ensures (λ i. (c.type_inv.packet i).fits) c.frame_size-size.ensures _ c.if-out-size.false c.open-from.ensures
    c.item_normal-wrote.ensures

pub returns : goal.returns
returns c =
    closed_left _ _ c.in_ok-checked.ensures (λ i. (c.type_inv.packet i).fits) c.frame_size-size.ensures _ c.if-out-size.false c.open-from.ensures
    c.item_normal-wrote.ensures c.close.ensures
