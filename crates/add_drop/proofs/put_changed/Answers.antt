-- `add_drop::put_changed` meets its contract: each way out is a case of a packet that is written.
use Rattle.std.proofs.Common.{refl, arith}
use Rattle.answers.proofs.Results.{refuses}
use Rattle.answers.proofs.Entries.{sized_long, sized_short, opening, entries_from, entries_room, entries_to, closing, written}
use Rattle.add_drop.proofs.Writing.{packs_asked, size_asked, putting_asked, frame_asked, sized, roomy}
use Rattle.add_drop.proofs.put_changed.Goals as goal

pub packs_size-inner-requires : goal.packs_size-inner-requires
packs_size-inner-requires c = packs_asked c.requires

pub entries_size-body-requires : goal.entries_size-body-requires
entries_size-body-requires c = size_asked c.requires c.packs_size-inner.ensures

pub frame_size-total-requires : goal.frame_size-total-requires
frame_size-total-requires c = frame_asked c.requires c.packs_size-inner.ensures c.entries_size-body.ensures

pub returns-then-total-gt8192 : goal.returns-then-total-gt8192
returns-then-total-gt8192 c =
    sized_long (sized c.requires c.packs_size-inner.ensures c.entries_size-body.ensures c.frame_size-total.ensures) _ c.if-total-gt8192.true (refuses c.at.ensures)

pub returns-then-out-total : goal.returns-then-out-total
returns-then-out-total c =
    sized_short (sized c.requires c.packs_size-inner.ensures c.entries_size-body.ensures c.frame_size-total.ensures) _ c.if-total-gt8192.false c.if-out-total.true
    (refuses c.at-then-out-total.ensures)

-- ---- there is room

pub open-from-requires : goal.open-from-requires
open-from-requires c =
    opening (roomy c.requires c.packs_size-inner.ensures c.entries_size-body.ensures c.frame_size-total.ensures _ c.if-total-gt8192.false c.if-out-total.false)

pub slice_bounds-put_entries-count : goal.slice_bounds-put_entries-count
slice_bounds-put_entries-count c =
    entries_from (roomy c.requires c.packs_size-inner.ensures c.entries_size-body.ensures c.frame_size-total.ensures _ c.if-total-gt8192.false c.if-out-total.false)
    c.open-from.ensures

pub slice_bounds-put_entries-start : goal.slice_bounds-put_entries-start
slice_bounds-put_entries-start c =
    entries_from (roomy c.requires c.packs_size-inner.ensures c.entries_size-body.ensures c.frame_size-total.ensures _ c.if-total-gt8192.false c.if-out-total.false)
    c.open-from.ensures

pub put_entries-wrote-requires : goal.put_entries-wrote-requires
put_entries-wrote-requires c =
    let room = roomy c.requires c.packs_size-inner.ensures c.entries_size-body.ensures c.frame_size-total.ensures _ c.if-total-gt8192.false c.if-out-total.false in
    (_, putting_asked c.requires c.packs_size-inner.ensures, entries_room room c.open-from.ensures)

pub overflow_add-from : goal.overflow_add-from
overflow_add-from c =
    omega (
      arith,
      entries_to
          (roomy c.requires c.packs_size-inner.ensures c.entries_size-body.ensures c.frame_size-total.ensures _ c.if-total-gt8192.false c.if-out-total.false)
          c.open-from.ensures (c.put_entries-wrote.ensures _ (putting_asked c.requires c.packs_size-inner.ensures)),
    )

pub close-requires : goal.close-requires
close-requires c =
    let room = roomy c.requires c.packs_size-inner.ensures c.entries_size-body.ensures c.frame_size-total.ensures _ c.if-total-gt8192.false c.if-out-total.false in
    closing room c.open-from.ensures (c.put_entries-wrote.ensures _ (putting_asked c.requires c.packs_size-inner.ensures))

pub returns : goal.returns
returns c =
    let room = roomy c.requires c.packs_size-inner.ensures c.entries_size-body.ensures c.frame_size-total.ensures _ c.if-total-gt8192.false c.if-out-total.false in
    written room c.open-from.ensures (c.put_entries-wrote.ensures _ (putting_asked c.requires c.packs_size-inner.ensures)) c.close.ensures refl
