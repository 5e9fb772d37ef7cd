-- `edit::edit_at` meets its contract: each way out is a case of a packet that is written.
use mathlib.Core.Path.{refl}
use native.Mathlib.Omega.{arith}
use Rattle.items.specs.Meet.{form_of, level_of}
use Rattle.edit_rules.specs.Cuts.{low_of, cut_bytes}
use Rattle.answers.proofs.Entries.{Sized, sized_long, sized_short, Roomy, opening, entries_from, entries_room, entries_to, closing, written}
use Rattle.answers.proofs.Results.{refuses}
use Rattle.edit.proofs.Writing.{body_asked, cut_room, size_asked, frame_asked, sized}
use Rattle.edit.proofs.edit_at.Goals as goal
use Rattle.edit.proofs.edit_at.Goals.{After-frame_size-total, Else-out-total}

-- its size is known
sizes : (c : After-frame_size-total)
    → let i = c.args in Sized (form_of i.alone) (cut_bytes (level_of i.set) i.s.now i.k (low_of i.turned i.v.now i.w.now) (low_of i.turned i.w.now i.v.now)) c.edited_size-n.result c.frame_size-total.result
sizes c = sized c.requires.0 c.body_size-body.ensures c.edited_size-n.ensures (form_of c.args.alone) c.requires.1 c.frame_size-total.ensures

-- there is room
room : (c : Else-out-total)
    → let i = c.args in Roomy (form_of i.alone) (cut_bytes (level_of i.set) i.s.now i.k (low_of i.turned i.v.now i.w.now) (low_of i.turned i.w.now i.v.now)) c.edited_size-n.result c.frame_size-total.result i.out.now
room c = record {
  sizes = sized c.requires.0 c.body_size-body.ensures c.edited_size-n.ensures (form_of c.args.alone) c.requires.1 c.frame_size-total.ensures;
  small = c.if-total-gt-LIMIT.false;
  room = c.if-out-total.false;
}

pub body_size-body-requires : goal.body_size-body-requires
body_size-body-requires c = body_asked c.requires.0

pub edited_size-n-requires : goal.edited_size-n-requires
edited_size-n-requires c = size_asked c.requires.0 c.body_size-body.ensures

pub frame_size-total-requires : goal.frame_size-total-requires
frame_size-total-requires c = frame_asked c.requires.0 c.body_size-body.ensures c.edited_size-n.ensures

pub returns-then-total-gt-LIMIT : goal.returns-then-total-gt-LIMIT
returns-then-total-gt-LIMIT c = sized_long (sizes (goal.at.returns-then-total-gt-LIMIT c).After-frame_size-total) _ c.if-total-gt-LIMIT.true (refuses c.at.ensures)

pub returns-then-out-total : goal.returns-then-out-total
returns-then-out-total c =
    sized_short (sizes (goal.at.returns-then-out-total c).After-frame_size-total) _ c.if-total-gt-LIMIT.false c.if-out-total.true (refuses c.at-then-out-total.ensures)

pub open-from-requires : goal.open-from-requires
open-from-requires c = opening (room (goal.at.open-from-requires c).Else-out-total)

pub slice_bounds-put_edited-count : goal.slice_bounds-put_edited-count
slice_bounds-put_edited-count c = entries_from (room (goal.at.slice_bounds-put_edited-count c).Else-out-total) c.open-from.ensures

pub slice_bounds-put_edited-start : goal.slice_bounds-put_edited-start
slice_bounds-put_edited-start c = entries_from (room (goal.at.slice_bounds-put_edited-start c).Else-out-total) c.open-from.ensures

pub put_edited-size-requires : goal.put_edited-size-requires
put_edited-size-requires c =
    let fits = entries_room (room (goal.at.put_edited-size-requires c).Else-out-total) c.open-from.ensures in
    (c.requires.0, cut_room c.requires.0 fits, c.body_size-body.ensures)

pub overflow_add-from : goal.overflow_add-from
overflow_add-from c = omega (arith, entries_to (room (goal.at.overflow_add-from c).Else-out-total) c.open-from.ensures c.put_edited-size.ensures)

pub close-requires : goal.close-requires
close-requires c = closing (room (goal.at.close-requires c).Else-out-total) c.open-from.ensures c.put_edited-size.ensures

pub returns : goal.returns
returns c = written (room (goal.at.returns c).Else-out-total) c.open-from.ensures c.put_edited-size.ensures c.close.ensures refl
