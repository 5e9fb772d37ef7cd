-- `check_items::item_rest` and `check_items::pack_walk` meet their contracts: each turn moves one item or pack from what is to come to what was walked.
use Rattle.std.proofs.Common.{sym, refl, ap, ◌∙◌, arith}
use Rattle.coding.specs.declared.refusals.Fault.{Fault}
use Rattle.coding.specs.Refusals.{number}
use Rattle.heads.specs.Meet.{pack_head_of}
use Rattle.heads.proofs.Before.{pack_key}
use Rattle.repeats.proofs.Clears.{clear_none}
use Rattle.tally.specs.Pieces.{Bad}
use Rattle.tally.specs.Meet.{plus_sizes, pieced, walk_of, unended}
use Rattle.tally.proofs.Turns.{turn_done}
use Rattle.tally.proofs.Tried.{walked_err, placed_so, placed_says, later_so, later_says, short_walked, unended_not}
use Rattle.tally.proofs.ItemTurns.{EntryTold, item_fault, series_deep, series_within, series_told, item_told, entry_bad, good_small, entry_more}
use Rattle.tally.proofs.ItemTurns.{piece_stood, piece_room, value_long}
use Rattle.tally.proofs.PackTurns.{lent_long, head_fault, head_stood, head_room, id_again, items_within, items_fault, items_small, pack_small, not_ended, pack_more}
use Rattle.check_items.proofs.Turns.{item_here, pack_here, short_told}
use Rattle.check_items.proofs.+item_rest_pack_walk.Goals as goal
use Rattle.check_items.proofs.+item_rest_pack_walk.Goals.{item_rest-then-is_series+in_ok-item, item_rest-else-is_series}

-- ---- the item walk

pub item_rest-loop-p-init : goal.item_rest-loop-p-init
item_rest-loop-p-init t c = (c.onward-q.ensures, clear_none _ _)

pub item_rest-item_at-requires : goal.item_rest-item_at-requires
item_rest-item_at-requires t c = (omega (arith, c.loop-p-test.true), c.loop-p.invariant.1)

pub item_rest-returns-in_err-piece : goal.item_rest-returns-in_err-piece
item_rest-returns-in_err-piece t c =
    let (_, a, e) = placed_says _ _ c.placed.ensures c.in_err-piece.was (walked_err _ _ c.from_residual.ensures) in
    item_fault _ _ c.loop-p.invariant.0 c.loop-p-test.true c.item_at.ensures (ap pieced a) e

pub item_rest-overflow_add-at : goal.item_rest-overflow_add-at
item_rest-overflow_add-at t c =
    let i = item_here c.loop-p.invariant.0 c.loop-p-test.true _ c.item_at.ensures c.placed.ensures c.in_ok-piece.was (λ i. (c.type_inv.s i).fits) c.requires.0 in
    omega (arith, piece_room i, c.requires.0)

pub item_rest-overflow_add-next : goal.item_rest-overflow_add-next
item_rest-overflow_add-next t c =
    let i = item_here c.loop-p.invariant.0 c.loop-p-test.true _ c.item_at.ensures c.placed.ensures c.in_ok-piece.was (λ i. (c.type_inv.s i).fits) c.requires.0 in
    omega (arith, piece_room i, c.requires.0)

pub item_rest-slice_bounds-packs-count : goal.item_rest-slice_bounds-packs-count
item_rest-slice_bounds-packs-count t c =
    let i = item_here c.loop-p.invariant.0 c.loop-p-test.true _ c.item_at.ensures c.placed.ensures c.in_ok-piece.was (λ i. (c.type_inv.s i).fits) c.requires.0 in
    omega (arith, piece_room i, c.requires.0)

pub item_rest-slice_bounds-packs-start : goal.item_rest-slice_bounds-packs-start
item_rest-slice_bounds-packs-start t c =
    let i = item_here c.loop-p.invariant.0 c.loop-p-test.true _ c.item_at.ensures c.placed.ensures c.in_ok-piece.was (λ i. (c.type_inv.s i).fits) c.requires.0 in
    omega (arith, piece_room i, c.requires.0)

pub item_rest-slice_bounds-packs-end : goal.item_rest-slice_bounds-packs-end
item_rest-slice_bounds-packs-end t c =
    let i = item_here c.loop-p.invariant.0 c.loop-p-test.true _ c.item_at.ensures c.placed.ensures c.in_ok-piece.was (λ i. (c.type_inv.s i).fits) c.requires.0 in
    omega (arith, piece_room i, c.requires.0)

pub item_rest-packs-told-requires : goal.item_rest-packs-told-requires
item_rest-packs-told-requires t c =
    let i = item_here c.loop-p.invariant.0 c.loop-p-test.true _ c.item_at.ensures c.placed.ensures c.in_ok-piece.was (λ i. (c.type_inv.s i).fits) c.requires.0 in
    omega (arith, value_long i, piece_room i, c.requires.0)

pub item_rest-pack_walk-series-requires : goal.item_rest-pack_walk-series-requires
item_rest-pack_walk-series-requires t c =
    let i = item_here c.loop-p.invariant.0 c.loop-p-test.true _ c.item_at.ensures c.placed.ensures c.in_ok-piece.was (λ i. (c.type_inv.s i).fits) c.requires.0 in
    let deep = series_deep c.args.set _ c.is_series.ensures c.if-is_series.true in
    (omega (arith, deep, c.decreases), (omega (arith, value_long i, piece_room i, c.requires.0), c.packs-told.ensures))

pub item_rest-series_of-requires : goal.item_rest-series_of-requires
item_rest-series_of-requires t c =
    series_within (item_here c.loop-p.invariant.0 c.loop-p-test.true _ c.item_at.ensures c.placed.ensures c.in_ok-piece.was (λ i. (c.type_inv.s i).fits) c.requires.0) _ c.pack_walk-series.ensures.1

pub item_rest-later-requires : goal.item_rest-later-requires
item_rest-later-requires t c =
    let i = item_here c.loop-p.invariant.0 c.loop-p-test.true _ c.item_at.ensures c.placed.ensures c.in_ok-piece.was (λ i. (c.type_inv.s i).fits) c.requires.0 in
    short_told i _ (series_told i c.is_series.ensures c.if-is_series.true c.pack_walk-series.ensures c.series_of.ensures)

pub item_rest-returns-in_err-item : goal.item_rest-returns-in_err-item
item_rest-returns-in_err-item t c =
    let i = item_here c.loop-p.invariant.0 c.loop-p-test.true _ c.item_at.ensures c.placed.ensures c.in_ok-piece.was (λ i. (c.type_inv.s i).fits) c.requires.0 in
    let (_, _, bad, e) = later_says _ _ c.later.ensures c.in_err-item.was (walked_err _ _ c.from_residual-in_err-item.ensures) in
    entry_bad i (series_told i c.is_series.ensures c.if-is_series.true c.pack_walk-series.ensures c.series_of.ensures) bad e

pub item_rest-one_item-item-requires : goal.item_rest-one_item-item-requires
item_rest-one_item-item-requires t c =
    let i = item_here c.loop-p.invariant.0 c.loop-p-test.true _ c.item_at.ensures c.placed.ensures c.in_ok-piece.was (λ i. (c.type_inv.s i).fits) c.requires.0 in
    let k = piece_stood i in
    (k.tag_small, omega (arith, k.short_less, piece_room i, c.requires.0))

pub item_rest-plus-sum-requires : goal.item_rest-plus-sum-requires
item_rest-plus-sum-requires t c =
    let i = item_here c.loop-p.invariant.0 c.loop-p-test.true _ c.item_at.ensures c.placed.ensures c.in_ok-piece.was (λ i. (c.type_inv.s i).fits) c.requires.0 in
    let told : EntryTold i (walk_of c.if-is_series.item) = elim c.if-is_series.branch [
      | item_rest-then-is_series+in_ok-item x ↦ series_told i c.is_series.ensures x.if-is_series.true x.pack_walk-series.ensures (ap walk_of x.item-is ∙ sym (later_so _ _ x.later.ensures x.in_ok-item.was) ∙ x.series_of.ensures)
      | item_rest-else-is_series x ↦ item_told i c.is_series.ensures x.if-is_series.false (ap walk_of x.item-is ∙ x.one_item-item.ensures)
    ] in
    good_small i told refl

pub item_rest-after-clear-requires : goal.item_rest-after-clear-requires
item_rest-after-clear-requires t c = c.loop-p.invariant.1

pub item_rest-loop-p-smaller : goal.item_rest-loop-p-smaller
item_rest-loop-p-smaller t c =
    let i = item_here c.loop-p.invariant.0 c.loop-p-test.true _ c.item_at.ensures c.placed.ensures c.in_ok-piece.was (λ i. (c.type_inv.s i).fits) c.requires.0 in
    omega (arith, (piece_stood i).some, c.loop-p-test.true)

pub item_rest-loop-p-preserved : goal.item_rest-loop-p-preserved
item_rest-loop-p-preserved t c =
    let i = item_here c.loop-p.invariant.0 c.loop-p-test.true _ c.item_at.ensures c.placed.ensures c.in_ok-piece.was (λ i. (c.type_inv.s i).fits) c.requires.0 in
    let told : EntryTold i (walk_of c.if-is_series.item) = elim c.if-is_series.branch [
      | item_rest-then-is_series+in_ok-item x ↦ series_told i c.is_series.ensures x.if-is_series.true x.pack_walk-series.ensures (ap walk_of x.item-is ∙ sym (later_so _ _ x.later.ensures x.in_ok-item.was) ∙ x.series_of.ensures)
      | item_rest-else-is_series x ↦ item_told i c.is_series.ensures x.if-is_series.false (ap walk_of x.item-is ∙ x.one_item-item.ensures)
    ] in
    (entry_more i told refl c.plus-sum.ensures refl c.larger-top.ensures.over c.smaller-low.ensures, c.after-clear.ensures)

pub item_rest-returns : goal.item_rest-returns
item_rest-returns t c = turn_done c.loop-p.invariant.0 c.loop-p-test.false

-- ---- the pack walk

pub pack_walk-loop-p-init : goal.pack_walk-loop-p-init
pack_walk-loop-p-init t c = (c.packs-q.ensures, clear_none _ _)

pub pack_walk-returns-in_err-head : goal.pack_walk-returns-in_err-head
pack_walk-returns-in_err-head t c =
    let (_, a, e) = placed_says _ _ c.placed.ensures c.in_err-head.was (walked_err _ _ c.from_residual.ensures) in
    head_fault _ c.loop-p.invariant.0 c.loop-p-test.true _ c.quick_pack_head.ensures a e

pub pack_walk-is_seen-requires : goal.pack_walk-is_seen-requires
pack_walk-is_seen-requires t c =
    (c.loop-p.invariant.0.to, c.loop-p.invariant.1, pack_key _ c.args.s.now c.loop-p.p _ (sym (ap pack_head_of (placed_so _ _ c.placed.ensures c.in_ok-head.was)) ∙ c.quick_pack_head.ensures))

pub pack_walk-returns-then-is_seen : goal.pack_walk-returns-then-is_seen
pack_walk-returns-then-is_seen t c =
    id_again (pack_here c.loop-p.invariant.0 c.loop-p-test.true _ c.quick_pack_head.ensures c.placed.ensures c.in_ok-head.was (λ i. (c.type_inv.s i).fits) c.requires.0) c.is_seen.ensures c.if-is_seen.true (ap (λ (d : Fault). Bad (number d.refusal) d.place) c.at.ensures)

pub pack_walk-overflow_add-from : goal.pack_walk-overflow_add-from
pack_walk-overflow_add-from t c =
    let i = pack_here c.loop-p.invariant.0 c.loop-p-test.true _ c.quick_pack_head.ensures c.placed.ensures c.in_ok-head.was (λ i. (c.type_inv.s i).fits) c.requires.0 in
    omega (arith, head_room i, (head_stood i).body, c.requires.0)

pub pack_walk-overflow_add-from-in-loop-p : goal.pack_walk-overflow_add-from-in-loop-p
pack_walk-overflow_add-from-in-loop-p t c =
    let i = pack_here c.loop-p.invariant.0 c.loop-p-test.true _ c.quick_pack_head.ensures c.placed.ensures c.in_ok-head.was (λ i. (c.type_inv.s i).fits) c.requires.0 in
    omega (arith, head_room i, (head_stood i).body, c.requires.0)

pub pack_walk-overflow_add-next : goal.pack_walk-overflow_add-next
pack_walk-overflow_add-next t c =
    let i = pack_here c.loop-p.invariant.0 c.loop-p-test.true _ c.quick_pack_head.ensures c.placed.ensures c.in_ok-head.was (λ i. (c.type_inv.s i).fits) c.requires.0 in
    omega (arith, head_room i, (head_stood i).body, c.requires.0)

pub pack_walk-overflow_add-next-in-loop-p : goal.pack_walk-overflow_add-next-in-loop-p
pack_walk-overflow_add-next-in-loop-p t c =
    let i = pack_here c.loop-p.invariant.0 c.loop-p-test.true _ c.quick_pack_head.ensures c.placed.ensures c.in_ok-head.was (λ i. (c.type_inv.s i).fits) c.requires.0 in
    omega (arith, head_room i, (head_stood i).body, c.requires.0)

pub pack_walk-slice_bounds-items-count : goal.pack_walk-slice_bounds-items-count
pack_walk-slice_bounds-items-count t c =
    let i = pack_here c.loop-p.invariant.0 c.loop-p-test.true _ c.quick_pack_head.ensures c.placed.ensures c.in_ok-head.was (λ i. (c.type_inv.s i).fits) c.requires.0 in
    omega (arith, head_room i, (head_stood i).body, c.requires.0)

pub pack_walk-slice_bounds-items-start : goal.pack_walk-slice_bounds-items-start
pack_walk-slice_bounds-items-start t c =
    let i = pack_here c.loop-p.invariant.0 c.loop-p-test.true _ c.quick_pack_head.ensures c.placed.ensures c.in_ok-head.was (λ i. (c.type_inv.s i).fits) c.requires.0 in
    omega (arith, head_room i, (head_stood i).body, c.requires.0)

pub pack_walk-slice_bounds-items-end : goal.pack_walk-slice_bounds-items-end
pack_walk-slice_bounds-items-end t c =
    let i = pack_here c.loop-p.invariant.0 c.loop-p-test.true _ c.quick_pack_head.ensures c.placed.ensures c.in_ok-head.was (λ i. (c.type_inv.s i).fits) c.requires.0 in
    omega (arith, head_room i, (head_stood i).body, c.requires.0)

pub pack_walk-glance_items-told-requires : goal.pack_walk-glance_items-told-requires
pack_walk-glance_items-told-requires t c =
    let i = pack_here c.loop-p.invariant.0 c.loop-p-test.true _ c.quick_pack_head.ensures c.placed.ensures c.in_ok-head.was (λ i. (c.type_inv.s i).fits) c.requires.0 in
    omega (arith, lent_long i c.is_seen.ensures c.if-is_seen.false, head_room i, c.requires.0)

pub pack_walk-item_rest-requires : goal.pack_walk-item_rest-requires
pack_walk-item_rest-requires t c =
    let i = pack_here c.loop-p.invariant.0 c.loop-p-test.true _ c.quick_pack_head.ensures c.placed.ensures c.in_ok-head.was (λ i. (c.type_inv.s i).fits) c.requires.0 in
    (omega (arith, c.decreases), (omega (arith, lent_long i c.is_seen.ensures c.if-is_seen.false, head_room i, c.requires.0), c.glance_items-told.ensures.0))

pub pack_walk-later-requires : goal.pack_walk-later-requires
pack_walk-later-requires t c =
    let i = pack_here c.loop-p.invariant.0 c.loop-p-test.true _ c.quick_pack_head.ensures c.placed.ensures c.in_ok-head.was (λ i. (c.type_inv.s i).fits) c.requires.0 in
    let w = items_within i c.is_seen.ensures c.if-is_seen.false c.item_rest.ensures in
    short_walked _ 65536 _ w.0 (omega arith) w.1

pub pack_walk-returns-in_err-pack : goal.pack_walk-returns-in_err-pack
pack_walk-returns-in_err-pack t c =
    let i = pack_here c.loop-p.invariant.0 c.loop-p-test.true _ c.quick_pack_head.ensures c.placed.ensures c.in_ok-head.was (λ i. (c.type_inv.s i).fits) c.requires.0 in
    let (_, _, bad, e) = later_says _ _ c.later.ensures c.in_err-pack.was (walked_err _ _ c.from_residual-in_err-pack.ensures) in
    items_fault i c.is_seen.ensures c.if-is_seen.false c.item_rest.ensures bad e

pub pack_walk-returns-in_err-placed : goal.pack_walk-returns-in_err-placed
pack_walk-returns-in_err-placed t c =
    let i = pack_here c.loop-p.invariant.0 c.loop-p-test.true _ c.quick_pack_head.ensures c.placed.ensures c.in_ok-head.was (λ i. (c.type_inv.s i).fits) c.requires.0 in
    let (_, a, e) = placed_says _ _ c.placed-in-loop-p.ensures c.in_err-placed.was (walked_err _ _ c.from_residual-in_err-placed.ensures) in
    let (says, not) = unended_not a in
    not_ended i c.is_seen.ensures c.if-is_seen.false c.item_rest.ensures (later_so _ _ c.later.ensures c.in_ok-pack.was) c.ended_of.ensures not (e ∙ ap (λ n. Bad n c.loop-p.p) (sym says))

pub pack_walk-pack_sizes-requires : goal.pack_walk-pack_sizes-requires
pack_walk-pack_sizes-requires t c =
    let i = pack_here c.loop-p.invariant.0 c.loop-p-test.true _ c.quick_pack_head.ensures c.placed.ensures c.in_ok-head.was (λ i. (c.type_inv.s i).fits) c.requires.0 in
    ((head_stood i).id_few, items_small i c.is_seen.ensures c.if-is_seen.false c.item_rest.ensures (later_so _ _ c.later.ensures c.in_ok-pack.was))

pub pack_walk-plus-sum-requires : goal.pack_walk-plus-sum-requires
pack_walk-plus-sum-requires t c =
    let i = pack_here c.loop-p.invariant.0 c.loop-p-test.true _ c.quick_pack_head.ensures c.placed.ensures c.in_ok-head.was (λ i. (c.type_inv.s i).fits) c.requires.0 in
    pack_small i c.is_seen.ensures c.if-is_seen.false c.item_rest.ensures (later_so _ _ c.later.ensures c.in_ok-pack.was) c.pack_sizes.ensures

pub pack_walk-after-clear-requires : goal.pack_walk-after-clear-requires
pack_walk-after-clear-requires t c = c.loop-p.invariant.1

pub pack_walk-loop-p-smaller : goal.pack_walk-loop-p-smaller
pack_walk-loop-p-smaller t c =
    let i = pack_here c.loop-p.invariant.0 c.loop-p-test.true _ c.quick_pack_head.ensures c.placed.ensures c.in_ok-head.was (λ i. (c.type_inv.s i).fits) c.requires.0 in
    omega (arith, (head_stood i).len, c.loop-p-test.true)

pub pack_walk-loop-p-preserved : goal.pack_walk-loop-p-preserved
pack_walk-loop-p-preserved t c =
    let i = pack_here c.loop-p.invariant.0 c.loop-p-test.true _ c.quick_pack_head.ensures c.placed.ensures c.in_ok-head.was (λ i. (c.type_inv.s i).fits) c.requires.0 in
    let ended = ap unended (placed_so _ _ c.placed-in-loop-p.ensures c.in_ok-placed.was) in
    let sums = c.plus-sum.ensures ∙ ap (plus_sizes _) c.pack_sizes.ensures in
    (pack_more i c.is_seen.ensures c.if-is_seen.false c.item_rest.ensures (later_so _ _ c.later.ensures c.in_ok-pack.was) c.ended_of.ensures ended sums c.larger-top.ensures.over c.smaller-low.ensures, c.after-clear.ensures)

pub pack_walk-returns : goal.pack_walk-returns
pack_walk-returns t c = turn_done c.loop-p.invariant.0 c.loop-p-test.false
