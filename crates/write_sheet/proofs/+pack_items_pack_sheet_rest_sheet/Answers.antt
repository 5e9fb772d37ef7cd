-- `write_sheet::rest_sheet`, `write_sheet::pack_items` and `write_sheet::pack_sheet` meet their contracts: each turn stores what one entry or pack writes.
use Rattle.std.proofs.Common.{◌+◌, ◌≤◌, length, arith}
use Rattle.write_sheet.proofs.Turns.{items_over, rest_left, rest_ends, no_item, plain_here, mark_here, mark_end, packs_here, packs_end, packs_done, no_pack, items_here, items_end, pack_goes}
use Rattle.write_sheet.proofs.+pack_items_pack_sheet_rest_sheet.Goals as goal

pub pack_items-returns-then-s-p : goal.pack_items-returns-then-s-p
pack_items-returns-then-s-p t c = items_over c.small_items-q.ensures c.if-s-p.true

pub pack_items-returns : goal.pack_items-returns
pack_items-returns t c = rest_left c.small_items-q.ensures c.rest_sheet.ensures

-- ---- the item walk
pub rest_sheet-returns-in_default : goal.rest_sheet-returns-in_default
rest_sheet-returns-in_default t c = search no_item

pub rest_sheet-put_number-m-requires : goal.rest_sheet-put_number-m-requires
rest_sheet-put_number-m-requires t c = search mark_here

pub rest_sheet-slice_bounds-pack_sheet-count-then-is_series : goal.rest_sheet-slice_bounds-pack_sheet-count-then-is_series
rest_sheet-slice_bounds-pack_sheet-count-then-is_series t c = search mark_end

pub rest_sheet-slice_bounds-pack_sheet-start-then-is_series : goal.rest_sheet-slice_bounds-pack_sheet-start-then-is_series
rest_sheet-slice_bounds-pack_sheet-start-then-is_series t c = search mark_end

pub rest_sheet-pack_sheet-requires : goal.rest_sheet-pack_sheet-requires
rest_sheet-pack_sheet-requires t c =
    packs_here c.loop-p.invariant c.loop-p-test.true _ c.item_head.ensures _ c.in-Ok.is c.type_inv.s _ c.is_series.ensures c.if-is_series.true _ _ c.put_number-m.ensures t c.decreases

pub rest_sheet-overflow_add-k : goal.rest_sheet-overflow_add-k
rest_sheet-overflow_add-k t c = let e : c.put_number-m.result + c.pack_sheet.result ≤ length c.args.out.now = search packs_end in omega (arith, c.well_formed)

pub rest_sheet-put_plain-k-requires : goal.rest_sheet-put_plain-k-requires
rest_sheet-put_plain-k-requires t c =
    plain_here c.loop-p.invariant c.loop-p-test.true _ c.item_head.ensures _ c.in-Ok.is c.type_inv.s _ c.is_series.ensures c.if-is_series.false

pub rest_sheet-returns : goal.rest_sheet-returns
rest_sheet-returns t c = search rest_ends

-- ---- the pack walk
pub pack_sheet-returns-in_default : goal.pack_sheet-returns-in_default
pack_sheet-returns-in_default t c = search no_pack

pub pack_sheet-pack_items-requires : goal.pack_sheet-pack_items-requires
pack_sheet-pack_items-requires t c = (omega (arith, c.decreases), items_here c.loop-p.invariant c.loop-p-test.true _ c.in-Ok.ensures c.type_inv.s _ _ c.put_target-m.ensures)

pub pack_sheet-overflow_add-k : goal.pack_sheet-overflow_add-k
pack_sheet-overflow_add-k t c =
    let e = items_end c.loop-p.invariant c.loop-p-test.true _ c.in-Ok.ensures c.type_inv.s _ _ c.put_target-m.ensures _ _ c.pack_items.ensures in
    omega (arith, c.well_formed)

pub pack_sheet-loop-p-preserved : goal.pack_sheet-loop-p-preserved
pack_sheet-loop-p-preserved t c = pack_goes c.loop-p.invariant c.loop-p-test.true _ c.in-Ok.ensures c.type_inv.s _ _ c.put_target-m.ensures _ _ c.pack_items.ensures

pub pack_sheet-returns : goal.pack_sheet-returns
pack_sheet-returns t c = search packs_done
