-- `write_rows::item_rows` and `write_rows::pack_rows` meet their contracts: each turn stores what one entry or one pack adds to the rows.
use Rattle.std.proofs.Common.{◌+◌, ◌≤◌, length, arith}
use Rattle.write_rows.proofs.LevelTurns.{level_ends, no_item, packs_here, packs_end}
use Rattle.write_rows.proofs.SeriesTurns.{series_ends, no_pack, items_here, items_over}
use Rattle.write_rows.proofs.+item_rows_pack_rows.Goals as goal

pub item_rows-returns-in_default : goal.item_rows-returns-in_default
item_rows-returns-in_default t c = search no_item

pub item_rows-pack_rows-requires : goal.item_rows-pack_rows-requires
item_rows-pack_rows-requires t c = packs_here c.loop-p.invariant c.loop-p-test.true _ c.item_head.ensures _ c.in-Ok.is c.type_inv.s _ c.is_series.ensures _ _ c.put_row-m.ensures c.if-is_series.true t c.decreases

pub item_rows-overflow_add-k : goal.item_rows-overflow_add-k
item_rows-overflow_add-k t c = let e : c.put_row-m.result + c.pack_rows.result ≤ length c.args.out.now = search packs_end in omega (arith, c.well_formed)

pub item_rows-returns : goal.item_rows-returns
item_rows-returns t c = search level_ends

pub pack_rows-returns-in_default : goal.pack_rows-returns-in_default
pack_rows-returns-in_default t c = search no_pack

pub pack_rows-item_rows-requires : goal.pack_rows-item_rows-requires
pack_rows-item_rows-requires t c = items_here c.loop-p.invariant c.loop-p-test.true _ c.quick_pack_head.ensures _ c.in-Ok.is c.type_inv.s _ _ c.put_row-m.ensures t c.decreases

pub pack_rows-overflow_add-k : goal.pack_rows-overflow_add-k
pack_rows-overflow_add-k t c = let e : c.put_row-m.result + c.item_rows.result ≤ length c.args.out.now = search items_over in omega (arith, c.well_formed)

pub pack_rows-returns : goal.pack_rows-returns
pack_rows-returns t c = search series_ends
