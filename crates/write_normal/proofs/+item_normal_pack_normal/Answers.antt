-- `write_normal::item_normal` and `write_normal::pack_normal` meet their contracts: each turn stores what one entry or pack is in normal form.
use Rattle.std.proofs.Common.{◌+◌, ◌≤◌, length, arith}
use Rattle.tally.proofs.ItemTurns.{series_deep}
use Rattle.write_normal.proofs.Walks.{level_opens, level_closes, no_item, item_here, item_goes, front_here, packs_here, packs_go, packs_end}
use Rattle.write_normal.proofs.Walks.{series_opens, series_closes, no_pack, id_few, no_walk, sum_few, pack_here, front_over, copy_here, items_here, pack_goes, items_end}
use Rattle.write_normal.proofs.+item_normal_pack_normal.Goals as goal

pub item_normal-loop-p-init : goal.item_normal-loop-p-init
item_normal-loop-p-init t c = level_opens c.requires

pub item_normal-returns-in_default : goal.item_normal-returns-in_default
item_normal-returns-in_default t c = search no_item

pub item_normal-put_series-m-requires : goal.item_normal-put_series-m-requires
item_normal-put_series-m-requires t c = search front_here

pub item_normal-pack_normal-requires : goal.item_normal-pack_normal-requires
item_normal-pack_normal-requires t c = (omega (arith, series_deep c.args.set c.in-Ok.head.key c.is_series.ensures c.if-is_series.true, c.decreases), search packs_here)

pub item_normal-overflow_add-k : goal.item_normal-overflow_add-k
item_normal-overflow_add-k t c = let e : c.put_series-m.result + c.pack_normal.result ≤ length c.args.out.now = search packs_end in omega (arith, c.well_formed)

pub item_normal-put_normal-k-requires : goal.item_normal-put_normal-k-requires
item_normal-put_normal-k-requires t c = search item_here

pub item_normal-loop-p-preserved-then-is_series : goal.item_normal-loop-p-preserved-then-is_series
item_normal-loop-p-preserved-then-is_series t c = search packs_go

pub item_normal-loop-p-preserved : goal.item_normal-loop-p-preserved
item_normal-loop-p-preserved t c = search item_goes

pub item_normal-returns : goal.item_normal-returns
item_normal-returns t c = search level_closes

pub pack_normal-loop-p-init : goal.pack_normal-loop-p-init
pack_normal-loop-p-init t c = series_opens c.requires

pub pack_normal-returns-in_default : goal.pack_normal-returns-in_default
pack_normal-returns-in_default t c = search no_pack

pub pack_normal-returns-in_default-item_walk : goal.pack_normal-returns-in_default-item_walk
pack_normal-returns-in_default-item_walk t c = search no_walk

pub pack_normal-put_pack-m-requires : goal.pack_normal-put_pack-m-requires
pack_normal-put_pack-m-requires t c = search (sum_few, id_few, pack_here)

pub pack_normal-copy_all-k-requires : goal.pack_normal-copy_all-k-requires
pack_normal-copy_all-k-requires t c = search copy_here

pub pack_normal-slice_bounds-item_normal-count : goal.pack_normal-slice_bounds-item_normal-count
pack_normal-slice_bounds-item_normal-count t c = search front_over

pub pack_normal-slice_bounds-item_normal-start : goal.pack_normal-slice_bounds-item_normal-start
pack_normal-slice_bounds-item_normal-start t c = search front_over

pub pack_normal-item_normal-requires : goal.pack_normal-item_normal-requires
pack_normal-item_normal-requires t c = (omega (arith, c.decreases), search items_here)

pub pack_normal-overflow_add-k : goal.pack_normal-overflow_add-k
pack_normal-overflow_add-k t c = let e : c.put_pack-m.result + c.item_normal.result ≤ length c.args.out.now = search items_end in omega (arith, c.well_formed)

pub pack_normal-loop-p-preserved : goal.pack_normal-loop-p-preserved
pack_normal-loop-p-preserved t c = search pack_goes

pub pack_normal-returns : goal.pack_normal-returns
pack_normal-returns t c = search series_closes
