-- `write_sheet::quick::small_items` meets its contract: each turn is a turn of the item walk.
use Rattle.std.proofs.Common.{arith}
use Rattle.write_sheet.proofs.Smalls.{small_spans, small_room}
use Rattle.write_sheet.proofs.quick.small_items.Goals as goal

pub slice_bounds-put_item-end : goal.slice_bounds-put_item-end
slice_bounds-put_item-end c = omega (arith, small_spans c.loop-n.invariant c.in-Some.ensures c.type_inv.s)

pub put_item-k-requires : goal.put_item-k-requires
put_item-k-requires c = small_room c.loop-n.invariant c.in-Some.ensures c.type_inv.s _ c.wide-tag.ensures.0
