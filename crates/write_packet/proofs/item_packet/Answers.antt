-- `write_packet::item_packet` meets its contract: each turn stores what one part is in the packet.
use Rattle.std.proofs.Common.{arith}
use Rattle.write_packet.proofs.Turns.{records_end, part_asked, front_here, front_end, targets_here, series_end}
use Rattle.write_packet.proofs.item_packet.Goals as goal

-- ---- the series
pub put_series-m-requires : goal.put_series-m-requires
put_series-m-requires c = front_here c.loop-p.invariant c.loop-p-test.true c.is_mark.ensures c.if-is_mark.true

pub slice_bounds-target_packet-count-then-is_mark : goal.slice_bounds-target_packet-count-then-is_mark
slice_bounds-target_packet-count-then-is_mark c = search front_end

pub slice_bounds-target_packet-start-then-is_mark : goal.slice_bounds-target_packet-start-then-is_mark
slice_bounds-target_packet-start-then-is_mark c = search front_end

pub target_packet-d-requires : goal.target_packet-d-requires
target_packet-d-requires c = targets_here c.loop-p.invariant c.loop-p-test.true c.is_mark.ensures c.if-is_mark.true c.put_series-m.ensures

pub overflow_add-p-then-is_mark-2 : goal.overflow_add-p-then-is_mark-2
overflow_add-p-then-is_mark-2 c =
    let e = series_end c.loop-p.invariant c.loop-p-test.true c.is_mark.ensures c.if-is_mark.true c.put_series-m.ensures c.target_packet-d.ensures c.type_inv.s in
    omega (arith, c.requires.1.0)

pub overflow_add-k : goal.overflow_add-k
overflow_add-k c =
    let e = series_end c.loop-p.invariant c.loop-p-test.true c.is_mark.ensures c.if-is_mark.true c.put_series-m.ensures c.target_packet-d.ensures c.type_inv.s in
    omega arith

-- ---- an item
pub put_short-k-requires : goal.put_short-k-requires
put_short-k-requires c = part_asked c.loop-p.invariant c.loop-p-test.true c.is_mark.ensures c.if-is_mark.false c.two_at-tag.ensures c.two_at-n.ensures

pub returns : goal.returns
returns c = search records_end
