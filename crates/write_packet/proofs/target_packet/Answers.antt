-- `write_packet::target_packet` meets its contract: each turn stores what one target is in the packet.
use Rattle.std.proofs.Common.{arith}
use Rattle.write_packet.proofs.TargetTurns.{targets_begin, targets_end, id_few, vals_behind, vals_here, vals_end, move_here, pack_here, pack_ends}
use Rattle.write_packet.proofs.target_packet.Goals as goal

pub loop-id-init : goal.loop-id-init
loop-id-init c = targets_begin _ c.requires.1 c.type_inv.s

pub oid_width-w-requires : goal.oid_width-w-requires
oid_width-w-requires c = id_few c.loop-id.invariant c.is_mark.ensures c.loop-id-test.true c.type_inv.s c.number_of-id.ensures

pub slice_bounds-put_vals-count-in-loop-id : goal.slice_bounds-put_vals-count-in-loop-id
slice_bounds-put_vals-count-in-loop-id c = search vals_behind

pub slice_bounds-put_vals-start-in-loop-id : goal.slice_bounds-put_vals-start-in-loop-id
slice_bounds-put_vals-start-in-loop-id c = search vals_behind

pub put_vals-d-requires : goal.put_vals-d-requires
put_vals-d-requires c = vals_here c.loop-id.invariant c.is_mark.ensures c.loop-id-test.true c.type_inv.s c.number_of-id.ensures c.oid_width-w.ensures

pub overflow_add-next : goal.overflow_add-next
overflow_add-next c =
    let e = vals_end c.loop-id.invariant c.is_mark.ensures c.loop-id-test.true c.type_inv.s c.number_of-id.ensures c.oid_width-w.ensures c.put_vals-d.ensures in
    omega (arith, c.requires.1.0)

pub overflow_add-body : goal.overflow_add-body
overflow_add-body c =
    let e = vals_end c.loop-id.invariant c.is_mark.ensures c.loop-id-test.true c.type_inv.s c.number_of-id.ensures c.oid_width-w.ensures c.put_vals-d.ensures in
    omega arith

pub move_on-requires : goal.move_on-requires
move_on-requires c = search move_here

pub put_pack-m-requires : goal.put_pack-m-requires
put_pack-m-requires c =
    pack_here c.loop-id.invariant c.is_mark.ensures c.loop-id-test.true c.type_inv.s c.number_of-id.ensures c.oid_width-w.ensures c.put_vals-d.ensures c.move_on.ensures

pub overflow_add-k : goal.overflow_add-k
overflow_add-k c =
    let e = pack_ends c.loop-id.invariant c.is_mark.ensures c.loop-id-test.true c.type_inv.s c.number_of-id.ensures c.oid_width-w.ensures c.put_vals-d.ensures c.move_on.ensures c.put_pack-m.ensures in
    omega arith

pub returns : goal.returns
returns c = targets_end c.loop-id.invariant c.is_mark.ensures c.loop-id-test.false
