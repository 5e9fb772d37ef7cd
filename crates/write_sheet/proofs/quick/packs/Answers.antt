-- `write_sheet::quick::packs` meets its contract: each turn is a turn of the pack walk, or leaves it a pack begun.
use Rattle.std.proofs.Common.{arith}
use Rattle.write_sheet.proofs.Turns.{packs_passed}
use Rattle.write_sheet.proofs.Begun.{items_lent, pack_begun, small_end}
use Rattle.write_sheet.proofs.quick.packs.Goals as goal

pub small_items-q-requires : goal.small_items-q-requires
small_items-q-requires c = items_lent c.loop-head.invariant _ c.in-Some.ensures.0 c.in-Some.ensures.1 c.type_inv.s _ _ c.put_target-m.ensures

pub returns-then-q-next : goal.returns-then-q-next
returns-then-q-next c =
    packs_passed (pack_begun c.loop-head.invariant _ c.in-Some.ensures.0 c.in-Some.ensures.1 c.type_inv.s _ _ c.put_target-m.ensures _ _ _ c.small_items-q.ensures)

pub overflow_add-k : goal.overflow_add-k
overflow_add-k c =
    let e = small_end c.loop-head.invariant _ c.in-Some.ensures.0 c.in-Some.ensures.1 c.type_inv.s _ _ c.put_target-m.ensures _ _ _ c.small_items-q.ensures c.if-q-next.false in
    omega (arith, c.well_formed)
