-- `write_sheet::rest_sheet`, `write_sheet::pack_items` and `write_sheet::pack_sheet` meet their contracts: each turn stores what one entry or pack writes.
use Prim.Native.Nat.{◌-◌, ◌*◌}
use lib.ListN.{length}
use Rattle.tally.proofs.ItemTurns.{depth}
use Rattle.write_sheet.proofs.Turns.{RestGoing, PacksGoing}
use Rattle.write_sheet.proofs.+pack_items_pack_sheet_rest_sheet.Given as goal

-- the item walk of the set calls the pack walk, and that the item walk of a pack
abbrev pub decreases-rest_sheet : goal.decreases-rest_sheet
decreases-rest_sheet l = 2 * depth l.set

abbrev pub decreases-pack_sheet : goal.decreases-pack_sheet
decreases-pack_sheet l = 2

abbrev pub decreases-pack_items : goal.decreases-pack_items
decreases-pack_items l = 1

-- ---- the pack walk
abbrev pub invariant-pack_sheet-loop-p : goal.invariant-pack_sheet-loop-p
invariant-pack_sheet-loop-p l = PacksGoing l.s l.fn.out l.out l.p l.k

abbrev pub decreases-pack_sheet-loop-p : goal.decreases-pack_sheet-loop-p
decreases-pack_sheet-loop-p l = length l.s - l.p

-- ---- the item walk, from a place on
abbrev pub invariant-rest_sheet-loop-p : goal.invariant-rest_sheet-loop-p
invariant-rest_sheet-loop-p l = RestGoing l.set l.s l.initial.out l.from l.at l.out l.p l.k

abbrev pub decreases-rest_sheet-loop-p : goal.decreases-rest_sheet-loop-p
decreases-rest_sheet-loop-p l = length l.s - l.p
