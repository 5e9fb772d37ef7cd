-- `check_items::item_rest` and `check_items::pack_walk` meet their contracts: each turn moves one item or pack from what is to come to what was walked.
-- In the item walk's answers `u` is where a turn begins, `a` where an item was read, and `j` where it was walked; in the pack walk's `u` is where a turn
-- begins, `a` where a pack's head was read, `e` where its id was found to be new, `i` where its items were walked, and `g` where they were found good.
use mathlib.Core.Bool.{true, false}
use Prim.Native.Nat.{◌-◌}
use lib.ListN.{length}
use Rattle.items.specs.Meet.{form_of}
use Rattle.heads.specs.Meet.{peek, Clear}
use Rattle.tally.specs.Going.{LevelGoing, SeriesGoing}
use Rattle.tally.proofs.ItemTurns.{depth}
use Rattle.check_items.proofs.+item_rest_pack_walk.Given as goal

-- the item walk of the set calls the pack walk, and that the item walk of a pack
abbrev pub decreases-item_rest : goal.decreases-item_rest
decreases-item_rest l = depth l.set

abbrev pub decreases-pack_walk : goal.decreases-pack_walk
decreases-pack_walk l = 1

-- ---- the item walk
abbrev pub invariant-item_rest-loop-p : goal.invariant-item_rest-loop-p
invariant-item_rest-loop-p l = LevelGoing l.set (form_of l.alone) l.s l.p l.sum l.held l.top l.low × Clear (peek false false l.set) l.s l.clear

abbrev pub decreases-item_rest-loop-p : goal.decreases-item_rest-loop-p
decreases-item_rest-loop-p l = length l.s - l.p

-- ---- the pack walk
abbrev pub invariant-pack_walk-loop-p : goal.invariant-pack_walk-loop-p
invariant-pack_walk-loop-p l = SeriesGoing (form_of l.alone) l.s l.p l.sum l.top l.low × Clear (peek false true false) l.s l.clear

abbrev pub decreases-pack_walk-loop-p : goal.decreases-pack_walk-loop-p
decreases-pack_walk-loop-p l = length l.s - l.p
