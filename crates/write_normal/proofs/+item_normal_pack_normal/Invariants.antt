-- `write_normal::item_normal` and `write_normal::pack_normal` meet their contracts: each turn stores what one entry or pack is in normal form.
use Prim.Native.Nat.{◌-◌}
use lib.ListN.{length}
use Rattle.items.specs.Meet.{form_of}
use Rattle.tally.proofs.ItemTurns.{depth}
use Rattle.write_normal.proofs.Walks.{LevelGoing, SeriesGoing}
use Rattle.write_normal.proofs.+item_normal_pack_normal.Given as goal

-- the item walk of the set calls the pack walk, and that the item walk of a pack
abbrev pub decreases-item_normal : goal.decreases-item_normal
decreases-item_normal l = depth l.set

abbrev pub decreases-pack_normal : goal.decreases-pack_normal
decreases-pack_normal l = 1

-- ---- the item walk
abbrev pub invariant-item_normal-loop-p : goal.invariant-item_normal-loop-p
invariant-item_normal-loop-p l = LevelGoing l.inner l.set (form_of l.alone) l.s l.initial.out l.out l.p l.k

abbrev pub decreases-item_normal-loop-p : goal.decreases-item_normal-loop-p
decreases-item_normal-loop-p l = length l.s - l.p

-- ---- the pack walk
abbrev pub invariant-pack_normal-loop-p : goal.invariant-pack_normal-loop-p
invariant-pack_normal-loop-p l = SeriesGoing (form_of l.alone) l.s l.initial.out l.out l.p l.k

abbrev pub decreases-pack_normal-loop-p : goal.decreases-pack_normal-loop-p
decreases-pack_normal-loop-p l = length l.s - l.p
