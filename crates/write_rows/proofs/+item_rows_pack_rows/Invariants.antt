-- `write_rows::item_rows` and `write_rows::pack_rows` meet their contracts: each turn stores what one entry or one pack adds to the rows.
use Prim.Native.Nat.{◌-◌}
use lib.ListN.{length}
use Rattle.tally.proofs.ItemTurns.{depth}
use Rattle.write_rows.proofs.LevelTurns.{LevelGoing}
use Rattle.write_rows.proofs.SeriesTurns.{SeriesGoing}
use Rattle.write_rows.proofs.+item_rows_pack_rows.Given as goal

-- the item walk of the set calls the pack walk, and that the item walk of a pack
abbrev pub decreases-item_rows : goal.decreases-item_rows
decreases-item_rows l = depth l.set

abbrev pub decreases-pack_rows : goal.decreases-pack_rows
decreases-pack_rows l = 1

-- ---- the items of a level
-- whatever the form
abbrev pub invariant-item_rows-loop-p : goal.invariant-item_rows-loop-p
invariant-item_rows-loop-p l = LevelGoing l.set l.target l.at l.s l.initial.out l.out l.p l.k

abbrev pub decreases-item_rows-loop-p : goal.decreases-item_rows-loop-p
decreases-item_rows-loop-p l = length l.s - l.p

-- ---- the packs of a series
-- whatever the form
abbrev pub invariant-pack_rows-loop-p : goal.invariant-pack_rows-loop-p
invariant-pack_rows-loop-p l = SeriesGoing l.at l.s l.initial.out l.out l.p l.k l.n

abbrev pub decreases-pack_rows-loop-p : goal.decreases-pack_rows-loop-p
decreases-pack_rows-loop-p l = length l.s - l.p
