-- `check_records::item_records` and `check_records::target_records` meet their contracts: each turn moves one part or target from what is to come to what was
-- walked. In either's answers `l` is where the loop stands, and `a` where a record was read, or a target found.
use mathlib.Core.Bool.{true, false}
use Prim.Native.Nat.{◌-◌, ◌^◌, ◌<◌}
use lib.ListN.{length}
use Rattle.items.specs.Meet.{form_of}
use Rattle.heads.specs.Meet.{peek, Clear}
use Rattle.tally.proofs.ItemTurns.{depth}
use Rattle.tally_records.specs.Going.{RecordsFrom, TargetsFrom}
use Rattle.check_records.proofs.+item_records_target_records.Given as goal

-- the item walk of the set calls the pack walk, and that the item walk of a pack
abbrev pub decreases-item_records : goal.decreases-item_records
decreases-item_records l = depth l.set

abbrev pub decreases-target_records : goal.decreases-target_records
decreases-target_records l = 1

-- ---- the records of a level
abbrev pub invariant-item_records-loop-q : goal.invariant-item_records-loop-q
invariant-item_records-loop-q l = RecordsFrom l.set (form_of l.alone) l.s l.q × Clear (peek true false l.set) l.s l.clear

abbrev pub decreases-item_records-loop-q : goal.decreases-item_records-loop-q
decreases-item_records-loop-q l = length l.s - l.q.at

-- ---- the targets of the series
abbrev pub invariant-target_records-loop-q : goal.invariant-target_records-loop-q
invariant-target_records-loop-q l = TargetsFrom (form_of l.alone) l.s l.q × Clear (peek true true false) l.s l.clear × (l.q.top < 2 ^ 63)

abbrev pub decreases-target_records-loop-q : goal.decreases-target_records-loop-q
decreases-target_records-loop-q l = length l.s - l.q.at
