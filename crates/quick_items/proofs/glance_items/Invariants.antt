-- `quick_items::glance_items` meets its contract: each turn is a turn of the item walk. Tags rise, so the first is the lowest.
use Prim.Native.Nat.{◌-◌, ◌≤◌, ◌<◌}
use lib.ListN.{length, get_or}
use Rattle.items.specs.Meet.{form_of}
use Rattle.tally.specs.Going.{LevelGoing}
use Rattle.quick_items.specs.Items.{told_sizes}
use Rattle.quick_items.proofs.glance_items.Given as goal

-- past the end nothing is said
abbrev pub invariant-loop-next : goal.invariant-loop-next
invariant-loop-next l = (l.p ≤ length l.s → LevelGoing l.set (form_of l.alone) l.s l.p (told_sizes l.count l.p) l.held l.top l.low)
    × (l.p < length l.s → l.top < get_or l.s l.p 0 → get_or l.s l.p 0 < 128 → l.low ≤ get_or l.s l.p 0)

abbrev pub decreases-loop-next : goal.decreases-loop-next
decreases-loop-next l = length l.s - l.p
