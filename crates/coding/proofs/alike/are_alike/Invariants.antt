-- `coding::alike::are_alike` meets its contract: the first i bytes are alike, a block more at each turn.
use Rattle.std.proofs.Common.{◌+◌, ◌-◌, ◌≤◌, length}
use Rattle.coding.specs.Alike.{AlikeTo}
use Rattle.coding.proofs.alike.are_alike.Given as goal

abbrev pub invariant-loop-i : goal.invariant-loop-i
invariant-loop-i l = (l.i ≤ length l.b) × (l.i ≤ l.n + 31) × AlikeTo l.masks l.a l.b l.i

abbrev pub decreases-loop-i : goal.decreases-loop-i
decreases-loop-i l = l.n + 32 - l.i
