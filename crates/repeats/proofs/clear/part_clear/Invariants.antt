-- `clear::part_clear` meets its contract: the loop passes one head after the other, and notes its key.
use Prim.Native.Nat.{◌-◌}
use lib.ListN.{length}
use Rattle.heads.specs.Meet.{peek_by}
use Rattle.repeats.proofs.Clears.{Clearing}
use Rattle.repeats.proofs.clear.part_clear.Given as goal

abbrev pub invariant-loop-q : goal.invariant-loop-q
invariant-loop-q l = Clearing l.part (peek_by l.look) l.s l.bits l.q

abbrev pub decreases-loop-q : goal.decreases-loop-q
decreases-loop-q l = length l.s - l.q
