-- `check_target::long_vals` meets its contract: each turn moves one record from what is to come to what was walked.
use mathlib.Core.Bool.{true, false}
use Prim.Native.Nat.{◌-◌}
use lib.ListN.{length}
use Rattle.items.specs.Meet.{form_of}
use Rattle.heads.specs.Meet.{peek, Clear}
use Rattle.check_target.proofs.LongTurns.{LongFrom}
use Rattle.check_target.proofs.long_vals.Given as goal

abbrev pub invariant-loop-p : goal.invariant-loop-p
invariant-loop-p l = LongFrom (form_of l.alone) l.s l.p l.held l.top l.low × Clear (peek true false false) l.s l.clear

abbrev pub decreases-loop-p : goal.decreases-loop-p
decreases-loop-p l = length l.s - l.p
