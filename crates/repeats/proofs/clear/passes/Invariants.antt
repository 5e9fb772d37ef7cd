-- `clear::passes` meets its contract: as far as each part tells, or as the blocks do.
use Rattle.heads.specs.Meet.{peek_by}
use Rattle.repeats.proofs.Clears.{ClearBelow}
use Rattle.repeats.proofs.clear.passes.Given as goal

abbrev pub invariant-loop-part : goal.invariant-loop-part
invariant-loop-part l = ClearBelow l.part (peek_by l.look) l.s l.r
