-- `blocks::may_be_before` meets its contract: the loop passes one head after the other, as none of their keys is among the block.
use Prim.Native.Nat.{◌-◌}
use Rattle.heads.specs.Meet.{peek_by}
use Rattle.repeats.proofs.Gathers.{MissedTo}
use Rattle.repeats.proofs.blocks.may_be_before.Given as goal

abbrev pub invariant-loop-q : goal.invariant-loop-q
invariant-loop-q l = MissedTo (peek_by l.look) l.s l.p l.block l.q

abbrev pub decreases-loop-q : goal.decreases-loop-q
decreases-loop-q l = l.p - l.q
