-- `repeats::stood_before` meets its contract: the loop passes what heads the first p bytes, one after the other.
use Prim.Native.Nat.{◌-◌}
use Rattle.heads.proofs.Before.{Left}
use Rattle.heads.specs.Meet.{peek_by}
use Rattle.repeats.proofs.stood_before.Given as goal

abbrev pub invariant-loop-q : goal.invariant-loop-q
invariant-loop-q l = Left (peek_by l.look) l.s l.p l.key l.q

abbrev pub decreases-loop-q : goal.decreases-loop-q
decreases-loop-q l = l.p - l.q
