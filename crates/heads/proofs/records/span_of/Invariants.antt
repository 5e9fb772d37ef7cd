-- `heads::records::span_of`: the loop passes one record after the other.
use Prim.Native.Nat.{◌-◌}
use lib.ListN.{length}
use Rattle.heads.proofs.Spans.{SpanLeft}
use Rattle.heads.proofs.records.span_of.Given as goal

abbrev pub invariant-loop-q : goal.invariant-loop-q
invariant-loop-q l = SpanLeft l.tg l.s l.q

abbrev pub decreases-loop-q : goal.decreases-loop-q
decreases-loop-q l = length l.s - l.q
