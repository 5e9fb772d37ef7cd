-- `coding::sum_of` meets its contract: after i bytes the sum is what they add up to, each by its weight.
use Rattle.coding.proofs.Sums.{SumLeft}
use Rattle.coding.proofs.sum_of.Given as goal

abbrev pub invariant-loop-i : goal.invariant-loop-i
invariant-loop-i l = SumLeft l.s l.n l.t l.i
