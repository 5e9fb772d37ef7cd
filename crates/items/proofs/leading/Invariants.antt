-- `items::leading` meets its contract.
use Rattle.items.proofs.Tests.{ZerosLeft}
use Rattle.items.proofs.leading.Given as goal

abbrev pub invariant-loop-i : goal.invariant-loop-i
invariant-loop-i l = ZerosLeft l.v l.i
