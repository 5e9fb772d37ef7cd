-- `coding::has_key` meets its contract: after i bytes, the whole comparison is that of those and the one from here.
use Rattle.coding.proofs.TheKey.{KeyLeft}
use Rattle.coding.proofs.has_key.Given as goal

abbrev pub invariant-loop-i : goal.invariant-loop-i
invariant-loop-i l = KeyLeft l.s l.i l.alike
