-- `coding::alike::some_alike` meets its contract: if all were alike so far, the first i are.
use Rattle.std.proofs.Common.{◌≡◌, ◌≤◌, true}
use Rattle.coding.specs.Alike.{AlikeTo}
use Rattle.coding.proofs.alike.some_alike.Given as goal

abbrev pub invariant-loop-i : goal.invariant-loop-i
invariant-loop-i l = (l.i ≤ 32) × (l.alike ≡ true → AlikeTo l.masks l.a l.b l.i)
