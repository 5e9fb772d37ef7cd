-- `stores::put_number` meets its contract.
use Rattle.format.specs.Coding.{fixed}
use Rattle.stores.proofs.Stores.{BackLeft}
use Rattle.stores.proofs.put_number.Given as goal

abbrev pub invariant-loop-i : goal.invariant-loop-i
invariant-loop-i l = BackLeft l.initial.out l.at (fixed l.k l.v) l.out (fixed l.i l.n)
