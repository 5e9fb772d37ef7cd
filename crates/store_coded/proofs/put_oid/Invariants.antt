-- `store_coded::put_oid` meets its contract: the last byte, and then in the loop the others.
use Rattle.stores.proofs.Stores.{DigitsLeft}
use Rattle.store_coded.proofs.Codings.{firsts}
use Rattle.store_coded.proofs.put_oid.Given as goal

abbrev pub invariant-loop-i : goal.invariant-loop-i
invariant-loop-i l = DigitsLeft 128 128 l.initial.out l.at (firsts l.n) l.out l.i l.m
