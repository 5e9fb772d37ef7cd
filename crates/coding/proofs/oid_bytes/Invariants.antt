-- `coding::oid_bytes` meets its contract: after i bytes, `oid_go` from the start is `oid_go` from here.
use Rattle.coding.specs.Refusals.{number}
use Rattle.coding.proofs.Oid.{OidLeft}
use Rattle.coding.proofs.oid_bytes.Given as goal

abbrev pub invariant-loop-i : goal.invariant-loop-i
invariant-loop-i l = OidLeft l.s l.k (number l.bad) l.v l.i
