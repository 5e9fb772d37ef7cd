-- `coding::widths::oid_width` meets its contract: k bytes are counted, and those above m's last digit are to come.
use Rattle.coding.proofs.Counts.{OidCount}
use Rattle.coding.proofs.widths.oid_width.Given as goal

abbrev pub invariant-loop-m : goal.invariant-loop-m
invariant-loop-m l = OidCount l.n l.k l.m

abbrev pub decreases-loop-m : goal.decreases-loop-m
decreases-loop-m l = l.m
