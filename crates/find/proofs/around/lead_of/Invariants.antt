-- `find::around::lead_of` meets its contract.
use Prim.Native.Nat.{◌<◌, ◌^◌}
use Rattle.find.proofs.Leads.{LeadAt}
use Rattle.find.proofs.around.lead_of.Given as goal

abbrev pub invariant-loop-m : goal.invariant-loop-m
invariant-loop-m l = (0 < l.m) × (l.id < 2 ^ 63 → LeadAt l.id l.m)

abbrev pub decreases-loop-m : goal.decreases-loop-m
decreases-loop-m l = l.m
