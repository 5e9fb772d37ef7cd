-- `find::around::alike_in` meets its contract: each turn passes one pack.
use Prim.Native.Nat.{◌-◌, ◌≤◌}
use lib.ListN.{length}
use Rattle.find.specs.Series.{AlikePassed}
use Rattle.find.proofs.around.alike_in.Given as goal

abbrev pub invariant-loop-p : goal.invariant-loop-p
invariant-loop-p g l = (l.p ≤ length l.s) × AlikePassed l.s l.from l.lead (record { at = l.p; count = l.count })

abbrev pub decreases-loop-p : goal.decreases-loop-p
decreases-loop-p g l = length l.s - l.p
