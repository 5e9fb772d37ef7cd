-- `check_target::vals_of` meets its contract.
use native.Mathlib.Omega.{arith}
use Rattle.tally.proofs.Turns.{turn_done}
use Rattle.check_target.proofs.Sums.{walk_fine}
use Rattle.check_target.proofs.vals_of.Goals as goal

pub returns-then-d-s : goal.returns-then-d-s
returns-then-d-s c =
    let d = c.glance_records-d.ensures in
    walk_fine _ _ (λ i. (c.type_inv.s i).fits) (turn_done d.0 (omega (arith, c.if-d-s.true))).0 (omega (arith, d.1, c.if-d-s.true)) (omega (arith, c.if-s-gt65536.false))
