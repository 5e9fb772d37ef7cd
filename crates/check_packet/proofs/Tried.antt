-- A refusal passed up, of what opens a packet and of its set, as the check says it.
use Rattle.std.proofs.Common.{◌≡◌, ℕ, ◌+◌, Result, Err, sym, ap, ◌∙◌}
use Rattle.std.specs.Result.{IsErr, IsErrAnd}
use Rattle.std.proofs.lemmas.Result.{err_from_is_err_and}
use Rattle.coding.specs.declared.refusals.Fault.{Fault}
use Rattle.coding.specs.declared.refusals.Refusal.{Refusal}
use Rattle.coding.specs.Refusals.{number, placed, later}
use Rattle.coding.proofs.Tried.{placed_err, later_err}
use Rattle.tally.specs.declared.Walked as walks
use Rattle.tally.specs.Pieces.{Bad}
use Rattle.tally.specs.Meet.{walked}
use Rattle.check_packet.specs.declared.Checked as declared
use Rattle.check_packet.specs.Checks.{Checked, Wrong}
use Rattle.check_packet.specs.Meet.{checked}

abbrev wrong : Fault → Checked
wrong e = Wrong (number e.refusal) e.place

pub checked_err : (r : Result declared.Checked Fault) (e : Fault) → IsErr r × IsErrAnd r (λ d. d ≡ e) → checked r ≡ wrong e
checked_err r e h = let p = err_from_is_err_and r h.1 in rw (p.1, p.2)

pub placed_wrong : {A : Type 0} (p : ℕ) (a : Result A Refusal) {q : Result A Fault} → q ≡ placed p a → {e : Fault} → q ≡ Err e → {r : Checked} → r ≡ wrong e
    → (x : Refusal) × (a ≡ Err x) × (r ≡ Wrong (number x) p)
placed_wrong p a eq t er =
    let (x, ea, ex) = placed_err p a (sym eq ∙ t) in
    (x, ea, er ∙ ap wrong (sym ex))

pub later_wrong : (k : ℕ) (y : Result walks.Walked Fault) {q : Result walks.Walked Fault} → q ≡ later k y → {e : Fault} → q ≡ Err e → {r : Checked} → r ≡ wrong e
    → (n j : ℕ) × (walked y ≡ Bad n j) × (r ≡ Wrong n (k + j))
later_wrong k y eq t er =
    let (x, ey, ex) = later_err k y (sym eq ∙ t) in
    (number x.refusal, x.place, ap walked ey, er ∙ ap wrong (sym ex))
