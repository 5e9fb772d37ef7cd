-- Refusals passed up by `?`, as what was returned says them.
use Rattle.std.proofs.Common.{◌≡◌}
use Rattle.std.specs.Prelude.{Result}
use Rattle.std.specs.Result.{IsErr, IsErrAnd}
use Rattle.std.proofs.lemmas.Result.{err_from_is_err_and}
use Rattle.format.specs.Answer.{refused}
use Rattle.coding.specs.declared.refusals.Fault.{Fault}
use Rattle.coding.specs.declared.refusals.Refusal.{Refusal}
use Rattle.coding.specs.Refusals.{number, told, told_at}

module _ {A B : Type 0} (f : A → B) where
  pub told_err : (r : Result A Refusal) (e : Refusal) → IsErr r × IsErrAnd r (λ d. d ≡ e) → told f r ≡ refused (number e) 0
  told_err r e h = let p = err_from_is_err_and r h.1 in rw (p.1, p.2)

  pub told_at_err : (r : Result A Fault) (e : Fault) → IsErr r × IsErrAnd r (λ d. d ≡ e) → told_at f r ≡ refused (number e.refusal) e.place
  told_at_err r e h = let p = err_from_is_err_and r h.1 in rw (p.1, p.2)
