-- `show::part_of` meets its contract: each way out is a case of what is shown.
use Rattle.std.proofs.Common.{refl}
use Rattle.show.proofs.Showing.{reviewer_wrong, detector_wrong, unnamed, reviewers, detectors, neithers}
use Rattle.show.proofs.part_of.Goals as goal

pub returns-in_err-first : goal.returns-in_err-first
returns-in_err-first c =
    rw c.from_residual.ensures
    (reviewer_wrong _ _ _ _ _ (λ n. (c.type_inv.reviewer n).fits) (λ n. (c.type_inv.detector n).fits) _ c.check.ensures c.in_err-first.ensures.value)

pub returns-in_err-second : goal.returns-in_err-second
returns-in_err-second c =
    rw c.from_residual-in_err-second.ensures
    (detector_wrong _ _ _ _ _ (λ n. (c.type_inv.reviewer n).fits) (λ n. (c.type_inv.detector n).fits) _ c.check-2.ensures c.in_err-second.ensures.value)

pub returns-then-not-is_showable : goal.returns-then-not-is_showable
returns-then-not-is_showable c =
    unnamed _ _ _ _ _ (λ n. (c.type_inv.reviewer n).fits) (λ n. (c.type_inv.detector n).fits) (c.if-not-is_showable.ensures c.args.id) refl refl

pub returns-in-Some : goal.returns-in-Some
returns-in-Some c =
    reviewers _ _ _ _ _ (λ n. (c.type_inv.reviewer n).fits) (λ n. (c.type_inv.detector n).fits) _ _ c.check.ensures c.check-2.ensures
    c.in_ok-first.ensures.value c.in_ok-second.ensures.value (c.if-not-is_showable.ensures c.args.id) c.in-Some.ensures refl

pub returns-in_err-value : goal.returns-in_err-value
returns-in_err-value c =
    rw c.from_residual-in_err-value.ensures
    (neithers _ _ _ _ _ (λ n. (c.type_inv.reviewer n).fits) (λ n. (c.type_inv.detector n).fits) _ _ c.check.ensures c.check-2.ensures
    c.in_ok-first.ensures.value c.in_ok-second.ensures.value (c.if-not-is_showable.ensures c.args.id) c.in_default.ensures refl c.in_err-value.ensures refl refl)

pub returns : goal.returns
returns c =
    detectors _ _ _ _ _ (λ n. (c.type_inv.reviewer n).fits) (λ n. (c.type_inv.detector n).fits) _ _ c.check.ensures c.check-2.ensures
    c.in_ok-first.ensures.value c.in_ok-second.ensures.value (c.if-not-is_showable.ensures c.args.id) c.in_default.ensures refl c.in_ok-value.ensures refl
