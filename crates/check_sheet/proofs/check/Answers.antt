-- `check_sheet::check` meets its contract: each way out is a case of `unsheet`.
use Rattle.std.proofs.Common.{refl, ◌∙◌}
use Rattle.tally.proofs.Tried.{later_so}
use Rattle.check_sheet.proofs.Sheeting.{wrong_at, sheeted_err, check_long, check_cut, check_unmarked, check_form, check_stop, check_none, check_good}
use Rattle.check_sheet.proofs.check.Goals as goal
use Rattle.check_sheet.proofs.check.Goals.{then-s-lt3-via-then-s-lt3, then-s-lt3-via-else-s-lt3+then-not-is_mark, then-s-lt3-via-else-s-lt3+else-not-is_mark+then-s-gt1}

pub returns-then-s-gt65536 : goal.returns-then-s-gt65536
returns-then-s-gt65536 c = check_long _ (wrong_at c.at.ensures) c.if-s-gt65536.true

pub returns-then-s-lt3 : goal.returns-then-s-lt3
returns-then-s-lt3 c =
    elim c.then-s-lt3.branch [
      | then-s-lt3-via-then-s-lt3 w ↦ check_cut _ c.if-s-gt65536.false (wrong_at c.at-then-s-lt3.ensures) w.if-s-lt3.true
      | then-s-lt3-via-else-s-lt3+then-not-is_mark w ↦ check_unmarked _ c.if-s-gt65536.false (wrong_at c.at-then-s-lt3.ensures) w.is_mark.ensures w.if-not-is_mark.true
      | then-s-lt3-via-else-s-lt3+else-not-is_mark+then-s-gt1 w ↦ check_form _ c.if-s-gt65536.false w.if-s-lt3.false w.is_mark.ensures w.if-not-is_mark.false (wrong_at c.at-then-s-lt3.ensures) w.if-s-gt1.true
    ]

pub returns-in_err-parts : goal.returns-in_err-parts
returns-in_err-parts c =
    sheeted_err _ _ c.from_residual.ensures
    ∙ check_stop _ c.if-s-gt65536.false c.if-s-lt3.false c.is_mark.ensures c.if-not-is_mark.false c.if-s-gt1.false c.set_records.ensures.0 _ refl c.later.ensures c.in_err-parts.was

pub returns-then-parts-eq0 : goal.returns-then-parts-eq0
returns-then-parts-eq0 c =
    check_none _ c.if-s-gt65536.false c.if-s-lt3.false c.is_mark.ensures c.if-not-is_mark.false c.if-s-gt1.false c.set_records.ensures.0
    (later_so _ _ c.later.ensures c.in_ok-parts.was) (wrong_at c.at-then-parts-eq0.ensures) c.if-alone.true c.if-parts-eq0.true

pub returns : goal.returns
returns c =
    check_good _ c.if-s-gt65536.false c.if-s-lt3.false c.is_mark.ensures c.if-not-is_mark.false c.if-s-gt1.false c.set_records.ensures.0
    (later_so _ _ c.later.ensures c.in_ok-parts.was) (λ i. (c.type_inv.s i).fits) c.else-alone.either
