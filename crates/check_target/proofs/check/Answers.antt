-- `check_target::check` meets its contract.
use Rattle.std.proofs.Common.{◌+◌, refl, arith}
use Rattle.std.proofs.lemmas.Result.{err_from_is_err_and}
use Rattle.coding.proofs.Counts.{len_most}
use Rattle.check_target.proofs.TargetRecords.{target_cut, target_unmarked, target_high, target_wrong, target_few, target_fine}
use Rattle.check_target.proofs.check.Goals as goal
use Rattle.check_target.proofs.check.Goals.{then-r-lt10-via-then-r-lt10, then-r-lt10-via-else-r-lt10+then-not-is_mark}

pub returns-then-r-lt10 : goal.returns-then-r-lt10
returns-then-r-lt10 c =
    elim c.then-r-lt10.branch [
      | then-r-lt10-via-then-r-lt10 w ↦ target_cut _ _ w.if-r-lt10.true
      | then-r-lt10-via-else-r-lt10+then-not-is_mark w ↦ target_unmarked _ _ w.is_mark.ensures w.if-not-is_mark.true
    ]

pub returns-then-id-gt9223372036854775807 : goal.returns-then-id-gt9223372036854775807
returns-then-id-gt9223372036854775807 c = target_high _ _ c.if-r-lt10.false c.is_mark.ensures c.if-not-is_mark.false c.eight_of-id.ensures c.if-id-gt9223372036854775807.true

pub returns-in_err-vals : goal.returns-in_err-vals
returns-in_err-vals c =
    let p = err_from_is_err_and c.from_residual.result c.from_residual.ensures.1 in
    rw (p.1, p.2) (target_wrong _ _ c.if-r-lt10.false c.is_mark.ensures c.if-not-is_mark.false c.eight_of-id.ensures c.if-id-gt9223372036854775807.false _ c.in_err-vals.ensures refl)

pub overflow_add-body : goal.overflow_add-body
overflow_add-body c =
    let few = target_few _ c.args.r.now c.if-r-lt10.false c.is_mark.ensures c.if-not-is_mark.false c.eight_of-id.ensures c.if-id-gt9223372036854775807.false _ c.in_ok-vals.ensures refl in
    omega (arith, c.oid_width.ensures.1, few)

pub overflow_add-result : goal.overflow_add-result
overflow_add-result c =
    let few = target_few _ c.args.r.now c.if-r-lt10.false c.is_mark.ensures c.if-not-is_mark.false c.eight_of-id.ensures c.if-id-gt9223372036854775807.false _ c.in_ok-vals.ensures refl in
    omega (arith, c.oid_width.ensures.1, few, c.len_width.ensures, len_most (c.oid_width.result + c.in_ok-vals.vals.normal))

pub returns : goal.returns
returns c = target_fine _ _ c.if-r-lt10.false c.is_mark.ensures c.if-not-is_mark.false c.eight_of-id.ensures c.if-id-gt9223372036854775807.false _ c.in_ok-vals.ensures refl c.oid_width.ensures.0 c.len_width.ensures
