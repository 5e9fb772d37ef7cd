-- `check_target::long_vals` meets its contract: each turn moves one record from what is to come to what was walked.
use Rattle.std.proofs.Common.{true, false, refl, drop, arith}
use Rattle.std.proofs.lemmas.Result.{err_from_is_err_and}
use Rattle.repeats.proofs.Clears.{clear_none}
use Rattle.tally_records.proofs.Opens.{value_next_lem}
use Rattle.check_target.proofs.LongTurns.{long_start, long_done, long_over, long_fault, long_room, long_more}
use Rattle.check_target.proofs.long_vals.Goals as goal

pub loop-p-init : goal.loop-p-init
loop-p-init c = (long_start _ _ _, clear_none _ _)

pub returns-then-not-is_mark : goal.returns-then-not-is_mark
returns-then-not-is_mark c = long_over (λ i. (c.type_inv.s i).fits) c.loop-p.invariant.0 c.loop-p-test.true c.is_mark.ensures c.if-not-is_mark.true

pub value_at-requires : goal.value_at-requires
value_at-requires c =
    record { within = omega (arith, c.loop-p-test.true); cleared = c.loop-p.invariant.1; marked = value_next_lem false (drop c.loop-p.p c.args.s.now) {x = true} refl refl }

pub returns-in_err-piece : goal.returns-in_err-piece
returns-in_err-piece c =
    let p = err_from_is_err_and c.from_residual.result c.from_residual.ensures.1 in
    rw (p.1, p.2) (long_fault (λ i. (c.type_inv.s i).fits) c.loop-p.invariant.0 c.loop-p-test.true c.is_mark.ensures c.if-not-is_mark.false c.in_err-piece.ensures refl)

pub after-clear-requires : goal.after-clear-requires
after-clear-requires c = c.loop-p.invariant.1

pub overflow_add-p-in-loop-p : goal.overflow_add-p-in-loop-p
overflow_add-p-in-loop-p c = omega (arith, long_room (λ i. (c.type_inv.s i).fits) c.loop-p.invariant.0 c.loop-p-test.true c.is_mark.ensures c.if-not-is_mark.false c.in_ok-piece.ensures refl)

pub loop-p-preserved : goal.loop-p-preserved
loop-p-preserved c =
    (long_more (λ i. (c.type_inv.s i).fits) c.loop-p.invariant.0 c.loop-p-test.true c.is_mark.ensures c.if-not-is_mark.false c.in_ok-piece.ensures refl c.bit_of-held.ensures refl c.larger-top.ensures c.smaller-low.ensures, c.after-clear.ensures)

pub returns : goal.returns
returns c = long_done (λ i. (c.type_inv.s i).fits) c.loop-p.invariant.0 c.requires (omega (arith, c.loop-p-test.false))
