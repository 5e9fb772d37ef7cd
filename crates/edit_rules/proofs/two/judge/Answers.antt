-- `edit_rules::two::judge` meets its contract: the first item may be named, then both have a place, then the first change is judged.
use mathlib.Core.Path.{sym}
use mathlib.Core.Bool.{false}
use Rattle.coding.specs.declared.refusals.Refusal.TheVariants.{NotEditable, Absent}
use Rattle.items.specs.Meet.{form_of}
use Rattle.edit_rules.proofs.Rules.{err_is, unnamed, unheld, turn_fine, turn_stops}
use Rattle.edit_rules.proofs.Judging.{two_first}
use Rattle.edit_rules.proofs.two.judge.Goals as goal

pub returns-then-not-nameable_of : goal.returns-then-not-nameable_of
returns-then-not-nameable_of c =
    let i = c.args in
    two_first (form_of i.alone) i.id i.c i.d i.v.now i.w.now i.s.now NotEditable (unnamed (form_of i.alone) false i.id i.c i.v.now i.s.now (sym c.if-not-nameable_of.ensures))

pub returns-in_default : goal.returns-in_default
returns-in_default c =
    let i = c.args in
    two_first (form_of i.alone) i.id i.c i.d i.v.now i.w.now i.s.now Absent
    (unheld (form_of i.alone) false i.id i.c i.v.now i.s.now (sym c.if-not-nameable_of.ensures) c.in_default.ensures)

pub returns-in_err-m : goal.returns-in_err-m
returns-in_err-m c =
    let i = c.args in
    rw (err_is _ _ c.from_residual.ensures)
    (two_first (form_of i.alone) i.id i.c i.d i.v.now i.w.now i.s.now _
    (turn_stops (form_of i.alone) false i.id i.c i.v.now i.s.now (sym c.if-not-nameable_of.ensures) (λ n. (c.type_inv.s n).fits) c.requires.0 _ c.in-Some.ensures.0 _ c.in_err-m.ensures))

pub returns : goal.returns
returns c =
    let i = c.args in
    c.judge_rest.ensures i.id i.v.now i.s.now (λ n. (c.type_inv.s n).fits) c.requires.0 c.requires.1
    (turn_fine (form_of i.alone) false i.id i.c i.v.now i.s.now (sym c.if-not-nameable_of.ensures) (λ n. (c.type_inv.s n).fits) c.requires.0 _ c.in-Some.ensures.0 c.in_ok-m.ensures)
    c.in-Some.ensures.1
