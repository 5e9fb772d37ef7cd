-- `edit_rules::two::judge_rest` meets its contract.
use mathlib.Core.Path.{sym, ap₂, ◌∙◌}
use Rattle.std.specs.Prelude.{false, Ok, Err}
use Rattle.coding.specs.declared.refusals.Refusal.TheVariants.{NotEditable}
use Rattle.format.specs.Table.{pack}
use Rattle.items.specs.Meet.{form_of}
use Rattle.edit_rules.specs.Meet.{in_order}
use Rattle.edit_rules.proofs.Ends.{ends_by}
use Rattle.edit_rules.proofs.Rules.{err_is, unnamed, turn_fine, turn_stops}
use Rattle.edit_rules.proofs.Judging.{two_same, two_second, two_left, two_fine}
use Rattle.edit_rules.proofs.two.judge_rest.Goals as goal
use Rattle.edit_rules.proofs.two.judge_rest.Goals.{then-c-d-via-then-c-d, then-c-d-via-else-c-d+then-not-nameable_of}

pub returns-then-c-d : goal.returns-then-c-d
returns-then-c-d c id v s hb k sv t q = let i = c.args in elim c.then-c-d.branch [
  | then-c-d-via-then-c-d w ↦ two_same (form_of i.alone) id i.c i.d v i.w.now s t w.if-c-d.true
  | then-c-d-via-else-c-d+then-not-nameable_of w ↦ two_second (form_of i.alone) id i.c i.d v i.w.now s t w.if-c-d.false NotEditable (unnamed (form_of i.alone) false id i.d i.w.now s (sym w.if-not-nameable_of.ensures))
]

pub returns-in_err-k : goal.returns-in_err-k
returns-in_err-k c id v s hb k sv t q =
    let i = c.args in
    rw (err_is _ _ c.from_residual.ensures)
    (two_second (form_of i.alone) id i.c i.d v i.w.now s t c.if-c-d.false _
    (turn_stops (form_of i.alone) false id i.d i.w.now s (sym c.if-not-nameable_of.ensures) hb k i.q q _ c.in_err-k.ensures))

pub returns-in_err-ending_fault : goal.returns-in_err-ending_fault
returns-in_err-ending_fault c id v s hb k sv t q =
    let i = c.args in
    let t' = turn_fine (form_of i.alone) false id i.d i.w.now s (sym c.if-not-nameable_of.ensures) hb k i.q q c.in_ok-k.ensures in
    rw (err_is _ _ c.from_residual-in_err-ending_fault.ensures)
    (two_left (form_of i.alone) id i.c i.d v i.w.now s t c.if-c-d.false t' sv _
    (ends_by (form_of i.alone) pack (Err _) c.cut_of-first.ensures c.cut_of-second.ensures c.in_err-ending_fault.ensures))

pub returns : goal.returns
returns c id v s hb k sv t q =
    let i = c.args in
    let t' = turn_fine (form_of i.alone) false id i.d i.w.now s (sym c.if-not-nameable_of.ensures) hb k i.q q c.in_ok-k.ensures in
    two_fine (form_of i.alone) id i.c i.d v i.w.now s t c.if-c-d.false t' sv
    (ends_by (form_of i.alone) pack (Ok tt) c.cut_of-first.ensures c.cut_of-second.ensures c.in_ok-ending_fault.ensures) hb k
    (c.in_order.ensures ∙ ap₂ (in_order i.p) c.cut_of-first.ensures c.cut_of-second.ensures)
