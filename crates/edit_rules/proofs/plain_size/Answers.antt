-- `edit_rules::plain_size` meets its contract.
use mathlib.Core.Path.{sym}
use Rattle.items.specs.Meet.{form_of, level_of}
use Rattle.edit_rules.proofs.Rules.{err_is, some_of, put_7, put_13, put_sized, put_fault}
use Rattle.edit_rules.proofs.plain_size.Goals as goal

pub returns-then-v-eq0 : goal.returns-then-v-eq0
returns-then-v-eq0 c = let i = c.args in put_7 (form_of i.alone) (level_of i.set) i.tag i.v.now c.if-v-eq0.true

pub returns-then-not-stands : goal.returns-then-not-stands
returns-then-not-stands c =
    let i = c.args in
    put_13 (form_of i.alone) (level_of i.set) i.tag i.v.now (some_of _ c.if-v-eq0.false) (sym c.if-not-stands.ensures)

pub returns-in_err-valued_of : goal.returns-in_err-valued_of
returns-in_err-valued_of c =
    let i = c.args in
    rw (err_is _ _ c.from_residual.ensures)
    (put_fault (form_of i.alone) (level_of i.set) i.tag i.v.now (some_of _ c.if-v-eq0.false) (sym c.if-not-stands.ensures) c.rule_of-rule.ensures _ c.in_err-valued_of.ensures)

pub returns : goal.returns
returns c =
    let i = c.args in
    put_sized (form_of i.alone) (level_of i.set) i.tag i.v.now (some_of _ c.if-v-eq0.false) (sym c.if-not-stands.ensures) c.rule_of-rule.ensures c.in_ok-valued_of.ensures c.short_size.ensures
