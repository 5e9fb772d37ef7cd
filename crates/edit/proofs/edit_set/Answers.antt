-- `edit::edit_set` meets its contract.
use mathlib.Core.Path.{refl, sym, subst}
use Rattle.coding.proofs.Tried.{placed_ok, placed_err}
use Rattle.items.specs.Meet.{form_of}
use Rattle.edit_rules.specs.Meet.{changes_of, asked_holder, Passes, OneAs}
use Rattle.edit_rules.proofs.Rules.{err_is}
use Rattle.edit.proofs.Editing.{set_refused, cuts_asked, cuts_left}
use Rattle.edit.proofs.edit_set.Goals as goal
use Rattle.edit.proofs.edit_set.Goals.{After-one_cut-cuts}

-- the rules let it through at the cut
passes : (c : After-one_cut-cuts) → let i = c.args in Passes (form_of i.alone) i.a.set i.a.id (changes_of i.a i.v.now) i.s.now c.one_cut-cuts.result i.v.now i.v.now
passes c =
    let i = c.args in
    let j = subst (OneAs (form_of i.alone) i.a i.v.now i.s.now) (placed_ok 0 _ (sym c.in_ok-judged.ensures)) c.judge.ensures in
    rw (c.one_cut-cuts.ensures, c.cut_of-cut.ensures) j

pub returns-in_err-judged : goal.returns-in_err-judged
returns-in_err-judged c =
    let i = c.args in
    let (x, e, z) = placed_err 0 c.judge.result (sym c.in_err-judged.ensures) in
    rw (err_is _ _ c.from_residual.ensures, ← z)
    (set_refused (form_of i.alone) (asked_holder i.a) (changes_of i.a i.v.now) i.s.now (subst (OneAs (form_of i.alone) i.a i.v.now i.s.now) e c.judge.ensures) i.out.now refl)

pub edit_cuts-requires : goal.edit_cuts-requires
edit_cuts-requires c =
    let i = c.args in
    cuts_asked (form_of i.alone) i.a.set i.a.id (changes_of i.a i.v.now) i.s.now (passes (goal.at.edit_cuts-requires c).After-one_cut-cuts) c.requires.0.short

pub returns : goal.returns
returns c =
    let i = c.args in
    cuts_left (form_of i.alone) i.a.set i.a.id (changes_of i.a i.v.now) i.s.now (passes (goal.at.returns c).After-one_cut-cuts) i.out.now _ c.edit_cuts.ensures
