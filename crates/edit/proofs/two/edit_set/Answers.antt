-- `edit::two::edit_set` meets its contract.
use mathlib.Core.Path.{refl, sym, subst}
use mathlib.Core.Bool.{true, false}
use Rattle.coding.proofs.Tried.{placed_ok, placed_err}
use Rattle.items.specs.Meet.{form_of}
use Rattle.find.specs.Places.{holder_of}
use Rattle.edit_rules.specs.Cuts.{low_of}
use Rattle.edit_rules.specs.Meet.{two_of, Passes, TwoAs}
use Rattle.edit_rules.proofs.Rules.{err_is}
use Rattle.answers.proofs.Results.{refuses}
use Rattle.edit.proofs.Editing.{set_refused, cuts_asked, cuts_left}
use Rattle.edit.proofs.two.edit_set.Goals as goal
use Rattle.edit.proofs.two.edit_set.Goals.{In_ok-judged}

-- the rules let them through at the cuts
passes : (c : In_ok-judged)
    → let i = c.args in let j = c.in_ok-judged.judged in
    Passes (form_of i.alone) false i.a.id (two_of i.a.change i.d i.v.now i.w.now) i.s.now j.cuts (low_of j.turned i.v.now i.w.now) (low_of j.turned i.w.now i.v.now)
passes c =
    let i = c.args in
    subst (TwoAs (form_of i.alone) i.a.id i.a.change i.d i.v.now i.w.now i.s.now) (placed_ok 0 _ (sym c.in_ok-judged.ensures)) c.judge.ensures

pub returns-then-a : goal.returns-then-a
returns-then-a c =
    let i = c.args in
    rw c.if-a.true
    (set_refused (form_of i.alone) (holder_of true i.a.id) (two_of i.a.change i.d i.v.now i.w.now) i.s.now (c.set_fault.ensures i.a.id i.d i.w.now) i.out.now (refuses c.at.ensures))

pub returns-in_err-judged : goal.returns-in_err-judged
returns-in_err-judged c =
    let i = c.args in
    let (x, e, z) = placed_err 0 c.judge.result (sym c.in_err-judged.ensures) in
    let stops = subst (TwoAs (form_of i.alone) i.a.id i.a.change i.d i.v.now i.w.now i.s.now) e c.judge.ensures in
    rw (err_is _ _ c.from_residual.ensures, ← z, c.if-a.false)
    (set_refused (form_of i.alone) (holder_of false i.a.id) (two_of i.a.change i.d i.v.now i.w.now) i.s.now stops i.out.now refl)

pub edit_cuts-requires : goal.edit_cuts-requires
edit_cuts-requires c =
    let i = c.args in
    cuts_asked (form_of i.alone) false i.a.id (two_of i.a.change i.d i.v.now i.w.now) i.s.now (passes (goal.at.edit_cuts-requires c).In_ok-judged) c.requires.0.short

pub returns : goal.returns
returns c =
    let i = c.args in
    rw c.if-a.false
    (cuts_left (form_of i.alone) false i.a.id (two_of i.a.change i.d i.v.now i.w.now) i.s.now (passes (goal.at.returns c).In_ok-judged) i.out.now _ c.edit_cuts.ensures)
