-- `edit_rules::one::judge` meets its contract: the item may be named, then it has a place.
use mathlib.Core.Path.{sym}
use Prim.Native.Nat.{ℕ}
use lib.Dec.{ltb}
use borrow.Author.Tests.{lt-ltb, le-ltb}
use Rattle.std.specs.Prelude.{Result, Ok, Err}
use Rattle.coding.specs.declared.refusals.Refusal.{Refusal}
use Rattle.coding.specs.declared.refusals.Refusal.TheVariants.{NotEditable, Absent}
use Rattle.items.specs.Meet.{form_of, level_of}
use Rattle.edit_rules.specs.declared.one.Judged.{Judged}
use Rattle.edit_rules.specs.Meet.{TurnedAs, OneAs, LeftAs}
use Rattle.edit_rules.proofs.Rules.{err_is, unnamed, unheld, removed, absent, put_turned, turn_fine, turn_stops}
use Rattle.edit_rules.proofs.Judging.{one_stops, one_left}
use Rattle.edit_rules.proofs.one.judge.Goals as goal
use Rattle.edit_rules.proofs.one.judge.Goals.{In-Some}

-- the change in its turn at its place, where it puts so many bytes, or is refused
module _ (c : In-Some) where
  abbrev Turned : Result ℕ Refusal → Type 0
  Turned x = let i = c.args in TurnedAs (form_of i.alone) (level_of i.a.set) i.a.change i.v.now (ltb c.in-Some.place.at c.in-Some.place.next) x

  fine : {m : ℕ} → Turned (Ok m) → {r : Result Judged Refusal} → let i = c.args in LeftAs (form_of i.alone) i.a c.in-Some.place m r → OneAs (form_of i.alone) i.a i.v.now i.s.now r
  fine q l =
      let i = c.args in
      let t = turn_fine (form_of i.alone) i.a.set i.a.id i.a.change i.v.now i.s.now (sym c.if-not-nameable_of.ensures) (λ k. (c.type_inv.s k).fits) c.requires.0 _ c.in-Some.ensures q in
      one_left (form_of i.alone) i.a i.v.now i.s.now (λ k. (c.type_inv.s k).fits) c.requires.0 c.requires.1 t l

  stops : (x : Refusal) → Turned (Err x) → let i = c.args in OneAs (form_of i.alone) i.a i.v.now i.s.now (Err x)
  stops x q =
      let i = c.args in
      one_stops (form_of i.alone) i.a i.v.now i.s.now x
      (turn_stops (form_of i.alone) i.a.set i.a.id i.a.change i.v.now i.s.now (sym c.if-not-nameable_of.ensures) (λ k. (c.type_inv.s k).fits) c.requires.0 _ c.in-Some.ensures x q)

pub returns-then-not-nameable_of : goal.returns-then-not-nameable_of
returns-then-not-nameable_of c =
    let i = c.args in
    one_stops (form_of i.alone) i.a i.v.now i.s.now NotEditable
    (unnamed (form_of i.alone) i.a.set i.a.id i.a.change i.v.now i.s.now (sym c.if-not-nameable_of.ensures))

pub returns-in_default : goal.returns-in_default
returns-in_default c =
    let i = c.args in
    one_stops (form_of i.alone) i.a i.v.now i.s.now Absent (unheld (form_of i.alone) i.a.set i.a.id i.a.change i.v.now i.s.now (sym c.if-not-nameable_of.ensures) c.in_default.ensures)

pub returns-then-place : goal.returns-then-place
returns-then-place c = fine (goal.at.returns-then-place c).In-Some (removed _ _ _ _ c.if-c.true (lt-ltb _ _ c.if-place.true)) c.left_of.ensures

pub returns-then-c : goal.returns-then-c
returns-then-c c = stops (goal.at.returns-then-c c).In-Some Absent (absent _ _ _ _ c.if-c.true (le-ltb _ _ c.if-place.false))

pub returns-in_err-size : goal.returns-in_err-size
returns-in_err-size c =
    let i = c.args in
    rw (err_is _ _ c.from_residual.ensures)
    (stops (goal.at.returns-in_err-size c).In-Some _ (put_turned (form_of i.alone) (level_of i.a.set) i.a.change i.v.now c.if-c.false _ (Err _) c.in_err-size.ensures))

pub returns : goal.returns
returns c =
    let i = c.args in
    fine (goal.at.returns c).In-Some (put_turned (form_of i.alone) (level_of i.a.set) i.a.change i.v.now c.if-c.false _ (Ok _) c.in_ok-size.ensures) c.left_of-2.ensures
