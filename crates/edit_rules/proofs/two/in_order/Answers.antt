-- `edit_rules::two::in_order` meets its contract.
use mathlib.Core.Path.{sym, ap, ap₂, ◌∙◌}
use Prim.Native.Nat.{◌≤◌, ◌<◌}
use native.Mathlib.Omega.{arith}
use mathlib.Core.Bool.{true, false}
use borrow.Author.Tests.{lt-ltb, le-ltb}
use Rattle.edit_rules.specs.Meet.{cuts_of, judged}
use Rattle.edit_rules.proofs.Edits.{as_asked, turned_round}
use Rattle.edit_rules.proofs.two.in_order.Goals as goal

pub returns-then-b-a : goal.returns-then-b-a
returns-then-b-a c =
    let i = c.args in
    let a = c.own-a.ensures in
    let b = c.own-b.ensures in
    let l : i.second.at < i.first.at = omega (arith, c.if-b-a.true, ap (λ x. x.at) a, ap (λ x. x.at) b) in
    ap₂ (λ x y. judged (cuts_of i.place x y) true) b a ∙ sym (turned_round i.place i.first i.second (lt-ltb _ _ l))

pub returns : goal.returns
returns c =
    let i = c.args in
    let a = c.own-a.ensures in
    let b = c.own-b.ensures in
    let l : i.first.at ≤ i.second.at = omega (arith, c.if-b-a.false, ap (λ x. x.at) a, ap (λ x. x.at) b) in
    ap₂ (λ x y. judged (cuts_of i.place x y) false) a b ∙ sym (as_asked i.place i.first i.second (le-ltb _ _ l))
