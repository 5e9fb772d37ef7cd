-- `edit_rules::two::set_fault` meets its contract: the item may be named, then it is looked for, or its value is judged.
use mathlib.Core.Path.{refl, sym}
use borrow.Author.Tests.{lt-ltb, le-ltb}
use Rattle.coding.specs.declared.refusals.Refusal.TheVariants.{Absent}
use Rattle.std.specs.Prelude.{Ok, Err}
use Rattle.format.specs.Table.{set}
use Rattle.items.specs.Meet.{form_of}
use Rattle.edit_rules.proofs.Sets.{spot_stands}
use Rattle.edit_rules.proofs.Rules.{removed, absent, put_turned}
use Rattle.edit_rules.proofs.Judging.{set_unnamed, set_first, set_second}
use Rattle.edit_rules.proofs.two.set_fault.Goals as goal

pub returns-then-not-nameable_of : goal.returns-then-not-nameable_of
returns-then-not-nameable_of c = let i = c.args in set_unnamed (form_of i.alone) i.c i.v.now i.s.now (sym c.if-not-nameable_of.ensures)

pub item_spot-a-requires : goal.item_spot-a-requires
item_spot-a-requires c = (c.requires.short, (_, c.requires.ran))

pub returns-then-a : goal.returns-then-a
returns-then-a c =
    let i = c.args in
    let n = sym c.if-not-nameable_of.ensures in
    let stands = spot_stands (form_of i.alone) i.s.now (λ n. (c.type_inv.s n).fits) c.requires i.c.tag n (c.item_spot-a.ensures _ c.requires.ran) in
    set_second (form_of i.alone) i.c i.v.now i.s.now n stands 0 (removed (form_of i.alone) set i.c i.v.now c.if-c.true (lt-ltb _ _ c.if-a.true))

pub returns-then-c : goal.returns-then-c
returns-then-c c =
    let i = c.args in
    let n = sym c.if-not-nameable_of.ensures in
    let stands = spot_stands (form_of i.alone) i.s.now (λ n. (c.type_inv.s n).fits) c.requires i.c.tag n (c.item_spot-a.ensures _ c.requires.ran) in
    set_first (form_of i.alone) i.c i.v.now i.s.now n stands Absent (absent (form_of i.alone) set i.c i.v.now c.if-c.true (le-ltb _ _ c.if-a.false))

pub returns-in-Ok : goal.returns-in-Ok
returns-in-Ok c =
    let i = c.args in
    let n = sym c.if-not-nameable_of.ensures in
    set_second (form_of i.alone) i.c i.v.now i.s.now n refl _ (put_turned (form_of i.alone) set i.c i.v.now c.if-c.false _ (Ok _) c.in-Ok.ensures)

pub returns-in-Err : goal.returns-in-Err
returns-in-Err c =
    let i = c.args in
    let n = sym c.if-not-nameable_of.ensures in
    set_first (form_of i.alone) i.c i.v.now i.s.now n refl _ (put_turned (form_of i.alone) set i.c i.v.now c.if-c.false _ (Err _) c.in-Err.ensures)
