-- `items::short_size` meets its contract.
use mathlib.Core.Path.{sym, ap, ◌∙◌}
use lib.ListN.{length}
use Rattle.items.specs.Meet.{rule_from}
use Rattle.items.proofs.Tests.{short_first, short_whole, short_some, short_none}
use Rattle.items.proofs.short_size.Goals as goal

pub returns-then-v-ne0 : goal.returns-then-v-ne0
returns-then-v-ne0 c =
    let s = c.before.before.before.before in
    sym (ap length (short_first (rule_from s.args.rule) s.args.v.now s.requires c.if-v-ne0.true))

pub returns-then-z-v : goal.returns-then-z-v
returns-then-z-v c =
    let i = c.before.before.before in
    let a = i.args in
    short_some (rule_from a.rule) a.v.now (sym i.if-is_number.true ∙ i.is_number.ensures) _ c.leading-z.ensures c.if-z-v.true

pub returns-then-is_number : goal.returns-then-is_number
returns-then-is_number c =
    let i = c.before.before.before in
    let s = i.before.before.before.before.before in
    short_none (rule_from s.args.rule) s.args.v.now (sym i.if-is_number.true ∙ i.is_number.ensures) _ c.leading-z.ensures s.requires c.if-z-v.false

pub returns : goal.returns
returns c =
    let a = c.args in
    short_whole (rule_from a.rule) a.v.now (sym c.if-is_number.false ∙ c.is_number.ensures)
