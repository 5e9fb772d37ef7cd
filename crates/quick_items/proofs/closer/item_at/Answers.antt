-- `quick_items::closer::item_at` meets its contract: nothing is said of what it does not know.
use mathlib.Core.Path.{sym, ◌∙◌}
use Rattle.items.specs.Meet.{form_of}
use Rattle.quick_items.proofs.Looks.{closer_found}
use Rattle.quick_items.proofs.closer.item_at.Goals as goal

pub returns : goal.returns
returns c =
    let a = c.args in
    closer_found a.set (form_of a.alone) a.s.now a.p c.in_ok-head.head c.in_ok-head.ensures (c.is_new.ensures c.if-not-is_new.false) (sym c.begins.ensures ∙ c.if-not-begins.false) c.in_ok-short.ensures
