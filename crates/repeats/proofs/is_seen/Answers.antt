-- `repeats::is_seen` meets its contract: by the record's bounds, as no key repeats, or by looking back.
use mathlib.Core.Path.{sym, ◌∙◌}
use Rattle.repeats.proofs.Clears.{clear_past}
use Rattle.repeats.proofs.is_seen.Goals as goal

pub returns-then-top-key : goal.returns-then-top-key
returns-then-top-key c seen a = sym (a.under _ c.if-top-key.true)

pub returns-then-key-low : goal.returns-then-key-low
returns-then-key-low c seen a = sym (a.over _ c.if-key-low.true)

pub returns-then-p-clear : goal.returns-then-p-clear
returns-then-p-clear c =
    let k = c.requires in
    clear_past _ _ _ _ _ _ _ k.1 c.if-p-clear.true k.2

pub returns : goal.returns
returns c seen a = c.seen_before.ensures a.keys a.heads ∙ sym (a.same _)
