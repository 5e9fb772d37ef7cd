-- `clear::may_stand` meets its contract.
use mathlib.Core.Path.{sym, ◌∙◌}
use Rattle.repeats.proofs.clear.may_stand.Goals as goal

pub returns-then-key-part : goal.returns-then-key-part
returns-then-key-part c = λ e z. absurd (c.if-key-part.true z)

pub returns : goal.returns
returns c = λ e z. sym c.is_noted_part.ensures ∙ e
