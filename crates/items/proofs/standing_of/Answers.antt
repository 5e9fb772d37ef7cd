-- `items::standing_of` meets its contract.
use Rattle.std.proofs.Common.{sym, ◌∙◌}
use Rattle.items.proofs.Tests.{standing_9, standing_13, standing_14, standing_0}
use Rattle.items.proofs.standing_of.Goals as goal

pub returns-then-dup : goal.returns-then-dup
returns-then-dup c = λ seen d n. standing_9 _ _ _ _ _ (sym c.if-dup.true ∙ d)

pub returns-then-not-stands : goal.returns-then-not-stands
returns-then-not-stands c = λ seen d n. standing_13 _ _ _ _ _ (sym c.if-dup.false ∙ d) (sym c.if-not-stands.true ∙ c.stands.ensures)

pub returns-then-not-begins : goal.returns-then-not-begins
returns-then-not-begins c = λ seen d n.
    standing_14 _ _ _ _ _ (sym c.if-dup.false ∙ d) (sym c.if-not-stands.false ∙ c.stands.ensures) _ n (sym c.if-not-begins.true ∙ c.begins.ensures)

pub returns : goal.returns
returns c = λ seen d n. standing_0 _ _ _ _ _ (sym c.if-dup.false ∙ d) (sym c.if-not-stands.false ∙ c.stands.ensures) _ n (sym c.if-not-begins.false ∙ c.begins.ensures)
