-- `items::sized_of` meets its contract.
use Rattle.std.proofs.Common.{ap, ◌∙◌}
use Rattle.std.proofs.lemmas.Bool.{lt-leb}
use Rattle.items.specs.Meet.{kind_number}
use Rattle.items.proofs.Tests.{sized_under, sized_any, sized_over, sized_six, sized_plain, listed_kind, location_alone, unlisted_alone}
use Rattle.items.proofs.sized_of.Goals as goal

pub returns-then-n-least : goal.returns-then-n-least
returns-then-n-least c = let a = c.args in sized_under a.rule a.n c.if-n-least.true

pub returns-in-Unlisted : goal.returns-in-Unlisted
returns-in-Unlisted c = let a = c.args in sized_any a.rule a.n c.if-n-least.false (ap kind_number c.in-Unlisted.is)

pub returns-then-n-most : goal.returns-then-n-most
returns-then-n-most c = let a = c.args in sized_six a.rule a.n c.if-n-least.false (listed_kind _ (ap kind_number c.in-Location.is)) c.if-n-most.true (ap kind_number c.in-Location.is)

pub returns-else-n-most : goal.returns-else-n-most
returns-else-n-most c = let a = c.args in lt-leb a.n a.rule.most c.if-n-most.false ∙ sized_over a.rule a.n c.if-n-least.false (listed_kind _ (ap kind_number c.in-Location.is)) c.if-n-most.false

pub returns-in_default : goal.returns-in_default
returns-in_default c =
    let a = c.args in
    sized_plain a.rule a.n c.if-n-least.false (λ e. c.in_default.not-Unlisted (unlisted_alone _ e)) (λ e. c.in_default.not-Location (location_alone _ e))
