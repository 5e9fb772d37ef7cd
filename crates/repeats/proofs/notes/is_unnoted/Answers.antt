-- `notes::is_unnoted` meets its contract.
use mathlib.Core.Path.{sym, ◌∙◌}
use native.Mathlib.Omega.{arith}
use Rattle.format.proofs.Words.Answers.{no_bool}
use borrow.Author.Tests.{not-true}
use Rattle.repeats.proofs.notes.is_unnoted.Goals as goal

pub returns-then-bits-i : goal.returns-then-bits-i
returns-then-bits-i c = λ e. no_bool e

pub returns : goal.returns
returns c = λ e. (omega (arith, c.if-bits-i.false), sym c.is_noted.ensures ∙ not-true _ e)
