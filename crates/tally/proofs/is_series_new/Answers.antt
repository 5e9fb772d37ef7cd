-- `tally::is_series_new` meets its contract: each `false` says nothing.
use native.Mathlib.Omega.{arith}
use borrow.Author.Tests.{ltb-true}
use Rattle.format.proofs.Words.Answers.{no_bool}
use Rattle.tally.proofs.is_series_new.Goals as goal

pub returns-then-p-eq0 : goal.returns-then-p-eq0
returns-then-p-eq0 c = λ e. no_bool e

pub returns : goal.returns
returns c = λ e. (omega (arith, c.if-p-eq0.false), ltb-true _ _ e)
