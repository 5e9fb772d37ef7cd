-- `items::quick::is_other` meets its contract: each `false` says nothing.
use mathlib.Core.Path.{sym, ◌∙◌}
use native.Mathlib.Omega.{arith}
use Rattle.format.proofs.Words.Answers.{no_bool}
use Rattle.items.proofs.quick.is_other.Goals as goal

pub returns-then-tag-gt127 : goal.returns-then-tag-gt127
returns-then-tag-gt127 c = λ e. no_bool e

pub returns-then-n-gt127 : goal.returns-then-n-gt127
returns-then-n-gt127 c = λ e. no_bool e

pub returns-then-n-eq0 : goal.returns-then-n-eq0
returns-then-n-eq0 c = λ e. no_bool e

pub returns : goal.returns
returns c = λ e. (omega (arith, c.if-tag-gt127.false), omega (arith, c.if-n-gt127.false), omega (arith, c.if-n-eq0.false), sym c.is_beyond.ensures ∙ e)
