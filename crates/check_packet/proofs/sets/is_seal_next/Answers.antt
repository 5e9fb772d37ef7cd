-- `sets::is_seal_next` meets its contract: each `false` says nothing.
use native.Mathlib.Omega.{arith}
use borrow.Author.Tests.{not-false}
use Rattle.format.proofs.Words.Answers.{no_bool}
use Rattle.check_packet.proofs.sets.is_seal_next.Goals as goal

pub returns-then-not-alone : goal.returns-then-not-alone
returns-then-not-alone c = λ e. no_bool e

pub returns-then-p-eq0 : goal.returns-then-p-eq0
returns-then-p-eq0 c = λ e. no_bool e

pub returns-then-low-le1 : goal.returns-then-low-le1
returns-then-low-le1 c = λ e. no_bool e

pub returns-then-tag-ne1 : goal.returns-then-tag-ne1
returns-then-tag-ne1 c = λ e. no_bool e

pub returns-then-size-ne2 : goal.returns-then-size-ne2
returns-then-size-ne2 c = λ e. no_bool e

pub returns : goal.returns
returns c = λ e. (not-false _ c.if-not-alone.false-raw, omega (arith, c.if-p-eq0.false), omega (arith, c.if-low-le1.false), omega (arith, c.if-tag-ne1.false), omega (arith, c.if-size-ne2.false), e)
