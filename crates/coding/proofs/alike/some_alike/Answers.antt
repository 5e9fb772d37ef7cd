-- `coding::alike::some_alike` meets its contract: if all were alike so far, the first i are.
use Rattle.std.proofs.Common.{sym, ◌∙◌, arith}
use Rattle.format.proofs.Words.Answers.{and_both}
use Rattle.coding.proofs.Alikes.{alike_none, alike_more, alike_less}
use Rattle.coding.proofs.alike.some_alike.Goals as goal

pub loop-i-init : goal.loop-i-init
loop-i-init c = (omega arith, λ _. alike_none _ _ _)

pub loop-i-preserved : goal.loop-i-preserved
loop-i-preserved c = (omega arith, λ e. let (x, y) = and_both _ _ (sym c.both-alike.ensures ∙ e) in alike_more (c.loop-i.invariant.1 x) (c.is_alike.ensures y))

pub returns : goal.returns
returns c = λ e. alike_less (c.loop-i.invariant.1 e) (omega arith)
