-- `find::around::is_length` meets its contract.
use mathlib.Core.Path.{sym, ◌∙◌}
use borrow.Author.Tests.{eqb-true}
use Rattle.find.proofs.Alikes.{len_short, len_wide}
use Rattle.find.proofs.around.is_length.Goals as goal
use Rattle.find.proofs.around.is_length.Goals.{then-this-eq1, else-this-eq1}

pub returns-then-s-p : goal.returns-then-s-p
returns-then-s-p g c e = elim c.if-this-eq1.branch [
  | then-this-eq1 w ↦ len_short c.args.s.now c.args.p c.args.size c.requires.0 c.requires.1 w.if-this-eq1.true (eqb-true _ _ e)
  | else-this-eq1 w ↦ len_wide c.args.s.now c.args.p c.args.size c.requires.0 c.requires.1 w.if-this-eq1.false (eqb-true _ _ (sym w.value-is ∙ c.if-s-p.true)) (eqb-true _ _ e)
]
