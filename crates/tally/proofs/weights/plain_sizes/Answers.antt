-- `tally::weights::plain_sizes` meets its contract.
use borrow.Author.Tests.{ne_eqb}
use Rattle.tally.specs.Meet.{item_sizes}
use Rattle.tally.proofs.weights.plain_sizes.Goals as goal
use Rattle.tally.proofs.weights.plain_sizes.Goals.{then-set+else-tag-eq1, else-set}

pub returns-then-tag-eq1 : goal.returns-then-tag-eq1
unfolding item_sizes
returns-then-tag-eq1 c = rw (c.if-set.true, c.if-tag-eq1.true)

pub returns : goal.returns
unfolding item_sizes
returns c =
    elim c.if-set.branch [
      | then-set+else-tag-eq1 w ↦ rw (w.if-set.true, ne_eqb c.args.tag 1 w.if-tag-eq1.false, c.short_total.ensures)
      | else-set w ↦ rw (w.if-set.false, c.short_total.ensures)
    ]
