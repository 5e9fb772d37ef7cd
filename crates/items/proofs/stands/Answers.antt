-- `items::stands` meets its contract.
use borrow.Author.Tests.{ne_eqb}
use Rattle.format.specs.Table.{may_stand}
use Rattle.items.proofs.stands.Goals as goal

pub returns-then-alone : goal.returns-then-alone
unfolding may_stand
returns-then-alone c = rw (c.if-set.true, c.if-tag-eq1.true, c.if-alone.true)

pub returns-then-tag-eq1 : goal.returns-then-tag-eq1
unfolding may_stand
returns-then-tag-eq1 c = rw (c.if-set.true, c.if-tag-eq1.true, c.if-alone.false)

pub returns-then-set : goal.returns-then-set
unfolding may_stand
returns-then-set c = rw (c.if-set.true, ne_eqb c.args.tag 1 c.if-tag-eq1.false)

pub returns-then-alone-2 : goal.returns-then-alone-2
unfolding may_stand
returns-then-alone-2 c = rw (c.if-set.false, c.if-alone-2.true, c.is_offset.ensures)

pub returns : goal.returns
unfolding may_stand
returns c = rw (c.if-set.false, c.if-alone-2.false)
