-- `items::begins` meets its contract.
use Rattle.items.proofs.begins.Goals as goal

pub returns-then-first : goal.returns-then-first
returns-then-first c = rw (c.if-set.true, c.if-alone.true, c.if-first.true)

pub returns-then-alone : goal.returns-then-alone
returns-then-alone c = rw (c.if-set.true, c.if-alone.true, c.if-first.false)

pub returns-then-set : goal.returns-then-set
returns-then-set c = rw (c.if-set.true, c.if-alone.false)

pub returns : goal.returns
returns c = rw c.if-set.false
