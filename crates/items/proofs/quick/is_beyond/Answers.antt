-- `items::quick::is_beyond` meets its contract.
use native.Mathlib.Omega.{arith}
use borrow.Author.Tests.{lt-ltb, le-ltb}
use Rattle.items.proofs.quick.is_beyond.Goals as goal

pub returns-then-tag-gt12 : goal.returns-then-tag-gt12
returns-then-tag-gt12 c = rw (c.if-set.true, lt-ltb 12 _ c.if-tag-gt12.true)

pub returns-then-set : goal.returns-then-set
returns-then-set c = rw (c.if-set.true, le-ltb 12 c.args.tag (omega (arith, c.if-tag-gt12.false)))

pub returns : goal.returns
returns c = rw c.if-set.false
