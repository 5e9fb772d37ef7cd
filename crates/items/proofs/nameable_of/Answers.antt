-- `items::nameable_of` meets its contract.
use native.Mathlib.Omega.{arith}
use borrow.Author.Tests.{lt-ltb, le-leb, lt-leb, ne_eqb}
use Rattle.format.specs.Table.{nameable}
use Rattle.items.proofs.nameable_of.Goals as goal

pub returns-then-tag-eq0 : goal.returns-then-tag-eq0
unfolding nameable
returns-then-tag-eq0 c = rw c.if-tag-eq0.true

pub returns-then-tag-gt16383 : goal.returns-then-tag-gt16383
unfolding nameable
returns-then-tag-gt16383 c = let t = c.args.tag in rw (lt-ltb 0 t (omega arith), lt-leb t 16383 c.if-tag-gt16383.true)

pub returns-then-tag-eq1 : goal.returns-then-tag-eq1
unfolding nameable
returns-then-tag-eq1 c = rw (c.if-set.true, c.if-tag-eq1.true)

pub returns-then-set : goal.returns-then-set
unfolding nameable
returns-then-set c =
    let t = c.args.tag in
    rw (lt-ltb 0 t (omega arith), le-leb t 16383 (omega arith), c.if-set.true, ne_eqb t 1 c.if-tag-eq1.false)

pub returns : goal.returns
unfolding nameable
returns c =
    let t = c.args.tag in
    rw (lt-ltb 0 t (omega arith), le-leb t 16383 (omega arith), c.if-set.false)
