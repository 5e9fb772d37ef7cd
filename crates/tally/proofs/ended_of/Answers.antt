-- `tally::ended_of` meets its contract.
use borrow.Author.Tests.{not-true, not-false}
use Rattle.tally.proofs.Ends.{ended_unlike, ended_none, ended_bare}
use Rattle.tally.proofs.ended_of.Goals as goal

pub returns-then-not-alike : goal.returns-then-not-alike
returns-then-not-alike c =
    let a = c.args in
    ended_unlike a.alone a.held c.is_held.ensures c.is_held-2.ensures c.alike.ensures (not-true _ c.if-not-alike.true-raw)

pub returns-then-either : goal.returns-then-either
returns-then-either c =
    let a = c.args in
    ended_none a.alone a.held c.is_held.ensures c.is_held-2.ensures c.alike.ensures (not-false _ c.if-not-alike.false-raw) c.is_held-3.ensures c.either.ensures c.if-either.true

pub returns : goal.returns
returns c =
    let a = c.args in
    ended_bare a.alone a.held c.is_held.ensures c.is_held-2.ensures c.alike.ensures (not-false _ c.if-not-alike.false-raw) c.is_held-3.ensures c.either.ensures c.if-either.false
