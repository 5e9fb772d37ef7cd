-- `target_bytes::put_counted` meets its contract: without tag 6's item, and with it.
use mathlib.Core.Logic.{inl, inr}
use Rattle.std.proofs.Common.{arith}
use Rattle.target_bytes.proofs.Storing.{plain_asked, plain_stored, first_asked, count_asked, last_asked, counted_stored}
use Rattle.target_bytes.proofs.put_counted.Goals as goal

pub put_part-requires : goal.put_part-requires
put_part-requires c = (c.requires.2, c.requires.3, plain_asked _ _ _ _ _ _ _ c.requires.5 (inl c.if-six-from.true))

pub returns-then-six-from : goal.returns-then-six-from
returns-then-six-from c = plain_stored _ _ _ _ _ _ _ c.requires.5 (inl c.if-six-from.true) c.put_part.ensures

pub put_part-requires-then-to-six : goal.put_part-requires-then-to-six
put_part-requires-then-to-six c = (c.requires.2, c.requires.3, plain_asked _ _ _ _ _ _ _ c.requires.5 (inr c.if-to-six.true))

pub returns-then-to-six : goal.returns-then-to-six
returns-then-to-six c = plain_stored _ _ _ _ _ _ _ c.requires.5 (inr c.if-to-six.true) c.put_part-then-to-six.ensures

pub put_part-item-requires : goal.put_part-item-requires
put_part-item-requires c = (
  c.if-six-from.false,
  omega (arith, c.if-to-six.false, c.requires.3),
  first_asked _ _ _ _ _ _ _ c.requires.5 c.if-six-from.false c.if-to-six.false,
)

pub put_count-rest-requires : goal.put_count-rest-requires
put_count-rest-requires c = (c.requires.1, count_asked _ _ _ _ _ _ _ c.requires.5 c.if-six-from.false c.if-to-six.false c.put_part-item.ensures)

pub put_part-requires-2 : goal.put_part-requires-2
put_part-requires-2 c = (
  c.requires.4 c.if-to-six.false,
  c.requires.3,
  last_asked _ _ _ _ _ _ _ c.requires.5 c.if-six-from.false c.if-to-six.false c.put_part-item.ensures c.put_count-rest.ensures,
)

pub returns : goal.returns
returns c =
    counted_stored _ _ _ _ _ _ _ c.requires.5 c.if-six-from.false c.if-to-six.false c.put_part-item.ensures c.put_count-rest.ensures c.put_part-2.ensures
