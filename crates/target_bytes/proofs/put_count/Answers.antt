-- `target_bytes::put_count` meets its contract.
use Rattle.std.proofs.Common.{arith}
use Rattle.target_bytes.proofs.Counts.{low_long, high_long}
use Rattle.target_bytes.proofs.Storing.{low_stored, high_stored}
use Rattle.target_bytes.proofs.put_count.Goals as goal

pub put_number-requires : goal.put_number-requires
put_number-requires c = omega (arith, c.requires.1, low_long c.args.count c.if-count-lt256.true)

pub returns-then-count-lt256 : goal.returns-then-count-lt256
returns-then-count-lt256 c = low_stored _ _ _ c.if-count-lt256.true c.put_number.ensures

pub put_number-requires-2 : goal.put_number-requires-2
put_number-requires-2 c = omega (arith, c.requires.1, high_long c.args.count c.if-count-lt256.false c.requires.0)

pub returns : goal.returns
returns c = high_stored _ _ _ c.if-count-lt256.false c.requires.0 c.put_number-2.ensures
