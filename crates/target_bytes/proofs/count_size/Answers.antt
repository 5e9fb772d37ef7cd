-- `target_bytes::count_size` meets its contract.
use Rattle.std.proofs.Common.{arith}
use Rattle.target_bytes.proofs.Counts.{low_long, high_long}
use Rattle.target_bytes.proofs.count_size.Goals as goal

pub returns-then-count-lt256 : goal.returns-then-count-lt256
returns-then-count-lt256 c = omega (arith, low_long c.args.count c.if-count-lt256.true)

pub returns-else-count-lt256 : goal.returns-else-count-lt256
returns-else-count-lt256 c = omega (arith, high_long c.args.count c.if-count-lt256.false c.requires)
