-- `target_bytes::entries_size` meets its contract.
use Rattle.std.proofs.Common.{arith}
use Rattle.target_bytes.proofs.Sizes.{around_six, series_few, six_few}
use Rattle.target_bytes.proofs.entries_size.Goals as goal

pub overflow_sub-result-4 : goal.overflow_sub-result-4
overflow_sub-result-4 c = around_six c.args.series c.requires.0

pub overflow_add-result : goal.overflow_add-result
overflow_add-result c = omega (arith, around_six c.args.series c.requires.0, series_few c.args.inner)

pub overflow_add-result-2 : goal.overflow_add-result-2
overflow_add-result-2 c =
    omega (arith, around_six c.args.series c.requires.0, series_few c.args.inner, six_few c.args.series c.args.count c.requires.1)
