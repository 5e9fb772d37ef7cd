-- `coding::widths::short_total` meets its contract.
use Rattle.std.proofs.Common.{arith}
use Rattle.coding.proofs.Counts.{len_most}
use Rattle.coding.proofs.widths.short_total.Goals as goal

pub overflow_add-result : goal.overflow_add-result
overflow_add-result c = omega (arith, len_most c.args.n)

pub overflow_add-result-2 : goal.overflow_add-result-2
overflow_add-result-2 c = omega (arith, len_most c.args.n)
