-- `target_bytes::series_size` meets its contract.
use Rattle.std.proofs.Common.{arith}
use Rattle.coding.proofs.Counts.{len_most}
use Rattle.target_bytes.proofs.Sizes.{series_none, series_some}
use Rattle.target_bytes.proofs.series_size.Goals as goal

pub returns-then-inner-eq0 : goal.returns-then-inner-eq0
returns-then-inner-eq0 c = series_none c.args.inner c.if-inner-eq0.true

pub overflow_add-result : goal.overflow_add-result
overflow_add-result c = omega (arith, len_most c.args.inner)

pub overflow_add-result-2 : goal.overflow_add-result-2
overflow_add-result-2 c = omega (arith, len_most c.args.inner)

pub returns : goal.returns
returns c = series_some c.args.inner c.if-inner-eq0.false c.len_width.ensures
