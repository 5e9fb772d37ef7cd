-- `edit_bytes::packs_size` meets its contract.
use native.Mathlib.Omega.{arith}
use Rattle.coding.proofs.Counts.{len_most}
use Rattle.edit_bytes.proofs.packs_size.Goals as goal

pub overflow_add-result : goal.overflow_add-result
overflow_add-result c = omega (arith, len_most c.args.n)

pub overflow_add-result-2 : goal.overflow_add-result-2
overflow_add-result-2 c = omega (arith, len_most c.args.n)

pub overflow_add-result-3 : goal.overflow_add-result-3
overflow_add-result-3 c = omega (arith, len_most c.args.n)
