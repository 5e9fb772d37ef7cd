-- `edit_bytes::body_size` meets its contract.
use native.Mathlib.Omega.{arith}
use Rattle.edit_rules.proofs.Sizes.{cut_few}
use Rattle.edit_bytes.proofs.body_size.Goals as goal

pub overflow_add-result : goal.overflow_add-result
overflow_add-result c = omega (arith, cut_few c.args.k.lo c.requires.0)

pub overflow_add-result-2 : goal.overflow_add-result-2
overflow_add-result-2 c = omega (arith, cut_few c.args.k.lo c.requires.0)

pub overflow_add-result-3 : goal.overflow_add-result-3
overflow_add-result-3 c = omega (arith, cut_few c.args.k.lo c.requires.0, cut_few c.args.k.hi c.requires.1)

pub overflow_add-result-4 : goal.overflow_add-result-4
overflow_add-result-4 c = omega (arith, cut_few c.args.k.lo c.requires.0, cut_few c.args.k.hi c.requires.1)
