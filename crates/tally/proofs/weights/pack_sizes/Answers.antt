-- `tally::weights::pack_sizes` meets its contract.
use Prim.Native.Nat.{◌+◌}
use native.Mathlib.Omega.{arith}
use mathlib.Core.Path.{refl}
use Rattle.coding.proofs.Counts.{len_most}
use Rattle.tally.proofs.Walks.{same_sizes}
use Rattle.tally.proofs.weights.pack_sizes.Goals as goal

pub overflow_add-result-3 : goal.overflow_add-result-3
overflow_add-result-3 c =
    omega (arith, c.len_width.ensures, len_most (c.args.used + c.args.a.normal), c.requires.0, c.requires.1.normal)

pub returns : goal.returns
returns c = same_sizes refl refl (rw c.len_width.ensures) refl
