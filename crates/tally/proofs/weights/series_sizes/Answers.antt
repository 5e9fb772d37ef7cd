-- `tally::weights::series_sizes` meets its contract.
use native.Mathlib.Omega.{arith}
use mathlib.Core.Path.{refl}
use Rattle.coding.proofs.Counts.{len_most}
use Rattle.tally.proofs.Walks.{same_sizes}
use Rattle.tally.proofs.weights.series_sizes.Goals as goal

pub overflow_add-result-3 : goal.overflow_add-result-3
overflow_add-result-3 c = omega (arith, c.len_width.ensures, len_most c.args.a.normal)

pub overflow_add-result-4 : goal.overflow_add-result-4
overflow_add-result-4 c =
    omega (arith, c.len_width.ensures, len_most c.args.a.normal, c.requires.normal)

pub returns : goal.returns
returns c = same_sizes refl refl (omega (arith, c.len_width.ensures)) refl
