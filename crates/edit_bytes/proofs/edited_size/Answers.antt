-- `edit_bytes::edited_size` meets its contract. z is where the size of the series is known.
use native.Mathlib.Omega.{arith}
use Rattle.coding.proofs.Counts.{len_most}
use Rattle.edit_rules.proofs.Sizes.{size_set, size_pack}
use Rattle.edit_bytes.proofs.edited_size.Goals as goal

pub returns-then-set : goal.returns-then-set
returns-then-set c = let i = c.args in size_set i.p i.n c.if-set.true

pub overflow_add-result-2 : goal.overflow_add-result-2
overflow_add-result-2 c = omega (arith, len_most c.packs_size-packs.result, len_most c.args.n)

pub overflow_add-result-3 : goal.overflow_add-result-3
overflow_add-result-3 c = omega (arith, len_most c.packs_size-packs.result, len_most c.args.n)

pub overflow_add-result-4 : goal.overflow_add-result-4
overflow_add-result-4 c = omega (arith, len_most c.packs_size-packs.result, len_most c.args.n)

pub returns : goal.returns
returns c =
    let i = c.args in
    size_pack i.p i.n c.if-set.false c.packs_size-packs.ensures c.len_width.ensures
