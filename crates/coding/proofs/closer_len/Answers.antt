-- `coding::closer_len` meets its contract: each refusal says nothing.
use Rattle.std.proofs.Common.{arith}
use Rattle.coding.proofs.Lens.{len_small, len_two}
use Rattle.coding.proofs.closer_len.Goals as goal

pub returns-then-b-lt128 : goal.returns-then-b-lt128
returns-then-b-lt128 c = let b = c.wide-b in len_small _ b.result b.ensures.0 (omega arith) (omega arith)

pub returns : goal.returns
returns c =
    let b = c.wide-b in
    len_two _ b.ensures.0 (omega (arith, c.if-b-ne129.false)) (omega arith) c.wide-value.ensures.0
