-- `coding::len_of` meets its contract: each way out is a case of `len_of`, over the first byte.
use Rattle.std.proofs.Common.{inl, inr, arith}
use Rattle.coding.proofs.Lens.{len_none, len_small, len_bad, len_cut, len_whole}
use Rattle.coding.proofs.len_of.Goals as goal

pub returns-then-s-eq0 : goal.returns-then-s-eq0
returns-then-s-eq0 c = len_none _ (omega arith)

pub returns-then-b-lt128 : goal.returns-then-b-lt128
returns-then-b-lt128 c = let b = c.wide-b in len_small _ b.result b.ensures.0 (omega arith) (omega arith)

pub returns-then-k-eq0 : goal.returns-then-k-eq0
returns-then-k-eq0 c =
    let b = c.wide-b in
    len_bad _ b.result b.ensures.0 (omega arith) (omega arith) (inl (omega arith))

pub returns-then-k-gt4 : goal.returns-then-k-gt4
returns-then-k-gt4 c =
    let b = c.wide-b in
    len_bad _ b.result b.ensures.0 (omega arith) (omega arith) (inr (omega arith))

pub returns-then-s-k : goal.returns-then-s-k
returns-then-s-k c =
    let b = c.wide-b in
    len_cut _ b.result b.ensures.0 (omega arith) (omega arith) (omega arith) (omega arith) (omega arith)

pub returns : goal.returns
returns c =
    let b = c.wide-b in
    len_whole _ b.result b.ensures.0 (omega arith) (omega arith) c.number_of-value.result (omega arith) (omega arith) (omega arith) c.number_of-value.ensures
