-- `coding::widths::len_width` meets its contract.
use Rattle.std.proofs.Common.{arith}
use Rattle.coding.proofs.Counts.{len_one, len_most, len_below, len_is}
use Rattle.coding.proofs.widths.len_width.Goals as goal

pub returns-then-n-lt128 : goal.returns-then-n-lt128
returns-then-n-lt128 c = len_one _ (omega arith)

pub returns-then-n-lt256 : goal.returns-then-n-lt256
returns-then-n-lt256 c = len_is _ (omega arith) 0 (omega arith) (omega arith) (len_below _ (omega arith) 1 (omega arith))

pub returns-then-n-lt65536 : goal.returns-then-n-lt65536
returns-then-n-lt65536 c = len_is _ (omega arith) 1 (omega arith) (omega arith) (len_below _ (omega arith) 2 (omega arith))

pub returns-then-n-lt16777216 : goal.returns-then-n-lt16777216
returns-then-n-lt16777216 c = len_is _ (omega arith) 2 (omega arith) (omega arith) (len_below _ (omega arith) 3 (omega arith))

pub returns : goal.returns
returns c = len_is _ (omega arith) 3 (omega arith) (omega arith) (len_most _)
