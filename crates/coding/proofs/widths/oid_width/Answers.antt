-- `coding::widths::oid_width` meets its contract: k bytes are counted, and those above m's last digit are to come.
use Rattle.std.proofs.Common.{◌/◌, refl, arith}
use Rattle.coding.proofs.Counts.{count_start, count_more, count_done}
use Rattle.coding.proofs.widths.oid_width.Goals as goal

pub returns-then-n-lt128 : goal.returns-then-n-lt128
returns-then-n-lt128 c = let n = c.args.n in count_done n 1 n (count_start n c.requires) c.if-n-lt128.true

pub returns-then-n-lt16384 : goal.returns-then-n-lt16384
returns-then-n-lt16384 c = let n = c.args.n in count_done n 2 (n / 128) (count_more n 1 n (count_start n c.requires) (omega (arith, c.if-n-lt128.false)) refl) (omega (arith, c.if-n-lt16384.true))

pub loop-m-init : goal.loop-m-init
loop-m-init c = count_start _ c.requires

pub overflow_add-k : goal.overflow_add-k
overflow_add-k c = omega arith

pub loop-m-smaller : goal.loop-m-smaller
loop-m-smaller c = omega arith

pub loop-m-preserved : goal.loop-m-preserved
loop-m-preserved c = count_more _ _ _ c.loop-m.invariant (omega arith) c.above7-m.ensures

pub returns : goal.returns
returns c = count_done _ _ _ c.loop-m.invariant (omega arith)
