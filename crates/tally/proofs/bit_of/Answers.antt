-- `tally::bit_of` meets its contract.
use mathlib.Core.Path.{◌∙◌}
use Prim.Native.Nat.{◌^◌}
use native.Mathlib.Omega.{arith}
use native.Mathlib.Nat.{one-mul}
use lib.Dec.{lit<}
use lib.Pow.{shl_exact}
use borrow.Author.Tests.{lt-ltb, le-ltb}
use Rattle.tally.specs.Meet.{bit_of}
use Rattle.tally.proofs.bit_of.Goals as goal

pub returns-then-tag-lt64 : goal.returns-then-tag-lt64
unfolding bit_of
returns-then-tag-lt64 c = let t = c.args.tag in rw (lt-ltb t 64 (omega arith), bit_of) (shl_exact 1 t 64 (lit< tt) (omega arith) ∙ one-mul (2 ^ t))

pub returns-else-tag-lt64 : goal.returns-else-tag-lt64
unfolding bit_of
returns-else-tag-lt64 c = let t = c.args.tag in rw (le-ltb t 64 (omega arith), bit_of)
