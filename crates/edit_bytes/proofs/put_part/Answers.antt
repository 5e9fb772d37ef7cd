-- `edit_bytes::put_part` meets its contract.
use native.Mathlib.Omega.{arith}
use Rattle.edit_rules.proofs.Storing.{part_none}
use Rattle.edit_bytes.proofs.put_part.Goals as goal

pub returns : goal.returns
returns c = let i = c.args in part_none i.s.now i.from i.to (omega (arith, c.if-from-to.false)) i.out.now i.at
