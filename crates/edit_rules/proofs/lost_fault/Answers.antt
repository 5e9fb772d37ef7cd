-- `edit_rules::lost_fault` meets its contract.
use Rattle.edit_rules.proofs.Ends.{lost_none, lost_kept, lost_gone}
use Rattle.edit_rules.proofs.lost_fault.Goals as goal
use Rattle.edit_rules.proofs.lost_fault.Goals.{then-not-alone-via-then-not-alone, then-not-alone-via-else-not-alone+then-left_by}

pub returns-then-not-alone : goal.returns-then-not-alone
returns-then-not-alone c = let i = c.args in elim c.then-not-alone.branch [
  | then-not-alone-via-then-not-alone w ↦ lost_none i.a i.b i.tag i.alone w.if-not-alone.true
  | then-not-alone-via-else-not-alone+then-left_by w ↦ lost_kept i.a i.b i.tag i.alone w.if-not-alone.false w.left_by.ensures w.left_by-else-not-alone.ensures w.if-left_by.true
]

pub returns : goal.returns
returns c = let i = c.args in lost_gone i.a i.b i.tag i.alone c.if-not-alone.false c.left_by.ensures c.left_by-else-not-alone.ensures c.if-left_by.false
