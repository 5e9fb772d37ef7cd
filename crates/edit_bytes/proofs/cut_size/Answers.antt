-- `edit_bytes::cut_size` meets its contract.
use Rattle.edit_bytes.proofs.cut_size.Goals as goal

pub returns-then-c : goal.returns-then-c
returns-then-c c = rw c.if-c.true

pub returns : goal.returns
returns c = rw c.if-c.false c.short_total.ensures
