-- `read::head_of` meets its contract, by cases of the form.
use Rattle.read.proofs.head_of.Goals as goal

pub returns-then-alone : goal.returns-then-alone
returns-then-alone c = rw c.if-alone.true

pub returns-else-alone : goal.returns-else-alone
returns-else-alone c = rw c.if-alone.false
