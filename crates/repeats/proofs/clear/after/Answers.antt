-- `clear::after` meets its contract: what was known, or what the pass tells.
use Rattle.repeats.proofs.Clears.{clear_first}
use Rattle.repeats.proofs.clear.after.Goals as goal

pub returns-then-top-key : goal.returns-then-top-key
returns-then-top-key c = c.requires

pub returns-then-key-low : goal.returns-then-key-low
returns-then-key-low c = c.requires

pub returns-then-p-lt512 : goal.returns-then-p-lt512
returns-then-p-lt512 c = c.requires

pub returns-then-clear-eq0 : goal.returns-then-clear-eq0
returns-then-clear-eq0 c = clear_first _ _

pub returns-then-clear-gt1 : goal.returns-then-clear-gt1
returns-then-clear-gt1 c = c.requires
