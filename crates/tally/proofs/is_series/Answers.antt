-- `tally::is_series` meets its contract.
use Rattle.tally.proofs.is_series.Goals as goal

pub returns-then-set : goal.returns-then-set
returns-then-set c = rw c.if-set.true
