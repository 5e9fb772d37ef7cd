-- `stages::after_series` meets its contract.
use Rattle.tally.proofs.stages.after_series.Goals as goal

pub series_sizes-requires : goal.series_sizes-requires
series_sizes-requires c = c.requires.0

pub plus-sum-requires : goal.plus-sum-requires
plus-sum-requires c = rw c.series_sizes.ensures (c.requires.1, c.requires.2)

pub returns : goal.returns
returns c = rw (c.stage_at.ensures, c.plus-sum.ensures, c.series_sizes.ensures)
