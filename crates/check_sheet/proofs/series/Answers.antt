-- `check_sheet::series` meets its contract: all of its targets are told at a glance, or the walk over them goes on.
use Rattle.check_sheet.proofs.SetTurns.{all_asks, all_walked}
use Rattle.check_sheet.proofs.series.Goals as goal

pub after_series-requires : goal.after_series-requires
after_series-requires c = all_asks c.requires.0 c.requires.1 (λ i. (c.type_inv.s i).fits) c.rising-d.ensures c.if-d-t.true

pub returns-then-d-t : goal.returns-then-d-t
returns-then-d-t c = all_walked c.requires.0 c.requires.1 (λ i. (c.type_inv.s i).fits) c.rising-d.ensures c.if-d-t.true c.after_series.ensures c.walked.ensures
