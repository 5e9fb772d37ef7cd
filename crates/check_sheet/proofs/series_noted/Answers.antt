-- `check_sheet::series_noted` meets its contract: all of its targets are told with their ids noted, or the walk over them goes on.
use Rattle.check_sheet.proofs.SetTurns.{all_asks, all_walked}
use Rattle.check_sheet.proofs.series_noted.Goals as goal

pub after_series-requires : goal.after_series-requires
after_series-requires c = all_asks c.requires.0 c.requires.1 (λ i. (c.type_inv.s i).fits) c.noted-e.ensures c.if-e-t.true

pub returns-then-e-t : goal.returns-then-e-t
returns-then-e-t c = all_walked c.requires.0 c.requires.1 (λ i. (c.type_inv.s i).fits) c.noted-e.ensures c.if-e-t.true c.after_series.ensures c.walked.ensures
