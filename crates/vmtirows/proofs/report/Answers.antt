-- `vmtirows::report` is safe: a table that was filled has four numbers for each row.
use Rattle.std.proofs.Common.{refl}
use Rattle.locate.proofs.Callers.{located_fits}
use Rattle.vmtirows.proofs.report.Goals as goal

pub rows-requires : goal.rows-requires
rows-requires c = located_fits _ _ _ _ _ c.in-Ok.ensures refl
