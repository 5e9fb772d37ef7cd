-- `check_sheet::set_glanced` meets its contract.
use Rattle.tally_records.proofs.PartTurns.{records_start}
use Rattle.check_sheet.proofs.set_glanced.Goals as goal

pub returns : goal.returns
returns c = rw (c.stage_at.ensures, c.nothing.ensures) (records_start _ _ _)
