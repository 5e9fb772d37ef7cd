-- `write_sheet::item_sheet` meets its contract: at the set's start nothing is passed.
use mathlib.Core.Bool.{true}
use Rattle.write_sheet.proofs.Turns.{rest_whole}
use Rattle.write_sheet.proofs.item_sheet.Goals as goal

pub rest_sheet-requires : goal.rest_sheet-requires
rest_sheet-requires c = (_, _, rest_whole {b = true} c.requires.1)

pub returns : goal.returns
returns c = λ f a. c.rest_sheet.ensures f _ (rest_whole {b = true} a)
