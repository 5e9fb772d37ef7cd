-- Where the code that checks a whole sheet meets document 01: what its answers mean.
use Rattle.std.specs.Prelude.{Result, Ok, Err, map, length}
use Rattle.format.specs.Answer.{Ans, ok, refused}
use Rattle.format.specs.Lists.{flat_all}
use Rattle.format.specs.Table.{is_alone}
use Rattle.format.specs.Packet.{flat_entry}
use Rattle.format.specs.Sheet.{Sheet}
use Rattle.format.specs.Calls.{entry_of}
use Rattle.coding.specs.declared.refusals.Fault.{Fault}
use Rattle.coding.specs.Refusals.{number}
use Rattle.tally.specs.Meet.{total, weight_of_part}
use Rattle.check_sheet.specs.declared.Sheeted as declared
use Rattle.check_sheet.specs.Sheets.{Sheeted, Fine, Wrong}

-- its form, the bytes of its packet's set, and those of the series' packs
abbrev pub sheeted_of : Ans Sheet → Sheeted
sheeted_of (ok t) = Fine (is_alone t.form) (length (flat_all flat_entry (map entry_of t.parts))) (total weight_of_part t.parts).inner
sheeted_of (refused n p) = Wrong n p

-- the same, as the code has it
abbrev pub sheeted : Result declared.Sheeted Fault → Sheeted
sheeted (Ok t) = Fine t.alone t.normal t.inner
sheeted (Err e) = Wrong (number e.refusal) e.place
