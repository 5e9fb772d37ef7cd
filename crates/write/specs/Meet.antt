-- Where `write` meets document 01: a sheet's refusal as an answer.
use Rattle.check_sheet.specs.Sheets.{Sheeted, Fine, Wrong}
use Rattle.answers.specs.Meet.{Answer, answer_of}

abbrev pub sheet_refusal : Sheeted → Answer
sheet_refusal (Fine a n i) = answer_of 0 0
sheet_refusal (Wrong n p) = answer_of n p
