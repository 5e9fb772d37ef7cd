-- `clear::note_part` meets its contract.
use Rattle.repeats.proofs.Parts.{bits_more, bits_same}
use Rattle.repeats.proofs.clear.note_part.Goals as goal

pub returns-then-key-part : goal.returns-then-key-part
returns-then-key-part c = bits_same _ _ _ c.if-key-part.true

pub returns : goal.returns
returns c = bits_more _ _ _ _ c.requires c.note.ensures
