-- `notes::note` meets its contract.
use native.Mathlib.Omega.{arith}
use Rattle.repeats.proofs.Bits.{notes_more, notes_same}
use Rattle.repeats.proofs.notes.note.Goals as goal

pub returns-then-bits-eq0 : goal.returns-then-bits-eq0
returns-then-bits-eq0 c = notes_same _ _ (omega (arith, c.if-bits-eq0.true))

pub returns-then-bits-i : goal.returns-then-bits-i
returns-then-bits-i c = notes_same _ _ (omega (arith, c.if-bits-i.true))

pub returns : goal.returns
returns c = notes_more _ _ (omega (arith, c.if-bits-i.false))
