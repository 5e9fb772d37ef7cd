-- Demand 1 of the calls, closed: for all inputs, whatever is lent, and every answer and buffer that a call's contract allows. `Reads`,
-- `Writes`, `Normalises`, `Edits`, `Adds` and `Drops` are those contracts.
use Rattle.std.specs.Prelude.{List, ℕ, length}
use Rattle.format.specs.Table.{Form}
use Rattle.format.specs.Edit.{Holder, Changes}
use Rattle.answers.specs.Meet.{Answer}
use Rattle.answers.specs.Given.{Answered}
use Rattle.answers.specs.Calls.{Reads, Writes, Normalises, Edits, Adds, Drops}

pub record Demand1 : Type 0 where
  pub reads : (f : Form) (packet lent : List ℕ) (a : Answer) (left : List ℕ) → Reads f packet lent a left → Answered (length packet) lent a left
  pub writes : (sheet lent : List ℕ) (a : Answer) (left : List ℕ) → Writes sheet lent a left → Answered (length sheet) lent a left
  pub normalises : (f : Form) (packet lent : List ℕ) (a : Answer) (left : List ℕ) → Normalises f packet lent a left → Answered (length packet) lent a left
  pub edits : (f : Form) (h : Holder) (cs : Changes) (packet lent : List ℕ) (a : Answer) (left : List ℕ) → Edits f h cs packet lent a left
      → Answered (length packet) lent a left
  pub adds : (f : Form) (packet records lent : List ℕ) (a : Answer) (left : List ℕ) → Adds f packet records lent a left → Answered (length packet) lent a left
  pub drops : (f : Form) (packet : List ℕ) (id : ℕ) (lent : List ℕ) (a : Answer) (left : List ℕ) → Drops f packet id lent a left → Answered (length packet) lent a left
