-- From C: number and place come back out of the one number, as VMTI_NUMBER and VMTI_PLACE take them, so that what is promised of the
-- calls holds of what C gets.
use Rattle.std.specs.Prelude.{List, ℕ, ◌/◌, ◌%◌}
use Rattle.format.specs.Coding.{Bytes}
use Rattle.format.specs.Table.{Form}
use Rattle.format.specs.Calls.{read, write, normalise}
use Rattle.format.specs.Edit.{Holder, Changes, edit}
use Rattle.format.specs.Targets.{add_target, drop_target}
use Rattle.answers.specs.Meet.{Answer, answer_of}
use Rattle.answers.specs.Calls.{Reads, Writes, Normalises, Edits, Adds, Drops}
use Rattle.vmti.specs.Meet.{Returns}

abbrev pub said_by : ℕ → Answer
said_by r = answer_of (r % 256) (r / 256)

pub record FromC : Type 0 where
  pub reads : (f : Form) (packet lent : List ℕ) (r : ℕ) (left : List ℕ) → Bytes packet → Returns lent (read f packet) r left → Reads f packet lent (said_by r) left
  pub writes : (sheet lent : List ℕ) (r : ℕ) (left : List ℕ) → Returns lent (write sheet) r left → Writes sheet lent (said_by r) left
  pub normalises : (f : Form) (packet lent : List ℕ) (r : ℕ) (left : List ℕ) → Bytes packet → Returns lent (normalise f packet) r left
      → Normalises f packet lent (said_by r) left
  pub edits : (f : Form) (h : Holder) (cs : Changes) (packet lent : List ℕ) (r : ℕ) (left : List ℕ) → Returns lent (edit f h cs packet) r left
      → Edits f h cs packet lent (said_by r) left
  pub adds : (f : Form) (packet records lent : List ℕ) (r : ℕ) (left : List ℕ) → Returns lent (add_target f packet records) r left → Adds f packet records lent (said_by r) left
  pub drops : (f : Form) (packet : List ℕ) (id : ℕ) (lent : List ℕ) (r : ℕ) (left : List ℕ) → Returns lent (drop_target f packet id) r left
      → Drops f packet id lent (said_by r) left
