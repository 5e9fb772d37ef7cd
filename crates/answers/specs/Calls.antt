-- What the contracts of the calls say, each as a relation: of the input, what was lent, the answer, and what is left there. The demands
-- of the calls speak of the same relations.
use Rattle.std.specs.Prelude.{◌≡◌, List, ℕ}
use Rattle.format.specs.Table.{Form}
use Rattle.format.specs.Room.{leaves}
use Rattle.format.specs.Calls.{read, write, normalise}
use Rattle.format.specs.Edit.{Holder, Changes, edit}
use Rattle.format.specs.Targets.{add_target, drop_target}
use Rattle.answers.specs.Meet.{Answer, left_of}

abbrev pub Reads : Form → List ℕ → List ℕ → Answer → List ℕ → Type 0
Reads f packet lent a left = left_of a left ≡ leaves lent (read f packet)

abbrev pub Writes : List ℕ → List ℕ → Answer → List ℕ → Type 0
Writes sheet lent a left = left_of a left ≡ leaves lent (write sheet)

abbrev pub Normalises : Form → List ℕ → List ℕ → Answer → List ℕ → Type 0
Normalises f packet lent a left = left_of a left ≡ leaves lent (normalise f packet)

abbrev pub Edits : Form → Holder → Changes → List ℕ → List ℕ → Answer → List ℕ → Type 0
Edits f h cs packet lent a left = left_of a left ≡ leaves lent (edit f h cs packet)

abbrev pub Adds : Form → List ℕ → List ℕ → List ℕ → Answer → List ℕ → Type 0
Adds f packet records lent a left = left_of a left ≡ leaves lent (add_target f packet records)

abbrev pub Drops : Form → List ℕ → ℕ → List ℕ → Answer → List ℕ → Type 0
Drops f packet id lent a left = left_of a left ≡ leaves lent (drop_target f packet id)
