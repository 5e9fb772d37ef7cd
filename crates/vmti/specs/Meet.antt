-- Where the calls as C makes them meet document 01: what numbers name.
use Rattle.std.specs.Prelude.{◌≡◌, ℕ, not, List, eqb}
use Rattle.format.specs.Answer.{Ans}
use Rattle.format.specs.Table.{Form}
use Rattle.format.specs.Room.{leaves, one_number}
use Rattle.format.specs.Edit.{Holder, Change}
use Rattle.items.specs.Meet.{form_of}
use Rattle.find.specs.Places.{holder_of}
use Rattle.edit_rules.specs.declared.Change as told
use Rattle.edit_rules.specs.declared.Asked.{Asked}
use Rattle.edit_rules.specs.Meet.{change_of}

-- the one number r that comes back for what x answers, and what is left of the buffer that held `lent`
abbrev pub Returns : List ℕ → Ans (List ℕ) → ℕ → List ℕ → Type 0
Returns lent x r left = (r ≡ one_number (leaves lent x)) × (left ≡ (leaves lent x).lent)

-- the form that a number names
abbrev pub form_named : ℕ → Form
form_named n = form_of (not (eqb n 0))

-- what an edit names, by numbers: level 0 is the set, any other the target; removal 0 is a put, any other a removal
abbrev pub holder_named : ℕ → ℕ → Holder
holder_named level id = holder_of (eqb level 0) id

abbrev pub change_named : ℕ → List ℕ → Change
change_named removal v = change_of (not (eqb removal 0)) v

-- as `edit` is told of it
abbrev pub change_told : ℕ → ℕ → told.Change
change_told tag removal = record { tag = tag; removal = not (eqb removal 0) }

abbrev pub asked_by : ℕ → ℕ → told.Change → Asked
asked_by level id c = record { set = eqb level 0; id = id; change = c }
