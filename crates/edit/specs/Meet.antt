-- Where `edit` meets document 01: the set with its cuts as the packet that is packed.
use Rattle.std.specs.Prelude.{◌≡◌, ℕ, List}
use Rattle.format.specs.Lists.{flat_all}
use Rattle.format.specs.Table.{Form, Level}
use Rattle.format.specs.Packet.{Entry, flat_entry, closed}
use Rattle.format.specs.Calls.{packed}
use Rattle.format.specs.Edit.{Holder, Changes}
use Rattle.format.specs.Room.{leaves}
use Rattle.edit_rules.specs.declared.Cuts.{Cuts}
use Rattle.edit_rules.specs.Meet.{set_edited}
use Rattle.edit_rules.specs.Cuts.{cut_bytes}
use Rattle.answers.specs.Meet.{Answer}
use Rattle.answers.specs.Meet.{left_of}

-- there are entries that lie flat as the set's bytes with what the cuts put
abbrev pub Entered : Level → List ℕ → Cuts → List ℕ → List ℕ → Type 0
Entered l s k v w = (es : List Entry) × (flat_all flat_entry es ≡ cut_bytes l s k v w)

-- what is left: of the packet of such entries, and of an edit of the set
abbrev pub CutPacked : Form → Level → List ℕ → Cuts → List ℕ → List ℕ → List ℕ → Answer → List ℕ → Type 0
CutPacked f l s k v w lent r left = (es : List Entry) → flat_all flat_entry es ≡ cut_bytes l s k v w → left_of r left ≡ leaves lent (packed (closed f es))

abbrev pub SetEdits : Form → Holder → Changes → List ℕ → List ℕ → Answer → List ℕ → Type 0
SetEdits f h cs s lent r left = left_of r left ≡ leaves lent (set_edited f h cs s)
