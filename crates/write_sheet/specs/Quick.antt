-- A level and a series whose sheet is being written, and the items that the quick way goes by.
use Rattle.std.specs.Prelude.{◌≡◌, ℕ, ◌+◌, ◌<◌, Bool, false, List, length, get_or}
use Rattle.format.specs.Lists.{flat_all}
use Rattle.format.specs.Packet.{tag_of_entry, id_of_pack}
use Rattle.format.specs.Read.{one_pack}
use Rattle.format.specs.Run.{always}
use Rattle.format.specs.Table.{Form, pack}
use Rattle.items.specs.Meet.{level_of}
use Rattle.tally.specs.Meet.{step_at}
use Rattle.stores.specs.Puts.{Fills}
use Rattle.write_laws.specs.Writing.{Writing}
use Rattle.write_sheet.specs.Meet.{entry_sheet, pack_sheet, level_sheet, series_sheet, LevelAsked, SeriesAsked}

-- p bytes of a level were passed, and k of its sheet stored into out₀
abbrev pub LevelPassed : Bool → Form → List ℕ → List ℕ → List ℕ → ℕ → ℕ → Type 0
LevelPassed b f s out₀ out p k = Writing always (λ (_ : Unit {0}). flat_all (entry_sheet (level_of b))) tag_of_entry (step_at (level_of b) f) (level_sheet (level_of b) f s) s out₀ out tt p k

-- and the same of a series
abbrev pub SeriesPassed : Form → List ℕ → List ℕ → List ℕ → ℕ → ℕ → Type 0
SeriesPassed f s out₀ out p k = Writing always (λ (_ : Unit {0}). flat_all pack_sheet) id_of_pack (one_pack f) (series_sheet f s) s out₀ out tt p k

-- whatever the form that it was accepted in: the items of a pack, and the packs of a series
abbrev pub ItemsPassed : List ℕ → List ℕ → List ℕ → ℕ → ℕ → Type 0
ItemsPassed s out out' p k = (f : Form) → LevelAsked pack s (length out) f → LevelPassed false f s out out' p k

abbrev pub PacksPassed : List ℕ → List ℕ → List ℕ → ℕ → ℕ → Type 0
PacksPassed s out out' p k = (f : Form) → SeriesAsked s (length out) f → SeriesPassed f s out out' p k

-- What is asked of the walk over the rest of a level, in a form that it was accepted in and whatever o the output was where it began; and what it
-- leaves of o.
pub record RestAsked (b : Bool) (s out : List ℕ) (p k : ℕ) (f : Form) (o : List ℕ) : Type 0 where
  pub asked : LevelAsked (level_of b) s (length o) f
  pub passed : LevelPassed b f s o out p k

abbrev pub RestLeft : Bool → List ℕ → List ℕ → ℕ → ℕ → ℕ → List ℕ → Type 0
RestLeft b s out p k r out' = (f : Form) (o : List ℕ) → RestAsked b s out p k f o → Fills o (level_sheet (level_of b) f s) r out'

-- an item of a pack at p that is told at a glance, with a byte each for its tag and its length n, and whose value is shortest: it has one byte, or
-- does not begin with 0
pub record SmallItem (s : List ℕ) (p n : ℕ) : Type 0 where
  pub here : p + 2 < length s
  pub small : get_or s p 0 < 128
  pub size_is : n ≡ get_or s (p + 1) 0
  pub few : n < 128
  pub some : 0 < n
  pub shortest : get_or s (p + 2) 0 ≡ 0 → n ≡ 1
