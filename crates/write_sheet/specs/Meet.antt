-- Where the code that writes a packet's sheet meets document 01: what an item, a pack and a level of a packet write.
use Rattle.std.specs.Prelude.{ℕ, Bool, true, false, ◌&&◌, List, [], eqb, length}
use Rattle.format.specs.Lists.{flat_all}
use Rattle.format.specs.Table.{Form, Level, is_set, rule_of, short}
use Rattle.format.specs.Packet.{Pack, Entry, plain, series}
use Rattle.format.specs.Sheet.{val_bytes, target_bytes, target_of, part_bytes, part_of}
use Rattle.items.specs.Meet.{level_of}
use Rattle.tally.specs.Runs.{level_run, series_run, made_of}
use Rattle.stores.specs.Puts.{Fills}
use Rattle.write_laws.specs.Writing.{Asked}

-- the record of a value
abbrev pub record_of : Bool → ℕ → List ℕ → List ℕ
record_of b tag v = val_bytes (level_of b) (record { tag = tag; value = v })

-- an item's record; the set's checksum has none
unfoldable pub item_sheet : Level → ℕ → List ℕ → List ℕ
item_sheet l tag v = elim (is_set l && eqb tag 1) [ true ↦ [] | false ↦ val_bytes l (record { tag = tag; value = short (rule_of l tag) v }) ]

abbrev pub entry_sheet : Level → Entry → List ℕ
entry_sheet l (plain i) = item_sheet l i.tag i.value
entry_sheet l (series w ps) = part_bytes (part_of (series w ps))

abbrev pub pack_sheet : Pack → List ℕ
pack_sheet p = target_bytes (target_of p)

abbrev pub level_sheet : Level → Form → List ℕ → List ℕ
level_sheet l f s = made_of (flat_all (entry_sheet l)) (level_run l f s)

abbrev pub series_sheet : Form → List ℕ → List ℕ
series_sheet f s = made_of (flat_all pack_sheet) (series_run f s)

-- What is asked of a walk that writes a level, and a series, in a form that it was accepted in; and what it leaves, whatever the form.
abbrev pub LevelAsked : Level → List ℕ → ℕ → Form → Type 0
LevelAsked l s room f = Asked (level_run l f s) (level_sheet l f s) (length s) 8192 room

abbrev pub SeriesAsked : List ℕ → ℕ → Form → Type 0
SeriesAsked s room f = Asked (series_run f s) (series_sheet f s) (length s) 8192 room

abbrev pub LevelLeft : Level → List ℕ → List ℕ → ℕ → List ℕ → Type 0
LevelLeft l s out r out' = (f : Form) → LevelAsked l s (length out) f → Fills out (level_sheet l f s) r out'

abbrev pub SeriesLeft : List ℕ → List ℕ → ℕ → List ℕ → Type 0
SeriesLeft s out r out' = (f : Form) → SeriesAsked s (length out) f → Fills out (series_sheet f s) r out'
