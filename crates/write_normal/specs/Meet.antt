-- Where the code that writes a packet's normal form meets document 01: what an item, a pack and a level of a packet write.
use Rattle.std.specs.Prelude.{◌≡◌, ℕ, ◌+◌, ◌≤◌, ◌<◌, true, false, ◌&&◌, List, [], length, eqb}
use Rattle.format.specs.Answer.{Ans, ok, refused, Got}
use Rattle.format.specs.Lists.{flat_all}
use Rattle.format.specs.Table.{Form, Level, is_set, rule_of, short}
use Rattle.format.specs.Packet.{Pack, Entry, plain, series, flat_item, flat_pack, flat_entry}
use Rattle.format.specs.Sheet.{target_of, part_of}
use Rattle.format.specs.Calls.{item_of, pack_of, entry_of}
use Rattle.format.specs.Valid.{All}
use Rattle.tally.specs.Runs.{Ran, level_run, series_run, made_of}

-- an item under its shortest length, a number shortened; the set's checksum has no place among the entries
unfoldable pub item_normal : Level → ℕ → List ℕ → List ℕ
item_normal l tag v = elim (is_set l && eqb tag 1) [ true ↦ [] | false ↦ flat_item (item_of (record { tag = tag; value = short (rule_of l tag) v })) ]

abbrev pub entry_normal : Level → Entry → List ℕ
entry_normal l (plain i) = item_normal l i.tag i.value
entry_normal l (series w ps) = flat_entry (entry_of (part_of (series w ps)))

abbrev pub pack_normal : Pack → List ℕ
pack_normal p = flat_pack (pack_of (target_of p))

abbrev pub level_normal : Level → Form → List ℕ → List ℕ
level_normal l f s = made_of (flat_all (entry_normal l)) (level_run l f s)

abbrev pub series_normal : Form → List ℕ → List ℕ
series_normal f s = made_of (flat_all pack_normal) (series_run f s)

-- n is how many bytes the packs of a series take in normal form: of each series among entries
abbrev pub InnerIs : ℕ → Entry → Type 0
InnerIs n (plain i) = Unit {0}
InnerIs n (series w ps) = n ≡ length (flat_all pack_normal ps)

abbrev pub InnerRun : ℕ → Ans (Got (List Entry)) → Type 0
InnerRun n (ok rs) = All (InnerIs n) rs.val
InnerRun n (refused k p) = Unit {0}

-- what is asked of what writes an item, of a walk over a level, whose series has `inner` bytes of packs, and of one over a series
abbrev pub ItemAsked : Level → ℕ → List ℕ → ℕ → ℕ → Type 0
ItemAsked l tag v at room = (tag ≤ 16383) × (0 < length v) × (length v ≤ 8192) × (at + length (item_normal l tag v) ≤ room)

abbrev pub LevelAsked : Level → Form → List ℕ → ℕ → ℕ → Type 0
LevelAsked l f s inner room =
    (length s ≤ 8192) × Ran (level_run l f s) × (inner ≤ 65536) × InnerRun inner (level_run l f s) × (length (level_normal l f s) ≤ room)

abbrev pub SeriesAsked : Form → List ℕ → ℕ → Type 0
SeriesAsked f s room = (length s ≤ 8192) × Ran (series_run f s) × (length (series_normal f s) ≤ room)
