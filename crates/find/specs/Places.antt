-- What a place says: of the entries of a packet's set, and of an item that the set holds, or the target with an id.
use Rattle.std.specs.Prelude.{◌≡◌, ℕ, ◌+◌, ◌≤◌, ◌<◌, Bool, true, false, Option, Some, None, List, [], ◌∷◌, ◌++◌, length}
use Rattle.format.specs.Coding.{Bytes, oid_bytes}
use Rattle.format.specs.Lists.{flat_all}
use Rattle.format.specs.Table.{Form, Level, embedded, standalone, set}
use Rattle.format.specs.Packet.{Item, Pack, Entry, plain, series, flat_item, flat_pack, flat_entry}
use Rattle.format.specs.Read.{unsealed}
use Rattle.format.specs.Rows.{seal_item}
use Rattle.format.specs.Edit.{Holder, the_set, target, is_series}
pub use Rattle.format.specs.Targets.{packs_in}
use Rattle.tally.specs.Runs.{Ran, level_run, series_run}
use Rattle.find.specs.declared.Spot.{Spot}
use Rattle.find.specs.declared.Place.{Place}
use Rattle.find.specs.declared.Held.{Held}
use Rattle.find.specs.Spots.{no_spot, Missed, Hit, entries_of, inside, has_id, item_spot, entry_spot, pack_spot}

abbrev pub holder_of : Bool → ℕ → Holder
holder_of true id = the_set
holder_of false id = target id

-- ---- the set of a packet that was checked

-- the bytes of the checksum
abbrev pub seal_size : Form → ℕ
seal_size embedded = 0
seal_size standalone = 4

-- in standalone its entries end with the checksum
abbrev pub Closes : Form → List Entry → Type 0
Closes embedded es = es ≡ unsealed es
Closes standalone es = (c : List ℕ) × (length c ≡ 2) × (es ≡ unsealed es ++ (plain (seal_item c) ∷ []))

pub record SetOf (f : Form) (s : List ℕ) : Type 0 where
  pub short : length s ≤ 8192
  pub ran : Ran (level_run set f s)
  pub closes : Closes f (entries_of set f s)

-- the entries but the checksum
abbrev pub kept_of : Form → List ℕ → List Entry
kept_of f s = unsealed (entries_of set f s)

-- ---- an item of the set

-- the place of what stands at a spot, in entries that end at `stop`
abbrev pub place_in : Spot → ℕ → Place
place_in a stop = record { series = 0; packs = 0; pack = 0; body = 0; at = a.at; from = a.from; next = a.next; last = stop; tail = stop; stop = stop }

-- where it stands, be it the checksum; or where it would be added, before that
pub record SetPlaced (f : Form) (tag : ℕ) (s : List ℕ) (p : Place) : Type 0 where
  pub stop : ℕ
  pub stop_is : stop ≡ length (flat_all flat_entry (kept_of f s))
  pub there : (entry_spot set f tag s).at < (entry_spot set f tag s).next → p ≡ place_in (entry_spot set f tag s) stop
  pub added : (entry_spot set f tag s).next ≤ (entry_spot set f tag s).at → p ≡ place_in (no_spot stop) stop

-- ---- the series, and a pack of it

-- there is no such target
abbrev pub Unheld : Form → Holder → List ℕ → Type 0
Unheld f the_set s = ⊥
Unheld f (target id) s = Missed (has_id id) (packs_in (kept_of f s))

-- an entry with this tag stands at a
pub record TagFound (l : Level) (f : Form) (tag : ℕ) (s : List ℕ) (a : Spot) : Type 0 where
  pub bytes : Bytes s
  pub ran : Ran (level_run l f s)
  pub spot_is : a ≡ entry_spot l f tag s
  pub some : a.at ≡ a.next → ⊥

-- a pack with this id stands at a
pub record IdFound (f : Form) (id : ℕ) (s : List ℕ) (a : Spot) : Type 0 where
  pub bytes : Bytes s
  pub ran : Ran (series_run f s)
  pub spot_is : a ≡ pack_spot f id s
  pub some : a.at ≡ a.next → ⊥

-- in a set that was checked the series stands at a
pub record SeriesFound (f : Form) (s : List ℕ) (a : Spot) : Type 0 where
  pub checked : SetOf f s
  pub found : TagFound set f 101 s a

-- and the pack stands at c in its packs
pub record PackFound (f : Form) (id : ℕ) (s : List ℕ) (a c : Spot) : Type 0 where
  pub within : SeriesFound f s a
  pub found : IdFound f id (inside s a) c

abbrev pub HeldIs : Form → ℕ → List ℕ → Option Held → Type 0
HeldIs f id s (Some h) = PackFound f id s h.series h.pack
HeldIs f id s None = Unheld f (target id) s

-- ---- an item of a target

-- the code's sums: a is the spot of the series, c that of the pack in it, d that of the item in that
pub record Sums (a c d : Spot) : Type 0 where
  pub pack : a.from + c.at ≤ 8192
  pub body : a.from + c.body ≤ 8192
  pub items : a.from + c.from ≤ 8192
  pub at : a.from + c.from + d.at ≤ 8192
  pub from : a.from + c.from + d.from ≤ 8192
  pub next : a.from + c.from + d.next ≤ 8192
  pub last : a.from + c.next ≤ 8192

-- the place that they make, in entries that end at `stop`
abbrev pub place_under : Spot → Spot → Spot → ℕ → Place
place_under a c d stop = record {
  series = a.at;
  packs = a.from;
  pack = a.from + c.at;
  body = a.from + c.body;
  at = a.from + c.from + d.at;
  from = a.from + c.from + d.from;
  next = a.from + c.from + d.next;
  last = a.from + c.next;
  tail = a.next;
  stop = stop;
}

-- the series, the pack with the id, and the item in it, each within the other
pub record TargetPlaced (f : Form) (id tag : ℕ) (s : List ℕ) (p : Place) : Type 0 where
  pub hit : Hit is_series (kept_of f s)
  pub width : ℕ
  pub ps : List Pack
  pub it_is : hit.it ≡ series width ps
  pub pack_hit : Hit (has_id id) ps
  pub pack_width : ℕ
  pub items : List Item
  pub pack_is : pack_hit.it ≡ record { width = pack_width; id = id; items = items }
  pub series_at : p.series ≡ length (flat_all flat_entry hit.before)
  pub packs_at : p.packs ≡ p.series + (length (oid_bytes 101) + width)
  pub pack_at : p.pack ≡ p.packs + length (flat_all flat_pack pack_hit.before)
  pub body_at : p.body ≡ p.pack + pack_width
  pub item_at : p.at ≡ p.body + (length (oid_bytes id) + (item_spot tag items).at)
  pub value_at : p.from ≡ p.body + (length (oid_bytes id) + (item_spot tag items).from)
  pub next_at : p.next ≡ p.body + (length (oid_bytes id) + (item_spot tag items).next)
  pub last_at : p.last ≡ p.body + (length (oid_bytes id) + length (flat_all flat_item items))
  pub tail_at : p.tail ≡ p.packs + length (flat_all flat_pack ps)
  pub stop_at : p.stop ≡ length (flat_all flat_entry (kept_of f s))

-- ---- what was found

-- p is where the item with this tag stands, or would be added
abbrev pub Placed : Form → Holder → ℕ → List ℕ → Place → Type 0
Placed f the_set tag s p = SetPlaced f tag s p
Placed f (target id) tag s p = TargetPlaced f id tag s p

abbrev pub FoundIs : Form → Holder → ℕ → List ℕ → Option Place → Type 0
FoundIs f h tag s (Some p) = Placed f h tag s p
FoundIs f h tag s None = Unheld f h s

-- of two items of one target
abbrev pub BothAre : Form → ℕ → ℕ → ℕ → List ℕ → Option (Place × Place) → Type 0
BothAre f id tag other s (Some p) = TargetPlaced f id tag s p.0 × TargetPlaced f id other s p.1
BothAre f id tag other s None = Unheld f (target id) s

-- ---- the numbers of a place

-- in order, within n bytes
pub record Ordered (n : ℕ) (p : Place) : Type 0 where
  pub to_packs : p.series ≤ p.packs
  pub to_pack : p.packs ≤ p.pack
  pub to_body : p.pack ≤ p.body
  pub to_at : p.body ≤ p.at
  pub to_next : p.at ≤ p.next
  pub to_last : p.next ≤ p.last
  pub to_tail : p.last ≤ p.tail
  pub to_stop : p.tail ≤ p.stop
  pub to_end : p.stop ≤ n
