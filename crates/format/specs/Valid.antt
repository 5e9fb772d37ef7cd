-- What it is to be a valid packet or a valid sheet, with no order of reading: document 01's rules, each once.
use Rattle.std.specs.Prelude.{◌≡◌, ℕ, zero, suc, ◌+◌, ◌<◌, ◌≤◌, ◌^◌, true, false, ◌||◌, List, [], ◌∷◌, map, length, ltb}
use Rattle.format.specs.Answer.{ok}
use Rattle.format.specs.Coding.{bytes_number, fixed}
use Rattle.format.specs.Lists.{none?, has, flat_all}
use Rattle.format.specs.Table.{Form, embedded, standalone, Level, set, pack, rule_of, nameable, may_stand, not_pixel, sized, ended, short}
use Rattle.format.specs.Packet.{Item, Pack, Entry, plain, series, Packet, tag_of_item, id_of_pack, tag_of_entry, pack_body, flat_pack, flat_entry, flat, checksum, covered}
use Rattle.format.specs.Sheet.{Val, Target, Part, one, targets, Sheet, tag_of_val, id_of_target, tag_of_part, sheet_bytes}

abbrev pub All : {X : Type 0} → (X → Type 0) → List X → Type 0
All P [] = Unit {0}
All P (x ∷ xs) = P x × All P xs

-- no number stands twice
abbrev pub Once : List ℕ → Type 0
Once [] = Unit {0}
Once (x ∷ xs) = (has x xs ≡ false) × Once xs

-- each is right by itself, and no key (a tag, an id) stands twice
pub record Together {X : Type 0} (key : X → ℕ) (P : X → Type 0) (xs : List X) : Type 0 where
  pub once : Once (map key xs)
  pub each : All P xs

-- a length of n can stand in w bytes
abbrev pub Holds : ℕ → ℕ → Type 0
Holds zero n = ⊥
Holds (suc zero) n = n < 128
Holds (suc (suc k)) n = (k < 4) × (n < 256 ^ suc k)

-- what the length and the number of a value must be
pub record Valued (l : Level) (tag : ℕ) (v : List ℕ) : Type 0 where
  pub length_allowed : sized (rule_of l tag) (length v) ≡ true
  pub pixel_not_0 : not_pixel (rule_of l tag).kind || ltb 0 (bytes_number v) ≡ true

-- an item, in a packet, a sheet or an edit
pub record Meets (l : Level) (f : Form) (tag : ℕ) (v : List ℕ) : Type 0 where
  pub named : nameable l tag ≡ true
  pub not_empty : 0 < length v
  pub may_stand : may_stand l f tag true ≡ true
  pub valued : Valued l tag v

-- a standalone set begins with tag 2
abbrev pub Begins : Form → List ℕ → Type 0
Begins embedded tags = Unit {0}
Begins standalone [] = ⊥
Begins standalone (x ∷ tags) = x ≡ 2

-- ---- a packet

pub record ItemValid (l : Level) (f : Form) (i : Item) : Type 0 where
  pub meets : Meets l f i.tag i.value
  pub coded : Holds i.width (length i.value)

pub record PackValid (f : Form) (p : Pack) : Type 0 where
  pub id_range : p.id < 2 ^ 63
  pub items_valid : Together tag_of_item (ItemValid pack f) p.items
  pub ends : ended f (map tag_of_item p.items) ≡ ok tt
  pub coded : Holds p.width (length (pack_body p))

pub record SeriesValid (f : Form) (w : ℕ) (ps : List Pack) : Type 0 where
  pub not_empty : none? ps ≡ false
  pub packs_valid : Together id_of_pack (PackValid f) ps
  pub coded : Holds w (length (flat_all flat_pack ps))

abbrev pub EntryValid : Form → Entry → Type 0
EntryValid f (plain i) = ItemValid set f i
EntryValid f (series w ps) = SeriesValid f w ps

-- the outer length, and the checksum
abbrev pub Framed : Form → ℕ → List ℕ → List ℕ → Type 0
Framed embedded w b c = (w ≡ 0) × (c ≡ [])
Framed standalone w b c = Holds w (length b + 4) × (c ≡ fixed 2 (checksum (covered w b)))

pub record Valid (p : Packet) : Type 0 where
  pub small : length (flat p) ≤ 8192
  pub entries_valid : Together tag_of_entry (EntryValid p.form) p.entries
  pub begins : Begins p.form (map tag_of_entry p.entries)
  pub framed : Framed p.form p.width (flat_all flat_entry p.entries) p.sum

-- the tree lies flat as these bytes, and meets each rule
pub record Lies (f : Form) (s : List ℕ) (p : Packet) : Type 0 where
  pub form_is : p.form ≡ f
  pub lies_flat : flat p ≡ s
  pub valid : Valid p

-- ---- a sheet

pub record ValValid (l : Level) (f : Form) (v : Val) : Type 0 where
  pub meets : Meets l f v.tag v.value
  pub shortest : short (rule_of l v.tag) v.value ≡ v.value

pub record TargetValid (f : Form) (t : Target) : Type 0 where
  pub id_range : t.id < 2 ^ 63
  pub vals_valid : Together tag_of_val (ValValid pack f) t.vals
  pub ends : ended f (map tag_of_val t.vals) ≡ ok tt

abbrev pub PartValid : Form → Part → Type 0
PartValid f (one v) = ValValid set f v
PartValid f (targets ts) = (none? ts ≡ false) × Together id_of_target (TargetValid f) ts

pub record SheetValid (s : Sheet) : Type 0 where
  pub small : length (sheet_bytes s) ≤ 65536
  pub parts_valid : Together tag_of_part (PartValid s.form) s.parts
  pub begins : Begins s.form (map tag_of_part s.parts)
