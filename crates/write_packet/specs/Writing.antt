-- The records of a level that are being written, and those that most are.
use Rattle.std.specs.Prelude.{◌≡◌, ℕ, ◌+◌, ◌≤◌, ◌<◌, Bool, true, false, List, ◌++◌, length, get_or}
use Rattle.std.proofs.lemmas.List.Edits.{sets}
use Rattle.format.specs.Answer.{Ans, Got}
use Rattle.format.specs.Lists.{flat_all}
use Rattle.format.specs.Table.{Form, set, pack}
use Rattle.format.specs.Packet.{flat_item}
use Rattle.format.specs.Sheet.{Part, one, targets, tag_of_part}
use Rattle.format.specs.Calls.{item_of}
use Rattle.items.specs.Meet.{level_of}
use Rattle.tally.specs.Runs.{Ran}
use Rattle.tally_records.specs.Meet.{more_at, part_step}
use Rattle.stores.specs.Puts.{Fills}
use Rattle.write_laws.specs.Writing.{Writing}
use Rattle.store_coded.specs.Fronts.{series_front}
use Rattle.write_packet.specs.Meet.{used_of, records_run, targets_run, target_normal, records_normal, targets_normal, InnerParts}

-- what a part writes, where the packs of a series take n bytes
abbrev pub part_bytes : ℕ → Part → List ℕ
part_bytes n (one v) = flat_item (item_of v)
part_bytes n (targets ts) = series_front n ++ flat_all target_normal ts

-- what is asked of the records of a level, in a form that they were accepted in
abbrev pub RecordsAsked : ℕ → Bool → Form → List ℕ → ℕ → Type 0
RecordsAsked inner b f s n =
    (length s ≤ 65536) × Ran (records_run (level_of b) f s) × (inner ≤ 65536) × InnerParts inner (records_run (level_of b) f s)
    × (length (records_normal (level_of b) f s) ≤ n) × (length (records_normal (level_of b) f s) ≤ 8192)

-- p bytes of them were passed, and k bytes stored into out₀
pub record RecordsWriting (inner : ℕ) (b : Bool) (f : Form) (s out₀ out : List ℕ) (p k : ℕ) : Type 0 where
  pub writes : Writing (more_at (level_of b)) (λ (_ : Unit {0}). flat_all (part_bytes inner)) tag_of_part (part_step (level_of b) f) (records_normal (level_of b) f s) s out₀ out tt p k
  pub passed : p + writes.things.used ≡ used_of (records_run (level_of b) f s)

-- the tag and the value's length of the record at p have a byte each, below 128
pub record Small (s : List ℕ) (p : ℕ) : Type 0 where
  pub tag_high : get_or s (p + 2) 0 ≡ 0
  pub tag_low : get_or s (p + 3) 0 < 128
  pub size_high : get_or s (p + 4) 0 ≡ 0
  pub size_low : get_or s (p + 5) 0 < 128

-- an item under its shortest length
abbrev pub item_coded : ℕ → List ℕ → List ℕ
item_coded tag v = flat_item (item_of (record { tag = tag; value = v }))

-- what the walk over the set's records leaves, whatever the form
abbrev pub RecordsLeft : ℕ → List ℕ → List ℕ → ℕ → List ℕ → Type 0
RecordsLeft inner s out n out' = (f : Form) → RecordsAsked inner true f s (length out) → Fills out (records_normal set f s) n out'

-- a run was passed, u bytes of it, and what it writes stored from the start, n bytes
pub record Passes {A : Type 0} (out : List ℕ) (runs : Ans (Got A)) (writes : List ℕ) (u n : ℕ) (out' : List ℕ) : Type 0 where
  pub used : u ≡ used_of runs
  pub wrote : n ≡ length writes
  pub left : out' ≡ sets out 0 writes

-- what the walk over a target's records leaves
abbrev pub ValsLeft : List ℕ → List ℕ → ℕ → ℕ → List ℕ → Type 0
ValsLeft s out u n out' = (f : Form) → RecordsAsked 0 false f s (length out) → Passes out (records_run pack f s) (records_normal pack f s) u n out'

-- the same for the rest of them, whatever o the output was where they began
pub record RestAsked (s out : List ℕ) (p k : ℕ) (f : Form) (o : List ℕ) : Type 0 where
  pub asked : RecordsAsked 0 false f s (length o)
  pub going : RecordsWriting 0 false f s o out p k

abbrev pub RestLeft : List ℕ → List ℕ → ℕ → ℕ → ℕ → ℕ → List ℕ → Type 0
RestLeft s out p k u n out' = (f : Form) (o : List ℕ) → RestAsked s out p k f o → Passes o (records_run pack f s) (records_normal pack f s) u n out'

-- what is asked of the walk over a series' targets, and what it leaves
abbrev pub TargetsAsked : Form → List ℕ → ℕ → Type 0
TargetsAsked f s n = (length s ≤ 65536) × Ran (targets_run f s) × (length (targets_normal f s) ≤ n) × (length (targets_normal f s) ≤ 8192)

abbrev pub TargetsLeft : List ℕ → List ℕ → ℕ → ℕ → List ℕ → Type 0
TargetsLeft s out u n out' = (f : Form) → TargetsAsked f s (length out) → Passes out (targets_run f s) (targets_normal f s) u n out'
