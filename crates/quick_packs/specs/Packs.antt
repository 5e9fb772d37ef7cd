-- Packs laid out alike: what is told of one by the masks of another, its model.
use Rattle.std.specs.Prelude.{◌≡◌, ℕ, ◌+◌, ◌-◌, ◌*◌, ◌≤◌, ◌<◌, Bool, false, List, length, take, drop, Option, IfSome}
use Rattle.format.specs.Coding.{Bytes}
use Rattle.format.specs.Table.{Form}
use Rattle.coding.specs.Alike.{AlikeTo}
use Rattle.items.specs.Meet.{form_of}
use Rattle.tally.specs.declared.Sizes.{Sizes}
use Rattle.tally.specs.declared.stages.Stage.{Stage}
use Rattle.quick_packs.specs.declared.Choice.{Choice}
use Rattle.quick_packs.specs.declared.Model.{Model}
use Rattle.tally.specs.Meet.{sizes, ended_by}
use Rattle.tally.specs.Going.{LevelGoing}

-- the items of a, and of whatever is laid out as they are, by the masks, are walked to the same place with the same sizes
pub record Laid (f : Form) (masks a : List ℕ) (q : Stage) : Type 0 where
  pub walked : (b : List ℕ) → Bytes b → length b ≡ length a → AlikeTo masks a b q.at → LevelGoing false f b q.at q.sizes q.held q.top q.low
  pub sizes_are : q.sizes ≡ sizes (4 * q.sizes.rows + q.at) q.sizes.rows q.at 0

-- a pack's items that are walked to their end, with as many rows as the pack has beside its own, and hold what a pack must
pub record Told (alone : Bool) (b : List ℕ) (rows : ℕ) : Type 0 where
  pub count : ℕ
  pub held : ℕ
  pub top : ℕ
  pub low : ℕ
  pub going : LevelGoing false (form_of alone) b (length b) (sizes (4 * count + length b) count (length b) 0) held top low
  pub rows_are : rows ≡ 1 + count
  pub ends : ended_by (form_of alone) held ≡ 0

-- what stands from there on is laid out as the model's items
pub record As (masks s : List ℕ) (m : Model) (from : ℕ) : Type 0 where
  pub small : m.size < 128
  pub alike : AlikeTo masks (drop m.from s) (drop from s) m.size
  pub within : from + m.size ≤ length s

-- so is whatever is laid out as the model's items
pub record Modelled (alone : Bool) (masks s : List ℕ) (m : Model) : Type 0 where
  pub within : m.from ≤ length s
  pub told : (b : List ℕ) → Bytes b → length b ≡ m.size → AlikeTo masks (drop m.from s) b m.size → Told alone b m.rows

-- the model in use, if there is one, begins no later than there
abbrev pub InUse : Bool → List ℕ → List ℕ → ℕ → Option Model → Type 0
InUse alone masks s from m = IfSome m (λ m. Modelled alone masks s m × (m.from ≤ from))

-- the sizes of such packs in p bytes with so many rows
abbrev pub packed_sizes : ℕ → ℕ → ℕ → Sizes
packed_sizes p rows more = sizes (p + 4 * rows + more) rows p 0

-- what is asked of a pack's items, which stand from one place of s to another
pub record ItemsAsked (s : List ℕ) (from next : ℕ) : Type 0 where
  pub ordered : from ≤ next
  pub room : next ≤ length s
  pub few : next - from < 128
  pub bytes : Bytes s

-- they are told, with so many rows
abbrev pub ItemsTold : Bool → List ℕ → ℕ → ℕ → ℕ → Type 0
ItemsTold alone s from next rows = Told alone (take (next - from) (drop from s)) rows

-- the model as which they are told, in the masks
pub record Chosen (alone : Bool) (masks s : List ℕ) (from next : ℕ) (m : Model) : Type 0 where
  pub modelled : Modelled alone masks s m
  pub earlier : m.from ≤ from
  pub told : ItemsTold alone s from next m.rows

-- they are told, and what is in use then
pub record Choosing (alone : Bool) (masks s : List ℕ) (from next misses : ℕ) (c : Choice) : Type 0 where
  pub told : ItemsTold alone s from next c.rows
  pub model : InUse alone masks s from c.model
  pub few : c.misses ≤ 1 + misses
