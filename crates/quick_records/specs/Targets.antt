-- Targets laid out alike: what is told of one by the masks of another, its model.
use Rattle.std.specs.Prelude.{◌≡◌, ℕ, ◌+◌, ◌-◌, ◌*◌, ◌<◌, ◌≤◌, Bool, true, false, List, length, drop}
use Rattle.format.specs.Coding.{Bytes}
use Rattle.format.specs.Sheet.{TG, is}
use Rattle.format.specs.Table.{Form}
use Rattle.coding.specs.Alike.{AlikeTo}
use Rattle.items.specs.Meet.{form_of}
use Rattle.tally.specs.declared.stages.Stage.{Stage}
use Rattle.quick_packs.specs.declared.Model.{Model}
use Rattle.tally.specs.Meet.{sizes, ended_by}
use Rattle.tally_records.specs.Going.{RecordsGoing, RecordsFrom}

-- the records of a are walked so far; and if that is not too far for the masks, so is whatever is laid out as they are
pub record Laid (f : Form) (masks a : List ℕ) (q : Stage) : Type 0 where
  pub own : RecordsFrom false f a q
  pub walked : q.at < 128 → (b : List ℕ) → Bytes b → length b ≤ 65536 → q.at ≤ length b → AlikeTo masks a b q.at → RecordsFrom false f b q
  pub sizes_are : q.sizes ≡ sizes q.at q.sizes.rows (q.at - 4 * q.sizes.rows) 0
  pub few : 4 * q.sizes.rows ≤ q.at

-- a target's records that are walked that far, with as many rows as the target has beside its own, and hold what a target must
pub record Held (alone : Bool) (b : List ℕ) (size rows : ℕ) : Type 0 where
  pub count : ℕ
  pub held : ℕ
  pub top : ℕ
  pub low : ℕ
  pub going : RecordsGoing false (form_of alone) b size (sizes size count (size - 4 * count) 0) held top low
  pub few : 4 * count ≤ size
  pub rows_are : rows ≡ 1 + count
  pub ends : ended_by (form_of alone) held ≡ 0

-- they end there: the sheet does, or another target begins
pub record Over (s : List ℕ) (p : ℕ) : Type 0 where
  pub within : p ≤ length s
  pub next : p < length s → is TG (drop p s) ≡ true

-- whatever is laid out as the model's records is walked as they are
pub record Modelled (alone : Bool) (masks s : List ℕ) (m : Model) : Type 0 where
  pub long : length masks ≡ 160
  pub within : m.from ≤ length s
  pub held : m.size < 128 → (b : List ℕ) → Bytes b → length b ≤ 65536 → m.size ≤ length b → AlikeTo masks (drop m.from s) b m.size → Held alone b m.size m.rows

-- a model that the code has for the records from there on: these are laid out so
pub record ModelAt (alone : Bool) (masks s : List ℕ) (from : ℕ) (m : Model) : Type 0 where
  pub modelled : Modelled alone masks s m
  pub before : m.from ≤ from
  pub held : Held alone (drop from s) m.size m.rows
  pub over : Over s (from + m.size)
