-- The bounds of a series' ids: one more is told to be new by them, or by the bits lent.
use Rattle.std.specs.Prelude.{◌≡◌, ◌⊎◌, ℕ, ◌/◌, ◌≤◌, ◌<◌, false, List, length, Option, IfSome}
use Rattle.repeats.specs.Notes.{noted, Noting}
use Rattle.tally.specs.Going.{New}
use Rattle.quick_packs.specs.declared.bounds.Bounds.{Bounds}

abbrev pub no_bounds : Bounds
no_bounds = record { top = 0; low = 18446744073709551615 }

-- as the code has them at p
pub record Bounded (p : ℕ) (b : Bounds) : Type 0 where
  pub first : p ≡ 0 → b.low ≡ 18446744073709551615
  pub later : 0 < p → b.low ≤ b.top

-- the id at p is new, by the bounds or as it has a bit and was not noted; it is noted, and r are the bounds then
pub record IdNew (before after : List ℕ) (p : ℕ) (b : Bounds) (id : ℕ) (r : Bounds) : Type 0 where
  pub new : New p b.top b.low id ⊎ ((id / 64 < length before) × (noted before id ≡ false))
  pub over : (b.top ≤ r.top) × (id ≤ r.top)
  pub under : (r.low ≤ b.low) × (r.low ≤ id)
  pub between : r.low ≤ r.top
  pub noting : Noting before after id

-- what the code says of it: the bounds then, if it is told to be new
pub record Bounding (before after : List ℕ) (p : ℕ) (b : Bounds) (id : ℕ) (r : Option Bounds) : Type 0 where
  pub told : IfSome r (IdNew before after p b id)
  pub most : IfSome r (λ r. (m : ℕ) → b.top ≤ m → id ≤ m → r.top ≤ m)
  pub long : length after ≡ length before
