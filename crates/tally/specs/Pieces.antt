-- An item as a walk reads it, and a walk over a level or a series: what was found, or the first fault with its number and its place.
use Rattle.std.specs.Prelude.{ℕ}
use Rattle.tally.specs.declared.Sizes.{Sizes}

-- where its value begins, how long it is, and how long in its shortest form
pub data Piece : Type 0 where
  Whole : (tag from size small : ℕ) → Piece
  Fault : (number : ℕ) → Piece

-- with the bits of the tags that are held
pub data Walked : Type 0 where
  Good : (sizes : Sizes) (held : ℕ) → Walked
  Bad : (number place : ℕ) → Walked
