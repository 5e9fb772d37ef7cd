-- Items told at a glance, items that may stand where they do whatever their value, and items told by a closer look.
use Rattle.std.specs.Prelude.{◌≡◌, ℕ, ◌+◌, ◌*◌, ◌-◌, ◌≤◌, ◌<◌, Bool, true, false, ◌&&◌, List, length, get_or, eqb}
use Rattle.format.specs.Table.{Form, is_set}
use Rattle.items.specs.Meet.{level_of}
use Rattle.items.specs.Quick as items
use Rattle.tally.specs.Pieces as piece
use Rattle.tally.specs.declared.Piece.{Piece}
use Rattle.tally.specs.declared.Sizes.{Sizes}
use Rattle.tally.specs.Meet.{sizes}
use Rattle.tally.specs.Going.{Begun, New, ItemRead}

-- how far such an item may begin, and what begins the level may
abbrev pub Span : Bool → Form → List ℕ → ℕ → Type 0
Span b f s most = (most ≤ length s - 2) × (0 < most → Begun b f 0 (get_or s 0 0))

-- an item at p that is told at a glance, with a byte each for its tag and its length, and whose tag is above top
pub record ItemGlanced (b : Bool) (f : Form) (s : List ℕ) (p top n : ℕ) : Type 0 where
  pub quick : items.Glanced (level_of b) f (get_or s p 0) n (get_or s (p + 2) 0)
  pub small : get_or s p 0 < 128
  pub few : n < 128
  pub above : top < get_or s p 0
  pub size_is : n ≡ get_or s (p + 1) 0
  pub room : p + 2 + n ≤ length s
  pub begins : Begun b f p (get_or s p 0)

-- there is one, if next, where its length says that it ends, is no further than the level's end
abbrev pub GlancedTo : Bool → Form → List ℕ → ℕ → ℕ → ℕ → Type 0
GlancedTo b f s p top next = (n : ℕ) × (next ≡ p + 2 + n) × (0 < n) × (p + 2 < length s) × (next ≤ length s → ItemGlanced b f s p top n)

-- the sizes of so many such items in p bytes
abbrev pub told_sizes : ℕ → ℕ → Sizes
told_sizes count p = sizes (4 * count + p) count p 0

-- an item of n bytes at p that may stand there whatever they are, its tag with no bit
pub record Plain (b : Bool) (f : Form) (p top low tag n : ℕ) : Type 0 where
  pub some : 0 < n
  pub bare : 64 ≤ tag
  pub new : New p top low tag
  pub begins : Begun b f p tag
  pub beyond : items.beyond b tag ≡ true

-- an item that a closer look tells at p: its value begins at from and has size bytes, small in shortest form
pub record Closer (b : Bool) (f : Form) (s : List ℕ) (p top low tag from size small : ℕ) : Type 0 where
  pub read : ItemRead b f s p top low (piece.Whole tag from size small)
  pub tag_few : tag < 128
  pub short_few : small < 128
  pub no_series : is_set (level_of b) && eqb tag 101 ≡ false
  pub no_seal : is_set (level_of b) && eqb tag 1 ≡ false

-- the same, as the code has it
abbrev pub CloserAt : Bool → Form → List ℕ → ℕ → ℕ → ℕ → Piece → Type 0
CloserAt b f s p top low x = Closer b f s p top low x.tag x.from x.size x.short
