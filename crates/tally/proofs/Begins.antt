-- What may begin a level, and whatever comes later.
use mathlib.Core.Path.{◌≡◌, refl}
use Prim.Native.Nat.{ℕ, ◌<◌}
use native.Mathlib.Omega.{arith}
use mathlib.Core.Bool.{Bool, true, false, not, ◌||◌}
use lib.Dec.{eqb}
use borrow.Author.Tests.{ne_eqb}
use Rattle.format.specs.Table.{Form, is_set, is_alone}
use Rattle.items.specs.Meet.{level_of}
use Rattle.tally.specs.Going.{Begun}

pub begun_later : (b : Bool) (f : Form) (p tag : ℕ) → 0 < p → Begun b f p tag
begun_later b f p tag h = rw (ne_eqb p 0 (λ e. omega arith)) (any_of (not (is_set (level_of b))) (not (is_alone f)) (eqb tag 2))
  where
    any_of : (x y z : Bool) → x || y || true || z ≡ true
    any_of true y z = refl
    any_of false true z = refl
    any_of false false z = refl
