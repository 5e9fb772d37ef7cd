-- Sizes that always suffice.
use Rattle.std.specs.Prelude.{◌≡◌, List, ℕ, ◌≤◌, ◌*◌, ◌+◌, length}
use Rattle.format.specs.Answer.{ok}
use Rattle.format.specs.Table.{Form}
use Rattle.format.specs.Rows.{Row, locate}
use Rattle.format.specs.Calls.{read, normalise}

pub record Sizes (f : Form) (s : List ℕ) : Type 0 where
  -- a sheet has at most five times its packet's bytes, and three: 40,963
  pub sheet : (b : List ℕ) → read f s ≡ ok b → (length b ≤ 5 * length s + 3) × (length b ≤ 40963)
  -- a normal form is never longer than its packet
  pub normal : (b : List ℕ) → normalise f s ≡ ok b → length b ≤ length s
  -- a row has two bytes of the packet at least: 4,096 rows
  pub rows : (rs : List Row) → locate f s ≡ ok rs → (2 * length rs ≤ length s) × (length rs ≤ 4096)
