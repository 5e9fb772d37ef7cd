-- What `locate_numbers` and `locate` promise, closed: accepted exactly when read accepts, and the rows that are defined, in numbers or in
-- structs. `Locates` and `Tables` are their contracts.
use Rattle.std.specs.Prelude.{◌≡◌, List, ◌++◌, map, ℕ, ◌*◌, ◌≤◌, ◌<◌, length, drop}
use Rattle.format.specs.Coding.{Bytes}
use Rattle.format.specs.Table.{Form}
use Rattle.format.specs.Calls.{read}
use Rattle.format.specs.Rows.{Row}
use Rattle.format.specs.Demands.Rows.{RowsPoint}
use Rattle.write_rows.specs.declared.table.Row as table
use Rattle.write_rows.specs.Meet.{numbers, row_of}
use Rattle.answers.specs.Meet.{Answer, answer_of}
use Rattle.answers.specs.Given.{Given, Refusing, Accepted}
use Rattle.locate.specs.Meet.{Locates, Tables}

-- the rows are to be written, four numbers to a row: given room they stand there, else 16 says how many rows they are
pub record GivenNumbers (rs : List Row) (lent : List ℕ) (a : Answer) (left : List ℕ) : Type 0 where
  pub with_room : 4 * length rs ≤ length lent → (a ≡ answer_of 0 (length rs)) × (left ≡ numbers rs ++ drop (4 * length rs) lent)
  pub without : length lent < 4 * length rs → (a ≡ answer_of 16 (length rs)) × (left ≡ lent)

-- W says that rows are to be written
pub record Locating {A : Type 0} (W : List Row → Type 0) (f : Form) (packet : List ℕ) (lent : List A) (a : Answer) (left : List A) : Type 0 where
  -- the rows of a packet that is accepted: there is one list that points so
  pub points : (rs : List Row) → RowsPoint f packet rs → W rs
  pub only : Accepted a → (rs : List Row) × RowsPoint f packet rs
  pub refusing : Refusing (read f packet) lent a left

pub record LocatePromise : Type 0 where
  pub numbered : (f : Form) (packet lent : List ℕ) (a : Answer) (left : List ℕ) → Bytes packet → Locates f packet lent a left
      → Locating (λ rs. GivenNumbers rs lent a left) f packet lent a left
  pub tabled : (f : Form) (packet : List ℕ) (lent : List table.Row) (a : Answer) (left : List table.Row) → Bytes packet → Tables f packet lent a left
      → Locating (λ rs. Given (map row_of rs) lent a left) f packet lent a left
