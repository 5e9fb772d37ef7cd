-- Where `locate_numbers` and `locate` meet document 01: what they leave behind, for every input and every room.
use Rattle.std.specs.Prelude.{ℕ, ◌*◌, ◌≤◌, ◌≡◌, true, false, List, ◌++◌, map, length, drop, leb, eqb}
use Rattle.format.specs.Answer.{Ans, ok, refused}
use Rattle.format.specs.Table.{Form}
use Rattle.format.specs.Rows.{Row, locate}
use Rattle.format.specs.Room.{Left, leaves}
use Rattle.write_rows.specs.declared.table.Row as table
use Rattle.write_rows.specs.Meet.{numbers, row_of, table_of}
use Rattle.answers.specs.Meet.{Answer, left_of}

-- rows lie in a lent slice of numbers, four to a row; their count is a count of rows
unfoldable pub leaves_rows : List ℕ → Ans (List Row) → Left ℕ
leaves_rows lent (refused n p) = record { number = n; place = p; lent = lent }
leaves_rows lent (ok rs) =
    elim (leb (4 * length rs) (length lent)) [
      | true ↦ record { number = 0; place = length rs; lent = numbers rs ++ drop (4 * length rs) lent }
      | false ↦ record { number = 16; place = length rs; lent = lent }
    ]

-- rows lie in a lent slice of structs, one by one
abbrev pub tabled : Ans (List Row) → Ans (List table.Row)
tabled (ok rs) = ok (map row_of rs)
tabled (refused n p) = refused n p

abbrev pub leaves_table : List table.Row → Ans (List Row) → Left table.Row
leaves_table lent x = leaves lent (tabled x)

-- what the contracts of `locate_numbers` and `locate` say, as relations: of the packet, what was lent, the answer, and what is left there
abbrev pub Locates : Form → List ℕ → List ℕ → Answer → List ℕ → Type 0
Locates f packet lent a left = left_of a left ≡ leaves_rows lent (locate f packet)

abbrev pub Tables : Form → List ℕ → List table.Row → Answer → List table.Row → Type 0
Tables f packet lent a left = left_of a left ≡ leaves_table lent (locate f packet)

-- how many rows an answer says to be written
abbrev pub count_of : Answer → ℕ
count_of a = elim (eqb a.number 0) [ true ↦ a.place | false ↦ 0 ]

-- an answer to x, and numbers whose first rows, as many as it counts, are what any table with so much room is left
pub record Filled (room : ℕ) (x : Ans (List Row)) (a : Answer) (ns : List ℕ) : Type 0 where
  pub held : 4 * count_of a ≤ length ns
  pub fits : count_of a ≤ room
  pub left : (lent : List table.Row) → length lent ≡ room → left_of a (table_of (count_of a) ns ++ drop (count_of a) lent) ≡ leaves_table lent x
