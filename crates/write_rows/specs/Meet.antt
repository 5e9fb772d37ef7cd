-- Where the code that writes a packet's rows meets document 01: the rows of a level, as numbers, four to a row.
use Rattle.std.specs.Prelude.{ℕ, zero, suc, ◌+◌, ◌*◌, List, [], ◌∷◌, ◌++◌, length, get_or, drop}
use Rattle.format.specs.Lists.{flat_all}
use Rattle.format.specs.Table.{Form, Level}
use Rattle.format.specs.Packet.{Entry, plain, series, flat_pack, flat_entry}
use Rattle.format.specs.Rows.{Row, row, item_row, pack_rows}
use Rattle.tally.specs.Runs.{level_run, series_run, made_of}
use Rattle.stores.specs.Puts.{Fills}
use Rattle.write_laws.specs.Writing.{Asked}
use Rattle.write_rows.specs.declared.table.Row as declared

unfoldable pub numbers : List Row → List ℕ
numbers [] = []
numbers (r ∷ rs) = r.target ∷ r.tag ∷ r.offset ∷ r.size ∷ numbers rs

-- the rows of target number k, where its level begins at `at`; of the set, whose number is 0, they are `entry_rows`, and of a pack `item_rows`
unfoldable pub level_rows : ℕ → ℕ → List Entry → List Row
level_rows k at [] = []
level_rows k at (plain i ∷ es) = item_row k at i ∷ level_rows k (at + length (flat_entry (plain i))) es
level_rows k at (series w ps ∷ es) =
    row k 101 (at + 1 + w) (length (flat_all flat_pack ps))
    ∷ pack_rows 1 (at + 1 + w) ps ++ level_rows k (at + length (flat_entry (series w ps))) es

abbrev pub level_numbers : Level → Form → ℕ → ℕ → List ℕ → List ℕ
level_numbers l f k at s = made_of (λ es. numbers (level_rows k at es)) (level_run l f s)

abbrev pub series_numbers : Form → ℕ → List ℕ → List ℕ
series_numbers f at s = made_of (λ ps. numbers (pack_rows 1 at ps)) (series_run f s)

-- What is asked of a walk that writes the rows of a level, and of a series, that begins at `at`, in a form that it was accepted in; and what it leaves,
-- whatever the form.
abbrev pub LevelAsked : Level → ℕ → ℕ → List ℕ → ℕ → Form → Type 0
LevelAsked l k at s room f = Asked (level_run l f s) (level_numbers l f k at s) (at + length s) 8192 room

abbrev pub SeriesAsked : ℕ → List ℕ → ℕ → Form → Type 0
SeriesAsked at s room f = Asked (series_run f s) (series_numbers f at s) (at + length s) 8192 room

abbrev pub LevelLeft : Level → ℕ → ℕ → List ℕ → List ℕ → ℕ → List ℕ → Type 0
LevelLeft l k at s out r out' = (f : Form) → LevelAsked l k at s (length out) f → Fills out (level_numbers l f k at s) r out'

abbrev pub SeriesLeft : ℕ → List ℕ → List ℕ → ℕ → List ℕ → Type 0
SeriesLeft at s out r out' = (f : Form) → SeriesAsked at s (length out) f → Fills out (series_numbers f at s) r out'

-- ---- rows as structs

abbrev pub table_row : ℕ → ℕ → ℕ → ℕ → declared.Row
table_row a b c d = record { target = a; tag = b; offset = c; size = d }

-- a row of document 01, as the struct
abbrev pub row_of : Row → declared.Row
row_of r = table_row r.target r.tag r.offset r.size

-- the row whose four numbers are the k-th
abbrev pub row_at : List ℕ → ℕ → declared.Row
row_at ns k = table_row (get_or ns (4 * k) 0) (get_or ns (4 * k + 1) 0) (get_or ns (4 * k + 2) 0) (get_or ns (4 * k + 3) 0)

-- the first n rows that the numbers are, four by four
unfoldable pub table_of : ℕ → List ℕ → List declared.Row
table_of zero ns = []
table_of (suc n) ns = row_at ns 0 ∷ table_of n (drop 4 ns)
