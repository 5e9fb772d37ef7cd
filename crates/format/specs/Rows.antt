-- Rows: target number, tag, offset and length of each item and pack, left to right (document 01, Rows).
use Rattle.std.specs.Prelude.{ℕ, suc, ◌+◌, List, [], ◌∷◌, ◌++◌, length}
use Rattle.format.specs.Answer.{Ans, ok, ◌>>=◌}
use Rattle.format.specs.Coding.{oid_bytes}
use Rattle.format.specs.Lists.{flat_all}
use Rattle.format.specs.Table.{Form, embedded, standalone}
use Rattle.format.specs.Packet.{Item, Pack, Entry, plain, series, Packet, flat_item, pack_body, flat_pack, flat_entry}
use Rattle.format.specs.Read.{start, parse}

pub record Row : Type 0 where
  pub target : ℕ
  pub tag : ℕ
  pub offset : ℕ
  pub size : ℕ

abbrev pub row : ℕ → ℕ → ℕ → ℕ → Row
row a b c d = record { target = a; tag = b; offset = c; size = d }

-- of target number k, where what stands at the offset `at` begins
unfoldable pub item_row : ℕ → ℕ → Item → Row
item_row k at i = row k i.tag (at + length (oid_bytes i.tag) + i.width) (length i.value)

unfoldable pub item_rows : ℕ → ℕ → List Item → List Row
item_rows k at [] = []
item_rows k at (i ∷ is) = item_row k at i ∷ item_rows k (at + length (flat_item i)) is

-- a pack's own row, from its id, then those of its items
unfoldable pub pack_rows : ℕ → ℕ → List Pack → List Row
pack_rows k at [] = []
pack_rows k at (p ∷ ps) =
    row k 0 (at + p.width) (length (pack_body p))
    ∷ item_rows k (at + p.width + length (oid_bytes p.id)) p.items ++ pack_rows (suc k) (at + length (flat_pack p)) ps

unfoldable pub entry_rows : ℕ → List Entry → List Row
entry_rows at [] = []
entry_rows at (plain i ∷ es) = item_row 0 at i ∷ entry_rows (at + length (flat_item i)) es
entry_rows at (series w ps ∷ es) =
    row 0 101 (at + 1 + w) (length (flat_all flat_pack ps))
    ∷ pack_rows 1 (at + 1 + w) ps ++ entry_rows (at + length (flat_entry (series w ps))) es

-- the checksum is an item like any other
unfoldable pub seal_item : List ℕ → Item
seal_item c = record { tag = 1; width = 1; value = c }

unfoldable pub sealed : Form → List Entry → List ℕ → List Entry
sealed embedded es c = es
sealed standalone es c = es ++ (plain (seal_item c) ∷ [])

unfoldable pub rows_of : Packet → List Row
rows_of p = entry_rows (start p.form p.width) (sealed p.form p.entries p.sum)

unfoldable pub locate : Form → List ℕ → Ans (List Row)
locate f s = parse f s >>= λ p. ok (rows_of p)
