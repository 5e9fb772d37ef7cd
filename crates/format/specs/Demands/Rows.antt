-- The rows: one for each item and pack, in order, and each names its own value, not equal bytes elsewhere: a value's tag and length
-- begin where what stands before them ended. Locate answers these rows for what read accepts, and else read's own refusal.
use Rattle.std.specs.Prelude.{◌≡◌, ◌↔◌, ℕ, suc, ◌+◌, List, [], ◌∷◌, ◌++◌, map, length, take, drop}
use Rattle.format.specs.Answer.{Ans, ok, refused}
use Rattle.format.specs.Coding.{oid_bytes, len_bytes}
use Rattle.format.specs.Lists.{flat_all}
use Rattle.format.specs.Table.{Form}
use Rattle.format.specs.Packet.{Item, Pack, Entry, plain, series, Packet, pack_body, flat_pack}
use Rattle.format.specs.Read.{start}
use Rattle.format.specs.Calls.{read}
use Rattle.format.specs.Rows.{Row, row, sealed}
use Rattle.format.specs.Valid.{Lies}

-- what a row is to point at: the bytes before a value, the value, and after how many bytes of it what follows begins
pub record Cell : Type 0 where
  pub target : ℕ
  pub tag : ℕ
  pub head : List ℕ
  pub value : List ℕ
  pub inside : ℕ

-- a value under its length in w bytes, with the tag's bytes in front, if it has one
abbrev pub cell : ℕ → ℕ → List ℕ → ℕ → List ℕ → ℕ → Cell
cell k tag front w v n = record { target = k; tag = tag; head = front ++ len_bytes w (length v); value = v; inside = n }

-- behind an item's value stands what follows it
abbrev pub item_cell : ℕ → Item → Cell
item_cell k i = cell k i.tag (oid_bytes i.tag) i.width i.value (length i.value)

-- behind a pack's id stands its first item
unfoldable pub pack_cells : ℕ → List Pack → List Cell
pack_cells k [] = []
pack_cells k (p ∷ ps) = cell k 0 [] p.width (pack_body p) (length (oid_bytes p.id)) ∷ map (item_cell k) p.items ++ pack_cells (suc k) ps

-- and with the value of tag 101 begins its first pack
unfoldable pub entry_cells : List Entry → List Cell
entry_cells [] = []
entry_cells (plain i ∷ es) = item_cell 0 i ∷ entry_cells es
entry_cells (series w ps ∷ es) = cell 0 101 (oid_bytes 101) w (flat_all flat_pack ps) 0 ∷ pack_cells 1 ps ++ entry_cells es

-- all of a packet's, left to right
unfoldable pub cells_of : Packet → List Cell
cells_of p = entry_cells (sealed p.form p.entries p.sum)

-- the part of s that a row names
abbrev pub part : List ℕ → ℕ → ℕ → List ℕ
part s offset size = take size (drop offset s)

-- from `at` to its end the bytes of s are the cells' bytes, one after the other, and each row names its own cell's value
abbrev pub InTurn : List ℕ → ℕ → List Cell → List Row → Type 0
InTurn s at [] [] = at ≡ length s
InTurn s at [] (r ∷ rs) = ⊥
InTurn s at (c ∷ cs) [] = ⊥
InTurn s at (c ∷ cs) (r ∷ rs) =
    (r ≡ row c.target c.tag (at + length c.head) (length c.value))
    × (part s at (length (c.head ++ c.value)) ≡ c.head ++ c.value)
    × InTurn s (at + length c.head + c.inside) cs rs

pub record RowsPoint (f : Form) (s : List ℕ) (rows : List Row) : Type 0 where
  pub packet : Packet
  pub lies : Lies f s packet
  pub in_turn : InTurn s (start f packet.width) (cells_of packet) rows

-- what locate answers
pub record LocateAnswers (f : Form) (s : List ℕ) (x : Ans (List Row)) : Type 0 where
  -- it accepts what read accepts, and refuses with read's number and place
  pub accepts : ((rows : List Row) × (x ≡ ok rows)) ↔ ((sheet : List ℕ) × (read f s ≡ ok sheet))
  pub refuses : (n a : ℕ) → x ≡ refused n a ↔ read f s ≡ refused n a
  pub points : (rows : List Row) → x ≡ ok rows → RowsPoint f s rows
