-- The rows of a packet that was read are those of its set's entries.
use mathlib.Core.Path.{◌≡◌, sym, ap, ◌∙◌}
use Prim.Native.Nat.{ℕ, ◌+◌}
use mathlib.Core.List.{List, [], ◌∷◌, ◌++◌}
use lib.ListN.{length}
use Rattle.format.specs.Table.{Form, embedded, standalone}
use Rattle.format.specs.Packet.{Entry, plain, series, Packet, flat_item, flat_entry}
use Rattle.format.specs.Read.{start, unsealed}
use Rattle.format.specs.Rows.{item_row, entry_rows, seal_item, sealed, rows_of}
use Rattle.tally.proofs.Parsed.{Sealing, Parsed}

-- a row knows only the length of the checksum
seal_rows : (c d : List ℕ) → length c ≡ length d → (at : ℕ) (es : List Entry) → entry_rows at (es ++ (plain (seal_item c) ∷ [])) ≡ entry_rows at (es ++ (plain (seal_item d) ∷ []))
unfolding entry_rows item_row seal_item
seal_rows c d e at [] = rw e
seal_rows c d e at (plain i ∷ es) = ap (λ x. item_row 0 at i ∷ x) (seal_rows c d e (at + length (flat_item i)) es)
seal_rows c d e at (series w ps ∷ es) = rw (seal_rows c d e (at + length (flat_entry (series w ps))) es)

sealed_rows : (f : Form) (es : List Entry) (sum : List ℕ) → Sealing f es sum → (at : ℕ) → entry_rows at (sealed f (unsealed es) sum) ≡ entry_rows at es
unfolding sealed
sealed_rows embedded es sum e at = ap (entry_rows at) (sym e)
sealed_rows standalone es sum (c, n, e) at = sym (ap (entry_rows at) e ∙ seal_rows c sum n at (unsealed es))

module _ {f : Form} {s : List ℕ} {p : Packet} (k : Parsed f s p) where
  pub rows_whole : rows_of p ≡ entry_rows (start f k.width) k.es.val
  unfolding rows_of
  rows_whole = rw k.packet_is (sealed_rows f k.es.val k.sum k.sealing (start f k.width))
