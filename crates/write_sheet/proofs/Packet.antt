-- The sheet of a packet that was read: its head, and what the entries of its set write.
use mathlib.Core.Path.{◌≡◌, refl}
use Prim.Native.Nat.{ℕ}
use mathlib.Core.Bool.{false}
use mathlib.Core.List.{List, [], ◌∷◌, map}
use lib.ListN.{drop}
use lib.Dec.{eqb}
use Rattle.format.specs.Lists.{flat_all}
use Rattle.format.specs.Table.{Form, set}
use Rattle.format.specs.Packet.{Entry, plain, series, Packet, tag_of_entry}
use Rattle.format.specs.Read.{start, unsealed}
use Rattle.format.specs.Rows.{seal_item}
use Rattle.format.specs.Sheet.{val_of, part_of, part_bytes, content, PK, form_byte, sheet_bytes}
use Rattle.format.specs.Valid.{All}
use Rattle.tally.proofs.Parsed.{Parsed}
use Rattle.write_laws.proofs.Unsealed.{unsealed_same}
use Rattle.write_sheet.specs.Meet.{item_sheet, entry_sheet, level_sheet}

part_written : (e : Entry) → eqb (tag_of_entry e) 1 ≡ false → part_bytes (part_of e) ≡ entry_sheet set e
unfolding part_of part_bytes val_of item_sheet
part_written (plain i) z = rw (z, item_sheet)
part_written (series w ps) z = refl

parts_written : (es : List Entry) → All (λ e. eqb (tag_of_entry e) 1 ≡ false) es → flat_all part_bytes (map part_of es) ≡ flat_all (entry_sheet set) es
unfolding flat_all
parts_written [] h = refl
parts_written (e ∷ es) h = rw (part_written e h.0, parts_written es h.1)

-- the checksum writes nothing
seal_written : (c : List ℕ) → entry_sheet set (plain (seal_item c)) ≡ []
unfolding item_sheet seal_item
seal_written c = refl

module _ {f : Form} {s : List ℕ} {p : Packet} (k : Parsed f s p) where
  pub sheet_whole : sheet_bytes (content p) ≡ PK.0 ∷ PK.1 ∷ form_byte f ∷ level_sheet set f (drop (start f k.width) s)
  unfolding sheet_bytes content
  sheet_whole =
      rw (k.packet_is, k.runs, parts_written (unsealed k.es.val) k.no_seal, unsealed_same (entry_sheet set) seal_written f k.es.val k.sum k.sealing)
