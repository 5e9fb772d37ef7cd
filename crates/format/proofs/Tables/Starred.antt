-- Document 01's starred examples, together.
use mathlib.Core.Path.{◌≡◌, refl}
use Prim.Native.Nat.{ℕ}
use mathlib.Core.List.{List, [], ◌∷◌, ◌++◌}
use lib.ListN.{length}
use Rattle.format.specs.Answer.{ok, refused}
use Rattle.format.specs.Table.{embedded, standalone}
use Rattle.format.specs.Packet.{the_key}
use Rattle.format.specs.Calls.{read, write, normalise}
use Rattle.format.specs.Rows.{row, locate}
use Rattle.format.proofs.Tables.Open.{opened}
use Rattle.format.specs.Edit.{target, the_set, put, edit}

a : List ℕ
a = 0x05 ∷ 0x01 ∷ 0x02 ∷ 0x65 ∷ 0x0A ∷ 0x09 ∷ 0x01 ∷ 0x13 ∷ 0x02 ∷ 0x03 ∷ 0x68 ∷ 0x14 ∷ 0x02 ∷ 0x04 ∷ 0x71 ∷ []

a_sheet : List ℕ
a_sheet =
    0x50 ∷ 0x4B ∷ 0x00 ∷ 0x49 ∷ 0x54 ∷ 0x00 ∷ 0x05 ∷ 0x00 ∷ 0x01 ∷ 0x02 ∷ 0x54 ∷ 0x53 ∷ 0x54 ∷ 0x47 ∷ 0 ∷ 0 ∷ 0 ∷ 0 ∷ 0 ∷ 0 ∷ 0 ∷ 1
    ∷ 0x54 ∷ 0x49 ∷ 0x00 ∷ 0x13 ∷ 0x00 ∷ 0x02 ∷ 0x03 ∷ 0x68 ∷ 0x54 ∷ 0x49 ∷ 0x00 ∷ 0x14 ∷ 0x00 ∷ 0x02 ∷ 0x04 ∷ 0x71 ∷ []

h : List ℕ
h = the_key ++ (0x0E ∷ 0x02 ∷ 0x08 ∷ 0 ∷ 0 ∷ 0 ∷ 0 ∷ 0 ∷ 0 ∷ 0 ∷ 0 ∷ 0x01 ∷ 0x02 ∷ 0x63 ∷ 0x55 ∷ [])

record Starred : Type 0 where
  A-read : read embedded a ≡ ok a_sheet
  A-size : length a_sheet ≡ 38
  A-write : write a_sheet ≡ ok a
  B-width : normalise embedded (0x05 ∷ 0x81 ∷ 0x01 ∷ 0x02 ∷ []) ≡ ok (0x05 ∷ 0x01 ∷ 0x02 ∷ [])
  B-zeros : normalise embedded (0x05 ∷ 0x03 ∷ 0x00 ∷ 0x00 ∷ 0x02 ∷ []) ≡ ok (0x05 ∷ 0x01 ∷ 0x02 ∷ [])
  C : read embedded (0x05 ∷ 0x04 ∷ 0x00 ∷ 0x00 ∷ 0x00 ∷ 0x02 ∷ []) ≡ refused 11 0
  D-text : normalise embedded (0x03 ∷ 0x02 ∷ 0x00 ∷ 0x41 ∷ []) ≡ ok (0x03 ∷ 0x02 ∷ 0x00 ∷ 0x41 ∷ [])
  D-other : normalise embedded (0x1E ∷ 0x02 ∷ 0x00 ∷ 0x05 ∷ []) ≡ ok (0x1E ∷ 0x02 ∷ 0x00 ∷ 0x05 ∷ [])
  E-7 : read embedded (0x05 ∷ 0x00 ∷ []) ≡ refused 7 0
  E-5 : read embedded (0x05 ∷ 0x80 ∷ []) ≡ refused 5 0
  E-6 : read embedded (0x05 ∷ 0x01 ∷ []) ≡ refused 6 0
  E-3 : read embedded (0x05 ∷ []) ≡ refused 3 0
  E-4 : read embedded (0x80 ∷ 0x05 ∷ 0x01 ∷ 0x02 ∷ []) ≡ refused 4 0
  F-9 : read embedded (0x05 ∷ 0x01 ∷ 0x02 ∷ 0x05 ∷ 0x01 ∷ 0x02 ∷ []) ≡ refused 9 3
  F-13 : read embedded (0x01 ∷ 0x02 ∷ 0x00 ∷ 0x00 ∷ []) ≡ refused 13 0
  G-ok : normalise embedded (0x65 ∷ 0x02 ∷ 0x01 ∷ 0x07 ∷ []) ≡ ok (0x65 ∷ 0x02 ∷ 0x01 ∷ 0x07 ∷ [])
  G-10 : read embedded (0x65 ∷ 0x04 ∷ 0x01 ∷ 0x07 ∷ 0x01 ∷ 0x07 ∷ []) ≡ refused 10 4
  G-3 : read embedded (0x65 ∷ 0x01 ∷ 0x00 ∷ []) ≡ refused 3 2
  G-12 : read embedded (0x65 ∷ 0x05 ∷ 0x04 ∷ 0x07 ∷ 0x13 ∷ 0x01 ∷ 0x00 ∷ []) ≡ refused 12 4
  H-ok : normalise standalone h ≡ ok h
  H-size : length h ≡ 31
  I : edit embedded (target 1) ((19, put (0x00 ∷ 0x05 ∷ [])) ∷ []) a
      ≡ ok (0x05 ∷ 0x01 ∷ 0x02 ∷ 0x65 ∷ 0x09 ∷ 0x08 ∷ 0x01 ∷ 0x13 ∷ 0x01 ∷ 0x05 ∷ 0x14 ∷ 0x02 ∷ 0x04 ∷ 0x71 ∷ [])
  J : edit embedded the_set ((6, put (0x03 ∷ [])) ∷ []) (0x05 ∷ 0x81 ∷ 0x01 ∷ 0x02 ∷ [])
      ≡ ok (0x05 ∷ 0x81 ∷ 0x01 ∷ 0x02 ∷ 0x06 ∷ 0x01 ∷ 0x03 ∷ [])
  K-tag : normalise embedded (0xFF ∷ 0x7F ∷ 0x01 ∷ 0x00 ∷ []) ≡ ok (0xFF ∷ 0x7F ∷ 0x01 ∷ 0x00 ∷ [])
  K-4 : read embedded (0x81 ∷ 0x80 ∷ []) ≡ refused 4 0
  K-3 : read embedded (0x80 ∷ []) ≡ refused 3 0
  rows : locate embedded a ≡ ok (row 0 5 2 1 ∷ row 0 101 5 10 ∷ row 1 0 6 9 ∷ row 1 19 9 2 ∷ row 1 20 13 2 ∷ [])

starred : Starred
unfolding a a_sheet h opened
starred = record {
  A-read = refl;
  A-size = refl;
  A-write = refl;
  B-width = refl;
  B-zeros = refl;
  C = refl;
  D-text = refl;
  D-other = refl;
  E-7 = refl;
  E-5 = refl;
  E-6 = refl;
  E-3 = refl;
  E-4 = refl;
  F-9 = refl;
  F-13 = refl;
  G-ok = refl;
  G-10 = refl;
  G-3 = refl;
  G-12 = refl;
  H-ok = refl;
  H-size = refl;
  I = refl;
  J = refl;
  K-tag = refl;
  K-4 = refl;
  K-3 = refl;
  rows = refl;
}
