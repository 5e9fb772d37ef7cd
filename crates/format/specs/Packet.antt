-- A packet as a tree: each item with the width of its length as it stood, so that `flat` gives back the very bytes.
use Rattle.std.specs.Prelude.{ℕ, ◌+◌, ◌*◌, ◌%◌, List, [], ◌∷◌, ◌++◌, length}
use Rattle.format.specs.Coding.{oid_bytes, len_bytes, len_width, fixed}
use Rattle.format.specs.Lists.{flat_all}
use Rattle.format.specs.Table.{Form, embedded, standalone}

pub record Item : Type 0 where
  pub tag : ℕ
  pub width : ℕ
  pub value : List ℕ

pub record Pack : Type 0 where
  pub width : ℕ
  pub id : ℕ
  pub items : List Item

-- what a set holds: an item, or the series
pub data Entry : Type 0 where
  plain : Item → Entry
  series : ℕ → List Pack → Entry

-- The entries, but for the checksum, whose two bytes are apart. An embedded packet has no outer length and no checksum.
pub record Packet : Type 0 where
  pub form : Form
  pub width : ℕ
  pub entries : List Entry
  pub sum : List ℕ

abbrev pub tag_of_item : Item → ℕ
tag_of_item i = i.tag

abbrev pub id_of_pack : Pack → ℕ
id_of_pack p = p.id

abbrev pub tag_of_entry : Entry → ℕ
tag_of_entry (plain i) = i.tag
tag_of_entry (series w ps) = 101

-- ---- flat

-- bytes with their length in front, in w bytes
abbrev pub under : ℕ → List ℕ → List ℕ
under w b = len_bytes w (length b) ++ b

unfoldable pub flat_item : Item → List ℕ
flat_item i = oid_bytes i.tag ++ under i.width i.value

unfoldable pub pack_body : Pack → List ℕ
pack_body p = oid_bytes p.id ++ flat_all flat_item p.items

unfoldable pub flat_pack : Pack → List ℕ
flat_pack p = under p.width (pack_body p)

unfoldable pub flat_entry : Entry → List ℕ
flat_entry (plain i) = flat_item i
flat_entry (series w ps) = oid_bytes 101 ++ under w (flat_all flat_pack ps)

unfoldable pub the_key : List ℕ
the_key = 0x06 ∷ 0x0E ∷ 0x2B ∷ 0x34 ∷ 0x02 ∷ 0x0B ∷ 0x01 ∷ 0x01 ∷ 0x0E ∷ 0x01 ∷ 0x03 ∷ 0x03 ∷ 0x06 ∷ 0x00 ∷ 0x00 ∷ 0x00 ∷ []

-- what the checksum covers: from the key's first byte through the checksum's length byte
unfoldable pub covered : ℕ → List ℕ → List ℕ
covered w b = the_key ++ (len_bytes w (length b + 4) ++ (b ++ (1 ∷ 2 ∷ [])))

unfoldable pub framed : Form → ℕ → List ℕ → List ℕ → List ℕ
framed embedded w b c = b
framed standalone w b c = covered w b ++ c

unfoldable pub flat : Packet → List ℕ
flat p = framed p.form p.width (flat_all flat_entry p.entries) p.sum

-- ---- the checksum

-- bytes at even offsets times 256, and bytes at odd offsets
unfoldable pub sums : List ℕ → ℕ
sums [] = 0
sums (a ∷ []) = a * 256
sums (a ∷ b ∷ s) = a * 256 + b + sums s

unfoldable pub checksum : List ℕ → ℕ
checksum s = sums s % 65536

-- a packet of these entries, with the shortest outer length and a fresh checksum
unfoldable pub closed : Form → List Entry → Packet
closed embedded es = record { form = embedded; width = 0; entries = es; sum = [] }
closed standalone es =
    let b = flat_all flat_entry es in
    let w = len_width (length b + 4) in
    record { form = standalone; width = w; entries = es; sum = fixed 2 (checksum (covered w b)) }
