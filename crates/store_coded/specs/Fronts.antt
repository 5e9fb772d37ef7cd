-- An item under its shortest length; what stands in front of a series' packs, n bytes, and of a pack's items, whose id and items are n bytes.
use Rattle.std.specs.Prelude.{ℕ, List, ◌++◌}
use Rattle.format.specs.Coding.{len_width, len_bytes, oid_bytes}
use Rattle.format.specs.Packet.{flat_item}
use Rattle.format.specs.Calls.{item_of}

abbrev pub short_item : ℕ → List ℕ → List ℕ
short_item tag v = flat_item (item_of (record { tag = tag; value = v }))

unfoldable pub series_front : ℕ → List ℕ
series_front n = oid_bytes 101 ++ len_bytes (len_width n) n

unfoldable pub pack_front : ℕ → ℕ → List ℕ
pack_front n id = len_bytes (len_width n) n ++ oid_bytes id
