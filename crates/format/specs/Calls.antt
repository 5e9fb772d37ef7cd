-- The normal form, and the calls read, write and normalise, but for the room lent.
use Rattle.std.specs.Prelude.{ℕ, List, map, length, leb}
use Rattle.format.specs.Answer.{Ans, ok, ◌>>=◌, need}
use Rattle.format.specs.Coding.{len_width}
use Rattle.format.specs.Lists.{flat_all}
use Rattle.format.specs.Table.{Form}
use Rattle.format.specs.Packet.{Item, Pack, Entry, plain, series, Packet, pack_body, flat_pack, flat, closed}
use Rattle.format.specs.Read.{parse, limit}
use Rattle.format.specs.Sheet.{Val, Target, Part, one, targets, Sheet, content, sheet_bytes, unsheet}

-- ---- a sheet's packet: shortest lengths and a fresh checksum

unfoldable pub item_of : Val → Item
item_of v = record { tag = v.tag; width = len_width (length v.value); value = v.value }

-- a pack under its shortest length
unfoldable pub pack_with : ℕ → List Item → Pack
pack_with i is = record { width = len_width (length (pack_body (record { width = 0; id = i; items = is }))); id = i; items = is }

unfoldable pub series_with : List Pack → Entry
series_with ps = series (len_width (length (flat_all flat_pack ps))) ps

unfoldable pub pack_of : Target → Pack
pack_of t = pack_with t.id (map item_of t.vals)

unfoldable pub entry_of : Part → Entry
entry_of (one v) = plain (item_of v)
entry_of (targets ts) = series_with (map pack_of ts)

unfoldable pub packet_of : Sheet → Packet
packet_of s = closed s.form (map entry_of s.parts)

-- ---- the calls

-- a packet's bytes, within the limit
unfoldable pub packed : Packet → Ans (List ℕ)
packed p = need (leb (length (flat p)) limit) 1 >>= λ _. ok (flat p)

unfoldable pub read : Form → List ℕ → Ans (List ℕ)
read f s = parse f s >>= λ p. ok (sheet_bytes (content p))

unfoldable pub write : List ℕ → Ans (List ℕ)
write b = unsheet b >>= λ s. packed (packet_of s)

-- read, then write
unfoldable pub normalise : Form → List ℕ → Ans (List ℕ)
normalise f s = parse f s >>= λ p. packed (packet_of (content p))
