-- Where the code that opens and closes a packet meets document 01: what stands before its entries and after them, and its size.
use Rattle.std.specs.Prelude.{ℕ, ◌+◌, List, [], ◌∷◌, ◌++◌}
use Rattle.format.specs.Coding.{len_width, len_bytes, fixed}
use Rattle.format.specs.Table.{Form, embedded, standalone}
use Rattle.format.specs.Packet.{the_key, checksum}

-- how many bytes a packet has whose entries have n
abbrev pub frame_size : Form → ℕ → ℕ
frame_size embedded n = n
frame_size standalone n = 16 + len_width (n + 4) + n + 4

-- what stands before entries of n bytes: the key, and the shortest outer length
unfoldable pub open_bytes : Form → ℕ → List ℕ
open_bytes embedded n = []
open_bytes standalone n = the_key ++ len_bytes (len_width (n + 4)) (n + 4)

-- what follows the bytes s of an opened packet with its entries: the fresh checksum, which covers its own tag and length
unfoldable pub seal_bytes : Form → List ℕ → List ℕ
seal_bytes embedded s = []
seal_bytes standalone s = 1 ∷ 2 ∷ fixed 2 (checksum (s ++ (1 ∷ 2 ∷ [])))
