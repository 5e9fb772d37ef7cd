-- A packet that was read: what opened it, the entries that its set was read as, and the checksum.
use mathlib.Core.Path.{◌≡◌}
use Prim.Native.Nat.{ℕ, ◌≤◌}
use mathlib.Core.Bool.{false}
use mathlib.Core.List.{List, [], ◌∷◌, ◌++◌}
use lib.ListN.{length, drop}
use lib.Dec.{eqb}
use Rattle.format.specs.Answer.{ok, Got}
use Rattle.format.specs.Packet.{Entry, plain, Packet, tag_of_entry}
use Rattle.format.specs.Table.{Form, embedded, standalone, set}
use Rattle.format.specs.Read.{opening, start, unsealed, closing}
use Rattle.format.specs.Rows.{seal_item}
use Rattle.format.specs.Valid.{All}
use Rattle.tally.specs.Runs.{level_run}

-- the packet of the entries of a set
abbrev pub packet_of : Form → ℕ → List Entry → List ℕ → Packet
packet_of f w es c = record { form = f; width = w; entries = unsealed es; sum = c }

-- the entries as they were read, and as the packet has them: but for the checksum, as long as the sum
abbrev pub Sealing : Form → List Entry → List ℕ → Type 0
Sealing embedded es sum = es ≡ unsealed es
Sealing standalone es sum = (c : List ℕ) × (length c ≡ length sum) × (es ≡ unsealed es ++ (plain (seal_item c) ∷ []))

pub record Parsed (f : Form) (s : List ℕ) (p : Packet) : Type 0 where
  pub width : ℕ
  pub short : length s ≤ 8192
  pub opens : opening f s ≡ ok width
  pub from : start f width ≤ length s
  pub es : Got (List Entry)
  pub runs : level_run set f (drop (start f width) s) ≡ ok es
  pub sum : List ℕ
  pub closes : closing f s es.val ≡ ok sum
  pub packet_is : p ≡ packet_of f width es.val sum
  pub no_seal : All (λ e. eqb (tag_of_entry e) 1 ≡ false) (unsealed es.val)
  pub sealing : Sealing f es.val sum
