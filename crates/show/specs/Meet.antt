-- Where `shown` and `show` meet document 01: the part that is shown, its bytes and where it begins.
use Rattle.std.specs.Prelude.{◌≡◌, ℕ, ◌+◌, ◌≤◌, Bool, true, false, List, length, Option, Some, None, IfSome}
use Rattle.format.specs.Answer.{Ans, ok, refused, ◌>>=◌}
use Rattle.format.specs.Table.{Form}
use Rattle.format.specs.Packet.{Packet}
use Rattle.format.specs.Read.{parse}
use Rattle.format.specs.Rows.{Row}
use Rattle.format.specs.Edit.{Holder}
use Rattle.format.specs.Show.{Side, reviewer, detector, Shown, shown, find_row}
use Rattle.format.specs.Demands.Rows.{part}
use Rattle.tally.specs.declared.Sizes.{Sizes}
use Rattle.check_packet.specs.Checks.{Fine}
use Rattle.check_packet.specs.Meet.{checked_of}
use Rattle.show.specs.declared.Part.{Part}
use Rattle.show.specs.declared.Value.{Value}

-- ---- in one packet

-- the row of an item, in a packet that is accepted
abbrev pub row_named : Holder → ℕ → Ans Packet → Ans Row
row_named h tag a = a >>= λ p. find_row h tag p

-- the value that a row names
abbrev pub value_of : Ans Row → Option Value
value_of (ok r) = Some (record { offset = r.offset; size = r.size })
value_of (refused n p) = None

-- v is that of the item's row, if there is one, and lies in the packet
abbrev pub ValueIn : Form → List ℕ → Holder → ℕ → Option Value → Type 0
ValueIn f s h tag v = (v ≡ value_of (row_named h tag (parse f s))) × IfSome v (λ w. w.offset + w.size ≤ length s)

-- the check found the packet fine, and its set begins at k
abbrev pub FineFrom : Form → List ℕ → ℕ → Type 0
FineFrom f s k = (a : Sizes) × (checked_of (parse f s) ≡ Fine a k)

-- ---- in two

-- the reviewer's or the detector's
abbrev pub of_two : {X : Type 0} → Bool → X → X → X
of_two true r d = d
of_two false r d = r

abbrev pub side_of : Bool → Side
side_of b = of_two b reviewer detector

abbrev pub is_detectors : Side → Bool
is_detectors reviewer = false
is_detectors detector = true

abbrev pub part_shown : Part → Shown
part_shown p = shown (side_of p.detectors) p.offset p.size

-- the empty part at the detector's start
abbrev pub no_part : Part
no_part = record { detectors = true; offset = 0; size = 0 }

-- the bytes of the part, and where it begins in the lent packet: a block of memory, and an offset in it
abbrev pub bytes_shown : List ℕ → List ℕ → Shown → List ℕ
bytes_shown r d s = part (of_two (is_detectors s.side) r d) s.offset s.size

abbrev pub place_shown : ℕ × ℕ → ℕ × ℕ → Shown → ℕ × ℕ
place_shown r d s = let p = of_two (is_detectors s.side) r d in (p.0, s.offset + p.1)
