-- Where the code of the whole packet meets document 01: what its answers mean.
use Rattle.std.specs.Prelude.{◌≡◌, ℕ, Result, Ok, Err, ◌+◌, ◌-◌, ◌<◌, ◌≤◌, Bool, List, map, length, take, drop, eqb}
use Rattle.format.specs.Answer.{Ans, ok, refused, ◌>>=◌, need, after}
use Rattle.format.specs.Coding.{bytes_number}
use Rattle.format.specs.Lists.{flat_all}
use Rattle.format.specs.Table.{Form, embedded, standalone, set}
use Rattle.format.specs.Packet.{Packet, flat_entry, checksum}
use Rattle.format.specs.Read.{head_of, start}
use Rattle.format.specs.Sheet.{content, sheet_bytes}
use Rattle.format.specs.Calls.{entry_of}
use Rattle.format.specs.Rows.{rows_of}
use Rattle.coding.specs.declared.refusals.Fault.{Fault}
use Rattle.coding.specs.declared.refusals.Refusal.{Refusal}
use Rattle.coding.specs.Refusals.{number, told}
use Rattle.heads.specs.declared.Head.{Head}
use Rattle.heads.specs.Meet.{item_head}
use Rattle.tally.specs.declared.Sizes.{Sizes}
use Rattle.tally.specs.Meet.{sizes, total, weight_of_entry}
use Rattle.check_packet.specs.declared.Checked as declared
use Rattle.check_packet.specs.Checks.{Checked, Fine, Wrong}

-- the sizes of a packet's sheet, of its rows, of its normal form and of the series' packs in that
abbrev pub packet_sizes : Packet → Sizes
packet_sizes p = sizes
    (length (sheet_bytes (content p)))
    (length (rows_of p))
    (length (flat_all flat_entry (map entry_of (content p).parts)))
    (total (weight_of_entry set) p.entries).inner

-- these, and where its set begins
abbrev pub checked_of : Ans Packet → Checked
checked_of (ok p) = Fine (packet_sizes p) (start p.form p.width)
checked_of (refused n p) = Wrong n p

-- the same, as the code has it
abbrev pub check_of : declared.Checked → Checked
check_of c = Fine c.sizes c.from

abbrev pub checked : Result declared.Checked Fault → Checked
checked (Ok c) = check_of c
checked (Err e) = Wrong (number e.refusal) e.place

-- how many bytes the outer length takes
abbrev pub opened : Result ℕ Refusal → Ans ℕ
opened = told (λ n. n)

-- a packet whose set has these sizes and begins at k
abbrev pub fine_of : Sizes → ℕ → Checked
fine_of a k = Fine (sizes (3 + a.sheet) a.rows a.normal a.inner) k

-- whether the last two bytes are the checksum of those before them
abbrev pub sum_right : List ℕ → Bool
sum_right s = eqb (checksum (take (length s - 2) s)) (bytes_number (drop (length s - 2) s))

-- what closes a packet, where m says whether its set has a checksum
abbrev pub sum_by : Form → List ℕ → Bool → Ans (Unit {0})
sum_by embedded s m = ok tt
sum_by standalone s m =
    after (length s) (need m 14) >>= λ _.
    after (length s - 4) (need (sum_right s) 15)

abbrev pub finish : Sizes → ℕ → Ans (Unit {0}) → Checked
finish a k (ok c) = fine_of a k
finish a k (refused n p) = Wrong n p

abbrev pub closing_by : Form → List ℕ → Bool → Sizes → ℕ → Checked
closing_by f s m a k = finish a k (sum_by f s m)

-- the head of an item of the set at p, and the room of all that it heads
abbrev pub HeadRead : List ℕ → ℕ → Head → Type 0
HeadRead s p h = (p < length s) × (ok (item_head h) ≡ head_of set (drop p s)) × (p + h.used + h.width + h.size ≤ length s)
