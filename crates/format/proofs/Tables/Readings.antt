-- The points where document 01 leaves room, as docs/DECISIONS.md decides them: each row is an input and its answer.
use mathlib.Core.Path.{◌≡◌, refl}
use Prim.Native.Nat.{ℕ}
use mathlib.Core.List.{List, [], ◌∷◌, ◌++◌, map}
use lib.ListN.{replicate, length}
use Rattle.format.specs.Answer.{Ans, ok, refused}
use Rattle.format.specs.Table.{Form, embedded, standalone}
use Rattle.format.specs.Packet.{the_key}
use Rattle.format.specs.Calls.{read, write}
use Rattle.format.specs.Rows.{row, locate}
use Rattle.format.specs.Edit.{Holder, the_set, target, Change, put, remove, Changes, edit}
use Rattle.format.specs.Show.{Shown, shown, nothing, reviewer, detector, show}
use Rattle.format.proofs.Tables.Open.{opened}

-- an answer's number, 0 if it is a value, and its place
abbrev said : {A : Type 0} → Ans A → ℕ × ℕ
said (ok a) = (0, 0)
said (refused n p) = (n, p)

-- T: a time stamp of 0; E and S: the two forms; PK, IT ..: a sheet's records
abbrev T : List ℕ
T = 2 ∷ 8 ∷ replicate 8 0

abbrev E : List ℕ → Form × List ℕ
E b = (embedded, b)

abbrev S : List ℕ → Form × List ℕ
S b = (standalone, the_key ++ b)

-- ---- packets

packets : List ((Form × List ℕ) × (ℕ × ℕ))
packets =
    -- lengths and values as document 01 has them
    (E (3 ∷ 0x21 ∷ replicate 33 0x41), (11, 0))
    ∷ (E (8 ∷ 1 ∷ 0 ∷ []), (0, 0))
    ∷ (E (5 ∷ 1 ∷ 2 ∷ T), (0, 0))
    ∷ (E [], (0, 0))
    -- cut off comes before ill-formed, but for a length byte
    ∷ (E (0x80 ∷ []), (3, 0))
    ∷ (E (0x80 ∷ 0x80 ∷ []), (4, 0))
    ∷ (E (0x65 ∷ 2 ∷ 1 ∷ 0x80 ∷ []), (3, 2))
    ∷ (E (0x65 ∷ 3 ∷ 2 ∷ 0x80 ∷ 0x80 ∷ []), (3, 2))
    ∷ (E (0x65 ∷ 3 ∷ 2 ∷ 0x80 ∷ 5 ∷ []), (8, 2))
    ∷ (E (0x65 ∷ 10 ∷ 9 ∷ replicate 9 0xFF), (8, 2))
    ∷ (E (0x65 ∷ 9 ∷ 8 ∷ replicate 8 0xFF), (3, 2))
    ∷ (E (5 ∷ 0x85 ∷ []), (5, 0))
    -- what holds it is the nearest parent
    ∷ (E (0x65 ∷ 5 ∷ 2 ∷ 7 ∷ 4 ∷ 1 ∷ 1 ∷ []), (3, 4))
    ∷ (E (0x65 ∷ 5 ∷ 2 ∷ 7 ∷ 0x80 ∷ 1 ∷ 9 ∷ []), (3, 4))
    -- the set's tag 1 has its length in one byte; a pack's is free of that
    ∷ (E (1 ∷ 0x81 ∷ 2 ∷ 0 ∷ 0 ∷ []), (5, 0))
    ∷ (E (1 ∷ 0x81 ∷ 0xFF ∷ []), (5, 0))
    ∷ (E (1 ∷ 0x81 ∷ []), (3, 0))
    ∷ (E (0x65 ∷ 6 ∷ 5 ∷ 7 ∷ 1 ∷ 0x81 ∷ 1 ∷ 1 ∷ []), (0, 0))
    -- series
    ∷ (E (0x65 ∷ 0 ∷ []), (7, 0))
    ∷ (E (0x65 ∷ 2 ∷ 1 ∷ 7 ∷ 0x65 ∷ 1 ∷ 0x80 ∷ []), (9, 4))
    ∷ (E (0x65 ∷ 5 ∷ 4 ∷ 7 ∷ 0x65 ∷ 1 ∷ 0 ∷ []), (0, 0))
    -- tag 1 is at the very end if its value ends where the set ends
    ∷ (S (13 ∷ T ++ (1 ∷ 1 ∷ 0 ∷ [])), (11, 27))
    ∷ (S (14 ∷ T ++ (1 ∷ 1 ∷ 0 ∷ 0 ∷ [])), (13, 27))
    ∷ (S (4 ∷ 1 ∷ 2 ∷ 0 ∷ 0 ∷ []), (14, 17))
    ∷ (S (7 ∷ 1 ∷ 2 ∷ 0 ∷ 0 ∷ 5 ∷ 1 ∷ 2 ∷ []), (13, 17))
    ∷ (S (0 ∷ []), (14, 17))
    ∷ (S (0x81 ∷ 0 ∷ []), (14, 18))
    ∷ (S (2 ∷ 5 ∷ 0 ∷ []), (7, 17))
    ∷ (S (10 ∷ T), (14, 27))
    ∷ (S (14 ∷ T ++ (1 ∷ 2 ∷ 0x63 ∷ 0x56 ∷ [])), (15, 27))
    -- a pack's 14 before the next pack
    ∷ (S (20 ∷ T ++ (0x65 ∷ 4 ∷ 1 ∷ 7 ∷ 1 ∷ 7 ∷ 1 ∷ 2 ∷ 0x7B ∷ 0xBC ∷ [])), (14, 29))
    ∷ (S (14 ∷ T ++ (0x65 ∷ 2 ∷ 1 ∷ 7 ∷ [])), (14, 29))
    ∷ (S (23 ∷ T ++ (0x65 ∷ 7 ∷ 6 ∷ 7 ∷ 10 ∷ 3 ∷ 1 ∷ 2 ∷ 3 ∷ 1 ∷ 2 ∷ 0 ∷ 0 ∷ [])), (13, 31))
    -- a pack's 20 before its 14 and before the next pack, after its items' own
    ∷ (E (0x65 ∷ 5 ∷ 4 ∷ 7 ∷ 19 ∷ 1 ∷ 5 ∷ []), (20, 2))
    ∷ (E (0x65 ∷ 5 ∷ 4 ∷ 7 ∷ 20 ∷ 1 ∷ 5 ∷ []), (20, 2))
    ∷ (E (0x65 ∷ 7 ∷ 4 ∷ 7 ∷ 19 ∷ 1 ∷ 5 ∷ 1 ∷ 7 ∷ []), (20, 2))
    ∷ (E (0x65 ∷ 5 ∷ 4 ∷ 7 ∷ 19 ∷ 1 ∷ 0 ∷ []), (12, 4))
    ∷ (E (0x65 ∷ 8 ∷ 7 ∷ 7 ∷ 20 ∷ 1 ∷ 5 ∷ 19 ∷ 1 ∷ 5 ∷ []), (0, 0))
    ∷ (S (21 ∷ T ++ (0x65 ∷ 5 ∷ 4 ∷ 7 ∷ 20 ∷ 1 ∷ 5 ∷ 1 ∷ 2 ∷ 0 ∷ 0 ∷ [])), (20, 29))
    -- the limit, the key and the outer length
    ∷ ((standalone, replicate 8193 0), (1, 0))
    ∷ ((standalone, 6 ∷ 0x0E ∷ []), (2, 0))
    ∷ (S [], (3, 0))
    ∷ (S (0x80 ∷ []), (5, 0))
    ∷ (S (0x81 ∷ []), (3, 0))
    ∷ (S (9 ∷ T), (6, 0))
    ∷ []

packets_so : map (λ c. said (read c.0.0 c.0.1)) packets ≡ map (λ c. c.1) packets
unfolding packets opened
packets_so = refl

-- ---- sheets

abbrev PK : ℕ → List ℕ
PK f = 0x50 ∷ 0x4B ∷ f ∷ []

abbrev IT : ℕ → List ℕ → List ℕ
IT tag v = 0x49 ∷ 0x54 ∷ 0 ∷ tag ∷ 0 ∷ length v ∷ v

abbrev TI : ℕ → List ℕ → List ℕ
TI tag v = 0x54 ∷ 0x49 ∷ 0 ∷ tag ∷ 0 ∷ length v ∷ v

abbrev TS : List ℕ
TS = 0x54 ∷ 0x53 ∷ []

abbrev TG : ℕ → List ℕ
TG i = 0x54 ∷ 0x47 ∷ replicate 7 0 ++ (i ∷ [])

-- a standalone sheet's first records, up to its first target
abbrev begun : List ℕ
begun = PK 1 ++ (IT 2 (replicate 8 0) ++ (TS ++ TG 1))

sheets : List (List ℕ × (ℕ × ℕ))
sheets =
    -- a number that is not shortest is the last thing asked
    (PK 0 ++ (TS ++ (TG 1 ++ TI 19 (0 ∷ 0 ∷ []))), (12, 15))
    ∷ (PK 0 ++ IT 5 (0 ∷ 0 ∷ 0 ∷ 1 ∷ []), (11, 3))
    ∷ (PK 0 ++ IT 5 (0 ∷ 2 ∷ []), (17, 3))
    ∷ (PK 0 ++ IT 5 [], (7, 3))
    -- a target's 14 comes before whatever follows that is no TI
    ∷ (begun ++ (0x58 ∷ 0x58 ∷ []), (14, 19))
    ∷ (begun ++ (0x54 ∷ []), (14, 19))
    ∷ (begun ++ (0x54 ∷ 0x49 ∷ []), (17, 29))
    ∷ (begun, (14, 19))
    -- so does its 20, and that before its 14
    ∷ (begun ++ (TI 19 (5 ∷ []) ++ (0x58 ∷ 0x58 ∷ [])), (20, 19))
    ∷ (PK 0 ++ (TS ++ (TG 1 ++ TI 20 (5 ∷ []))), (20, 5))
    ∷ (PK 0 ++ (TS ++ (TG 1 ++ (TI 20 (5 ∷ []) ++ (TI 19 (5 ∷ []))))), (0, 0))
    -- on a TS
    ∷ (PK 1 ++ TS, (17, 3))
    ∷ (PK 1 ++ (TS ++ TG 1), (14, 3))
    ∷ (PK 0 ++ (TS ++ (0x54 ∷ 0x47 ∷ 0 ∷ [])), (17, 5))
    ∷ (PK 0 ++ (TS ++ (TG 1 ++ (TS ++ TG 2))), (9, 15))
    ∷ (PK 0 ++ (TS ++ (TG 1 ++ TG 1)), (10, 15))
    -- an IT closes the series
    ∷ (PK 0 ++ (TS ++ (TG 1 ++ (IT 5 (2 ∷ []) ++ TG 2))), (17, 22))
    ∷ (PK 0 ++ (TS ++ (TG 1 ++ (IT 5 (2 ∷ []) ++ TI 4 (1 ∷ [])))), (17, 22))
    ∷ (PK 0 ++ TG 1, (17, 3))
    ∷ (PK 0 ++ IT 1 [], (17, 3))
    ∷ (PK 0 ++ IT 101 (1 ∷ []), (17, 3))
    -- the whole
    ∷ ([], (17, 0))
    ∷ (0x50 ∷ 0x4B ∷ [], (17, 0))
    ∷ (PK 2, (17, 0))
    ∷ (PK 1, (14, 3))
    ∷ (PK 0, (0, 0))
    -- the packet that would be written is over the limit
    ∷ (PK 0 ++ (0x49 ∷ 0x54 ∷ 0 ∷ 30 ∷ 0x1F ∷ 0xFD ∷ replicate 8189 0), (1, 0))
    ∷ []

sheets_so : map (λ c. said (write c.0)) sheets ≡ map (λ c. c.1) sheets
unfolding sheets opened
sheets_so = refl

-- ---- edits: form, packet, holder, changes, and the answer

record Edited : Type 0 where
  packet : Form × List ℕ
  holder : Holder
  changes : Changes
  answer : Ans (List ℕ)

-- one change, and two to a target
abbrev edited : Form × List ℕ → Holder → ℕ → Change → Ans (List ℕ) → Edited
edited p h tag c a = record { packet = p; holder = h; changes = (tag, c) ∷ []; answer = a }

abbrev both : Form × List ℕ → Holder → ℕ × Change → ℕ × Change → Ans (List ℕ) → Edited
both p h c d a = record { packet = p; holder = h; changes = c ∷ d ∷ []; answer = a }

-- a target alone, and with its centroid; a sealed packet; one with a target and its location
abbrev lone : List ℕ
lone = 0x65 ∷ 2 ∷ 1 ∷ 7 ∷ []

abbrev pair : List ℕ
pair = 0x65 ∷ 8 ∷ 7 ∷ 7 ∷ 19 ∷ 1 ∷ 5 ∷ 20 ∷ 1 ∷ 5 ∷ []

abbrev sealed : Form × List ℕ
sealed = S (14 ∷ T ++ (1 ∷ 2 ∷ 0x63 ∷ 0x55 ∷ []))

abbrev place : List ℕ
place = 17 ∷ 10 ∷ replicate 10 1

abbrev placed : Form × List ℕ
placed = S (30 ∷ T ++ (0x65 ∷ 14 ∷ 13 ∷ 7 ∷ place ++ (1 ∷ 2 ∷ 151 ∷ 221 ∷ [])))

edits : List Edited
edits =
    -- the packet's own answer, 19, 18, then 7, 13, 11, 12
    edited (E (5 ∷ 0 ∷ [])) the_set 0 remove (refused 7 0)
    ∷ edited (E lone) (target 9) 0 remove (refused 19 0)
    ∷ edited (E lone) (target 9) 4 (put []) (refused 18 0)
    ∷ edited (E lone) (target 9223372036854775808) 4 (put (1 ∷ [])) (refused 18 0)
    ∷ edited (E []) the_set 16384 (put (1 ∷ [])) (refused 19 0)
    ∷ edited sealed the_set 1 (put (0 ∷ 0 ∷ [])) (refused 19 0)
    ∷ edited (E []) the_set 101 remove (refused 19 0)
    ∷ edited (E []) the_set 5 remove (refused 18 0)
    ∷ edited (E []) the_set 5 (put []) (refused 7 0)
    ∷ edited placed (target 7) 10 (put []) (refused 7 0)
    ∷ edited placed (target 7) 10 (put (1 ∷ [])) (refused 13 0)
    ∷ edited placed (target 7) 10 remove (refused 18 0)
    -- 11 is asked of the value as given
    ∷ edited (E []) the_set 6 (put (0 ∷ 0 ∷ 0 ∷ 1 ∷ [])) (refused 11 0)
    ∷ edited (E lone) (target 7) 19 (put (0 ∷ 0 ∷ [])) (refused 12 0)
    -- the lengths of the item and around it are written shortest; no others
    ∷ edited (E (0x65 ∷ 0x81 ∷ 6 ∷ 0x81 ∷ 4 ∷ 7 ∷ 4 ∷ 1 ∷ 1 ∷ [])) (target 7) 4 remove (ok lone)
    ∷ edited (E (5 ∷ 0x81 ∷ 1 ∷ 2 ∷ [])) the_set 5 (put (2 ∷ [])) (ok (5 ∷ 1 ∷ 2 ∷ []))
    ∷ edited (E (0x65 ∷ 0x81 ∷ 2 ∷ 1 ∷ 7 ∷ [])) the_set 5 (put (2 ∷ [])) (ok (0x65 ∷ 0x81 ∷ 2 ∷ 1 ∷ 7 ∷ 5 ∷ 1 ∷ 2 ∷ []))
    -- and no bytes that only look like the item, within another's value or across two of them
    ∷ edited (E (30 ∷ 3 ∷ 5 ∷ 1 ∷ 2 ∷ 5 ∷ 0x81 ∷ 1 ∷ 2 ∷ [])) the_set 5 (put (2 ∷ [])) (ok (30 ∷ 3 ∷ 5 ∷ 1 ∷ 2 ∷ 5 ∷ 1 ∷ 2 ∷ []))
    ∷ edited (E (5 ∷ 0x81 ∷ 1 ∷ 2 ∷ 0x81 ∷ 1 ∷ 1 ∷ 2 ∷ [])) the_set 129 remove (ok (5 ∷ 0x81 ∷ 1 ∷ 2 ∷ []))
    -- what must stay, and where a new item goes
    ∷ edited sealed the_set 2 remove (refused 14 0)
    ∷ edited placed (target 7) 17 remove (refused 14 0)
    ∷ edited sealed the_set 5 (put (7 ∷ [])) (ok (S (17 ∷ T ++ (5 ∷ 1 ∷ 7 ∷ 1 ∷ 2 ∷ 102 ∷ 98 ∷ []))).1)
    ∷ edited placed (target 7) 4 (put (5 ∷ [])) (ok (S (33 ∷ T ++ (0x65 ∷ 17 ∷ 16 ∷ 7 ∷ place ++ (4 ∷ 1 ∷ 5 ∷ 1 ∷ 2 ∷ 157 ∷ 234 ∷ [])))).1)
    -- a row without a column, put or left
    ∷ edited placed (target 7) 19 (put (0 ∷ 5 ∷ [])) (refused 20 0)
    ∷ edited (E pair) (target 7) 20 remove (refused 20 0)
    ∷ edited (E pair) (target 7) 20 (put (6 ∷ [])) (ok (0x65 ∷ 8 ∷ 7 ∷ 7 ∷ 19 ∷ 1 ∷ 5 ∷ 20 ∷ 1 ∷ 6 ∷ []))
    -- two changes, in the order given
    ∷ both (E lone) (target 7) (19, put (0 ∷ 5 ∷ [])) (20, put (5 ∷ [])) (ok pair)
    ∷ both (E lone) (target 7) (20, put (5 ∷ [])) (19, put (5 ∷ [])) (ok (0x65 ∷ 8 ∷ 7 ∷ 7 ∷ 20 ∷ 1 ∷ 5 ∷ 19 ∷ 1 ∷ 5 ∷ []))
    ∷ both (E pair) (target 7) (20, remove) (19, remove) (ok lone)
    ∷ both (E pair) (target 7) (20, remove) (4, put (1 ∷ [])) (refused 20 0)
    -- each in its turn: the same tag and the set's second change are 19; the first change's numbers come first
    ∷ both (E lone) (target 7) (19, put (5 ∷ [])) (19, put (6 ∷ [])) (refused 19 0)
    ∷ both (E lone) the_set (5, put (5 ∷ [])) (6, put (6 ∷ [])) (refused 19 0)
    ∷ both (E lone) the_set (5, remove) (0, remove) (refused 18 0)
    ∷ both (E lone) (target 7) (4, put (1 ∷ [])) (5, remove) (refused 18 0)
    -- a removal's 14 waits for both changes, and comes after 20
    ∷ both placed (target 7) (17, remove) (19, put (0 ∷ 0 ∷ 0 ∷ 0 ∷ 1 ∷ [])) (refused 11 0)
    ∷ both placed (target 7) (17, remove) (19, put (1 ∷ [])) (refused 20 0)
    ∷ both placed (target 7) (17, remove) (4, put (1 ∷ [])) (refused 14 0)
    -- a lone row is the packet's own 20: no edit can mend it
    ∷ edited (E (0x65 ∷ 5 ∷ 4 ∷ 7 ∷ 19 ∷ 1 ∷ 5 ∷ [])) (target 7) 20 (put (5 ∷ [])) (refused 20 2)
    -- 1 measures the packet that results, its kept long lengths with it
    ∷ edited (E (5 ∷ 0x84 ∷ 0 ∷ 0 ∷ 0 ∷ 1 ∷ 2 ∷ 13 ∷ 0x82 ∷ 0x1F ∷ 0xF5 ∷ replicate 8181 0)) the_set 6 (put (3 ∷ [])) (refused 1 0)
    ∷ []

edits_so : map (λ c. edit c.packet.0 c.holder c.changes c.packet.1) edits ≡ map (λ c. c.answer) edits
unfolding edits opened
edits_so = refl

-- ---- rows and shows

rows_so : locate standalone sealed.1 ≡ ok (row 0 2 19 8 ∷ row 0 1 29 2 ∷ [])
unfolding opened
rows_so = refl

shows : List ((Form × List ℕ × List ℕ × Holder × ℕ) × Shown)
shows =
    ((embedded, 5 ∷ 1 ∷ 2 ∷ [], 5 ∷ 2 ∷ 0 ∷ 3 ∷ [], the_set, 5), shown reviewer 2 1)
    ∷ ((embedded, 6 ∷ 1 ∷ 2 ∷ [], 0x65 ∷ 5 ∷ 4 ∷ 7 ∷ 4 ∷ 1 ∷ 9 ∷ [], target 7, 4), shown detector 6 1)
    ∷ ((embedded, lone, lone, the_set, 101), nothing)
    ∷ ((embedded, lone, lone, target 7, 0), nothing)
    ∷ ((embedded, lone, lone, target 7, 4), nothing)
    ∷ ((embedded, 5 ∷ 1 ∷ 2 ∷ [], 5 ∷ 0 ∷ [], the_set, 5), nothing)
    ∷ ((standalone, sealed.1, sealed.1, the_set, 1), shown reviewer 29 2)
    ∷ []

shows_so : map (λ c. show c.0.0 c.0.1 c.0.2 c.0.3 c.0.4) shows ≡ map (λ c. c.1) shows
unfolding shows opened
shows_so = refl
