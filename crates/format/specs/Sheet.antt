-- The sheet: what a packet says, without its widths and its checksum; as bytes, and back (document 01, The sheet).
use Rattle.std.specs.Prelude.{ℕ, zero, suc, ◌+◌, ◌*◌, ◌^◌, Bool, true, false, not, ◌&&◌, ◌||◌, List, [], ◌∷◌, ◌++◌, map, length, take, drop, ltb, leb, eqb}
use Rattle.format.specs.Answer.{Ans, ok, refused, Got, got, ◌>>=◌, need, after}
use Rattle.format.specs.Coding.{bytes_number, fixed}
use Rattle.format.specs.Lists.{none?, has, same, flat_all}
use Rattle.format.specs.Table.{Form, embedded, standalone, Level, set, pack, is_alone, rule_of, nameable, standing, item_rules, ended, short}
use Rattle.format.specs.Run.{run, always}
use Rattle.format.specs.Packet.{Item, Pack, Entry, plain, series, Packet}

pub record Val : Type 0 where
  pub tag : ℕ
  pub value : List ℕ

pub record Target : Type 0 where
  pub id : ℕ
  pub vals : List Val

-- what stands in the set: an item, or the series
pub data Part : Type 0 where
  one : Val → Part
  targets : List Target → Part

pub record Sheet : Type 0 where
  pub form : Form
  pub parts : List Part

abbrev pub tag_of_val : Val → ℕ
tag_of_val v = v.tag

abbrev pub id_of_target : Target → ℕ
id_of_target t = t.id

abbrev pub tag_of_part : Part → ℕ
tag_of_part (one v) = v.tag
tag_of_part (targets ts) = 101

-- ---- what a packet says

unfoldable pub val_of : Level → Item → Val
val_of l i = record { tag = i.tag; value = short (rule_of l i.tag) i.value }

unfoldable pub target_of : Pack → Target
target_of p = record { id = p.id; vals = map (val_of pack) p.items }

unfoldable pub part_of : Entry → Part
part_of (plain i) = one (val_of set i)
part_of (series w ps) = targets (map target_of ps)

unfoldable pub content : Packet → Sheet
content p = record { form = p.form; parts = map part_of p.entries }

-- ---- as bytes: records, each after its mark

abbrev pub Mark : Type 0
Mark = ℕ × ℕ

abbrev pub PK : Mark
PK = (0x50, 0x4B)

abbrev pub IT : Mark
IT = (0x49, 0x54)

abbrev pub TS : Mark
TS = (0x54, 0x53)

abbrev pub TG : Mark
TG = (0x54, 0x47)

abbrev pub TI : Mark
TI = (0x54, 0x49)

-- as one number
abbrev pub mark_number : Mark → ℕ
mark_number m = 256 * m.0 + m.1

abbrev pub mark_of : Level → Mark
mark_of set = IT
mark_of pack = TI

unfoldable pub val_bytes : Level → Val → List ℕ
val_bytes l v = (mark_of l).0 ∷ (mark_of l).1 ∷ fixed 2 v.tag ++ (fixed 2 (length v.value) ++ v.value)

unfoldable pub target_bytes : Target → List ℕ
target_bytes t = TG.0 ∷ TG.1 ∷ fixed 8 t.id ++ flat_all (val_bytes pack) t.vals

unfoldable pub part_bytes : Part → List ℕ
part_bytes (one v) = val_bytes set v
part_bytes (targets ts) = TS.0 ∷ TS.1 ∷ flat_all target_bytes ts

abbrev pub form_byte : Form → ℕ
form_byte embedded = 0
form_byte standalone = 1

-- `PK`, the form, and the parts
unfoldable pub sheet_bytes : Sheet → List ℕ
sheet_bytes s = PK.0 ∷ PK.1 ∷ form_byte s.form ∷ flat_all part_bytes s.parts

-- ---- and back: 17, 7, 9 or 10, 13, 14, 11, 12, and a number that is not shortest last

-- a record with this mark begins here
abbrev pub is : Mark → List ℕ → Bool
is m [] = false
is m (x ∷ []) = false
is m (x ∷ y ∷ s) = eqb x m.0 && eqb y m.1

-- the tag, the length and the value after a record's mark
unfoldable pub field : Level → List ℕ → Ans (Got Val)
field l s = do
  _ ← need (leb 4 (length s)) 17
  let tag = bytes_number (take 2 s)
  let n = bytes_number (take 2 (drop 2 s))
  _ ← need (leb (4 + n) (length s)) 17
  _ ← need (nameable l tag) 17
  ok (got (record { tag = tag; value = take n (drop 4 s) }) (4 + n))

-- a record `IT` or `TI`
unfoldable pub value_at : Level → Form → List ℕ → List ℕ → Ans (Got Val)
value_at l f seen s = do
  v ← field l (drop 2 s)
  _ ← item_rules l f seen v.val.tag true v.val.value
  _ ← need (same (short (rule_of l v.val.tag) v.val.value) v.val.value) 17
  ok (got v.val (2 + v.used))

-- a `TG`, its `TI`s, and the rule where it ends
unfoldable pub target_at : Form → List ℕ → List ℕ → Ans (Got Target)
target_at f seen s = do
  _ ← need (leb 10 (length s)) 17
  let id = bytes_number (take 8 (drop 2 s))
  _ ← need (ltb id (2 ^ 63)) 17
  _ ← need (not (has id seen)) 10
  vs ← after 10 (run (is TI) tag_of_val (value_at pack f) (drop 10 s))
  _ ← ended f (map tag_of_val vs.val)
  ok (got (record { id = id; vals = vs.val }) (10 + vs.used))

-- a `TS` and its targets
unfoldable pub series_at : Form → List ℕ → List ℕ → Ans (Got Part)
series_at f seen s = do
  _ ← need (is TG (drop 2 s)) 17
  _ ← standing set f seen 101 true
  ts ← after 2 (run (is TG) id_of_target (target_at f) (drop 2 s))
  ok (got (targets ts.val) (2 + ts.used))

unfoldable pub part_at : Form → List ℕ → List ℕ → Ans (Got Part)
part_at f seen s =
    elim (is IT s) [
      | true ↦ (value_at set f seen s >>= λ v. ok (got (one v.val) v.used))
      | false ↦ elim (is TS s) [ true ↦ series_at f seen s | false ↦ refused 17 0 ]
    ]

abbrev pub form_of : List ℕ → Ans Form
form_of [] = refused 17 0
form_of (zero ∷ s) = ok embedded
form_of (suc zero ∷ s) = ok standalone
form_of (suc (suc n) ∷ s) = refused 17 0

unfoldable pub sheet_limit : ℕ
sheet_limit = 65536

unfoldable pub unsheet : List ℕ → Ans Sheet
unsheet s = do
  _ ← need (leb (length s) sheet_limit) 1
  _ ← need (is PK s) 17
  f ← form_of (drop 2 s)
  ps ← after 3 (run always tag_of_part (part_at f) (drop 3 s))
  _ ← after (length s) (need (not (is_alone f) || not (none? ps.val)) 14)
  ok (record { form = f; parts = ps.val })
