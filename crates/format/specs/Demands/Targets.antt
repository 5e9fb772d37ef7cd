-- What adding and dropping a target promise, as demand 3 does of an edit: what the result says, when it is refused, which bytes are kept.
use Rattle.std.specs.Prelude.{◌≡◌, ℕ, ◌<◌, ◌≤◌, false, List, [], ◌∷◌, ◌++◌, map, ◌⊎◌, ◌↔◌, length}
use Rattle.format.specs.Answer.{ok, refused}
use Rattle.format.specs.Coding.{oid_bytes, fixed}
use Rattle.format.specs.Lists.{has, flat_all}
use Rattle.format.specs.Table.{Form, set}
use Rattle.format.specs.Packet.{Entry, Packet, tag_of_entry, flat_pack, flat_entry, flat}
use Rattle.format.specs.Read.{parse}
use Rattle.format.specs.Sheet.{Target, Sheet, one, id_of_target, tag_of_part, target_bytes, content, sheet_bytes, unsheet}
use Rattle.format.specs.Calls.{pack_of, read, write, normalise}
use Rattle.format.specs.Targets.{TargetChange, added, dropped, recounted, targets_in, change_sheet, packs_in, change_packet, new_target, at_start, target_rules, add_target, drop_target}
use Rattle.format.specs.Valid.{TargetValid, Lies}
use Rattle.format.specs.Demands.Kept.{brief, new_item, shut, Piece, tag_of_piece, bytes_of_piece, Exchanged, PutPiece}

-- ---- which bytes are kept: every piece but the pack, tag 6's item and the lengths around

-- the packs of the series, each with its id and its bytes
abbrev pub PacksStep : TargetChange → List Piece → List Piece → Type 0
PacksStep (added t) was now = (has t.id (map tag_of_piece was) ≡ false) × (now ≡ was ++ ((t.id, flat_pack (pack_of t)) ∷ []))
PacksStep (dropped i) was now = Exchanged i [] was now

-- the set's pieces: the series with these packs, under its shortest length; none where there are none
abbrev pub SeriesStep : List Piece → List Piece → List Piece → Type 0
SeriesStep [] was now = Exchanged 101 [] was now
SeriesStep (p ∷ ps) was now = PutPiece (101, oid_bytes 101 ++ brief (flat_all bytes_of_piece (p ∷ ps))) was now

-- and tag 6, where it stands, with their number
abbrev pub CountStep : ℕ → List Piece → List Piece → Type 0
CountStep n was now = Exchanged 6 ((6, new_item set 6 (fixed 3 n)) ∷ []) was now ⊎ ((has 6 (map tag_of_piece was) ≡ false) × (now ≡ was))

pub record SeriesKept (c : TargetChange) (es : List Entry) (new : List ℕ) : Type 0 where
  pub packs : List Piece
  pub packs_step : PacksStep c (map (λ p. (p.id, flat_pack p)) (packs_in es)) packs
  pub between : List Piece
  pub series_step : SeriesStep packs (map (λ e. (tag_of_entry e, flat_entry e)) es) between
  pub pieces : List Piece
  pub count_step : CountStep (length packs) between pieces
  pub now : new ≡ flat_all bytes_of_piece pieces

-- s is a valid packet, of the one tree that lies so, and b is that tree's bytes with that change
pub record TargetKept (f : Form) (c : TargetChange) (s b : List ℕ) : Type 0 where
  pub packet : Packet
  pub lies : Lies f s packet
  pub body : List ℕ
  pub kept : SeriesKept c packet.entries body
  pub now : b ≡ shut f body

-- ---- what the old packet says, and what the result b says

pub record TargetChanged (f : Form) (c : TargetChange) (s b : List ℕ) : Type 0 where
  pub sheet : Sheet
  pub old : read f s ≡ ok (sheet_bytes sheet)
  pub old_back : unsheet (sheet_bytes sheet) ≡ ok sheet
  -- the result is accepted, and its sheet is the old one with that change
  pub new : read f b ≡ ok (sheet_bytes (change_sheet c sheet))
  -- from normal form, the result equals the changed sheet written afresh
  pub afresh : normalise f s ≡ ok s → write (sheet_bytes (change_sheet c sheet)) ≡ ok b

-- ---- an addition

-- why it is refused with number n at place a: the packet's own answer, the records', the rules on what the packet says, the limit
abbrev pub WhyAdd : Form → List ℕ → List ℕ → ℕ → ℕ → Type 0
WhyAdd f s r n a =
    (parse f s ≡ refused n a)
    ⊎ ((p : Packet) × (parse f s ≡ ok p)
    × ((at_start (new_target f r) ≡ refused n a)
    ⊎ ((t : Target) × (new_target f r ≡ ok t)
    × ((target_rules (added t) (content p) ≡ refused n a)
    ⊎ ((target_rules (added t) (content p) ≡ ok tt) × (8192 < length (flat (change_packet (added t) p))) × (n ≡ 1) × (a ≡ 0))))))

-- a sheet whose tag 6, if it is there, says how many targets it has
abbrev pub recounted_sheet : Sheet → Sheet
recounted_sheet s = record { form = s.form; parts = recounted tag_of_part one (length (targets_in s.parts)) s.parts }

pub record AddDemand (f : Form) (s r : List ℕ) : Type 0 where
  -- the result has the one valid target whose records these are
  pub changed : (b : List ℕ) (t : Target) → target_bytes t ≡ r → TargetValid f t → add_target f s r ≡ ok b → TargetChanged f (added t) s b
  pub refusal : (n a : ℕ) → add_target f s r ≡ refused n a ↔ WhyAdd f s r n a
  -- accepted exactly when the records are the bytes of one valid target, its id is new, and the result is within the limit; that the
  -- packet is valid and the id new is said by `TargetKept`
  pub accepted : (b : List ℕ) → add_target f s r ≡ ok b
      ↔ ((t : Target) × (target_bytes t ≡ r) × TargetValid f t × TargetKept f (added t) s b × (length b ≤ 8192))
  -- no other bytes keep the pieces so
  pub one_kept : (t : Target) (b b' : List ℕ) → TargetKept f (added t) s b → TargetKept f (added t) s b' → b ≡ b'
  -- dropping the target that was added gives back the old sheet, but for tag 6
  pub back : (b : List ℕ) (t : Target) (p : Packet) → target_bytes t ≡ r → TargetValid f t → parse f s ≡ ok p → add_target f s r ≡ ok b
      → (d : List ℕ) × (drop_target f b t.id ≡ ok d) × (read f d ≡ ok (sheet_bytes (recounted_sheet (content p))))

-- a target read out of another packet: it is added with the very items that it had there, unless its id stands already or the result
-- is above the limit
pub record FromOther (f : Form) (s other : List ℕ) (p q : Packet) (t : Target) : Type 0 where
  pub very_items : (b : List ℕ) → add_target f s (target_bytes t) ≡ ok b
      → (read f b ≡ ok (sheet_bytes (change_sheet (added t) (content p))))
      × (targets_in (change_sheet (added t) (content p)).parts ≡ targets_in (content p).parts ++ (t ∷ []))
  pub refused_only : (n a : ℕ) → add_target f s (target_bytes t) ≡ refused n a → (a ≡ 0) × ((n ≡ 10) ⊎ (n ≡ 1))

-- ---- a drop

-- never with 1
abbrev pub WhyDrop : Form → List ℕ → ℕ → ℕ → ℕ → Type 0
WhyDrop f s i n a =
    (parse f s ≡ refused n a)
    ⊎ ((p : Packet) × (parse f s ≡ ok p) × (has i (map id_of_target (targets_in (content p).parts)) ≡ false) × (n ≡ 18) × (a ≡ 0))

pub record DropDemand (f : Form) (s : List ℕ) (i : ℕ) : Type 0 where
  pub changed : (b : List ℕ) → drop_target f s i ≡ ok b → TargetChanged f (dropped i) s b
  pub refusal : (n a : ℕ) → drop_target f s i ≡ refused n a ↔ WhyDrop f s i n a
  -- accepted exactly when the packet is valid and the target stands, which `TargetKept` says
  pub accepted : (b : List ℕ) → drop_target f s i ≡ ok b ↔ TargetKept f (dropped i) s b
  pub one_kept : (b b' : List ℕ) → TargetKept f (dropped i) s b → TargetKept f (dropped i) s b' → b ≡ b'
