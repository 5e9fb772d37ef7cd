-- A target added or dropped, of the calls, closed: what is given, when it is refused, which bytes are kept; and a target read out of
-- another packet.
use Rattle.std.specs.Prelude.{◌≡◌, ◌⊎◌, List, [], ◌∷◌, ◌++◌, ℕ, ◌≤◌, length}
use Rattle.format.specs.Coding.{Bytes}
use Rattle.format.specs.Table.{Form}
use Rattle.format.specs.Packet.{Packet}
use Rattle.format.specs.Sheet.{Target, content, target_bytes, sheet_bytes}
use Rattle.format.specs.Targets.{TargetChange, added, dropped, targets_in, change_sheet}
use Rattle.format.specs.Valid.{TargetValid, Lies}
use Rattle.format.specs.Demands.Targets.{TargetKept, TargetChanged, WhyAdd, WhyDrop, recounted_sheet}
use Rattle.answers.specs.Meet.{Answer, answer_of}
use Rattle.answers.specs.Given.{Given, Accepted, written}
use Rattle.answers.specs.Calls.{Reads, Writes, Normalises, Adds, Drops}

-- of a packet that a call changed so
pub record TargetMoved (f : Form) (c : TargetChange) (packet : List ℕ) (a : Answer) (left : List ℕ) : Type 0 where
  -- "The result's sheet is the old one with that change": read answers so on both
  pub changed : TargetChanged f c packet (written a left)
  -- "bytes outside the pack, tag 6's item, tag 101 and its length, the outer length and the checksum are kept"
  pub kept : TargetKept f c packet (written a left)
  -- from normal form, the result equals the changed sheet written afresh: normalise left the packet as it is, write the changed sheet
  pub afresh : (other : List ℕ) (b : Answer) (after : List ℕ) → Normalises f packet other b after → b.number ≡ 0 → written b after ≡ packet
      → (out : List ℕ) (d : Answer) (then : List ℕ) → Writes (sheet_bytes (change_sheet c changed.sheet)) out d then → Given (written a left) out d then

-- ---- an addition

-- the records are those of the valid target t, and b is the packet with it and all else kept, within the limit; that the packet is valid
-- and the id new is said by `TargetKept`
pub record Addable (f : Form) (packet records : List ℕ) (t : Target) (b : List ℕ) : Type 0 where
  pub bytes : target_bytes t ≡ records
  pub valid : TargetValid f t
  pub kept : TargetKept f (added t) packet b
  pub small : length b ≤ 8192

pub record Adding (f : Form) (packet records lent : List ℕ) (a : Answer) (left : List ℕ) : Type 0 where
  pub allowed : (t : Target) (b : List ℕ) → Addable f packet records t b → Given b lent a left
  pub only : Accepted a → (t : Target) × (b : List ℕ) × Addable f packet records t b
  -- the packet's own answer; "17 and the item numbers as a sheet's target has them, then 10 if the id stands already, 20, 14"; "then 1"
  pub refusing : (n p : ℕ) → WhyAdd f packet records n p → (a ≡ answer_of n p) × (left ≡ lent)

-- of a packet that a target was added to
pub record TargetAdded (f : Form) (packet records : List ℕ) (a : Answer) (left : List ℕ) : Type 0 where
  pub target : Target
  pub bytes : target_bytes target ≡ records
  pub valid : TargetValid f target
  pub moved : TargetMoved f (added target) packet a left
  -- dropping it again is accepted, and the old sheet is read, but for tag 6
  pub back : (out : List ℕ) (b : Answer) (after : List ℕ) → Drops f (written a left) target.id out b after
      → Accepted b × (b.number ≡ 0 → (other : List ℕ) (d : Answer) (then : List ℕ) → Reads f (written b after) other d then
      → Given (sheet_bytes (recounted_sheet moved.changed.sheet)) other d then)

-- ---- a drop

pub record Dropping (f : Form) (packet : List ℕ) (id : ℕ) (lent : List ℕ) (a : Answer) (left : List ℕ) : Type 0 where
  -- the packet is valid and the target stands, as `TargetKept` says
  pub allowed : (b : List ℕ) → TargetKept f (dropped id) packet b → Given b lent a left
  pub only : Accepted a → (b : List ℕ) × TargetKept f (dropped id) packet b
  -- the packet's own answer; "18 if it isn't there"; never 1
  pub refusing : (n p : ℕ) → WhyDrop f packet id n p → (a ≡ answer_of n p) × (left ≡ lent)

-- ---- a target read out of another packet

-- of a call that was given the records of t; p is the packet's tree
pub record OtherAdded (f : Form) (p : Packet) (t : Target) (lent : List ℕ) (a : Answer) (left : List ℕ) : Type 0 where
  -- refused only if its id stands already or the result is above the limit
  pub goes : Accepted a ⊎ (((a.number ≡ 10) ⊎ (a.number ≡ 1)) × (a.place ≡ 0) × (left ≡ lent))
  -- it is read with the very items that it had there, after the targets that stood
  pub very_items : a.number ≡ 0 → (targets_in (change_sheet (added t) (content p)).parts ≡ targets_in (content p).parts ++ (t ∷ []))
      × ((out : List ℕ) (b : Answer) (after : List ℕ) → Reads f (written a left) out b after → Given (sheet_bytes (change_sheet (added t) (content p))) out b after)

pub record TargetDemands : Type 0 where
  pub adding : (f : Form) (packet records lent : List ℕ) (a : Answer) (left : List ℕ) → Bytes packet → Bytes records
      → Adds f packet records lent a left → Adding f packet records lent a left
  pub added : (f : Form) (packet records lent : List ℕ) (a : Answer) (left : List ℕ) → Bytes packet → Bytes records
      → Adds f packet records lent a left → a.number ≡ 0 → TargetAdded f packet records a left
  pub dropping : (f : Form) (packet : List ℕ) (id : ℕ) (lent : List ℕ) (a : Answer) (left : List ℕ) → Bytes packet
      → Drops f packet id lent a left → Dropping f packet id lent a left
  pub dropped : (f : Form) (packet : List ℕ) (id : ℕ) (lent : List ℕ) (a : Answer) (left : List ℕ) → Bytes packet
      → Drops f packet id lent a left → a.number ≡ 0 → TargetMoved f (dropped id) packet a left
  pub from_other : (f : Form) (packet other : List ℕ) (p q : Packet) → Bytes packet → Bytes other → Lies f packet p → Lies f other q
      → (before : List Target) (t : Target) (after : List Target) → targets_in (content q).parts ≡ before ++ (t ∷ after)
      → (lent : List ℕ) (a : Answer) (left : List ℕ) → Adds f packet (target_bytes t) lent a left → OtherAdded f p t lent a left
