-- Demand 3 of the call, closed: what an edit gives, and when it is refused.
use Rattle.std.specs.Prelude.{◌≡◌, List, ◌++◌, ℕ, ◌≤◌, length}
use Rattle.format.specs.Coding.{Bytes}
use Rattle.format.specs.Table.{Form}
use Rattle.format.specs.Sheet.{content, sheet_bytes}
use Rattle.format.specs.Edit.{Holder, Changes, edit_sheet}
use Rattle.format.specs.Demands.Demand3.{Why, Distinct, Changed, Allowed}
use Rattle.format.specs.Demands.Kept.{Kept}
use Rattle.answers.specs.Meet.{Answer, answer_of}
use Rattle.answers.specs.Given.{Given, Accepted, written}
use Rattle.answers.specs.Calls.{Writes, Normalises, Edits}

pub record Editing (f : Form) (h : Holder) (cs : Changes) (packet lent : List ℕ) (a : Answer) (left : List ℕ) : Type 0 where
  -- what is kept and what is changed is one packet, written where the edit is allowed and that has at most 8,192 bytes
  pub allowed : (b : List ℕ) (k : Kept f h cs packet b) → Allowed f h cs (content k.packet) → length b ≤ 8192 → Given b lent a left
  pub only : Accepted a → (b : List ℕ) × (k : Kept f h cs packet b) × Allowed f h cs (content k.packet) × (length b ≤ 8192)
  -- "It is refused exactly when document 01's edit rules refuse it", the packet's own answer before them and its limit after
  pub refusing : (n p : ℕ) → Why f h cs packet n p → (a ≡ answer_of n p) × (left ≡ lent)

-- of a packet that `edit` changed
pub record Edited (f : Form) (h : Holder) (cs : Changes) (packet : List ℕ) (a : Answer) (left : List ℕ) : Type 0 where
  -- "gives a packet whose sheet is the old one with those one or two changes": read answers so on both
  pub changed : Changed f h cs packet (written a left)
  -- "Every byte outside those items, the lengths around them and the checksum is kept, in order."
  pub kept : Kept f h cs packet (written a left)
  -- "From normal form, the result equals the edited sheet written afresh": normalise left the packet as it is, write the edited sheet
  pub afresh : (other : List ℕ) (b : Answer) (after : List ℕ) → Normalises f packet other b after → b.number ≡ 0 → written b after ≡ packet
      → (out : List ℕ) (d : Answer) (then : List ℕ) → Writes (sheet_bytes (edit_sheet h cs changed.sheet)) out d then → Given (written a left) out d then
  -- changes that go through one after the other leave what they leave made at once
  pub in_turn : (ds : Changes) → Distinct h (cs ++ ds) → (other : List ℕ) (b : Answer) (after : List ℕ) → Edits f h ds (written a left) other b after → b.number ≡ 0
      → (out : List ℕ) (d : Answer) (then : List ℕ) → Edits f h (cs ++ ds) packet out d then → Given (written b after) out d then

pub record Demand3 : Type 0 where
  pub editing : (f : Form) (h : Holder) (cs : Changes) (packet lent : List ℕ) (a : Answer) (left : List ℕ) → Bytes packet
      → Edits f h cs packet lent a left → Editing f h cs packet lent a left
  pub edited : (f : Form) (h : Holder) (cs : Changes) (packet lent : List ℕ) (a : Answer) (left : List ℕ) → Bytes packet
      → Edits f h cs packet lent a left → a.number ≡ 0 → Edited f h cs packet a left
