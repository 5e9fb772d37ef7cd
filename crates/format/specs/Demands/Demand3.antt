-- Demand 3: what an edit promises, for either form, either level, puts and removals: with those one or two changes.
use Rattle.std.specs.Prelude.{◌≡◌, ℕ, ◌<◌, ◌≤◌, true, List, ◌++◌, map, ◌⊎◌, ◌↔◌, length}
use Rattle.format.specs.Answer.{ok, refused}
use Rattle.format.specs.Table.{Form, Level, nameable}
use Rattle.format.specs.Packet.{Packet, flat}
use Rattle.format.specs.Read.{parse}
use Rattle.format.specs.Sheet.{Sheet, content, sheet_bytes, unsheet}
use Rattle.format.specs.Calls.{read, write, normalise}
use Rattle.format.specs.Edit.{Holder, the_set, target, Change, put, remove, Changes, level_of, edit_sheet, edit_rules, edit_packet, edit}
use Rattle.format.specs.Valid.{All, Once, Meets, SheetValid}
use Rattle.format.specs.Demands.Kept.{Kept}

-- why an edit is refused with number n at place a: the packet's own answer, then the rules on its sheet, then the limit
abbrev pub Why : Form → Holder → Changes → List ℕ → ℕ → ℕ → Type 0
Why f h cs s n a =
    (parse f s ≡ refused n a)
    ⊎ ((p : Packet) × (parse f s ≡ ok p) × (edit_rules h cs (content p) ≡ refused n a))
    ⊎ ((p : Packet) × (parse f s ≡ ok p) × (edit_rules h cs (content p) ≡ ok tt) × (8192 < length (flat (edit_packet h cs p))) × (n ≡ 1) × (a ≡ 0))

-- a change that may be asked for: to put a value that meets its item's rules, to remove what may be named
abbrev pub Asks : Form → Level → ℕ × Change → Type 0
Asks f l (tag, put v) = Meets l f tag v
Asks f l (tag, remove) = nameable l tag ≡ true

-- the set takes one change, a target changes with different tags
abbrev pub Distinct : Holder → Changes → Type 0
Distinct the_set cs = length cs ≤ 1
Distinct (target i) cs = Once (map (λ c. c.0) cs)

-- what may be asked of a packet that says s: such changes, if a valid sheet is left
pub record Allowed (f : Form) (h : Holder) (cs : Changes) (s : Sheet) : Type 0 where
  pub each : All (Asks f (level_of h)) cs
  pub distinct : Distinct h cs
  pub left : SheetValid (edit_sheet h cs s)

-- what the old packet says, and what the result b says
pub record Changed (f : Form) (h : Holder) (cs : Changes) (s b : List ℕ) : Type 0 where
  pub sheet : Sheet
  pub old : read f s ≡ ok (sheet_bytes sheet)
  pub old_back : unsheet (sheet_bytes sheet) ≡ ok sheet
  -- the result is accepted, and its sheet is the old one with those changes
  pub new : read f b ≡ ok (sheet_bytes (edit_sheet h cs sheet))
  -- from normal form, the result equals the edited sheet written afresh
  pub afresh : normalise f s ≡ ok s → write (sheet_bytes (edit_sheet h cs sheet)) ≡ ok b

pub record Demand3 (f : Form) (h : Holder) (cs : Changes) (s : List ℕ) : Type 0 where
  pub changed : (b : List ℕ) → edit f h cs s ≡ ok b → Changed f h cs s b
  -- refused exactly when document 01's edit rules refuse it
  pub refusal : (n a : ℕ) → edit f h cs s ≡ refused n a ↔ Why f h cs s n a
  -- accepted exactly when, whatever the order of the rules, the changes may be asked and the result is within the limit;
  -- that the packet is valid, that the level named is there, and that what is removed stood there in its turn, is said by `Kept`
  pub accepted : (b : List ℕ) → edit f h cs s ≡ ok b ↔ ((k : Kept f h cs s b) × Allowed f h cs (content k.packet) × (length b ≤ 8192))
  -- every byte outside the items, the lengths around it and the checksum is kept, in order
  pub kept : (b : List ℕ) → edit f h cs s ≡ ok b → Kept f h cs s b
  -- and no other bytes keep them so
  pub one_kept : (b b' : List ℕ) → Kept f h cs s b → Kept f h cs s b' → b ≡ b'
  -- changes that are accepted one after the other give, made at once, the same bytes
  pub in_turn : (ds : Changes) (b d : List ℕ) → Distinct h (cs ++ ds) → edit f h cs s ≡ ok b → edit f h ds b ≡ ok d → edit f h (cs ++ ds) s ≡ ok d
