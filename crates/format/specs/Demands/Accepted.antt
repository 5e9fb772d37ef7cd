-- Accepted exactly when valid: a packet is accepted if and only if there is a tree that lies flat as its bytes and meets each rule
-- of document 01. Validity knows no order of reading, and the tree is the only one.
use Rattle.std.specs.Prelude.{◌≡◌, List, ◌↔◌, ℕ}
use Rattle.format.specs.Answer.{ok}
use Rattle.format.specs.Table.{Form}
use Rattle.format.specs.Packet.{Packet}
use Rattle.format.specs.Read.{parse}
use Rattle.format.specs.Sheet.{Sheet, sheet_bytes, unsheet}
use Rattle.format.specs.Calls.{read}
use Rattle.format.specs.Valid.{Lies, SheetValid}

pub record AcceptedWhenValid (f : Form) (s : List ℕ) : Type 0 where
  -- the call accepts the bytes if and only if some valid tree lies flat as them
  pub accepted : ((sheet : List ℕ) × (read f s ≡ ok sheet)) ↔ ((p : Packet) × Lies f s p)
  -- and what is read is that tree
  pub tree : (p : Packet) → parse f s ≡ ok p ↔ Lies f s p
  -- two trees that lie so are one: it follows, and is here for the reader
  pub only_one : (p q : Packet) → Lies f s p → Lies f s q → p ≡ q

-- the same of a sheet's bytes
pub record SheetWhenValid (b : List ℕ) : Type 0 where
  pub sheet : (t : Sheet) → unsheet b ≡ ok t ↔ ((sheet_bytes t ≡ b) × SheetValid t)
