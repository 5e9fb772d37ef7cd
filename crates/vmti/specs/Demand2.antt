-- Demand 2 of the calls, closed: accepted exactly when valid, the sheet and the normal form that are defined, and one call after another.
use Rattle.std.specs.Prelude.{◌≡◌, List, ℕ, ◌≤◌, length, drop}
use Rattle.format.specs.Answer.{ok}
use Rattle.format.specs.Coding.{Bytes}
use Rattle.format.specs.Packet.{Packet, flat}
use Rattle.format.specs.Table.{Form}
use Rattle.format.specs.Sheet.{Sheet, content, form_of, sheet_bytes}
use Rattle.format.specs.Calls.{packet_of, read, write}
use Rattle.format.specs.Valid.{Lies, SheetValid}
use Rattle.answers.specs.Meet.{Answer}
use Rattle.answers.specs.Given.{Given, Refusing, Accepted, written}
use Rattle.answers.specs.Calls.{Reads, Writes, Normalises}

pub record Reading (f : Form) (packet lent : List ℕ) (a : Answer) (left : List ℕ) : Type 0 where
  -- "accepted exactly when it meets ST 0903.6 as narrowed in document 01, and its sheet .. the one defined there"
  pub valid : (p : Packet) → Lies f packet p → Given (sheet_bytes (content p)) lent a left
  pub only : Accepted a → (p : Packet) × Lies f packet p
  pub refusing : Refusing (read f packet) lent a left

-- the normal form of what is valid
pub record Normalising (f : Form) (packet lent : List ℕ) (a : Answer) (left : List ℕ) : Type 0 where
  pub valid : (p : Packet) → Lies f packet p → Given (flat (packet_of (content p))) lent a left
  pub only : Accepted a → (p : Packet) × Lies f packet p
  pub refusing : Refusing (read f packet) lent a left

-- a valid sheet whose packet has at most 8,192 bytes
pub record Fits (sheet : List ℕ) (t : Sheet) : Type 0 where
  pub bytes : sheet_bytes t ≡ sheet
  pub valid : SheetValid t
  pub small : length (flat (packet_of t)) ≤ 8192

pub record Writing (sheet lent : List ℕ) (a : Answer) (left : List ℕ) : Type 0 where
  pub valid : (t : Sheet) → Fits sheet t → Given (flat (packet_of t)) lent a left
  pub only : Accepted a → (t : Sheet) × Fits sheet t
  pub refusing : Refusing (write sheet) lent a left

-- of a packet that `read` accepted, and of its sheet then written
pub record ReadThenWritten (f : Form) (packet : List ℕ) (a : Answer) (left : List ℕ) : Type 0 where
  -- "Writing an accepted packet's sheet gives its normal form": just what normalise gives, with no sheet between
  pub normalises : (out : List ℕ) (b : Answer) (after : List ℕ) → Writes (written a left) out b after
      → (c : Answer) (then : List ℕ) → Normalises f packet out c then → (b ≡ c) × (after ≡ then)

-- of a sheet that `write` accepted, and of its packet then read, in the form that the sheet names
pub record WrittenThenRead (sheet : List ℕ) (a : Answer) (left : List ℕ) : Type 0 where
  -- "reading what was written from a valid sheet gives that sheet again"
  pub sheet_again : (f : Form) → form_of (drop 2 sheet) ≡ ok f → (out : List ℕ) (b : Answer) (after : List ℕ) → Reads f (written a left) out b after
      → Given sheet out b after

pub record Demand2 : Type 0 where
  pub reading : (f : Form) (packet lent : List ℕ) (a : Answer) (left : List ℕ) → Bytes packet → Reads f packet lent a left → Reading f packet lent a left
  pub normalising : (f : Form) (packet lent : List ℕ) (a : Answer) (left : List ℕ) → Bytes packet → Normalises f packet lent a left → Normalising f packet lent a left
  pub writing : (sheet lent : List ℕ) (a : Answer) (left : List ℕ) → Bytes sheet → Writes sheet lent a left → Writing sheet lent a left
  pub write_after_read : (f : Form) (packet lent : List ℕ) (a : Answer) (left : List ℕ) → Bytes packet → Reads f packet lent a left → a.number ≡ 0 → ReadThenWritten f packet a left
  pub read_after_write : (sheet lent : List ℕ) (a : Answer) (left : List ℕ) → Bytes sheet → Writes sheet lent a left → a.number ≡ 0 → WrittenThenRead sheet a left
