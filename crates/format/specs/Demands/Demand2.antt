-- Demand 2: what is written of a packet's sheet is its normal form, what is read of a written sheet is that sheet, and only the numbers
-- that document 01 lists lose leading zeros.
use Rattle.std.specs.Prelude.{◌≡◌, true, false, List, ◌↔◌, ◌⊎◌, ℕ, ◌<◌, length, drop, get_or}
use Rattle.format.specs.Answer.{ok, refused}
use Rattle.format.specs.Coding.{Bytes, bytes_number}
use Rattle.format.specs.Table.{Form, Level, is_number, rule_of}
use Rattle.format.specs.Packet.{Item, Packet, flat}
use Rattle.format.specs.Read.{parse}
use Rattle.format.specs.Sheet.{Val, content, form_of}
use Rattle.format.specs.Calls.{packet_of, read, write, normalise}

-- of a packet's bytes s
pub record Normal (f : Form) (s : List ℕ) : Type 0 where
  -- writing an accepted packet's sheet gives its normal form: the sheet's packet, with shortest lengths and a fresh checksum
  pub writes : (p : Packet) (sheet : List ℕ) → parse f s ≡ ok p → read f s ≡ ok sheet → write sheet ≡ ok (flat (packet_of (content p)))
  -- normalise is read, then write; it refuses just what reading refuses
  pub is_both : (sheet : List ℕ) → read f s ≡ ok sheet → normalise f s ≡ write sheet
  pub refuses : (n a : ℕ) → normalise f s ≡ refused n a ↔ read f s ≡ refused n a
  -- the normal form is accepted, has the same sheet, and so is its own normal form, which is here for the reader
  pub same_sheet : (b : List ℕ) → normalise f s ≡ ok b → read f b ≡ read f s
  pub own_normal : (b : List ℕ) → normalise f s ≡ ok b → normalise f b ≡ ok b

-- of a sheet's bytes: what was written from it reads as that sheet, in the form that it names
pub record SheetAgain (sheet : List ℕ) : Type 0 where
  pub again : (b : List ℕ) → write sheet ≡ ok b → (f : Form) × (form_of (drop 2 sheet) ≡ ok f) × (read f b ≡ ok sheet)

-- two accepted packets mean the same exactly when their normal forms are equal
pub record SameMeaning (f : Form) (s t : List ℕ) : Type 0 where
  pub same : (x y : List ℕ) → read f s ≡ ok x → read f t ≡ ok y → (x ≡ y) ↔ (normalise f s ≡ normalise f t)

-- a number in its shortest form: one byte, or a first byte that is not 0
abbrev pub Shortest : List ℕ → Type 0
Shortest v = Bytes v × (0 < length v) × ((length v ≡ 1) ⊎ (0 < get_or v 0 0))

-- an item, and x which stands for it in the sheet
pub record ValueKept (l : Level) (i : Item) (x : Val) : Type 0 where
  pub tag : x.tag ≡ i.tag
  -- a value that is no N or P item stands there byte for byte
  pub bytes : is_number (rule_of l i.tag).kind ≡ false → x.value ≡ i.value
  -- and one that is keeps its number, in its shortest form
  pub number : is_number (rule_of l i.tag).kind ≡ true → (bytes_number x.value ≡ bytes_number i.value) × Shortest x.value
