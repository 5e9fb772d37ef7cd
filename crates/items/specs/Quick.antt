-- An item that is told at a glance: by its tag, its length and its first byte, or by its tag alone.
use Rattle.std.specs.Prelude.{◌≡◌, ℕ, ◌/◌, ◌%◌, ◌^◌, ◌<◌, Bool, true, false, not, ◌&&◌, List, ◌⊎◌, length, get_or, ltb, leb, eqb}
use Rattle.format.specs.Answer.{ok}
use Rattle.format.specs.Table.{Form, Level, is_set, rule_of, may_stand, valued, short}

abbrev pub bit : ℕ → ℕ → Bool
bit row k = not (eqb (row / 2 ^ k % 2) 0)

-- the least row that may stand wherever an item may, alone or not
abbrev pub least_row : Bool → ℕ
least_row true = 2 ^ 30
least_row false = 1

-- a row's bits have the length, and the first byte is not below the uppermost bit: where that is set, for a number, the byte is not 0
unfoldable pub row_tells : ℕ → ℕ → ℕ → Bool
row_tells row n first = ltb n 30 && (bit row n && leb (row / 2 ^ 31) first)

-- a tag that the table does not list, and that is not the set's series
abbrev pub beyond : Bool → ℕ → Bool
beyond true tag = ltb 12 tag && not (eqb tag 101)
beyond false tag = ltb 23 tag

-- what is told of the first byte is told of y too: of any byte if that is 0, else of any but 0
abbrev pub As : ℕ → ℕ → Type 0
As first y = (first ≡ 0) ⊎ (0 < y)

pub record Glanced (l : Level) (f : Form) (tag n first : ℕ) : Type 0 where
  pub some : 0 < n
  pub no_series : is_set l && eqb tag 101 ≡ false
  pub no_seal : is_set l && eqb tag 1 ≡ false
  pub stands : (last : Bool) → may_stand l f tag last ≡ true
  pub allowed : (v : List ℕ) → length v ≡ n → As first (get_or v 0 0) → valued (rule_of l tag) v ≡ ok tt
  pub shortest : (v : List ℕ) → length v ≡ n → As first (get_or v 0 0) → short (rule_of l tag) v ≡ v

-- an item with this tag and value meets the rules for one item wherever it may begin, and n bytes are its value's shortest form
pub record Looked (l : Level) (f : Form) (tag : ℕ) (v : List ℕ) (n : ℕ) : Type 0 where
  pub some : 0 < length v
  pub no_series : is_set l && eqb tag 101 ≡ false
  pub no_seal : is_set l && eqb tag 1 ≡ false
  pub stands : (last : Bool) → may_stand l f tag last ≡ true
  pub allowed : valued (rule_of l tag) v ≡ ok tt
  pub shortest : length (short (rule_of l tag) v) ≡ n
