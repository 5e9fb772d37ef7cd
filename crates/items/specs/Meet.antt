-- Where the code of items meets document 01: what its numbers and rows mean.
use Rattle.std.specs.Prelude.{ℕ, Result, zero, suc, ◌+◌, ◌*◌, ◌/◌, ◌%◌, ◌^◌, Bool, true, false, List, [], ◌∷◌, ◌++◌, eqb}
use Rattle.format.specs.Answer.{Ans, ok, refused}
use Rattle.format.specs.Table.{Form, embedded, standalone, Level, set, pack, Kind, bytes, num, pixel, Most, up_to, any, Rule, rule_of, nameable, may_stand, is_number, sized}
use Rattle.coding.specs.declared.refusals.Refusal.{Refusal}
use Rattle.coding.specs.Refusals.{told}
use Rattle.items.specs.declared.Rule as declared
use Rattle.items.specs.declared.Kind as code
use Rattle.items.specs.declared.Kind.TheVariants as kind

abbrev pub form_of : Bool → Form
form_of true = standalone
form_of false = embedded

abbrev pub level_of : Bool → Level
level_of true = set
level_of false = pack

-- ---- the code's tables: a row for each tag, of a pack, then of the set

-- the greatest tag that has a row, and where the rows begin
abbrev pub most_tag : Bool → ℕ
most_tag true = 12
most_tag false = 23

abbrev pub rows_from : Bool → ℕ
rows_from true = 24
rows_from false = 0

-- f of n numbers, from k on
abbrev pub counted : (ℕ → ℕ) → ℕ → ℕ → List ℕ
counted f k zero = []
counted f k (suc n) = f k ∷ counted f (suc k) n

abbrev pub rows_by : (Level → ℕ → ℕ) → List ℕ
rows_by f = counted (f pack) 0 (suc (most_tag false)) ++ counted (f set) 0 (suc (most_tag true))

-- ---- the item table

-- the kinds of the code: 0 not listed, 1 bytes, 2 a number, 3 a pixel, 4 a location; by whether it is 2, and whether it is 3
abbrev pub kind_by : Bool → Bool → Kind
kind_by true pix = num
kind_by false true = pixel
kind_by false false = bytes

abbrev pub most_from : ℕ → ℕ → Most
most_from k b = elim (eqb k 0) [ true ↦ any | false ↦ up_to b ]

abbrev pub gap_from : ℕ → ℕ
gap_from k = elim (eqb k 4) [ true ↦ 6 | false ↦ 1 ]

abbrev pub row_rule : ℕ → ℕ → ℕ → Rule
row_rule k a b = record { kind = kind_by (eqb k 2) (eqb k 3); least = a; most = most_from k b; gap = gap_from k }

abbrev pub kind_number : code.Kind → ℕ
kind_number kind.Unlisted = 0
kind_number kind.Bytes = 1
kind_number kind.Number = 2
kind_number kind.Pixel = 3
kind_number kind.Location = 4

abbrev pub rule_from : declared.Rule → Rule
rule_from r = row_rule (kind_number r.kind) r.least r.most

-- the rule that a row stands for
abbrev pub row_from : ℕ → Rule
row_from r = row_rule (r / 2 ^ 16) (r / 2 ^ 8 % 256) (r % 256)

abbrev kind_of : Rule → Most → Kind → ℕ
kind_of r any k = 0
kind_of r (up_to m) num = 2
kind_of r (up_to m) pixel = 3
kind_of r (up_to m) bytes = elim (eqb r.gap 1) [ true ↦ 1 | false ↦ 4 ]

abbrev most_of : Most → ℕ
most_of any = 0
most_of (up_to m) = m

-- the row that stands for a rule: kind, least and greatest length
abbrev pub item_row : Rule → ℕ
item_row r = kind_of r r.most r.kind * 2 ^ 16 + r.least * 2 ^ 8 + most_of r.most

unfoldable pub item_table : List ℕ
item_table = rows_by λ l tag. item_row (rule_of l tag)

-- ---- the rows for a glance

-- the lengths below n that a rule allows, bit by bit
abbrev length_bits : Rule → ℕ → ℕ
length_bits r zero = 0
length_bits r (suc n) = elim (sized r n) [ true ↦ 2 ^ n | false ↦ 0 ] + length_bits r n

-- 3 a number, 0 what may not stand in a standalone packet, 1 any other
abbrev glance_kind : Level → ℕ → Rule → ℕ
glance_kind l tag r = elim (is_number r.kind) [ true ↦ 3 | false ↦ elim (may_stand l standalone tag true) [ true ↦ 1 | false ↦ 0 ] ]

-- two bits, then the lengths below 30: none of what no record may name, the set's checksum and a tag of 0
abbrev pub glance_row : Level → ℕ → Rule → ℕ
glance_row l tag r = glance_kind l tag r * 2 ^ 30 + elim (nameable l tag) [ true ↦ length_bits r 30 | false ↦ 0 ]

unfoldable pub glance_table : List ℕ
glance_table = rows_by λ l tag. glance_row l tag (rule_of l tag)

-- ---- one item

-- the number of a refusal, 0 for none
abbrev pub answer_of : ℕ → Ans (Unit {0})
answer_of zero = ok tt
answer_of (suc n) = refused (suc n) 0

-- nothing, or a refusal
abbrev pub answered : Result (Unit {0}) Refusal → Ans (Unit {0})
answered r = told (λ _. tt) r

-- leading zeros
unfoldable pub zeros : List ℕ → ℕ
zeros [] = 0
zeros (zero ∷ s) = suc (zeros s)
zeros (suc b ∷ s) = 0

abbrev pub offsets : List ℕ
offsets = 10 ∷ 11 ∷ 13 ∷ 14 ∷ 15 ∷ 16 ∷ []
