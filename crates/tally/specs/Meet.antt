-- Where the code that checks a packet meets document 01: what its answers mean.
use Rattle.std.specs.Prelude.{ℕ, Result, Ok, Err, ◌+◌, ◌-◌, ◌*◌, ◌/◌, ◌%◌, ◌^◌, ◌≤◌, ◌<◌, Bool, true, false, not, ◌&&◌, ◌||◌, List, [], ◌∷◌, length, ltb, eqb}
use Rattle.std.specs.Int.Bits.{bit_or}
use Rattle.format.specs.Coding.{len_width, oid_bytes}
use Rattle.format.specs.Answer.{Ans, ok, refused, Got, got, ◌>>=◌}
use Rattle.format.specs.Table.{Form, Level, set, pack, is_set, is_alone, rule_of, alike, short}
use Rattle.format.specs.Packet.{Item, Pack, Entry, plain, series, id_of_pack, tag_of_entry}
use Rattle.format.specs.Run.{Step, run, always}
use Rattle.format.specs.Read.{item, one_pack, deepen}
use Rattle.format.specs.Sheet.{Val, Target, Part, one, targets}
use Rattle.coding.specs.declared.refusals.Fault as coding
use Rattle.coding.specs.declared.refusals.Refusal.{Refusal}
use Rattle.coding.specs.Refusals.{number}
use Rattle.tally.specs.declared.Piece as pieces
use Rattle.tally.specs.declared.Sizes.{Sizes}
use Rattle.tally.specs.declared.Walked as walks
use Rattle.tally.specs.Pieces.{Piece, Whole, Fault, Walked, Good, Bad}

-- an item that was read: where its value begins, how long it is, and how long in its shortest form
abbrev pub piece_of : Level → Ans (Got Item) → Piece
piece_of l (ok i) =
    Whole i.val.tag (i.used - length i.val.value) (length i.val.value) (length (short (rule_of l i.val.tag) i.val.value))
piece_of l (refused n p) = Fault n

-- as the code has it, and a walk
abbrev pub pieced : Result pieces.Piece Refusal → Piece
pieced (Ok x) = Whole x.tag x.from x.size x.short
pieced (Err r) = Fault (number r)

abbrev pub walk_of : walks.Walked → Walked
walk_of w = Good w.sizes w.held

abbrev pub walked : Result walks.Walked coding.Fault → Walked
walked (Ok w) = walk_of w
walked (Err e) = Bad (number e.refusal) e.place

-- ---- sizes: the bytes in the sheet, the rows, the bytes in normal form, and those of a series' packs

abbrev pub sizes : ℕ → ℕ → ℕ → ℕ → Sizes
sizes a b c d = record { sheet = a; rows = b; normal = c; inner = d }

abbrev pub no_sizes : Sizes
no_sizes = sizes 0 0 0 0

abbrev pub plus_sizes : Sizes → Sizes → Sizes
plus_sizes a b = sizes (a.sheet + b.sheet) (a.rows + b.rows) (a.normal + b.normal) (a.inner + b.inner)

-- bytes under their shortest length
abbrev pub lengthened : ℕ → ℕ
lengthened n = len_width n + n

-- of an item with n bytes in its shortest form: a record of the sheet, but for the checksum, and a row
unfoldable pub item_sizes : Level → ℕ → ℕ → Sizes
item_sizes l tag n = elim (is_set l && eqb tag 1) [ true ↦ sizes 0 1 0 0 | false ↦ sizes (6 + n) 1 (length (oid_bytes tag) + lengthened n) 0 ]

-- of a pack whose id takes u bytes, and of a series, given what they hold
abbrev pub pack_sizes : ℕ → Sizes → Sizes
pack_sizes u a = sizes (10 + a.sheet) (1 + a.rows) (lengthened (u + a.normal)) 0

abbrev pub series_sizes : Sizes → Sizes
series_sizes a = sizes (2 + a.sheet) (1 + a.rows) (1 + lengthened a.normal) a.normal

unfoldable pub total : {X : Type 0} → (X → Sizes) → List X → Sizes
total weight [] = no_sizes
total weight (x ∷ xs) = plus_sizes (weight x) (total weight xs)

-- the bits of all
unfoldable pub bits : {X : Type 0} → (X → ℕ) → List X → ℕ
bits held [] = 0
bits held (x ∷ xs) = bit_or (held x) (bits held xs)

-- of what a sheet says
abbrev pub weight_of_val : Level → Val → Sizes
weight_of_val l v = item_sizes l v.tag (length v.value)

abbrev pub weight_of_target : Target → Sizes
weight_of_target t = pack_sizes (length (oid_bytes t.id)) (total (weight_of_val pack) t.vals)

abbrev pub weight_of_part : Part → Sizes
weight_of_part (one v) = weight_of_val set v
weight_of_part (targets ts) = series_sizes (total weight_of_target ts)

-- and of what a packet holds
abbrev pub weight_of_item : Level → Item → Sizes
weight_of_item l i = item_sizes l i.tag (length (short (rule_of l i.tag) i.value))

abbrev pub weight_of_pack : Pack → Sizes
weight_of_pack p = pack_sizes (length (oid_bytes p.id)) (total (weight_of_item pack) p.items)

abbrev pub weight_of_entry : Level → Entry → Sizes
weight_of_entry l (plain i) = weight_of_item l i
weight_of_entry l (series w ps) = series_sizes (total weight_of_pack ps)

-- ---- walks

-- a level's step: tag 101 of the set is read as a series, and a pack's items are entries too
unfoldable pub deepen_at : Level → Form → Got Item → Ans (Got Entry)
deepen_at set f i = deepen f i
deepen_at pack f i = ok (got (plain i.val) i.used)

unfoldable pub step_at : Level → Form → Step Entry
step_at l f seen s = item l f seen s >>= λ i. deepen_at l f i

-- the bit of a tag: one that a level's end asks for is below 64
unfoldable pub bit_of : ℕ → ℕ
bit_of tag = elim (ltb tag 64) [ true ↦ 2 ^ tag | false ↦ 0 ]

-- whether the bit of a tag is among those held
unfoldable pub is_held : ℕ → ℕ → Bool
is_held tag held = eqb (held / 2 ^ tag % 2) 1

-- the first of a pack's or a target's two rules that is not met, 0 if both are
abbrev pub unmet : Bool → Bool → ℕ
unmet false located = 20
unmet true false = 14
unmet true true = 0

-- with what one is refused at its end, as the code says it
abbrev pub unended : Result (Unit {0}) Refusal → ℕ
unended (Ok u) = 0
unended (Err r) = number r

-- with what one that holds these is refused at its end
unfoldable pub ended_by : Form → ℕ → ℕ
ended_by f held = unmet (alike (is_held 19 held) (is_held 20 held)) (not (is_alone f) || is_held 17 held)

abbrev pub walked_of : {X : Type 0} → (X → Sizes) → (X → ℕ) → Ans (Got (List X)) → Walked
walked_of weight held (ok rs) = Good (total weight rs.val) (bits held rs.val)
walked_of weight held (refused n p) = Bad n p

unfoldable pub level_walk : Level → Form → List ℕ → Walked
level_walk l f s = walked_of (weight_of_entry l) (λ e. bit_of (tag_of_entry e)) (run always tag_of_entry (step_at l f) s)

unfoldable pub series_walk : Form → List ℕ → Walked
series_walk f s = walked_of weight_of_pack (λ p. 0) (run always id_of_pack (one_pack f) s)

-- a refusal k bytes further on
abbrev pub later_by : ℕ → Walked → Walked
later_by k (Good a m) = Good a m
later_by k (Bad n p) = Bad n (k + p)

-- a series, given its packs, whose bytes begin at k
abbrev pub series_from : ℕ → Walked → Walked
series_from k (Good a m) = Good (series_sizes a) 0
series_from k (Bad n p) = Bad n (k + p)

-- the larger of two keys is above neither, and below whatever both are below
pub record Larger (a b r : ℕ) : Type 0 where
  pub over : (a ≤ r) × (b ≤ r)
  pub below : (n : ℕ) → a < n → b < n → r < n

-- how large what was read in n bytes can be, of a packet or of a sheet
pub record Few (a : Sizes) (n : ℕ) : Type 0 where
  pub sheet : a.sheet ≤ 5 * n
  pub rows : a.rows ≤ n
  pub normal : a.normal ≤ 3 * n
  pub inner : a.inner ≤ 3 * n

abbrev pub Small : Sizes → Type 0
Small a = Few a 65536

abbrev pub Within : Walked → ℕ → Type 0
Within (Good a m) n = Few a n
Within (Bad k p) n = p ≤ n
