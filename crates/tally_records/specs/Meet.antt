-- Where the code that checks a sheet meets document 01: what its answers mean.
use Rattle.std.specs.Prelude.{◌≡◌, ℕ, ◌^◌, Bool, true, false, not, List, length, take, drop, leb, ltb}
use Rattle.format.specs.Answer.{Ans, ok, refused, Got, got, ◌>>=◌, need}
use Rattle.format.specs.Coding.{bytes_number}
use Rattle.format.specs.Lists.{has}
use Rattle.format.specs.Table.{Form, Level, set, pack, standing}
use Rattle.format.specs.Run.{Step, run}
use Rattle.format.specs.Sheet.{Val, Part, one, targets, tag_of_part, id_of_target, IT, TS, TG, TI, is, value_at, target_at, part_at}
use Rattle.items.specs.Meet.{level_of}
use Rattle.heads.specs.Meet.{peek, Past}
use Rattle.tally.specs.Pieces.{Piece}
use Rattle.tally.specs.Pieces as piece
use Rattle.tally.specs.declared.Sizes.{Sizes}
use Rattle.tally.specs.Pieces.{Walked}
use Rattle.tally.specs.Meet.{series_sizes, total, weight_of_val, weight_of_target, walked_of, bit_of}

-- ---- one record: what was read, or the refusal's number

abbrev pub piece_by : {A : Type 0} → (A → Piece) → Ans A → Piece
piece_by whole (ok a) = whole a
piece_by whole (refused n p) = piece.Fault n

-- an item's value begins after six bytes, and is shortest
abbrev pub value_whole : Got Val → Piece
value_whole v = piece.Whole v.val.tag 6 (length v.val.value) (length v.val.value)

abbrev pub series_whole : Unit {0} → Piece
series_whole u = piece.Whole 101 2 0 0

abbrev pub target_whole : ℕ → Piece
target_whole id = piece.Whole id 10 0 0

-- what is asked of a `TS` before its targets
unfoldable pub series_opens : Form → List ℕ → List ℕ → Ans (Unit {0})
series_opens f seen s = do
  _ ← need (is TG (drop 2 s)) 17
  standing set f seen 101 true

-- what is asked of a `TG` before its `TI`s
unfoldable pub target_opens : List ℕ → List ℕ → Ans ℕ
target_opens seen s = do
  _ ← need (leb 10 (length s)) 17
  _ ← need (ltb (bytes_number (take 8 (drop 2 s))) (2 ^ 63)) 17
  _ ← need (not (has (bytes_number (take 8 (drop 2 s))) seen)) 10
  ok (bytes_number (take 8 (drop 2 s)))

-- a record of the set, or a `TI`
unfoldable pub part_piece : Level → Form → List ℕ → List ℕ → Piece
part_piece set f seen s =
    elim (is IT s) [
      | true ↦ piece_by value_whole (value_at set f seen s)
      | false ↦ elim (is TS s) [ true ↦ piece_by series_whole (series_opens f seen s) | false ↦ piece.Fault 17 ]
    ]
part_piece pack f seen s = piece_by value_whole (value_at pack f seen s)

-- r is what the record at p is, whatever keys stood before: none of them is above top or below low
abbrev pub IsValue : Bool → Form → List ℕ → ℕ → ℕ → ℕ → Piece → Type 0
IsValue b f s p top low r = (seen : List ℕ) → Past (peek true false b) s p top low seen → r ≡ piece_by value_whole (value_at (level_of b) f seen (drop p s))

abbrev pub IsSeries : Form → List ℕ → ℕ → ℕ → ℕ → Piece → Type 0
IsSeries f s p top low r = (seen : List ℕ) → Past (peek true false true) s p top low seen → r ≡ piece_by series_whole (series_opens f seen (drop p s))

abbrev pub IsPart : Bool → Form → List ℕ → ℕ → ℕ → ℕ → Piece → Type 0
IsPart b f s p top low r = (seen : List ℕ) → Past (peek true false b) s p top low seen → r ≡ part_piece (level_of b) f seen (drop p s)

abbrev pub IsTarget : List ℕ → ℕ → ℕ → ℕ → Piece → Type 0
IsTarget s p top low r = (seen : List ℕ) → Past (peek true true false) s p top low seen → r ≡ piece_by target_whole (target_opens seen (drop p s))

-- ---- walks

-- a set goes on to its end, a target while `TI`s stand there
abbrev pub more_at : Level → List ℕ → Bool
more_at set s = true
more_at pack s = is TI s

-- an item's record stands there: in the set an `IT`, in a target whatever goes on
abbrev pub value_next : Level → List ℕ → Bool
value_next set s = is IT s
value_next pack s = true

-- a level's step: a target's items are parts too
unfoldable pub part_step : Level → Form → Step Part
part_step set f seen s = part_at f seen s
part_step pack f seen s = value_at pack f seen s >>= λ v. ok (got (one v.val) v.used)

abbrev pub weight_at : Level → Part → Sizes
weight_at l (one v) = weight_of_val l v
weight_at l (targets ts) = series_sizes (total weight_of_target ts)

unfoldable pub records_walk : Level → Form → List ℕ → Walked
records_walk l f s = walked_of (weight_at l) (λ p. bit_of (tag_of_part p)) (run (more_at l) tag_of_part (part_step l f) s)

unfoldable pub targets_walk : Form → List ℕ → Walked
targets_walk f s = walked_of weight_of_target (λ t. 0) (run (is TG) id_of_target (target_at f) s)
