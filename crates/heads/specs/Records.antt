-- What heads the records of a sheet: a tag or an id, and the bytes of all that it heads.
use Rattle.std.specs.Prelude.{ℕ, zero, suc, ◌+◌, Bool, true, false, ◌&&◌, List, [], ◌∷◌, length, take, drop, leb, Result}
use Rattle.format.specs.Answer.{Ans, ok, refused, Got, got}
use Rattle.format.specs.Coding.{bytes_number}
use Rattle.format.specs.Sheet.{Val, TS, TG, TI, is}
use Rattle.coding.specs.declared.refusals.Refusal.{Refusal}
use Rattle.coding.specs.Refusals.{told}
use Rattle.heads.specs.declared.records.Field.{Field}

-- the fields of an item's record by its parts
abbrev pub fields : (tag size : ℕ) → Field
fields k n = record { tag = k; size = n }

abbrev pub told_field : Result Field Refusal → Ans Field
told_field = told (λ f. f)

-- the fields of an item's record, as the code has them
abbrev pub field_answer : Ans (Got Val) → Ans Field
field_answer (ok v) = ok (fields v.val.tag (length v.val.value))
field_answer (refused n p) = refused n p

-- what stands here if n bytes are there, else nothing
abbrev pub whole : ℕ → ℕ → List ℕ → Got ℕ
whole k n s = elim (leb n (length s)) [ true ↦ got k n | false ↦ got 0 0 ]

-- an item's record: its tag and its bytes
unfoldable pub peek_val : List ℕ → Got ℕ
peek_val s = whole (bytes_number (take 2 (drop 2 s))) (6 + bytes_number (take 2 (drop 4 s))) s

-- the bytes of a `TI`, or of a `TG` where that may follow too; 0 where neither stands
unfoldable pub record_size : Bool → List ℕ → ℕ
record_size tg s =
    elim (is TI s) [
      | true ↦ (peek_val s).used
      | false ↦ elim (tg && is TG s) [ true ↦ (whole 0 10 s).used | false ↦ 0 ]
    ]

-- the bytes of such records, one after the other, after k that are still to be passed over
unfoldable pub span : Bool → ℕ → List ℕ → ℕ
span tg k [] = 0
span tg (suc k) (b ∷ s) = suc (span tg k s)
span tg zero (b ∷ s) = elim (record_size tg (b ∷ s)) [ zero ↦ 0 | suc u ↦ suc (span tg u s) ]

-- a target's id, with its `TI`s
unfoldable pub peek_target : List ℕ → Got ℕ
peek_target s = whole (bytes_number (take 8 (drop 2 s))) (10 + span false 0 (drop 10 s)) s

-- the series, with its targets, or an item
unfoldable pub peek_part : List ℕ → Got ℕ
peek_part s = elim (is TS s) [ true ↦ got 101 (2 + span true 0 (drop 2 s)) | false ↦ peek_val s ]

unfoldable pub peek_record : Bool → Bool → List ℕ → Got ℕ
peek_record true set s = peek_target s
peek_record false true s = peek_part s
peek_record false false s = peek_val s
