-- A `TS` or a `TG` before what it holds, and a record of either level, as the code reads them.
use mathlib.Core.Path.{◌≡◌, refl, sym, ap, ◌∙◌}
use Prim.Native.Nat.{ℕ, ◌+◌, ◌-◌, ◌^◌, ◌≤◌, ◌<◌}
use native.Mathlib.Omega.{arith}
use mathlib.Core.Bool.{Bool, true, false, not}
use mathlib.Core.List.{List}
use Rattle.std.proofs.Common.{Result, Ok, Err}
use lib.ListN.{length, take, drop, length-drop}
use lib.Seq.{drop-drop}
use lib.Dec.{ltb}
use borrow.Author.Tests.{le-leb, lt-leb, lt-ltb, ltb-true}
use Rattle.format.specs.Answer.{ok, Got, ◌>>=◌, need}
use Rattle.format.specs.Coding.{bytes_number}
use Rattle.format.specs.Lists.{has}
use Rattle.format.specs.Table.{Form, set, standing}
use Rattle.format.specs.Sheet.{IT, TS, TG, is, field, value_at}
use Rattle.format.proofs.Sheets.Values.{mark_says}
use Rattle.coding.proofs.Rooms.{tail_part}
use Rattle.coding.specs.declared.refusals.Refusal.{Refusal}
use Rattle.coding.specs.Refusals.{number}
use Rattle.items.specs.Meet.{answered, level_of}
use Rattle.items.proofs.Tests.{need_so, need_not}
use Rattle.heads.specs.Meet.{peek, Past, Clear}
use Rattle.heads.specs.Records.{fields, told_field, field_answer, peek_val, peek_record}
use Rattle.heads.specs.declared.records.Field.{Field}
use Rattle.heads.proofs.Spans.{target_there, series_there, part_val}
use Rattle.heads.proofs.SheetRuns.{field_key}
use Rattle.tally.specs.Pieces.{Piece}
use Rattle.tally.specs.Pieces as piece
use Rattle.tally.proofs.Pieces.{answer_none, answer_some}
use Rattle.format.proofs.Words.Answers.{no_bool}
use Rattle.tally_records.specs.Meet.{value_next, piece_by, value_whole, series_whole, target_whole, series_opens, target_opens, part_piece}

-- ---- the series; x: a `TG` follows its mark

module _ (f : Form) (s : List ℕ) (p : ℕ) {x : Bool} (ex : x ≡ is TG (drop (p + 2) s)) (seen : List ℕ) where
  follows : is TG (drop 2 (drop p s)) ≡ x
  follows = ap (is TG) (drop-drop 2 p s) ∙ sym ex

  pub series_alone : x ≡ false → piece.Fault 17 ≡ piece_by series_whole (series_opens f seen (drop p s))
  unfolding series_opens
  series_alone tx = sym (ap (piece_by series_whole) (need_not _ _ _ (follows ∙ tx)))

  module _ (tx : x ≡ true) where
    opens : series_opens f seen (drop p s) ≡ standing set f seen 101 true
    unfolding series_opens
    opens = need_so _ _ _ (follows ∙ tx)

    -- k is the answer on where it stands
    module _ {k : Result (Unit {0}) Refusal} (ek : answered k ≡ standing set f seen 101 true) where
      pub series_standing : {x : Refusal} → k ≡ Err x → piece.Fault (number x) ≡ piece_by series_whole (series_opens f seen (drop p s))
      series_standing z = sym (ap (piece_by series_whole) (opens ∙ answer_some ek z))

      pub series_whole_lem : k ≡ Ok tt → piece.Whole 101 2 0 0 ≡ piece_by series_whole (series_opens f seen (drop p s))
      series_whole_lem z = sym (ap (piece_by series_whole) (opens ∙ answer_none ek z))

-- ---- a target

module _ (s : List ℕ) (p : ℕ) (seen : List ℕ) where
  abbrev id_at : ℕ
  id_at = bytes_number (take 8 (drop 2 (drop p s)))

  pub target_cut : length s - p < 10 → piece.Fault 17 ≡ piece_by target_whole (target_opens seen (drop p s))
  unfolding target_opens
  target_cut h = sym (ap (piece_by target_whole) (need_not _ _ _ (lt-leb 10 (length (drop p s)) (rw length-drop h))))

  module _ (h : 10 ≤ length s - p) where
    ten : target_opens seen (drop p s) ≡ (need (ltb id_at (2 ^ 63)) 17 >>= λ _. need (not (has id_at seen)) 10 >>= λ _. ok id_at)
    unfolding target_opens
    ten = need_so _ _ _ (le-leb 10 (length (drop p s)) (rw length-drop h))

    -- i is its id
    module _ {i : ℕ} (ei : i ≡ bytes_number (take 8 (take (length s - (p + 2)) (drop (p + 2) s)))) where
      id_is : id_at ≡ i
      id_is = ap (λ t. bytes_number (take 8 t)) (drop-drop 2 p s ∙ sym (tail_part (p + 2) s)) ∙ sym ei

      pub target_key : i ≡ (peek true true false (drop p s)).val
      unfolding peek peek_record
      target_key = sym (ap (λ (x : Got ℕ). x.val) (target_there (drop p s) (rw length-drop h)) ∙ id_is)

      -- r is the larger of it and an id within the limit
      pub target_high : {r : ℕ} → (i < 2 ^ 63 → r < 2 ^ 63) → 9223372036854775807 < r → piece.Fault 17 ≡ piece_by target_whole (target_opens seen (drop p s))
      target_high w g = sym (ap (piece_by target_whole) (ten ∙ need_not _ _ _ (high (ltb id_at (2 ^ 63)) refl)))
        where
          high : (t : Bool) → ltb id_at (2 ^ 63) ≡ t → t ≡ false
          high true e = absurd (omega (arith, g, w (omega (arith, id_is, ltb-true id_at (2 ^ 63) e))))
          high false e = refl

      module _ (g : i ≤ 9223372036854775807) where
        low_is : target_opens seen (drop p s) ≡ (need (not (has id_at seen)) 10 >>= λ _. ok id_at)
        low_is = ten ∙ need_so _ _ _ (lt-ltb id_at (2 ^ 63) (omega (arith, id_is)))

        -- x: a target before has this id
        pub target_again : {x : Bool} → x ≡ has i seen → x ≡ true → piece.Fault 10 ≡ piece_by target_whole (target_opens seen (drop p s))
        target_again ex tx = sym (ap (piece_by target_whole) (low_is ∙ need_not _ _ _ (ap (λ k. not (has k seen)) id_is ∙ ap not (sym ex ∙ tx))))

        pub target_whole_lem : {x : Bool} → x ≡ has i seen → x ≡ false → piece.Whole i 10 0 0 ≡ piece_by target_whole (target_opens seen (drop p s))
        target_whole_lem ex tx =
            ap target_whole (sym id_is)
            ∙ sym (ap (piece_by target_whole) (low_is ∙ need_so _ _ _ (ap (λ k. not (has k seen)) id_is ∙ ap not (sym ex ∙ tx))))

-- ---- the key at p, where the mark says what stands there

pub value_key : (b : Bool) (s : List ℕ) (p : ℕ) {h : Result Field Refusal} {k n : ℕ} → told_field h ≡ field_answer (field (level_of b) (drop 2 (take (length s - p) (drop p s)))) → h ≡ Ok (fields k n)
    → peek true false b (drop p s) ≡ peek_val (drop p s) → k ≡ (peek true false b (drop p s)).val
value_key b s p {k = k} {n = n} e t z = field_key (level_of b) (drop p s) (fields k n) (sym (ap told_field t) ∙ rw tail_part at e) ∙ sym (ap (λ (x : Got ℕ). x.val) z)

pub series_key : (s : List ℕ) → is TS s ≡ true → 101 ≡ (peek true false true s).val
unfolding peek peek_record
series_key s m = sym (ap (λ (x : Got ℕ). x.val) (series_there s m))

module _ {b : Bool} (s : List ℕ) where
  pub value_inner : b ≡ false → peek true false b s ≡ peek_val s
  unfolding peek peek_record
  value_inner tb = rw tb refl

  pub value_set : b ≡ true → {x : Bool} → x ≡ is IT s → x ≡ true → peek true false b s ≡ peek_val s
  unfolding peek peek_record
  value_set tb ex tx = rw tb (part_val s (ap (is TS) (mark_says IT s (sym ex ∙ tx))))

-- ---- a record of the set, or a `TI`; b: it is the set's

pub clear_set : {b : Bool} {s : List ℕ} {r : ℕ} → b ≡ true → Clear (peek true false b) s r → Clear (peek true false true) s r
clear_set {b = true} tb q = q
clear_set {b = false} tb q = absurd (let z : ◌≡◌ {A = ℕ} 0 1 = cc in omega arith)

pub past_set : {b : Bool} {s : List ℕ} {p top low : ℕ} {seen : List ℕ} → b ≡ true → Past (peek true false b) s p top low seen → Past (peek true false true) s p top low seen
past_set {b = true} tb q = q
past_set {b = false} tb q = absurd (let z : ◌≡◌ {A = ℕ} 0 1 = cc in omega arith)

module _ (f : Form) (seen u : List ℕ) where
  pub part_inner : {b : Bool} → b ≡ false → {r : Piece} → r ≡ piece_by value_whole (value_at (level_of b) f seen u) → r ≡ part_piece (level_of b) f seen u
  unfolding part_piece
  part_inner {b = false} tb e = e
  part_inner {b = true} tb e = absurd (let z : ◌≡◌ {A = ℕ} 0 1 = cc in omega arith)

  -- x: an `IT` stands here
  module _ {b : Bool} (tb : b ≡ true) {x : Bool} (ex : x ≡ is IT u) where
    pub part_value : x ≡ true → {r : Piece} → r ≡ piece_by value_whole (value_at (level_of b) f seen u) → r ≡ part_piece (level_of b) f seen u
    unfolding part_piece
    part_value tx e = rw tb (rw (sym ex ∙ tx, part_piece) (rw tb at e))

    -- y: a `TS`
    module _ (tx : x ≡ false) {y : Bool} (ey : y ≡ is TS u) where
      pub part_series : y ≡ true → {r : Piece} → r ≡ piece_by series_whole (series_opens f seen u) → r ≡ part_piece (level_of b) f seen u
      unfolding part_piece
      part_series ty e = rw tb (rw (sym ex ∙ tx, part_piece, sym ey ∙ ty, part_piece) e)

      pub part_unknown : y ≡ false → piece.Fault 17 ≡ part_piece (level_of b) f seen u
      unfolding part_piece
      part_unknown ty = rw tb (rw (sym ex ∙ tx, part_piece, sym ey ∙ ty, part_piece))

-- ---- x: an item's record stands here

pub value_next_lem : (b : Bool) (u : List ℕ) {x : Bool} → x ≡ value_next (level_of b) u → x ≡ true → peek true false b u ≡ peek_val u
value_next_lem true u ex tx = value_set {b = true} u refl ex tx
value_next_lem false u ex tx = value_inner {b = false} u refl

pub part_next : (b : Bool) (f : Form) (seen u : List ℕ) {x : Bool} → x ≡ value_next (level_of b) u → x ≡ true
    → {r : Piece} → r ≡ piece_by value_whole (value_at (level_of b) f seen u) → r ≡ part_piece (level_of b) f seen u
part_next true f seen u ex tx e = part_value f seen u {b = true} refl ex tx e
part_next false f seen u ex tx e = part_inner f seen u {b = false} refl e

pub no_value : (b : Bool) (u : List ℕ) {x : Bool} → x ≡ value_next (level_of b) u → x ≡ false → (b ≡ true) × (is IT u ≡ false)
no_value true u ex tx = (refl, sym ex ∙ tx)
no_value false u ex tx = no_bool (sym tx ∙ ex)
