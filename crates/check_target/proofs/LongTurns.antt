-- The turns over more `TI`s than a packet can hold: what the code's answer on one of them says. The code sums up nothing; the sizes are here alone.
use mathlib.Core.Path.{◌≡◌, refl, sym, ap, ◌∙◌}
use Prim.Native.Nat.{ℕ, ◌+◌, ◌≤◌, ◌<◌}
use native.Mathlib.Omega.{arith}
use mathlib.Core.Bool.{Bool, true, false}
use mathlib.Core.List.{List}
use lib.ListN.{length, drop, length-drop}
use lib.Bits.{bit_or}
use Rattle.format.specs.Coding.{Bytes}
use Rattle.format.specs.Table.{Form, pack}
use Rattle.format.specs.Sheet.{TI, is}
use Rattle.tally.specs.Pieces.{Piece}
use Rattle.tally.specs.Pieces as piece
use Rattle.tally.specs.declared.Sizes.{Sizes}
use Rattle.tally.specs.Meet.{no_sizes, item_sizes, plus_sizes, bit_of, Larger}
use Rattle.tally.proofs.Turns.{turn_done, turn_over, turn_bad, turn_more}
use Rattle.tally_records.specs.Meet.{IsValue, part_piece}
use Rattle.tally_records.specs.Going.{RecordsGoing}
use Rattle.tally_records.proofs.Opens.{part_next}
use Rattle.tally_records.proofs.Parts.{part_fault, ValueStood, value_stood}
use Rattle.tally_records.proofs.PartTurns.{PartReads, records_start, item_is_lem, told_item}
use Rattle.check_target.specs.Vals.{Vals}
use Rattle.check_target.specs.Vals as vals
use Rattle.check_target.specs.Meet.{vals_of, ValsAs}
use Rattle.check_target.proofs.Sums.{walk_bad, walk_short, walk_long}

-- the walk, come to p, with the sizes of what was walked: as many bytes as were passed
pub record LongFrom (f : Form) (s : List ℕ) (p held top low : ℕ) : Type 0 where
  pub sizes : Sizes
  pub going : RecordsGoing false f s p sizes held top low
  pub passed : sizes.sheet ≡ p

pub long_start : (f : Form) (s : List ℕ) (low : ℕ) → LongFrom f s 0 0 0 low
long_start f s low = record { sizes = no_sizes; going = records_start false f s; passed = refl }

module _ {f : Form} {s : List ℕ} {p held top low : ℕ} (b : Bytes s) (l : LongFrom f s p held top low) where
  -- at the end
  pub long_done : 65536 < length s → length s ≤ p → ValsAs (vals_of f s) (vals.Fine held 65536)
  long_done h e = walk_long f s b (turn_done l.going e).0 (omega (arith, l.passed, l.going.to)) h

  module _ (h : p < length s) where
    -- at a record of another kind; x: a `TI` stands here
    pub long_over : {x : Bool} → x ≡ is TI (drop p s) → x ≡ false → ValsAs (vals_of f s) (vals.Wrong 17)
    long_over ex tx = walk_short f s b (turn_over l.going h (sym ex ∙ tx)).0 (λ e. omega (arith, l.passed, h, e))

    -- at a `TI` that was read
    module _ {x : Bool} (ex : x ≡ is TI (drop p s)) (tx : x ≡ true) {a : Piece} (ea : IsValue false f s p top low a) where
      o : is TI (drop p s) ≡ true
      o = sym ex ∙ tx

      is_piece : a ≡ part_piece pack f l.going.seen (drop p s)
      is_piece = part_next false f l.going.seen (drop p s) {x = true} refl refl (ea l.going.seen l.going.past)

      pub long_fault : {n : ℕ} → a ≡ piece.Fault n → ValsAs (vals_of f s) (vals.Wrong n)
      long_fault {n = n} t =
          let q = turn_bad l.going h o n 0 refl (part_fault f l.going.seen (drop p s) n false (sym t ∙ is_piece)) (omega arith) in
          walk_bad f s b q.0

      module _ {tag from size small : ℕ} (t : a ≡ piece.Whole tag from size small) where
        stood : ValueStood false f l.going.seen (drop p s) tag size
        stood = value_stood false f l.going.seen (drop p s) tag from size small o (sym t ∙ is_piece) refl

        pub long_room : p + 6 + size ≤ length s
        long_room = omega (arith, stood.room, length-drop p s, h)

        read : PartReads false f l.going.seen (drop p s) tag (item_sizes pack tag size) (bit_of tag)
        read = (told_item false f l.going.seen (drop p s) tag size stood).good _ _ refl

        sheet_is : (item_sizes pack tag size).sheet ≡ 6 + size
        sheet_is = ap (λ (z : Sizes). z.sheet) (item_is_lem pack tag size refl)

        pub long_more : {y held' : ℕ} → y ≡ bit_of tag → held' ≡ bit_or held y → {top' low' : ℕ} → Larger top tag top' → (low' ≤ low) × (low' ≤ tag) → LongFrom f s (p + 6 + size) held' top' low'
        long_more ey em above below = record {
          sizes = plus_sizes l.sizes (item_sizes pack tag size);
          going = turn_more l.going h o read.reads read.peeks read.some (p + 6 + size) (omega (arith, sheet_is)) long_room refl (em ∙ ap (bit_or held) ey) above.over below;
          passed = omega (arith, l.passed, sheet_is);
        }
