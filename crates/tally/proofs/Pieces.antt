-- One item as the code reads it: each way out is a case of `item`.
use mathlib.Core.Path.{◌≡◌, refl, sym, ap, ◌∙◌}
use Prim.Native.Nat.{ℕ, ◌+◌, ◌-◌, ◌≤◌}
use native.Mathlib.Omega.{arith}
use mathlib.Core.Bool.{Bool}
use mathlib.Core.List.{List}
use lib.ListN.{length, take, drop, length-drop}
use Rattle.std.proofs.Common.{Result, Ok, Err}
use lib.Seq.{length-take-le}
use lib.Dec.{eqb}
use borrow.Author.Tests.{lt-ltb}
use Rattle.format.specs.Answer.{Ans, ok, refused, Got, got, ◌>>=◌}
use Rattle.format.specs.Table.{Form, Level, Rule, rule_of, standing, valued, item_rules, short}
use Rattle.format.specs.Packet.{Item}
use Rattle.format.specs.Read.{head_of, item}
use Rattle.coding.proofs.Rooms.{tail_part}
use Rattle.items.specs.Meet.{answered}
use Rattle.items.proofs.Tests.{bind_so, bind_not, need_so, need_not}
use Rattle.coding.specs.declared.refusals.Refusal.{Refusal}
use Rattle.coding.specs.Refusals.{number}
use Rattle.heads.specs.declared.Head.{Head}
use Rattle.heads.specs.Meet.{head, item_head_of, Past}
use Rattle.heads.proofs.Heads.{mid_part, item_within}
use Rattle.tally.specs.Pieces.{Piece}
use Rattle.tally.specs.Pieces as piece
use Rattle.tally.specs.Meet.{piece_of}

-- the rest of a level, as the borrow checker has it
pub piece_tail : {look : List ℕ → Got ℕ} {s : List ℕ} {p top low : ℕ} {seen : List ℕ} → Past look s p top low seen → (l : Level) (f : Form) {r : Piece}
    → r ≡ piece_of l (item l f seen (take (length s - p) (drop p s))) → r ≡ piece_of l (item l f seen (drop p s))
piece_tail q l f e = rw tail_part at e

-- ---- nothing, or a refusal

pub answer_none : {r : Result (Unit {0}) Refusal} {m : Ans (Unit {0})} → answered r ≡ m → r ≡ Ok tt → m ≡ ok tt
answer_none e z = sym e ∙ ap answered z

pub answer_some : {r : Result (Unit {0}) Refusal} {m : Ans (Unit {0})} {x : Refusal} → answered r ≡ m → r ≡ Err x → m ≡ refused (number x) 0
answer_some e z = sym e ∙ ap answered z

-- ---- h is the answer on the head

module _ (t : List ℕ) (l : Level) {h : Result Head Refusal} (eh : item_head_of h ≡ head_of l t) where
  pub piece_head : (f : Form) (seen : List ℕ) {x : Refusal} → h ≡ Err x → piece.Fault (number x) ≡ piece_of l (item l f seen t)
  unfolding item
  piece_head f seen {x} th = sym (ap (piece_of l) (bind_not _ _ (number x) 0 (sym eh ∙ ap item_head_of th)))

  module _ {k u w n : ℕ} (th : h ≡ Ok (head k u w n)) where
    abbrev value : List ℕ
    value = take n (drop (u + w) t)

    -- this item ends the level
    abbrev last : Bool
    last = eqb (u + w + n) (length t)

    abbrev read : Got Item
    read = got (record { tag = k; width = w; value = value }) (u + w + n)

    pub piece_within : u + w + n ≤ length t
    piece_within = item_within t (head k u w n) l (sym (ap item_head_of th) ∙ eh)

    value_size : length value ≡ n
    value_size = length-take-le n (drop (u + w) t) (rw length-drop (omega (arith, piece_within)))

    read_piece : {b : ℕ} → b ≡ length (short (rule_of l k) value) → piece.Whole k (u + w) n b ≡ piece_of l (ok read)
    read_piece eb = let z : u + w + n - n ≡ u + w = omega arith in rw (value_size, z, eb)

    module _ (f : Form) (seen : List ℕ) where
      abbrev rules : Ans (Unit {0})
      rules = item_rules l f seen k last value

      piece_rules : item l f seen t ≡ (rules >>= λ _. ok read)
      unfolding item
      piece_rules = bind_so _ _ _ (sym eh ∙ ap item_head_of th)

      -- a rule that is not met
      stopped : {j : ℕ} → rules ≡ refused j 0 → piece.Fault j ≡ piece_of l (item l f seen t)
      stopped e = sym (ap (piece_of l) (piece_rules ∙ bind_not _ _ _ 0 e))

      pub piece_empty : n ≡ 0 → piece.Fault 7 ≡ piece_of l (item l f seen t)
      unfolding item_rules
      piece_empty z = stopped (need_not _ _ _ (rw (value_size, z)))

      module _ (some : n ≡ 0 → ⊥) where
        rules_standing : rules ≡ (standing l f seen k last >>= λ _. valued (rule_of l k) value)
        unfolding item_rules
        rules_standing = need_so _ _ _ (rw value_size (lt-ltb 0 n (omega (arith, some))))

        -- j is the answer on where it stands
        module _ {j : Result (Unit {0}) Refusal} (ej : answered j ≡ standing l f seen k last) where
          pub piece_standing : {x : Refusal} → j ≡ Err x → piece.Fault (number x) ≡ piece_of l (item l f seen t)
          piece_standing z = stopped (rules_standing ∙ bind_not _ _ _ 0 (answer_some ej z))

          module _ (z : j ≡ Ok tt) {rule : Rule} (er : rule ≡ rule_of l k) where
            rules_valued : {a : Ans (Unit {0})} → a ≡ valued rule (take (u + w + n - (u + w)) (drop (u + w) t)) → rules ≡ a
            rules_valued e = rules_standing ∙ bind_so _ _ tt (answer_none ej z) ∙ sym (rw (mid_part, er) at e)

            -- m is the answer on the value
            module _ {m : Result (Unit {0}) Refusal} (em : answered m ≡ valued rule (take (u + w + n - (u + w)) (drop (u + w) t))) where
              pub piece_valued : {x : Refusal} → m ≡ Err x → piece.Fault (number x) ≡ piece_of l (item l f seen t)
              piece_valued y = stopped (rules_valued em ∙ answer_some refl y)

              pub piece_whole : m ≡ Ok tt → {b : ℕ} → b ≡ length (short rule (take (u + w + n - (u + w)) (drop (u + w) t))) → piece.Whole k (u + w) n b ≡ piece_of l (item l f seen t)
              piece_whole y eb = read_piece (rw (mid_part, er) at eb) ∙ sym (ap (piece_of l) (piece_rules ∙ bind_so _ _ tt (rules_valued em ∙ ap answered y)))
