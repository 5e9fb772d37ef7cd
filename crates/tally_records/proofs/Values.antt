-- An item's record as the code reads it: each way out is a case of `value_at`.
use mathlib.Core.Path.{◌≡◌, refl, sym, ap, ◌∙◌}
use Prim.Native.Nat.{ℕ, ◌+◌, ◌-◌, ◌≤◌, ◌<◌}
use native.Mathlib.Omega.{arith}
use mathlib.Core.Bool.{Bool, true, false, not, ◌&&◌}
use mathlib.Core.List.{List, [], ◌∷◌}
use Rattle.std.proofs.Common.{Result, Ok, Err}
use lib.ListN.{length, take, drop, length-drop}
use lib.Seq.{drop-drop, length-take-le}
use lib.Dec.{eqb}
use borrow.Author.Tests.{lt-ltb, leb-true}
use Rattle.format.specs.Answer.{Ans, ok, refused, Got, got, ◌>>=◌, need}
use Rattle.format.specs.Coding.{bytes_number}
use Rattle.format.specs.Lists.{none?, same}
use Rattle.format.specs.Table.{Form, Level, Rule, N, is_number, rule_of, nameable, standing, valued, item_rules, strip, short}
use Rattle.format.specs.Sheet.{Val, field, value_at}
use Rattle.format.proofs.Words.Answers.{no_bool, and_both, need_then, ok_inj}
use Rattle.format.proofs.Table.Values.{short_size, short_keeps}
use Rattle.format.proofs.Reading.Packets.{same_eq, same_refl}
use Rattle.coding.proofs.Rooms.{tail_part}
use Rattle.coding.specs.declared.refusals.Refusal.{Refusal}
use Rattle.coding.specs.Refusals.{number}
use Rattle.items.specs.Meet.{answered}
use Rattle.items.proofs.Tests.{bind_so, bind_not, need_so, need_not}
use Rattle.heads.specs.declared.records.Field.{Field}
use Rattle.heads.specs.Meet.{Past}
use Rattle.heads.specs.Records.{fields, told_field, field_answer}
use Rattle.heads.proofs.Heads.{mid_part}
use Rattle.tally.specs.Pieces.{Piece}
use Rattle.tally.specs.Pieces as piece
use Rattle.tally.proofs.Pieces.{answer_none, answer_some}
use Rattle.tally_records.specs.Meet.{piece_by, value_whole}

-- the rest of a level, as the borrow checker has it
pub value_tail : {look : List ℕ → Got ℕ} {s : List ℕ} {p top low : ℕ} {seen : List ℕ} → Past look s p top low seen → (l : Level) (f : Form) {r : Piece}
    → r ≡ piece_by value_whole (value_at l f seen (take (length s - p) (drop p s))) → r ≡ piece_by value_whole (value_at l f seen (drop p s))
value_tail q l f e = rw tail_part at e

-- ---- shortest: a value that keeps its length is its shortest form

strip_whole : (v : List ℕ) → length (strip v) ≡ length v → strip v ≡ v
unfolding strip short
strip_whole [] e = refl
strip_whole (x ∷ s) e = go (eqb x 0 && not (none? s)) refl
  where
    some : (s : List ℕ) → not (none? s) ≡ true → 0 < length s
    some [] z = no_bool z
    some (y ∷ s) z = omega arith

    go : (t : Bool) → eqb x 0 && not (none? s) ≡ t → strip (x ∷ s) ≡ x ∷ s
    go false z = rw (z, strip)
    go true z =
        let n : length (strip s) ≡ length (x ∷ s) = rw (z, strip) at e in
        absurd (omega (arith, (short_size (N 1) s (some s (and_both (eqb x 0) (not (none? s)) z).1)).1))

short_whole : (r : Rule) (v : List ℕ) → length (short r v) ≡ length v → short r v ≡ v
unfolding short
short_whole r v e = go (is_number r.kind) refl
  where
    go : (t : Bool) → is_number r.kind ≡ t → short r v ≡ v
    go true z = let n : length (strip v) ≡ length v = rw (z, short) at e in rw (z, short) (strip_whole v n)
    go false z = short_keeps r v z

module _ (r : Rule) (v : List ℕ) where
  is_short : length (short r v) ≡ length v → same (short r v) v ≡ true
  is_short e = rw (short_whole r v e) (same_refl v)

  not_short : (length (short r v) ≡ length v → ⊥) → same (short r v) v ≡ false
  not_short h = go (same (short r v) v) refl
    where
      go : (b : Bool) → same (short r v) v ≡ b → same (short r v) v ≡ false
      go true z = absurd (h (ap length (same_eq (short r v) v z)))
      go false z = z

-- ---- the fields

-- the fields of a record u, as they were read
pub record FieldHere (l : Level) (u : List ℕ) (v : Got Val) : Type 0 where
  pub value_is : v.val.value ≡ take (length v.val.value) (drop 6 u)
  pub used_is : v.used ≡ 4 + length v.val.value
  pub room : 6 + length v.val.value ≤ length u
  pub named : nameable l v.val.tag ≡ true

pub field_here : (l : Level) (u : List ℕ) (v : Got Val) → field l (drop 2 u) ≡ ok v → FieldHere l u v
unfolding field
field_here l u v e =
    need_then _ _ _ _ e λ four e₁.
    need_then _ _ _ _ e₁ λ room e₂.
    need_then _ _ _ _ e₂ λ named e₃.
    let m : ℕ = bytes_number (take 2 (drop 2 (drop 2 u))) in
    let h : 4 ≤ length (drop 2 u) = leb-true _ _ four in
    let g : 4 + m ≤ length (drop 2 u) = leb-true _ _ room in
    let z : length (take m (drop 4 (drop 2 u))) ≡ m = length-take-le m (drop 4 (drop 2 u)) (rw length-drop (omega arith)) in
    rw (← ok_inj _ _ e₃) (record {
      value_is = rw z (ap (take m) (drop-drop 4 2 u));
      used_is = rw z;
      room = omega (arith, z, length-drop 2 u);
      named = named;
    })

-- the same by the code's answer
record Fielded (l : Level) (u : List ℕ) (k n : ℕ) : Type 0 where
  reads : field l (drop 2 u) ≡ ok (got (record { tag = k; value = take n (drop 6 u) }) (4 + n))
  room : 6 + n ≤ length u

field_ok : (l : Level) (u : List ℕ) (v : Got Val) → field l (drop 2 u) ≡ ok v → (k n : ℕ) → v.val.tag ≡ k → length v.val.value ≡ n → Fielded l u k n
field_ok l u v r k n ek en =
    let h = field_here l u v r in
    let q : v.val.value ≡ take n (drop 6 u) = h.value_is ∙ ap (λ m. take m (drop 6 u)) en in
    let w : v.used ≡ 4 + n = h.used_is ∙ ap (λ m. 4 + m) en in
    record { reads = r ∙ λ i. ok (got (record { tag = ek i; value = q i }) (w i)); room = omega (arith, h.room) }

fielded : (l : Level) (u : List ℕ) (k n : ℕ) → ok (fields k n) ≡ field_answer (field l (drop 2 u)) → Fielded l u k n
fielded l u k n e = go (field l (drop 2 u)) refl e
  where
    go : (x : Ans (Got Val)) → field l (drop 2 u) ≡ x → ok (fields k n) ≡ field_answer x → Fielded l u k n
    go (ok v) r e = let q : fields k n ≡ fields v.val.tag (length v.val.value) = ok_inj _ _ e in field_ok l u v r k n (sym (ap (λ (x : Field). x.tag) q)) (sym (ap (λ (x : Field). x.size) q))
    go (refused m q) r e = absurd (cc)

field_fault : (l : Level) (u : List ℕ) (n : ℕ) → refused n 0 ≡ field_answer (field l (drop 2 u)) → field l (drop 2 u) ≡ refused n 0
field_fault l u n e = go (field l (drop 2 u)) refl e
  where
    go : (x : Ans (Got Val)) → field l (drop 2 u) ≡ x → refused n 0 ≡ field_answer x → field l (drop 2 u) ≡ refused n 0
    go (ok v) r e = absurd (cc)
    go (refused m q) r e = let a : m ≡ n = cc in let b : q ≡ 0 = cc in r ∙ rw (a, b)

-- ---- h is the answer on the fields

module _ (u : List ℕ) (l : Level) {h : Result Field Refusal} (eh : told_field h ≡ field_answer (field l (drop 2 u))) where
  pub value_cut : (f : Form) (seen : List ℕ) {x : Refusal} → h ≡ Err x → piece.Fault (number x) ≡ piece_by value_whole (value_at l f seen u)
  unfolding value_at
  value_cut f seen {x} th = ap (piece_by value_whole) (sym (bind_not _ _ (number x) 0 (field_fault l u (number x) (sym (ap told_field th) ∙ eh))))

  module _ {k n : ℕ} (th : h ≡ Ok (fields k n)) where
    read : Fielded l u k n
    read = fielded l u k n (sym (ap told_field th) ∙ eh)

    abbrev value : List ℕ
    value = take n (drop 6 u)

    pub value_within : 6 + n ≤ length u
    value_within = read.room

    value_size : length value ≡ n
    value_size = length-take-le n (drop 6 u) (rw length-drop (omega (arith, read.room)))

    module _ (f : Form) (seen : List ℕ) where
      abbrev rules : Ans (Unit {0})
      rules = item_rules l f seen k true value

      abbrev shortest : Ans (Got Val)
      shortest = need (same (short (rule_of l k) value) value) 17 >>= λ _. ok (got (record { tag = k; value = value }) (2 + (4 + n)))

      value_rules : value_at l f seen u ≡ (rules >>= λ _. shortest)
      unfolding value_at
      value_rules = bind_so _ _ _ read.reads

      -- a rule that is not met
      stopped : {j : ℕ} → rules ≡ refused j 0 → piece.Fault j ≡ piece_by value_whole (value_at l f seen u)
      stopped e = sym (ap (piece_by value_whole) (value_rules ∙ bind_not _ _ _ 0 e))

      pub value_empty : n ≡ 0 → piece.Fault 7 ≡ piece_by value_whole (value_at l f seen u)
      unfolding item_rules
      value_empty z = stopped (need_not _ _ _ (rw (value_size, z)))

      module _ (some : n ≡ 0 → ⊥) where
        rules_standing : rules ≡ (standing l f seen k true >>= λ _. valued (rule_of l k) value)
        unfolding item_rules
        rules_standing = need_so _ _ _ (rw value_size (lt-ltb 0 n (omega (arith, some))))

        -- j is the answer on where it stands
        module _ {j : Result (Unit {0}) Refusal} (ej : answered j ≡ standing l f seen k true) where
          pub value_standing : {x : Refusal} → j ≡ Err x → piece.Fault (number x) ≡ piece_by value_whole (value_at l f seen u)
          value_standing z = stopped (rules_standing ∙ bind_not _ _ _ 0 (answer_some ej z))

          module _ (z : j ≡ Ok tt) {rule : Rule} (er : rule ≡ rule_of l k) where
            rules_valued : {a : Ans (Unit {0})} → a ≡ valued rule (take (6 + n - 6) (drop 6 u)) → rules ≡ a
            rules_valued e = rules_standing ∙ bind_so _ _ tt (answer_none ej z) ∙ sym (rw (mid_part, er) at e)

            -- m is the answer on the value
            module _ {m : Result (Unit {0}) Refusal} (em : answered m ≡ valued rule (take (6 + n - 6) (drop 6 u))) where
              pub value_valued : {x : Refusal} → m ≡ Err x → piece.Fault (number x) ≡ piece_by value_whole (value_at l f seen u)
              value_valued y = stopped (rules_valued em ∙ answer_some refl y)

              -- b is the size of its shortest form
              module _ (y : m ≡ Ok tt) {b : ℕ} (eb : b ≡ length (short rule (take (6 + n - 6) (drop 6 u)))) where
                short_is : b ≡ length (short (rule_of l k) value)
                short_is = rw (mid_part, er) at eb

                ruled : value_at l f seen u ≡ shortest
                ruled = value_rules ∙ bind_so _ _ tt (rules_valued em ∙ ap answered y)

                pub value_long : (b ≡ n → ⊥) → piece.Fault 17 ≡ piece_by value_whole (value_at l f seen u)
                value_long d = sym (ap (piece_by value_whole) (ruled ∙ need_not _ _ _ (not_short (rule_of l k) value (λ q. d (short_is ∙ q ∙ value_size)))))

                pub value_whole_lem : b ≡ n → piece.Whole k 6 n b ≡ piece_by value_whole (value_at l f seen u)
                value_whole_lem d =
                    let z : piece.Whole k 6 n b ≡ value_whole (got (record { tag = k; value = value }) (2 + (4 + n))) = rw (value_size, d) in
                    z ∙ sym (ap (piece_by value_whole) (ruled ∙ need_so _ _ _ (is_short (rule_of l k) value (sym short_is ∙ d ∙ sym value_size))))
