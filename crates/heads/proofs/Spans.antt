-- Marks, an item's record, and records one after the other, as the code reads them; and their room.
use mathlib.Core.Path.{◌≡◌, refl, sym, ap, ◌∙◌}
use Prim.Native.Nat.{ℕ, zero, suc, ◌+◌, ◌-◌, ◌≤◌, ◌<◌}
use native.Mathlib.Omega.{arith}
use mathlib.Core.Bool.{Bool, true, false, ◌&&◌}
use mathlib.Core.List.{List, [], ◌∷◌}
use lib.ListN.{length, take, drop, length-drop}
use lib.Seq.{drop-drop, length-take-le}
use lib.Dec.{leb, eqb}
use borrow.Author.Tests.{leb-true, leb-false, le-leb, lt-leb, eqb-true, ne_eqb}
use Rattle.std.specs.Prelude.{Option, Some, None}
use Rattle.format.specs.Answer.{ok, refused, Got, got, ◌>>=◌, need}
use Rattle.format.specs.Coding.{bytes_number}
use Rattle.format.specs.Table.{Level, nameable}
use Rattle.format.specs.Sheet.{Mark, TS, TG, TI, is, field}
use Rattle.format.proofs.Words.Answers.{no_bool, and_both}
use Rattle.coding.proofs.Rooms.{tail_part}
use Rattle.items.proofs.Tests.{need_so, need_not}
use Rattle.heads.specs.Meet.{next, Peeked}
use Rattle.heads.specs.Records.{fields, field_answer, whole, peek_val, record_size, span, peek_target, peek_part, peek_record}
use Rattle.heads.specs.declared.Next.{Next}

-- ---- a mark

pub is_room : (m : Mark) (s : List ℕ) → is m s ≡ true → 2 ≤ length s
is_room m [] e = no_bool e
is_room m (x ∷ []) e = no_bool e
is_room m (x ∷ y ∷ s) e = omega arith

is_cut : (m : Mark) (s : List ℕ) → length s < 2 → is m s ≡ false
is_cut m [] h = refl
is_cut m (x ∷ []) h = refl
is_cut m (x ∷ y ∷ s) h = absurd (omega arith)

-- as the code reads it at p
pub mark_cut : (m : Mark) (s : List ℕ) (p : ℕ) → length s - p < 2 → false ≡ is m (drop p s)
mark_cut m s p h = sym (is_cut m (drop p s) (rw length-drop h))

-- ---- what is there if so many bytes are

-- one look finds what another does
pub peeked_as : (look other : List ℕ → Got ℕ) (s : List ℕ) (o : Option Next) → look s ≡ other s → Peeked other s o → Peeked look s o
peeked_as look other s (Some n) e p = (e ∙ p.0, p.1)
peeked_as look other s None e p = e ∙ p

module _ (k n : ℕ) (s : List ℕ) where
  pub whole_some : n ≤ length s → whole k n s ≡ got k n
  whole_some h = rw (le-leb n (length s) h, whole)

  pub whole_none : length s < n → whole k n s ≡ got 0 0
  whole_none h = rw (lt-leb n (length s) h, whole)

  whole_room : (whole k n s).used ≤ length s
  whole_room = go (leb n (length s)) refl
    where
      go : (b : Bool) → leb n (length s) ≡ b → (whole k n s).used ≤ length s
      go true e = rw (e, whole) (leb-true n (length s) e)
      go false e = rw (e, whole) (omega arith)

-- ---- an item's record

pub val_room : (s : List ℕ) → (peek_val s).used ≤ length s
unfolding peek_val
val_room s = whole_room (bytes_number (take 2 (drop 2 s))) (6 + bytes_number (take 2 (drop 4 s))) s

module _ (s : List ℕ) where
  pub val_some : 6 + bytes_number (take 2 (drop 4 s)) ≤ length s → peek_val s ≡ got (bytes_number (take 2 (drop 2 s))) (6 + bytes_number (take 2 (drop 4 s)))
  unfolding peek_val
  val_some h = whole_some _ _ s h

  val_none : length s < 6 + bytes_number (take 2 (drop 4 s)) → peek_val s ≡ got 0 0
  unfolding peek_val
  val_none h = whole_none _ _ s h

  pub val_cut : length s < 6 → Peeked peek_val s None
  val_cut h = val_none (omega arith)

  -- as the code reads it
  module _ (n : ℕ) (en : n ≡ bytes_number (take 2 (take (length s - 4) (drop 4 s)))) where
    number_read : n ≡ bytes_number (take 2 (drop 4 s))
    number_read = rw tail_part at en

    pub val_over : length s < 6 + n → Peeked peek_val s None
    val_over h = val_none (rw (← number_read) h)

    pub val_whole : (k : ℕ) → k ≡ bytes_number (take 2 (take (length s - 2) (drop 2 s))) → 6 + n ≤ length s → Peeked peek_val s (Some (next k (6 + n)))
    val_whole k ek h = let key_read = rw tail_part at ek in (rw (key_read, number_read) (val_some (rw (← number_read) h)), omega arith)

-- ---- its fields

pub size_at_lem : (s : List ℕ) → bytes_number (take 2 (drop 2 (drop 2 s))) ≡ bytes_number (take 2 (drop 4 s))
size_at_lem s = ap (λ x. bytes_number (take 2 x)) (drop-drop 2 2 s)

module _ (l : Level) (s : List ℕ) where
  field_none : length s < 6 + bytes_number (take 2 (drop 4 s)) → refused 17 0 ≡ field_answer (field l (drop 2 s))
  unfolding field
  field_none h = go (leb 4 (length (drop 2 s))) refl
    where
      go : (b : Bool) → leb 4 (length (drop 2 s)) ≡ b → refused 17 0 ≡ field_answer (field l (drop 2 s))
      go false e = sym (ap field_answer (need_not _ _ _ e))
      go true e =
          let n : ℕ = bytes_number (take 2 (drop 2 (drop 2 s))) in
          let z : length (drop 2 s) < 4 + n = omega (arith, size_at_lem s, length-drop 2 s, leb-true 4 (length (drop 2 s)) e) in
          sym (ap field_answer (need_so _ _ _ e ∙ need_not _ _ _ (lt-leb (4 + n) (length (drop 2 s)) z)))

  module _ (h : 6 + bytes_number (take 2 (drop 4 s)) ≤ length s) where
    field_named : field l (drop 2 s)
        ≡ (need (nameable l (bytes_number (take 2 (drop 2 s)))) 17 >>= λ _. ok (got (record { tag = bytes_number (take 2 (drop 2 s)); value = take (bytes_number (take 2 (drop 2 (drop 2 s)))) (drop 4 (drop 2 s)) }) (4 + bytes_number (take 2 (drop 2 (drop 2 s))))))
    unfolding field
    field_named =
        let n : ℕ = bytes_number (take 2 (drop 2 (drop 2 s))) in
        need_so _ _ _ (le-leb 4 (length (drop 2 s)) (omega (arith, length-drop 2 s)))
        ∙ need_so _ _ _ (le-leb (4 + n) (length (drop 2 s)) (omega (arith, size_at_lem s, length-drop 2 s)))

    field_unnamed : nameable l (bytes_number (take 2 (drop 2 s))) ≡ false → refused 17 0 ≡ field_answer (field l (drop 2 s))
    field_unnamed e = sym (ap field_answer (field_named ∙ need_not _ _ _ e))

    field_some : nameable l (bytes_number (take 2 (drop 2 s))) ≡ true → ok (fields (bytes_number (take 2 (drop 2 s))) (bytes_number (take 2 (drop 4 s)))) ≡ field_answer (field l (drop 2 s))
    field_some e =
        let z : length (take (bytes_number (take 2 (drop 2 (drop 2 s)))) (drop 4 (drop 2 s))) ≡ bytes_number (take 2 (drop 4 s))
        = length-take-le (bytes_number (take 2 (drop 2 (drop 2 s)))) (drop 4 (drop 2 s)) (rw (drop-drop 4 2 s) (omega (arith, size_at_lem s, length-drop 6 s))) ∙ size_at_lem s in
        sym (ap field_answer (field_named ∙ need_so _ _ _ e) ∙ ap (λ n. ok (fields (bytes_number (take 2 (drop 2 s))) n)) z)

  -- by what the code saw of the record
  by_size : {A : Type 0} → (length s < 6 + bytes_number (take 2 (drop 4 s)) → A) → (6 + bytes_number (take 2 (drop 4 s)) ≤ length s → A) → A
  by_size {A} cut there = go (leb (6 + bytes_number (take 2 (drop 4 s))) (length s)) refl
    where
      go : (b : Bool) → leb (6 + bytes_number (take 2 (drop 4 s))) (length s) ≡ b → A
      go true e = there (leb-true _ _ e)
      go false e = cut (leb-false _ _ e)

  pub no_field : Peeked peek_val s None → refused 17 0 ≡ field_answer (field l (drop 2 s))
  no_field p = by_size field_none (λ h. absurd (omega (arith, ap (λ (x : Got ℕ). x.used) (sym p ∙ val_some s h))))

  module _ (n : Next) (p : Peeked peek_val s (Some n)) where
    pub val_there : (6 + bytes_number (take 2 (drop 4 s)) ≤ length s) × (n.key ≡ bytes_number (take 2 (drop 2 s))) × (n.used ≡ 6 + bytes_number (take 2 (drop 4 s)))
    val_there =
        by_size (λ h. absurd (omega (arith, p.1, ap (λ (x : Got ℕ). x.used) (sym p.0 ∙ val_none s h))))
        (λ h. let e = sym p.0 ∙ val_some s h in (h, ap (λ (x : Got ℕ). x.val) e, ap (λ (x : Got ℕ). x.used) e))

    pub a_field : true ≡ nameable l n.key → ok (fields n.key (n.used - 6)) ≡ field_answer (field l (drop 2 s))
    a_field e =
        let (h, key, used) = val_there in
        let size : n.used - 6 ≡ bytes_number (take 2 (drop 4 s)) = omega arith in
        rw (key, size) (field_some h (rw key at (sym e)))

    pub not_named : false ≡ nameable l n.key → refused 17 0 ≡ field_answer (field l (drop 2 s))
    not_named e = let (h, key, used) = val_there in field_unnamed h (rw key at (sym e))

-- ---- records one after the other

-- a target's mark is not a value's
not_value : (s : List ℕ) → is TG s ≡ true → is TI s ≡ false
not_value [] e = no_bool e
not_value (x ∷ []) e = no_bool e
not_value (x ∷ y ∷ s) e =
    let g = eqb-true y 71 (and_both (eqb x 84) (eqb y 71) e).1 in
    let n : eqb y 73 ≡ false = ne_eqb y 73 (λ z. omega (arith, g, z)) in
    rw n (and_false (eqb x 84))
  where
    and_false : (a : Bool) → a && false ≡ false
    and_false true = refl
    and_false false = refl

module _ (tg : Bool) (s : List ℕ) where
  pub size_val : is TI s ≡ true → record_size tg s ≡ (peek_val s).used
  unfolding record_size
  size_val e = rw (e, record_size)

  size_not : is TI s ≡ false → record_size tg s ≡ elim (tg && is TG s) [ true ↦ (whole 0 10 s).used | false ↦ 0 ]
  unfolding record_size
  size_not e = rw (e, record_size)

  pub size_none : is TI s ≡ false → tg && is TG s ≡ false → record_size tg s ≡ 0
  size_none e g = size_not e ∙ rw g

  pub size_target : is TI s ≡ false → tg && is TG s ≡ true → 10 ≤ length s → record_size tg s ≡ 10
  size_target e g h = size_not e ∙ rw (g, whole_some 0 10 s h)

  size_room : record_size tg s ≤ length s
  size_room = go (is TI s) refl (tg && is TG s) refl
    where
      go : (a : Bool) → is TI s ≡ a → (b : Bool) → tg && is TG s ≡ b → record_size tg s ≤ length s
      go true e b g = rw (size_val e) (val_room s)
      go false e true g = rw (size_not e, g) (whole_room 0 10 s)
      go false e false g = rw (size_none e g) (omega arith)

pub span_room : (tg : Bool) (k : ℕ) (s : List ℕ) → span tg k s ≤ length s
unfolding span
span_room tg k [] = omega arith
span_room tg (suc k) (b ∷ s) = omega (arith, span_room tg k s)
span_room tg zero (b ∷ s) = go (λ u. span_room tg u s) (record_size tg (b ∷ s)) refl
  where
    go : ((u : ℕ) → span tg u s ≤ length s) → (u : ℕ) → record_size tg (b ∷ s) ≡ u → span tg 0 (b ∷ s) ≤ suc (length s)
    go ih zero e = rw (e, span) (omega arith)
    go ih (suc u) e = rw (e, span) (omega (arith, ih u))

span_drop : (tg : Bool) (k : ℕ) (s : List ℕ) → k ≤ length s → span tg k s ≡ k + span tg 0 (drop k s)
unfolding span
span_drop tg zero s h = omega arith
span_drop tg (suc k) [] h = absurd (omega arith)
span_drop tg (suc k) (b ∷ s) h = omega (arith, span_drop tg k s (omega arith))

-- none, or one and those after it
pub span_none : (tg : Bool) (s : List ℕ) → record_size tg s ≡ 0 → span tg 0 s ≡ 0
unfolding span
span_none tg [] e = refl
span_none tg (b ∷ s) e = rw (e, span)

pub span_more : (tg : Bool) (s : List ℕ) (u : ℕ) → u ≡ record_size tg s → span tg 0 s ≡ u + span tg 0 (drop u s)
unfolding span
span_more tg s zero e = omega arith
span_more tg [] (suc u) e = absurd (omega (arith, size_room tg []))
span_more tg (b ∷ s) (suc u) e = rw (← e, span) (omega (arith, span_drop tg u s (omega (arith, size_room tg (b ∷ s)))))

-- those that are passed, and those still to be
pub record SpanLeft (tg : Bool) (s : List ℕ) (q : ℕ) : Type 0 where
  pub within : q ≤ length s
  pub counted : span tg 0 s ≡ q + span tg 0 (drop q s)

module _ (tg : Bool) (s : List ℕ) (q : ℕ) (l : SpanLeft tg s q) where
  pub span_end : length s ≤ q → q ≡ span tg 0 s
  span_end h = omega (arith, span_room tg 0 (drop q s), length-drop q s)

  -- as the code reads one at q
  module _ (u : ℕ) (e : u ≡ record_size tg (take (length s - q) (drop q s))) where
    size_here : u ≡ record_size tg (drop q s)
    size_here = rw tail_part at e

    pub span_stop : u ≡ 0 → q ≡ span tg 0 s
    span_stop z = omega (arith, span_none tg (drop q s) (sym size_here ∙ z))

    pub span_on : SpanLeft tg s (q + u)
    span_on = record {
      within = omega (arith, size_here, size_room tg (drop q s), length-drop q s);
      counted = omega (arith, rw drop-drop at (span_more tg (drop q s) u size_here));
    }

-- ---- a target, the series, and the room of all

module _ (s : List ℕ) where
  pub target_cut : length s < 10 → Peeked peek_target s None
  unfolding peek_target
  target_cut h = whole_none (bytes_number (take 8 (drop 2 s))) (10 + span false 0 (drop 10 s)) s (omega arith)

  pub target_there : 10 ≤ length s → peek_target s ≡ got (bytes_number (take 8 (drop 2 s))) (10 + span false 0 (drop 10 s))
  unfolding peek_target
  target_there h = whole_some _ _ s (omega (arith, span_room false 0 (drop 10 s), length-drop 10 s))

  pub series_there : is TS s ≡ true → peek_part s ≡ got 101 (2 + span true 0 (drop 2 s))
  unfolding peek_part
  series_there e = rw (e, peek_part)

  pub part_val : is TS s ≡ false → peek_part s ≡ peek_val s
  unfolding peek_part
  part_val e = rw (e, peek_part)

  -- as the code reads them
  module _ (n j : ℕ) (tg : Bool) (en : n ≡ span tg 0 (take (length s - j) (drop j s))) where
    span_read : n ≡ span tg 0 (drop j s)
    span_read = rw tail_part at en

  pub target_whole : (k n : ℕ) → k ≡ bytes_number (take 8 (take (length s - 2) (drop 2 s))) → n ≡ span false 0 (take (length s - 10) (drop 10 s))
      → 10 ≤ length s → Peeked peek_target s (Some (next k (10 + n)))
  target_whole k n ek en h = let key_read = rw tail_part at ek in (rw (key_read, span_read n 10 false en) (target_there h), omega arith)

  -- no value stands where the next target does
  pub target_bare : (k : ℕ) → k ≡ bytes_number (take 8 (take (length s - 2) (drop 2 s))) → is TG (drop 10 s) ≡ true → 10 ≤ length s → Peeked peek_target s (Some (next k 10))
  target_bare k ek t h = target_whole k 0 ek (sym (rw tail_part (span_none false (drop 10 s) (size_none false (drop 10 s) (not_value (drop 10 s) t) refl)))) h

  pub part_series : (n : ℕ) → n ≡ span true 0 (take (length s - 2) (drop 2 s)) → is TS s ≡ true → Peeked peek_part s (Some (next 101 (2 + n)))
  part_series n en e = (rw (span_read n 2 true en) (series_there e), omega arith)

  pub part_item : (o : Option Next) → Peeked peek_val s o → is TS s ≡ false → Peeked peek_part s o
  part_item o p e = peeked_as peek_part peek_val s o (part_val e) p

  part_room : (peek_part s).used ≤ length s
  part_room = go (is TS s) refl
    where
      go : (b : Bool) → is TS s ≡ b → (peek_part s).used ≤ length s
      go true e = rw (series_there e) (omega (arith, is_room TS s e, span_room true 0 (drop 2 s), length-drop 2 s))
      go false e = rw (part_val e) (val_room s)

pub record_room : (ids set : Bool) (s : List ℕ) → (peek_record ids set s).used ≤ length s
unfolding peek_record peek_target
record_room true set s = whole_room (bytes_number (take 8 (drop 2 s))) (10 + span false 0 (drop 10 s)) s
record_room false true s = part_room s
record_room false false s = val_room s
