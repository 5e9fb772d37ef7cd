-- What the code's answer on one record says of a level's step: a fault, an item, or a `TS` before its targets; and of a target's.
use mathlib.Core.Path.{◌≡◌, refl, sym, ap, ◌∙◌}
use Prim.Native.Nat.{ℕ, ◌+◌, ◌^◌, ◌≤◌, ◌<◌}
use native.Mathlib.Omega.{arith}
use mathlib.Core.Bool.{Bool, true, false, not, ◌&&◌}
use mathlib.Core.List.{List, map}
use lib.ListN.{length, take, drop}
use lib.Dec.{ltb, leb, eqb}
use borrow.Author.Tests.{leb-true, ltb-true, eq-eqb}
use Rattle.format.specs.Answer.{Ans, ok, refused, Got, got, ◌>>=◌, need, after}
use Rattle.format.specs.Coding.{bytes_number}
use Rattle.format.specs.Lists.{has}
use Rattle.format.specs.Table.{Form, Level, set, pack, nameable, standing, ended}
use Rattle.format.specs.Run.{run}
use Rattle.format.specs.Sheet.{Val, Target, Part, one, targets, tag_of_val, id_of_target, IT, TS, TG, TI, is, value_at, target_at, series_at, part_at}
use Rattle.format.proofs.Words.Answers.{no_bool, bind_then, need_then, ok_inj}
use Rattle.format.proofs.Table.Tags.{nameable_high, nameable_set}
use Rattle.format.proofs.Bounds.Answers.{listed, refuses_bind, refuses_ok}
use Rattle.format.proofs.Bounds.Packets.{Here, here_need, standing_here}
use Rattle.format.proofs.Bounds.Sheets.{value_here}
use Rattle.format.proofs.Sheets.Values.{mark_says}
use Rattle.items.specs.Meet.{level_of}
use Rattle.items.proofs.Tests.{bind_so, bind_not}
use Rattle.heads.specs.Meet.{peek}
use Rattle.heads.proofs.SheetRuns.{value_peek}
use Rattle.tally.specs.Pieces.{Piece}
use Rattle.tally.specs.Pieces as piece
use Rattle.tally.proofs.Levels.{here_zero}
use Rattle.tally_records.specs.Meet.{piece_by, value_whole, series_whole, target_whole, series_opens, target_opens, part_piece, more_at, part_step}
use Rattle.tally_records.proofs.Values.{field_here}

-- ---- do-blocks in two

pub need_bind : {A B : Type 0} (t : Bool) (n : ℕ) (m : Ans A) (k : A → Ans B) → (need t n >>= λ _. m >>= k) ≡ ((need t n >>= λ _. m) >>= k)
unfolding ◌>>=◌ need
need_bind true n m k = refl
need_bind false n m k = refl

needs_bind : {A B : Type 0} (a b c : Bool) (x y z : ℕ) (v : A) (k : A → Ans B)
    → (need a x >>= λ _. need b y >>= λ _. need c z >>= λ _. k v) ≡ ((need a x >>= λ _. need b y >>= λ _. need c z >>= λ _. ok v) >>= k)
unfolding ◌>>=◌ need
needs_bind false b c x y z v k = refl
needs_bind true false c x y z v k = refl
needs_bind true true false x y z v k = refl
needs_bind true true true x y z v k = refl

-- the series, and a target, from what is asked of them first
abbrev pub series_rest : Form → List ℕ → Ans (Got Part)
series_rest f u = after 2 (run (is TG) id_of_target (target_at f) (drop 2 u)) >>= λ ts. ok (got (targets ts.val) (2 + ts.used))

series_split : (f : Form) (seen u : List ℕ) → series_at f seen u ≡ (series_opens f seen u >>= λ _. series_rest f u)
unfolding series_at series_opens
series_split f seen u = need_bind (is TG (drop 2 u)) 17 (standing set f seen 101 true) (λ _. series_rest f u)

abbrev pub target_end : Form → ℕ → Got (List Val) → Ans (Got Target)
target_end f i vs = ended f (map tag_of_val vs.val) >>= λ _. ok (got (record { id = i; vals = vs.val }) (10 + vs.used))

abbrev pub target_rest : Form → List ℕ → ℕ → Ans (Got Target)
target_rest f u i = after 10 (run (is TI) tag_of_val (value_at pack f) (drop 10 u)) >>= target_end f i

target_split : (f : Form) (seen u : List ℕ) → target_at f seen u ≡ (target_opens seen u >>= λ i. target_rest f u i)
unfolding target_at target_opens
target_split f seen u =
    let i : ℕ = bytes_number (take 8 (drop 2 u)) in
    needs_bind (leb 10 (length u)) (ltb i (2 ^ 63)) (not (has i seen)) 17 17 10 i (target_rest f u)

-- ---- a fault: refused where the record begins

fault_by : {A : Type 0} (whole : A → Piece) (x : Ans A) (n : ℕ) → ((a : A) → piece.Fault n ≡ whole a → ⊥) → Here x → piece.Fault n ≡ piece_by whole x → x ≡ refused n 0
fault_by whole (ok a) n apart h e = absurd (apart a e)
fault_by whole (refused m q) n apart h e =
    let a : m ≡ n = cc in
    let b : q ≡ 0 = here_zero (refused m q) m q h refl in
    ap (λ k. refused k q) a ∙ ap (refused n) b

series_here : (f : Form) (seen u : List ℕ) → Here (series_opens f seen u)
unfolding series_opens
series_here f seen u = refuses_bind _ _ (here_need _ 17 (listed 17 refl)) λ _ _. standing_here set f seen 101 true

target_here : (seen u : List ℕ) → Here (target_opens seen u)
unfolding target_opens
target_here seen u =
    refuses_bind _ _ (here_need _ 17 (listed 17 refl)) λ _ _.
    refuses_bind _ _ (here_need _ 17 (listed 17 refl)) λ _ _.
    refuses_bind _ _ (here_need _ 10 (listed 10 refl)) λ _ _. refuses_ok _ _

module _ (f : Form) (seen u : List ℕ) (n : ℕ) where
  value_fault : (l : Level) → piece.Fault n ≡ piece_by value_whole (value_at l f seen u) → value_at l f seen u ≡ refused n 0
  value_fault l e = fault_by value_whole _ n (λ a z. absurd (let y : ◌≡◌ {A = ℕ} 0 1 = cc in omega arith)) (value_here l f seen u) e

  series_fault : piece.Fault n ≡ piece_by series_whole (series_opens f seen u) → series_at f seen u ≡ refused n 0
  series_fault e =
      series_split f seen u
      ∙ bind_not _ _ n 0 (fault_by series_whole _ n (λ a z. absurd (let y : ◌≡◌ {A = ℕ} 0 1 = cc in omega arith)) (series_here f seen u) e)

  pub target_fault : piece.Fault n ≡ piece_by target_whole (target_opens seen u) → target_at f seen u ≡ refused n 0
  target_fault e =
      target_split f seen u
      ∙ bind_not _ _ n 0 (fault_by target_whole _ n (λ a z. absurd (let y : ◌≡◌ {A = ℕ} 0 1 = cc in omega arith)) (target_here seen u) e)

  pub part_fault : (b : Bool) → piece.Fault n ≡ part_piece (level_of b) f seen u → part_step (level_of b) f seen u ≡ refused n 0
  unfolding part_piece part_step part_at
  part_fault false e = bind_not _ _ n 0 (value_fault pack e)
  part_fault true e = at_item (is IT u) refl
    where
      at_series : is IT u ≡ false → (c : Bool) → is TS u ≡ c → part_step set f seen u ≡ refused n 0
      at_series z true m = unfold part_step part_at in (rw (z, part_at, m, part_at) (series_fault (unfold part_piece in (rw (z, part_piece, m, part_piece) at e))))
      at_series z false m =
          let q : piece.Fault n ≡ piece.Fault 17 = unfold part_piece in (rw (z, part_piece, m, part_piece) at e) in
          let y : n ≡ 17 = cc in
          unfold part_step part_at in (rw (z, part_at, m, part_at, y))

      at_item : (c : Bool) → is IT u ≡ c → part_step set f seen u ≡ refused n 0
      at_item true m = unfold part_step part_at in (rw (m, part_at) (bind_not _ _ n 0 (value_fault set (unfold part_piece in (rw (m, part_piece) at e)))))
      at_item false m = at_series m (is TS u) refl

-- ---- an item

-- a value that was read
record ValueRead (l : Level) (u : List ℕ) (v : Got Val) : Type 0 where
  used_is : v.used ≡ 6 + length v.val.value
  room : 6 + length v.val.value ≤ length u
  named : nameable l v.val.tag ≡ true

value_read : (l : Level) (f : Form) (seen u : List ℕ) (v : Got Val) → value_at l f seen u ≡ ok v → ValueRead l u v
unfolding value_at
value_read l f seen u v e =
    bind_then _ _ _ e λ w ew e₁.
    bind_then _ _ _ e₁ λ _ _ e₂.
    need_then _ _ _ _ e₂ λ _ e₃.
    let h = field_here l u w ew in
    rw (← ok_inj _ _ e₃) (record { used_is = omega (arith, h.used_is); room = h.room; named = h.named })

pub record ValueStood (b : Bool) (f : Form) (seen u : List ℕ) (tag size : ℕ) : Type 0 where
  pub it : Val
  pub step : part_step (level_of b) f seen u ≡ ok (got (one it) (6 + size))
  pub tag_is : it.tag ≡ tag
  pub size_is : length it.value ≡ size
  pub tag_small : tag ≤ 16383
  pub no_seal : b && eqb tag 1 ≡ false
  pub no_series : b && eqb tag 101 ≡ false
  pub room : 6 + size ≤ length u
  pub peeks : peek true false b u ≡ got tag (6 + size)

pub named_both : (b : Bool) (tag : ℕ) → nameable (level_of b) tag ≡ true → (b && eqb tag 1 ≡ false) × (b && eqb tag 101 ≡ false)
named_both false tag h = (refl, refl)
named_both true tag h = nameable_set tag h

stood_value : (b : Bool) (f : Form) (seen u : List ℕ) (v : Got Val) → value_at (level_of b) f seen u ≡ ok v → part_step (level_of b) f seen u ≡ ok (got (one v.val) v.used) → is TS u ≡ false
    → {tag size : ℕ} → v.val.tag ≡ tag → length v.val.value ≡ size → ValueStood b f seen u tag size
unfolding peek
stood_value b f seen u v ev es ts {tag} {size} et en =
    let h = value_read (level_of b) f seen u v ev in
    let w : v.used ≡ 6 + size = h.used_is ∙ ap (λ k. 6 + k) en in
    let named : nameable (level_of b) tag ≡ true = rw et at h.named in
    let both = named_both b tag named in
    record {
      it = v.val;
      step = es ∙ ap (λ k. ok (got (one v.val) k)) w;
      tag_is = et;
      size_is = en;
      tag_small = nameable_high (level_of b) tag named;
      no_seal = both.0;
      no_series = both.1;
      room = omega (arith, h.room, en);
      peeks = value_peek b f seen u v ev ts ∙ λ i. got (et i) (w i);
    }

-- ---- a `TS`

pub record SeriesStood (f : Form) (seen u : List ℕ) : Type 0 where
  pub mark : is TS u ≡ true
  pub opens : is TG (drop 2 u) ≡ true
  pub step : part_step set f seen u ≡ series_at f seen u
  pub rest : series_at f seen u ≡ series_rest f u

-- ---- by the piece

whole_value : {X : Type 0} (x : Ans (Got Val)) (t k n m : ℕ) → piece.Whole t k n m ≡ piece_by value_whole x → ((v : Got Val) → x ≡ ok v → v.val.tag ≡ t → length v.val.value ≡ n → X) → X
whole_value (ok v) t k n m e g = g v refl (cc) (cc)
whole_value (refused j q) t k n m e g = absurd (let z : ◌≡◌ {A = ℕ} 0 1 = cc in omega arith)

whole_series : (x : Ans (Unit {0})) (t k n m : ℕ) → piece.Whole t k n m ≡ piece_by series_whole x → (x ≡ ok tt) × (t ≡ 101)
whole_series (ok u) t k n m e = (refl, cc)
whole_series (refused j q) t k n m e = absurd (let z : ◌≡◌ {A = ℕ} 0 1 = cc in omega arith)

whole_target : (x : Ans ℕ) (t k n m : ℕ) → piece.Whole t k n m ≡ piece_by target_whole x → x ≡ ok t
whole_target (ok i) t k n m e = ap ok (cc)
whole_target (refused j q) t k n m e = absurd (let z : ◌≡◌ {A = ℕ} 0 1 = cc in omega arith)

series_opened : (f : Form) (seen u : List ℕ) → series_opens f seen u ≡ ok tt → is TG (drop 2 u) ≡ true
unfolding series_opens
series_opened f seen u e = need_then _ _ _ _ e λ opens _. opens

-- a part of the set: an item, or the series
module _ {X : Type 0} (f : Form) (seen u : List ℕ) (t k n m : ℕ) (e : piece.Whole t k n m ≡ part_piece set f seen u) where
  set_part : (ValueStood true f seen u t n → X) → (SeriesStood f seen u → t ≡ 101 → X) → X
  unfolding part_piece part_step part_at ◌>>=◌
  set_part g h = at_item (is IT u) refl
    where
      at_series : is IT u ≡ false → (c : Bool) → is TS u ≡ c → X
      at_series z true o =
          let (a, y) = whole_series (series_opens f seen u) t k n m (unfold part_piece in (rw (z, part_piece, o, part_piece) at e)) in
          h (record { mark = o; opens = series_opened f seen u a; step = unfold part_step part_at in (rw (z, part_at, o, part_at)); rest = series_split f seen u ∙ bind_so _ _ tt a }) y
      at_series z false o =
          let q : piece.Whole t k n m ≡ piece.Fault 17 = unfold part_piece in (rw (z, part_piece, o, part_piece) at e) in
          absurd (let y : ◌≡◌ {A = ℕ} 0 1 = cc in omega arith)

      at_item : (c : Bool) → is IT u ≡ c → X
      at_item true o =
          whole_value (value_at set f seen u) t k n m (unfold part_piece in (rw (o, part_piece) at e)) λ v ev et en.
          g (stood_value true f seen u v ev (unfold part_step part_at in (rw (o, part_at) (bind_so _ _ v ev))) (ap (is TS) (mark_says IT u o)) et en)
      at_item false o = at_series o (is TS u) refl

pub value_stood : (b : Bool) (f : Form) (seen u : List ℕ) (t k n m : ℕ) → more_at (level_of b) u ≡ true → piece.Whole t k n m ≡ part_piece (level_of b) f seen u → b && eqb t 101 ≡ false
    → ValueStood b f seen u t n
unfolding part_piece part_step
value_stood false f seen u t k n m o e z =
    whole_value (value_at pack f seen u) t k n m e λ v ev et en.
    stood_value false f seen u v ev (bind_so _ _ v ev) (ap (is TS) (mark_says TI u o)) et en
value_stood true f seen u t k n m o e z = set_part f seen u t k n m e (λ v. v) (λ s y. no_bool (sym z ∙ eq-eqb t 101 y))

pub series_stood : (b : Bool) (f : Form) (seen u : List ℕ) (t k n m : ℕ) → piece.Whole t k n m ≡ part_piece (level_of b) f seen u → b && eqb t 101 ≡ true
    → (b ≡ true) × (t ≡ 101) × SeriesStood f seen u
series_stood false f seen u t k n m e z = no_bool z
series_stood true f seen u t k n m e z = set_part f seen u t k n m e (λ v. no_bool (sym v.no_series ∙ z)) (λ s y. (refl, y, s))

-- ---- a target

pub record TargetStood (f : Form) (seen u : List ℕ) (i : ℕ) : Type 0 where
  pub ten : 10 ≤ length u
  pub low : i < 2 ^ 63
  pub rest : target_at f seen u ≡ target_rest f u i

opened : (seen u : List ℕ) (i : ℕ) → target_opens seen u ≡ ok i → (10 ≤ length u) × (i < 2 ^ 63)
unfolding target_opens
opened seen u i e =
    need_then _ _ _ _ e λ ten e₁.
    need_then _ _ _ _ e₁ λ low e₂.
    need_then _ _ _ _ e₂ λ _ e₃.
    rw (← ok_inj _ _ e₃) (leb-true _ _ ten, ltb-true _ _ low)

pub target_stood : (f : Form) (seen u : List ℕ) (i k n m : ℕ) → piece.Whole i k n m ≡ piece_by target_whole (target_opens seen u) → TargetStood f seen u i
target_stood f seen u i k n m e =
    let a = whole_target (target_opens seen u) i k n m e in
    let (t, l) = opened seen u i a in
    record { ten = t; low = l; rest = target_split f seen u ∙ bind_so _ _ i a }
