-- What was read of a sheet is what the look finds there: an item, a target with its `TI`s, the series with its targets.
use mathlib.Core.Path.{◌≡◌, refl, sym, ap, ◌∙◌}
use Prim.Native.Nat.{ℕ, zero, suc, ◌+◌, ◌-◌, ◌≤◌, ◌<◌}
use native.Mathlib.Omega.{arith}
use mathlib.Core.Bool.{Bool, true, false}
use mathlib.Core.List.{List, [], ◌∷◌}
use lib.ListN.{length, take, drop, length-drop}
use lib.Seq.{drop-nil, drop-drop}
use borrow.Author.Tests.{leb-true}
use Rattle.format.specs.Answer.{Ans, ok, refused, Got, got}
use Rattle.format.specs.Coding.{bytes_number}
use Rattle.format.specs.Run.{Step, skip, run}
use Rattle.format.specs.Table.{Form, Level, pack}
use Rattle.format.specs.Sheet.{Val, Target, Part, tag_of_val, id_of_target, Mark, TS, TG, TI, is, field, value_at, target_at, series_at}
use Rattle.format.proofs.Words.Answers.{never, bind_then, need_then, after_then, ok_inj}
use Rattle.format.proofs.Reading.Runs.{Stops, drop_pred}
use Rattle.format.proofs.Sheets.Values.{mark_says}
use Rattle.format.proofs.Sheets.Targets.{target_then}
use Rattle.items.specs.Meet.{level_of}
use Rattle.heads.specs.declared.records.Field.{Field}
use Rattle.heads.specs.Records.{field_answer, peek_val, record_size, span, peek_record}
use Rattle.heads.proofs.Spans.{val_room, val_some, size_at_lem, size_val, size_none, size_target, span_none, span_more, target_there, series_there, part_val}

-- ---- an item

field_read : (l : Level) (s : List ℕ) (v : Got Val) → field l (drop 2 s) ≡ ok v → peek_val s ≡ got v.val.tag (2 + v.used)
unfolding field
field_read l s v e =
    need_then _ _ _ _ e λ four e₁.
    need_then _ _ _ _ e₁ λ room e₂.
    need_then _ _ _ _ e₂ λ named e₃.
    let n : ℕ = bytes_number (take 2 (drop 2 (drop 2 s))) in
    let h : 4 ≤ length (drop 2 s) = leb-true _ _ four in
    let g : 4 + n ≤ length (drop 2 s) = leb-true _ _ room in
    let z : 6 + bytes_number (take 2 (drop 4 s)) ≡ 2 + (4 + n) = omega (arith, size_at_lem s) in
    rw (← ok_inj _ _ e₃) (val_some s (omega (arith, length-drop 2 s)) ∙ ap (got (bytes_number (take 2 (drop 2 s)))) z)

-- as the code reads its tag
pub field_key : (l : Level) (s : List ℕ) (h : Field) → ok h ≡ field_answer (field l (drop 2 s)) → h.tag ≡ (peek_val s).val
field_key l s h e = go (field l (drop 2 s)) refl e
  where
    go : (a : Ans (Got Val)) → field l (drop 2 s) ≡ a → ok h ≡ field_answer a → h.tag ≡ (peek_val s).val
    go (ok v) ea z = ap (λ (x : Field). x.tag) (ok_inj _ _ z) ∙ sym (ap (λ (x : Got ℕ). x.val) (field_read l s v ea))
    go (refused m p) ea z = never m p h (sym z)

-- whatever its mark
val_read : (l : Level) (f : Form) (seen s : List ℕ) (v : Got Val) → value_at l f seen s ≡ ok v → (peek_val s ≡ got v.val.tag v.used) × (0 < v.used)
unfolding value_at
val_read l f seen s v e =
    bind_then _ _ _ e λ w ew e₁.
    bind_then _ _ _ e₁ λ u eu e₂.
    need_then _ _ _ _ e₂ λ sh e₃.
    rw (← ok_inj _ _ e₃) (field_read l s w ew, omega arith)

-- in a set, `TS` stands at no item
pub value_peek : (b : Bool) (f : Form) (seen s : List ℕ) (v : Got Val) → value_at (level_of b) f seen s ≡ ok v → is TS s ≡ false
    → peek_record false b s ≡ got v.val.tag v.used
unfolding peek_record
value_peek true f seen s v e t = part_val s t ∙ (val_read _ f seen s v e).0
value_peek false f seen s v e t = (val_read _ f seen s v e).0

-- ---- a run of records

-- u bytes from s on are records that `span` counts; P is known where they end
record Passed (tg : Bool) (P : List ℕ → Type 0) (s : List ℕ) (u : ℕ) : Type 0 where
  within : u ≤ length s
  counted : span tg 0 s ≡ u + span tg 0 (drop u s)
  ends : P (drop u s)

passed_none : (tg : Bool) (P : List ℕ → Type 0) (s : List ℕ) → P s → Passed tg P s 0
passed_none tg P s p = record { within = omega arith; counted = omega arith; ends = p }

passed_then : (tg : Bool) (P Q : List ℕ → Type 0) (s : List ℕ) (u v : ℕ) → Passed tg P s u → Passed tg Q (drop u s) v → Passed tg Q s (u + v)
passed_then tg P Q s u v a b = record {
  within = omega (arith, a.within, b.within, length-drop u s);
  counted = omega (arith, a.counted, rw drop-drop at b.counted);
  ends = rw drop-drop at b.ends;
}

-- one record
passed_one : (tg : Bool) (s : List ℕ) (u : ℕ) → u ≤ length s → record_size tg s ≡ u → Passed tg (λ t. Unit {0}) s u
passed_one tg s u h e = record { within = h; counted = span_more tg s u (sym e); ends = tt }

-- a run passes what its steps pass
module _ {X : Type 0} (tg : Bool) (more : List ℕ → Bool) (key : X → ℕ) (step : Step X) (P : List ℕ → Type 0)
    (takes : (seen s : List ℕ) (r : Got X) → more s ≡ true → step seen s ≡ ok r → (0 < r.used) × Passed tg P s r.used) where
  abbrev Stopped : List ℕ → Type 0
  Stopped t = P t × Stops more t

  skip_passes : (seen : List ℕ) (k : ℕ) (s : List ℕ) (rs : Got (List X)) → P (drop k s) → skip more key step seen k s ≡ ok rs → Passed tg Stopped (drop k s) rs.used
  unfolding skip
  skip_passes seen k [] rs p e = rw (← ok_inj _ _ e, drop-nil k) (passed_none tg Stopped [] (rw (drop-nil k) at p, tt))
  skip_passes seen (suc k) (b ∷ s) rs p e = skip_passes seen k s rs p e
  skip_passes seen zero (b ∷ s) rs p e = go (λ r qs q z. skip_passes (key r.val ∷ seen) (r.used - 1) s qs q z) (more (b ∷ s)) refl
    where
      go : ((r : Got X) (qs : Got (List X)) → P (drop (r.used - 1) s) → skip more key step (key r.val ∷ seen) (r.used - 1) s ≡ ok qs → Passed tg Stopped (drop (r.used - 1) s) qs.used)
          → (m : Bool) → more (b ∷ s) ≡ m → Passed tg Stopped (b ∷ s) rs.used
      go ih false m = rw (← ok_inj _ _ (rw (m, skip) at e)) (passed_none tg Stopped (b ∷ s) (p, m))
      go ih true m =
          bind_then _ _ _ (rw (m, skip) at e) λ r er e₁.
          after_then _ _ _ _ e₁ λ qs eq e₂.
          let (z, a) = takes seen (b ∷ s) r m er in
          let d : drop r.used (b ∷ s) ≡ drop (r.used - 1) s = drop_pred r.used b s z in
          rw (← ok_inj _ _ e₂) (passed_then tg P Stopped (b ∷ s) r.used qs.used a (rw d (ih r qs (rw d at a.ends) eq)))

  run_passes : (s : List ℕ) (rs : Got (List X)) → P s → run more key step s ≡ ok rs → Passed tg Stopped s rs.used
  unfolding run
  run_passes s rs p e = skip_passes [] 0 s rs p e

stopped : (m : Mark) (s : List ℕ) → Stops (is m) s → is m s ≡ false
stopped m [] h = refl
stopped m (b ∷ s) h = h

-- ---- a target

val_passes : (tg : Bool) (f : Form) (seen s : List ℕ) (r : Got Val) → is TI s ≡ true → value_at pack f seen s ≡ ok r → (0 < r.used) × Passed tg (λ t. Unit {0}) s r.used
val_passes tg f seen s r m e =
    let (p, z) = val_read pack f seen s r e in
    let u : (peek_val s).used ≡ r.used = ap (λ (x : Got ℕ). x.used) p in
    (z, passed_one tg s r.used (omega (arith, val_room s)) (size_val tg s m ∙ u))

abbrev NoVal : List ℕ → Type 0
NoVal t = is TI t ≡ false

record TargetRead (tg : Bool) (s : List ℕ) (t : Got Target) : Type 0 where
  vals_used : ℕ
  ten : 10 ≤ length s
  id_is : bytes_number (take 8 (drop 2 s)) ≡ t.val.id
  used_is : 10 + vals_used ≡ t.used
  passed : Passed tg NoVal (drop 10 s) vals_used

target_read : (tg : Bool) (f : Form) (seen s : List ℕ) (t : Got Target) → target_at f seen s ≡ ok t → TargetRead tg s t
target_read tg f seen s t e =
    target_then f seen s t e λ ten low new vs evs en z.
    let k = run_passes tg (is TI) tag_of_val (value_at pack f) (λ t. Unit {0}) (val_passes tg f) (drop 10 s) vs tt evs in
    rw (← z) (record {
      vals_used = vs.used;
      ten = ten;
      id_is = refl;
      used_is = refl;
      passed = record { within = k.within; counted = k.counted; ends = stopped TI (drop vs.used (drop 10 s)) k.ends.1 };
    })

pub target_peek : (f : Form) (set : Bool) (seen s : List ℕ) (t : Got Target) → target_at f seen s ≡ ok t → peek_record true set s ≡ got t.val.id t.used
unfolding peek_record
target_peek f set seen s t e =
    let k = target_read false f seen s t e in
    let p = k.passed in
    let r : List ℕ = drop k.vals_used (drop 10 s) in
    let z : span false 0 r ≡ 0 = span_none false r (size_none false r p.ends refl) in
    let w : 10 + span false 0 (drop 10 s) ≡ t.used = omega (arith, p.counted, k.used_is) in
    target_there s k.ten ∙ rw (k.id_is, w)

-- ---- the series

target_no_val : (s : List ℕ) → is TG s ≡ true → NoVal s
target_no_val s e = ap (is TI) (mark_says TG s e)

target_passes : (f : Form) (seen s : List ℕ) (t : Got Target) → is TG s ≡ true → target_at f seen s ≡ ok t → (0 < t.used) × Passed true NoVal s t.used
target_passes f seen s t m e =
    let k = target_read true f seen s t e in
    let a = passed_one true s 10 k.ten (size_target true s (target_no_val s m) m k.ten) in
    (omega (arith, k.used_is), rw k.used_is at (passed_then true _ NoVal s 10 k.vals_used a k.passed))

pub series_peek : (f : Form) (seen s : List ℕ) (t : Got Part) → is TS s ≡ true → series_at f seen s ≡ ok t → peek_record false true s ≡ got 101 t.used
unfolding peek_record series_at
series_peek f seen s t m e =
    need_then _ _ _ _ e λ tg e₁.
    bind_then _ _ _ e₁ λ u eu e₂.
    after_then _ _ _ _ e₂ λ ts ets e₃.
    let p = run_passes true (is TG) id_of_target (target_at f) NoVal (target_passes f) (drop 2 s) ts (target_no_val (drop 2 s) tg) ets in
    let r : List ℕ = drop ts.used (drop 2 s) in
    let z : span true 0 r ≡ 0 = span_none true r (size_none true r p.ends.0 (stopped TG r p.ends.1)) in
    let w : span true 0 (drop 2 s) ≡ ts.used = omega (arith, p.counted) in
    rw (← ok_inj _ _ e₃) (series_there s m ∙ rw w)
