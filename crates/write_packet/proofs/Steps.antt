-- What a step over a sheet has read: an item or the series, and a target.
use mathlib.Core.Path.{◌≡◌, refl, sym, ap, ◌∙◌}
use Prim.Native.Nat.{ℕ, ◌+◌, ◌^◌, ◌≤◌, ◌<◌}
use native.Mathlib.Omega.{arith}
use mathlib.Core.Bool.{Bool, true, false}
use mathlib.Core.List.{List, map}
use lib.ListN.{length, take, drop, length-drop}
use lib.Seq.{drop-drop}
use borrow.Author.Tests.{leb-true, ltb-true}
use Rattle.format.specs.Answer.{ok, Got, got}
use Rattle.format.specs.Coding.{bytes_number}
use Rattle.format.specs.Table.{Form, Level, set, pack}
use Rattle.format.specs.Run.{run}
use Rattle.format.specs.Sheet.{Val, Target, Part, one, targets, tag_of_val, Mark, IT, TS, TI, is, field, value_at, target_at, series_at, part_at}
use Rattle.format.proofs.Words.Answers.{never, no_bool, bind_then, need_then, after_then, ok_inj}
use Rattle.format.proofs.Table.Tags.{nameable_high}
use Rattle.format.proofs.Sheets.Values.{mark_says}
use Rattle.items.specs.Meet.{level_of}
use Rattle.heads.proofs.Spans.{size_at_lem}
use Rattle.tally_records.specs.Meet.{more_at, part_step}
use Rattle.tally.proofs.Maps.{mapped}
use Rattle.tally_records.proofs.Runs.{vals_run}
use Rattle.write_packet.specs.Meet.{records_run, targets_run}

-- ---- a part

-- the tag and the value's length, in an item's record
abbrev pub tag_at : List ℕ → ℕ
tag_at u = bytes_number (take 2 (drop 2 u))

abbrev pub size_at : List ℕ → ℕ
size_at u = bytes_number (take 2 (drop 4 u))

-- an item stands at the start of u
pub record OneHere (u : List ℕ) (r : Got Part) : Type 0 where
  pub it_is : r.val ≡ one (record { tag = tag_at u; value = take (size_at u) (drop 6 u) })
  pub used_is : r.used ≡ 6 + size_at u
  pub room : 6 + size_at u ≤ length u
  pub tag_small : tag_at u ≤ 16383

field_at : (l : Level) (u : List ℕ) (v : Got Val) → field l (drop 2 u) ≡ ok v → OneHere u (got (one v.val) (2 + v.used))
unfolding field
field_at l u v e =
    need_then _ _ _ _ e λ four e₁.
    need_then _ _ _ _ e₁ λ room e₂.
    need_then _ _ _ _ e₂ λ named e₃.
    let z = size_at_lem u in
    let g : 4 + bytes_number (take 2 (drop 2 (drop 2 u))) ≤ length (drop 2 u) = leb-true _ _ room in
    rw (← ok_inj _ _ e₃) (record {
      it_is = rw z (ap (λ x. one (record { tag = tag_at u; value = take (size_at u) x })) (drop-drop 4 2 u));
      used_is = omega (arith, z);
      room = omega (arith, z, g, length-drop 2 u);
      tag_small = nameable_high l (tag_at u) named;
    })

value_at_lem : (l : Level) (f : Form) (seen u : List ℕ) (v : Got Val) → value_at l f seen u ≡ ok v → OneHere u (got (one v.val) v.used)
unfolding value_at
value_at_lem l f seen u v e =
    bind_then _ _ _ e λ w ew e₁.
    bind_then _ _ _ e₁ λ _ _ e₂.
    need_then _ _ _ _ e₂ λ _ e₃.
    rw (← ok_inj _ _ e₃) (field_at l u w ew)

pub one_here : (b : Bool) (f : Form) (seen u : List ℕ) (r : Got Part) → is TS u ≡ false → part_step (level_of b) f seen u ≡ ok r → OneHere u r
unfolding part_step part_at
one_here false f seen u r z e = bind_then _ _ _ e λ v ev e₁. rw (← ok_inj _ _ e₁) (value_at_lem pack f seen u v ev)
one_here true f seen u r z e = at_item (is IT u) refl
  where
    at_item : (c : Bool) → is IT u ≡ c → OneHere u r
    at_item true m = bind_then _ _ _ (rw (m, part_at) at e) λ v ev e₁. rw (← ok_inj _ _ e₁) (value_at_lem set f seen u v ev)
    at_item false m = never 17 0 r (rw (m, part_at, z, part_at) at e)

-- the series stands there
pub record SeriesHere (f : Form) (u : List ℕ) (r : Got Part) : Type 0 where
  pub ts : Got (List Target)
  pub it_is : r.val ≡ targets ts.val
  pub used_is : r.used ≡ 2 + ts.used
  pub runs : targets_run f (drop 2 u) ≡ ok ts
  pub two : 2 ≤ length u

-- a mark has two bytes
pub mark_room : (m : Mark) (u : List ℕ) → is m u ≡ true → 2 ≤ length u
mark_room m u e = omega (arith, ap length (mark_says m u e))

pub ti_no_ts : (u : List ℕ) → is TI u ≡ true → is TS u ≡ false
ti_no_ts u e = ap (is TS) (mark_says TI u e)

pub series_here : (b : Bool) (f : Form) (seen u : List ℕ) (r : Got Part) → more_at (level_of b) u ≡ true → is TS u ≡ true → part_step (level_of b) f seen u ≡ ok r → SeriesHere f u r
unfolding part_step part_at series_at targets_run
series_here false f seen u r o m e = no_bool (sym (ti_no_ts u o) ∙ m)
series_here true f seen u r o m e =
    let i : is IT u ≡ false = ap (is IT) (mark_says TS u m) in
    need_then _ _ _ _ (rw (i, part_at, m, part_at) at e) λ _ e₁.
    bind_then _ _ _ e₁ λ _ _ e₂.
    after_then _ _ _ _ e₂ λ ts ets e₃.
    rw (← ok_inj _ _ e₃) (record { ts = ts; it_is = refl; used_is = refl; runs = ets; two = mark_room TS u m })

-- ---- a target

abbrev pub id_at : List ℕ → ℕ
id_at u = bytes_number (take 8 (drop 2 u))

pub record TargetHere (f : Form) (u : List ℕ) (r : Got Target) : Type 0 where
  pub vs : Got (List Val)
  pub ten : 10 ≤ length u
  pub low : id_at u < 2 ^ 63
  pub it_is : r.val ≡ record { id = id_at u; vals = vs.val }
  pub used_is : r.used ≡ 10 + vs.used
  pub runs : run (is TI) tag_of_val (value_at pack f) (drop 10 u) ≡ ok vs

pub target_here : (f : Form) (seen u : List ℕ) (r : Got Target) → target_at f seen u ≡ ok r → TargetHere f u r
unfolding target_at
target_here f seen u r e =
    need_then _ _ _ _ e λ ten e₁.
    need_then _ _ _ _ e₁ λ low e₂.
    need_then _ _ _ _ e₂ λ _ e₃.
    after_then _ _ _ _ e₃ λ vs evs e₄.
    bind_then _ _ _ e₄ λ _ _ e₅.
    rw (← ok_inj _ _ e₅) (record { vs = vs; ten = leb-true _ _ ten; low = ltb-true _ _ low; it_is = refl; used_is = refl; runs = evs })

-- its values, as parts
module _ (f : Form) (s : List ℕ) (vs : Got (List Val)) (r : run (is TI) tag_of_val (value_at pack f) s ≡ ok vs) where
  pub vals_read : records_run pack f s ≡ ok (got (map one vs.val) vs.used)
  unfolding records_run
  vals_read = vals_run f s ∙ ap (mapped one) r
