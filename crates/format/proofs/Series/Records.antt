-- The records of a new target: what they are taken for is a target with those bytes, and a valid target's bytes are taken for it.
use mathlib.Core.Path.{◌≡◌, refl, sym, ap, ◌∙◌}
use Prim.Native.Nat.{ℕ, ◌+◌, ◌≤◌, ◌<◌, ◌^◌}
use native.Mathlib.Omega.{arith}
use mathlib.Core.Bool.{true}
use mathlib.Core.List.{List, [], ◌∷◌, append-nil, map}
use lib.ListN.{length, take, drop}
use lib.Seq.{drop-length}
use borrow.Author.Tests.{leb-true, ltb-true, eqb-true, le-leb, lt-ltb, eq-eqb}
use Rattle.format.specs.Answer.{ok, Got, got, ◌>>=◌, need, after}
use Rattle.format.specs.Coding.{Bytes, bytes_number}
use Rattle.format.specs.Lists.{has}
use Rattle.format.specs.Run.{skip, run}
use Rattle.format.specs.Table.{Form, pack, ended}
use Rattle.format.specs.Sheet.{Val, Target, tag_of_val, id_of_target, TI, TG, target_bytes, is, value_at, target_at}
use Rattle.format.specs.Targets.{new_target}
use Rattle.format.specs.Valid.{TargetValid}
use Rattle.format.proofs.Words.Answers.{bind_then, need_then, ok_inj, and_both}
use Rattle.format.proofs.Reading.Runs.{skip_step}
use Rattle.format.proofs.Sheets.Targets.{target_then, target_front, target_back, target_goes}
use Rattle.format.proofs.Series.Rules.{NewValid}

-- ---- the steps

-- what records that are taken went through
record Steps (f : Form) (s : List ℕ) (t : Target) : Type 0 where
  marked : is TG s ≡ true
  ten : 10 ≤ length s
  low : bytes_number (take 8 (drop 2 s)) < 2 ^ 63
  vals : Got (List Val)
  ran : run (is TI) tag_of_val (value_at pack f) (drop 10 s) ≡ ok vals
  whole : 10 + vals.used ≡ length s
  it_is : record { id = bytes_number (take 8 (drop 2 s)); vals = vals.val } ≡ t

new_steps : (f : Form) (s : List ℕ) (t : Target) → new_target f s ≡ ok t → Steps f s t
unfolding new_target
new_steps f s t e =
    need_then _ _ _ _ e λ a e₁.
    need_then _ _ _ _ e₁ λ low e₂.
    bind_then _ _ _ e₂ λ vs evs e₃.
    need_then _ _ _ _ e₃ λ w e₄.
    let (m, ten) = and_both _ _ a in
    record { marked = m; ten = leb-true _ _ ten; low = ltb-true _ _ low; vals = vs; ran = evs; whole = eqb-true _ _ w; it_is = ok_inj _ _ e₄ }

steps_new : (f : Form) (s : List ℕ) (t : Target) → Steps f s t → new_target f s ≡ ok t
unfolding new_target ◌>>=◌ need
steps_new f s t k = rw (k.marked, le-leb _ _ k.ten, lt-ltb _ _ k.low, k.ran, eq-eqb _ _ k.whole) (ap ok k.it_is)

-- ---- both ways

pub new_says : (f : Form) (s : List ℕ) (t : Target) → Bytes s → new_target f s ≡ ok t → (target_bytes t ≡ s) × NewValid f t
new_says f s t b e =
    let k = new_steps f s t e in
    let (took, valid) = target_front f s k.vals b k.marked k.ten k.ran in
    let d : drop (10 + k.vals.used) s ≡ [] = ap (λ n. drop n s) k.whole ∙ drop-length s in
    rw (← k.it_is) (
      sym (rw (d, append-nil) at took.bytes),
      record { id_range = k.low; vals_valid = valid },
    )

-- as a step of a series that begins
new_at : (f : Form) (s : List ℕ) (t : Target) → new_target f s ≡ ok t → ended f (map tag_of_val t.vals) ≡ ok tt → target_at f [] s ≡ ok (got t (length s))
unfolding target_at ◌>>=◌ need after has
new_at f s t e en =
    let k = new_steps f s t e in
    let en₁ : ended f (map tag_of_val k.vals.val) ≡ ok tt = ap (λ g. ended f (map tag_of_val g.vals)) k.it_is ∙ en in
    rw (le-leb _ _ k.ten, lt-ltb _ _ k.low, k.ran, en₁) (λ j. ok (got (k.it_is j) (k.whole j)))

at_new : (f : Form) (s : List ℕ) (t : Target) → is TG s ≡ true → target_at f [] s ≡ ok (got t (length s)) → new_target f s ≡ ok t
at_new f s t m e =
    target_then f [] s (got t (length s)) e λ ten low new vs evs en z.
    steps_new f s t (record { marked = m; ten = ten; low = low; vals = vs; ran = evs; whole = ap (λ g. g.used) z; it_is = ap (λ g. g.val) z })

-- the bytes of a valid target that a sheet can hold
pub new_back : (f : Form) (t : Target) → TargetValid f t → length (target_bytes t) ≤ 65536 → new_target f (target_bytes t) ≡ ok t
new_back f t h n =
    at_new f (target_bytes t) t (rw append-nil at (target_goes t []))
    (rw append-nil at (target_back f [] t [] (record { new = unfold has in refl; valid = h }) n tt))

-- ---- the records as a series of their own

pub targets_run_lem : (f : Form) (s : List ℕ) (t : Target) → new_target f s ≡ ok t → ended f (map tag_of_val t.vals) ≡ ok tt
    → run (is TG) id_of_target (target_at f) s ≡ ok (got (t ∷ []) (length s))
unfolding run skip ◌>>=◌ after
targets_run_lem f s t e en =
    let k = new_steps f s t e in
    let ten : 10 ≤ length s = k.ten in
    skip_step (is TG) id_of_target (target_at f) target_bytes [] s (got t (length s)) (omega arith) k.marked (new_at f s t e en) (omega arith)
    ∙ rw (drop-length s) (ap (λ n. ok (got (t ∷ []) n)) (omega arith))
