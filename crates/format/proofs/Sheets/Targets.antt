-- A `TG` with its `TI`s: what was read is a valid target as bytes, and such a target is read back.
use mathlib.Core.Path.{◌≡◌, sym, ap, ◌∙◌}
use Prim.Native.Nat.{ℕ, ◌+◌, ◌≤◌, ◌<◌, ◌^◌}
use native.Mathlib.Omega.{arith}
use mathlib.Core.Bool.{true, false}
use mathlib.Core.List.{List, [], ◌∷◌, ◌++◌, append_assoc, map}
use lib.ListN.{length, take, drop, length-append, length-drop, take-append-drop}
use lib.Seq.{drop-drop, length-take-le, take_at, drop_at}
use lib.Dec.{leb}
use borrow.Author.Tests.{leb-true, ltb-true, le-leb, lt-ltb, not-true}
use Rattle.format.specs.Answer.{ok, Got, got, ◌>>=◌, need, after}
use Rattle.format.specs.Coding.{Bytes, bytes_number, fixed}
use Rattle.format.specs.Lists.{has, flat_all}
use Rattle.format.specs.Run.{run}
use Rattle.format.specs.Table.{Form, pack, ended}
use Rattle.format.specs.Sheet.{Val, Target, tag_of_val, id_of_target, TI, TG, val_bytes, target_bytes, is, value_at, target_at}
use Rattle.format.specs.Valid.{Together, ValValid, TargetValid}
use Rattle.format.proofs.Words.Answers.{bind_then, need_then, after_then, ok_inj}
use Rattle.format.proofs.Words.Bytes.{bytes_drop, bytes_take, Took}
use Rattle.format.proofs.Words.Flats.{all_sized}
use Rattle.format.proofs.Coding.Digits.{fixed_number, length_fixed, fixed_back}
use Rattle.format.proofs.Table.Tags.{begin_pack}
use Rattle.format.proofs.Reading.Runs.{Along, Stops, Faithful, ReadsAt, run_says, run_back, along_together, free_along}
use Rattle.format.proofs.Sheets.Values.{length_val, took_front, mark_says, mark_here, value_faithful, value_stood, value_reads}

pub length_target : (t : Target) → length (target_bytes t) ≡ 10 + length (flat_all (val_bytes pack) t.vals)
unfolding target_bytes
length_target t = simp (length-append, length_fixed) (omega arith)

-- a target and what follows it
pub target_append : (t : Target) (w : List ℕ) → target_bytes t ++ w ≡ TG.0 ∷ TG.1 ∷ fixed 8 t.id ++ (flat_all (val_bytes pack) t.vals ++ w)
unfolding target_bytes
target_append t w = ap (λ x. TG.0 ∷ TG.1 ∷ x) (append_assoc (fixed 8 t.id) (flat_all (val_bytes pack) t.vals) w)

-- ---- its values

vals_valid : (f : Form) (vs : List Val) (t : List ℕ) → Bytes (flat_all (val_bytes pack) vs ++ t)
    → Along tag_of_val (val_bytes pack) (ReadsAt (is TI) tag_of_val (value_at pack f) (val_bytes pack)) [] vs t → Together tag_of_val (ValValid pack f) vs
vals_valid f vs t b h =
    along_together (is TI) tag_of_val (value_at pack f) (val_bytes pack) (ValValid pack f) (λ seen v t b' r. let g = value_stood f seen v t b' r in (g.new, g.valid)) vs t b h

vals_read : (f : Form) (vs : List Val) (t : List ℕ) → length (flat_all (val_bytes pack) vs) ≤ 65536 → Together tag_of_val (ValValid pack f) vs
    → Along tag_of_val (val_bytes pack) (ReadsAt (is TI) tag_of_val (value_at pack f) (val_bytes pack)) [] vs t
vals_read f vs t n h =
    free_along (is TI) tag_of_val (value_at pack f) (val_bytes pack) (λ v. ValValid pack f v × (length (val_bytes pack v) ≤ 65536)) (λ t. Unit {0}) (λ v t. tt)
    (λ seen v t w _ g.
    let l : 2 + (4 + length v.value) ≤ 65536 = rw length_val at g.1 in
    value_reads f seen v t (record { new = w; begins = begin_pack f v.tag seen; valid = g.0 }) (omega arith)) vs t tt
    (record { once = h.once; each = all_sized (ValValid pack f) (val_bytes pack) 65536 vs n h.each })

-- ---- the target

pub record TargetRead (f : Form) (seen : List ℕ) (t : Target) : Type 0 where
  pub new : has t.id seen ≡ false
  pub valid : TargetValid f t

-- what a target that was read went through
pub target_then : {X : Type 0} (f : Form) (seen s : List ℕ) (r : Got Target) → target_at f seen s ≡ ok r
    → (10 ≤ length s → bytes_number (take 8 (drop 2 s)) < 2 ^ 63 → has (bytes_number (take 8 (drop 2 s))) seen ≡ false
    → (vs : Got (List Val)) → run (is TI) tag_of_val (value_at pack f) (drop 10 s) ≡ ok vs → ended f (map tag_of_val vs.val) ≡ ok tt
    → got (record { id = bytes_number (take 8 (drop 2 s)); vals = vs.val }) (10 + vs.used) ≡ r → X) → X
unfolding target_at
target_then f seen s r e k =
    need_then _ _ _ _ e λ ten e₁.
    need_then _ _ _ _ e₁ λ low e₂.
    need_then _ _ _ _ e₂ λ new e₃.
    after_then _ _ _ _ e₃ λ vs evs e₄.
    bind_then _ _ _ e₄ λ u eu e₅.
    k (leb-true _ _ ten) (ltb-true _ _ low) (not-true _ new) vs evs eu (ok_inj _ _ e₅)

-- what was read, but for the rule where it ends
pub target_front : (f : Form) (s : List ℕ) (vs : Got (List Val)) → Bytes s → is TG s ≡ true → 10 ≤ length s → run (is TI) tag_of_val (value_at pack f) (drop 10 s) ≡ ok vs
    → Took (target_bytes (record { id = bytes_number (take 8 (drop 2 s)); vals = vs.val })) s (10 + vs.used) × Together tag_of_val (ValValid pack f) vs.val
target_front f s vs b m l evs =
    let i : ℕ = bytes_number (take 8 (drop 2 s)) in
    let k = run_says (is TI) tag_of_val (value_at pack f) (val_bytes pack) (value_faithful f) (drop 10 s) vs (bytes_drop 10 s b) evs in
    let g : Target = record { id = i; vals = vs.val } in
    let fi : fixed 8 i ≡ take 8 (drop 2 s)
    = fixed_back 8 (take 8 (drop 2 s)) (bytes_take 8 (drop 2 s) (bytes_drop 2 s b)) (length-take-le 8 (drop 2 s) (simp length-drop (omega arith))) in
    let d : drop 2 s ≡ fixed 8 i ++ drop 10 s = sym (take-append-drop 8 (drop 2 s)) ∙ ap (λ x. x ++ drop 8 (drop 2 s)) (sym fi) ∙ ap (λ x. fixed 8 i ++ x) (drop-drop 8 2 s) in
    let z : s ≡ target_bytes g ++ k.rest = mark_says TG s m ∙ ap (λ x. TG.0 ∷ TG.1 ∷ x) (d ∙ ap (λ x. fixed 8 i ++ x) k.bytes) ∙ sym (target_append g k.rest) in (
      took_front (target_bytes g) s k.rest (10 + vs.used) z (rw (length_target g, k.used_is)) (omega arith),
      vals_valid f vs.val k.rest (rw k.bytes at (bytes_drop 10 s b)) k.along,
    )

pub target_says : (f : Form) (seen s : List ℕ) (r : Got Target) → Bytes s → is TG s ≡ true → target_at f seen s ≡ ok r
    → Took (target_bytes r.val) s r.used × TargetRead f seen r.val
target_says f seen s r b m e =
    target_then f seen s r e λ ten low new vs evs en z.
    let (took, valid) = target_front f s vs b m ten evs in
    rw (← z) (took, record { new = new; valid = record { id_range = low; vals_valid = valid; ends = en } })

pub target_back : (f : Form) (seen : List ℕ) (t : Target) (w : List ℕ) → TargetRead f seen t → length (target_bytes t) ≤ 65536 → Stops (is TI) w
    → target_at f seen (target_bytes t ++ w) ≡ ok (got t (length (target_bytes t)))
unfolding target_at ◌>>=◌ need after
target_back f seen t w h n g =
    let vs : List ℕ = flat_all (val_bytes pack) t.vals in
    let s : List ℕ = target_bytes t ++ w in
    let e : drop 2 s ≡ fixed 8 t.id ++ (vs ++ w) = ap (drop 2) (target_append t w) in
    let t₁ : take 8 (drop 2 s) ≡ fixed 8 t.id = rw e (take_at (fixed 8 t.id) (vs ++ w) 8 (length_fixed 8 t.id)) in
    let d₁ : drop 10 s ≡ vs ++ w = sym (drop-drop 8 2 s) ∙ rw e (drop_at (fixed 8 t.id) (vs ++ w) 8 (length_fixed 8 t.id)) in
    let i : t.id < 2 ^ 63 = h.valid.id_range in
    let n₁ : bytes_number (fixed 8 t.id) ≡ t.id = fixed_number 8 t.id (omega arith) in
    let size : length (target_bytes t) ≡ 10 + length vs = length_target t in
    let l₁ : leb 10 (length s) ≡ true = le-leb 10 (length s) (simp length-append (omega arith)) in
    rw (
      l₁,
      t₁,
      n₁,
      lt-ltb t.id (2 ^ 63) i,
      h.new,
      d₁,
      run_back (is TI) tag_of_val (value_at pack f) (val_bytes pack) t.vals w (vals_read f t.vals w (omega arith) h.valid.vals_valid) g,
      h.valid.ends,
      length_target,
    )

-- ---- as steps of a run

pub target_faithful : (f : Form) → Faithful (is TG) id_of_target (target_at f) target_bytes
target_faithful f seen s r b m e = (target_says f seen s r b m e).0

pub target_goes : (t : Target) (w : List ℕ) → is TG (target_bytes t ++ w) ≡ true
target_goes t w = rw target_append (mark_here TG (fixed 8 t.id ++ (flat_all (val_bytes pack) t.vals ++ w)))

pub target_stood : (f : Form) (seen : List ℕ) (t : Target) (w : List ℕ) → Bytes (target_bytes t ++ w) → ReadsAt (is TG) id_of_target (target_at f) target_bytes seen t w → TargetRead f seen t
target_stood f seen t w b h = (target_says f seen (target_bytes t ++ w) (got t (length (target_bytes t))) b h.goes h.reads).1

pub target_reads : (f : Form) (seen : List ℕ) (t : Target) (w : List ℕ) → TargetRead f seen t → length (target_bytes t) ≤ 65536 → Stops (is TI) w
    → ReadsAt (is TG) id_of_target (target_at f) target_bytes seen t w
target_reads f seen t w h n g = record { goes = target_goes t w; reads = target_back f seen t w h n g; some = rw length_target (omega arith) }
