-- The sheet: bytes are taken for a sheet exactly when they are a valid sheet's.
use mathlib.Core.Path.{◌≡◌, refl, sym, ap, ◌∙◌}
use Prim.Native.Nat.{ℕ, zero, suc, ◌+◌, ◌≤◌, ◌<◌}
use native.Mathlib.Omega.{arith}
use mathlib.Core.Bool.{Bool, true, false, not, ◌||◌}
use mathlib.Core.List.{List, [], ◌∷◌, ◌++◌, append_assoc, append-nil, map}
use lib.ListN.{length, drop}
use lib.Seq.{drop-drop}
use lib.Dec.{leb}
use borrow.Author.Tests.{leb-true, le-leb}
use Rattle.format.specs.Answer.{ok, Got, got, ◌>>=◌, need, after}
use Rattle.format.specs.Coding.{Bytes}
use Rattle.format.specs.Lists.{none?, has, flat_all}
use Rattle.format.specs.Table.{Form, embedded, standalone, set, is_alone, may_begin}
use Rattle.format.specs.Run.{run, always}
use Rattle.format.specs.Sheet.{Target, Part, one, targets, Sheet, id_of_target, tag_of_part, PK, IT, TS, TG, TI, val_bytes, target_bytes, part_bytes, form_byte, sheet_bytes, is, target_at, series_at, part_at, form_of, sheet_limit, unsheet}
use Rattle.format.specs.Valid.{Together, Begins, TargetValid, PartValid, SheetValid}
use Rattle.format.proofs.Words.Answers.{never, no_bool, bind_then, need_then, after_then, after_need_then, ok_inj}
use Rattle.format.proofs.Words.Bytes.{bytes_drop, Took}
use Rattle.format.proofs.Words.Flats.{all_sized}
use Rattle.format.proofs.Table.Tags.{set_stands, begin_later, begin_two, begin_embedded, begins_two}
use Rattle.format.proofs.Table.Values.{Stands, standing_says, standing_gives}
use Rattle.format.proofs.Reading.Runs.{Along, along_map, Stops, First, Faithful, ReadsAt, run_says, run_back, along_together, free_along, together_along, all_says, all_back}
use Rattle.format.proofs.Sheets.Values.{length_val, took_front, mark_says, ValRead, value_says, value_back, value_goes}
use Rattle.format.proofs.Sheets.Targets.{target_append, target_faithful, target_goes, target_stood, target_reads}

-- ---- the series

targets_valid : (f : Form) (ts : List Target) (w : List ℕ) → Bytes (flat_all target_bytes ts ++ w)
    → Along id_of_target target_bytes (ReadsAt (is TG) id_of_target (target_at f) target_bytes) [] ts w → Together id_of_target (TargetValid f) ts
targets_valid f ts w b h =
    along_together (is TG) id_of_target (target_at f) target_bytes (TargetValid f) (λ seen t w b' r. let g = target_stood f seen t w b' r in (g.new, g.valid)) ts w b h

-- what follows a target is no `TI`
no_value : (t : Target) (w : List ℕ) → Stops (is TI) (target_bytes t ++ w)
no_value t w = rw target_append refl

targets_read : (f : Form) (ts : List Target) (w : List ℕ) → length (flat_all target_bytes ts) ≤ 65536 → Stops (is TI) w → Together id_of_target (TargetValid f) ts
    → Along id_of_target target_bytes (ReadsAt (is TG) id_of_target (target_at f) target_bytes) [] ts w
targets_read f ts w n g h =
    free_along (is TG) id_of_target (target_at f) target_bytes (λ t. TargetValid f t × (length (target_bytes t) ≤ 65536)) (Stops (is TI)) no_value
    (λ seen t w e z k. target_reads f seen t w (record { new = e; valid = k.0 }) k.1 z) ts w g
    (record { once = h.once; each = all_sized (TargetValid f) target_bytes 65536 ts n h.each })

-- ---- a part

series_bytes : (ts : List Target) → part_bytes (targets ts) ≡ TS.0 ∷ TS.1 ∷ flat_all target_bytes ts
unfolding part_bytes
series_bytes ts = refl

abbrev PartRead : Form → List ℕ → Part → Type 0
PartRead f seen (one v) = ValRead set f seen v
PartRead f seen (targets ts) = Stands set f seen 101 true × PartValid f (targets ts)

some_targets : (ts : List Target) (w : List ℕ) → is TG (flat_all target_bytes ts ++ w) ≡ true → Stops (is TG) w → none? ts ≡ false
unfolding flat_all
some_targets [] [] m g = no_bool m
some_targets [] (x ∷ w) m g = no_bool (sym g ∙ m)
some_targets (t ∷ ts) w m g = refl

series_says : (f : Form) (seen s : List ℕ) (r : Got Part) → Bytes s → is TS s ≡ true → series_at f seen s ≡ ok r → Took (part_bytes r.val) s r.used × PartRead f seen r.val
unfolding series_at
series_says f seen s r b m e =
    need_then _ _ _ _ e λ tg e₁.
    bind_then _ _ _ e₁ λ u eu e₂.
    after_then _ _ _ _ e₂ λ ts ets e₃.
    let k = run_says (is TG) id_of_target (target_at f) target_bytes (target_faithful f) (drop 2 s) ts (bytes_drop 2 s b) ets in
    let z : s ≡ (TS.0 ∷ TS.1 ∷ flat_all target_bytes ts.val) ++ k.rest = mark_says TS s m ∙ ap (λ x. TS.0 ∷ TS.1 ∷ x) k.bytes in
    rw (← ok_inj _ _ e₃) (
      rw series_bytes (took_front (TS.0 ∷ TS.1 ∷ flat_all target_bytes ts.val) s k.rest (2 + ts.used) z (rw k.used_is (omega arith)) (omega arith)),
      (
        standing_says set f seen 101 true u eu,
        (some_targets ts.val k.rest (rw k.bytes at tg) k.stops, targets_valid f ts.val k.rest (rw k.bytes at (bytes_drop 2 s b)) k.along),
      ),
    )

part_says : (f : Form) (seen s : List ℕ) (r : Got Part) → Bytes s → part_at f seen s ≡ ok r → Took (part_bytes r.val) s r.used × PartRead f seen r.val
unfolding part_at part_bytes
part_says f seen s r b e = at_item (is IT s) refl
  where
    at_series : is IT s ≡ false → (c : Bool) → is TS s ≡ c → Took (part_bytes r.val) s r.used × PartRead f seen r.val
    at_series z true m = series_says f seen s r b m (rw (z, part_at, m, part_at) at e)
    at_series z false m = never 17 0 r (rw (z, part_at, m, part_at) at e)

    at_item : (c : Bool) → is IT s ≡ c → Took (part_bytes r.val) s r.used × PartRead f seen r.val
    at_item true m =
        bind_then _ _ _ (rw (m, part_at) at e) λ v ev e₁.
        rw (← ok_inj _ _ e₁) (value_says set f seen s v b m ev)
    at_item false m = at_series m (is TS s) refl

-- after a part stands another, or nothing: no `TI` and no `TG`
abbrev Between : List ℕ → Type 0
Between w = Stops (is TI) w × Stops (is TG) w

series_back : (f : Form) (seen : List ℕ) (ts : List Target) (w : List ℕ) → PartRead f seen (targets ts) → length (flat_all target_bytes ts) ≤ 65536 → Between w
    → series_at f seen (TS.0 ∷ TS.1 ∷ flat_all target_bytes ts ++ w) ≡ ok (got (targets ts) (2 + length (flat_all target_bytes ts)))
unfolding series_at ◌>>=◌ need after
series_back f seen ts w h n g =
    rw (
      first ts h.1.0,
      standing_gives set f seen 101 true h.0,
      run_back (is TG) id_of_target (target_at f) target_bytes ts w (targets_read f ts w n g.0 h.1.1) g.1,
    )
  where
    first : (ts : List Target) → none? ts ≡ false → is TG (flat_all target_bytes ts ++ w) ≡ true
    first [] e = no_bool (sym e)
    first (t ∷ ts) e = unfold flat_all in (rw append_assoc (target_goes t (flat_all target_bytes ts ++ w)))

part_back : (f : Form) (seen : List ℕ) (p : Part) (w : List ℕ) → PartRead f seen p → length (part_bytes p) ≤ 65536 → Between w
    → part_at f seen (part_bytes p ++ w) ≡ ok (got p (length (part_bytes p)))
unfolding part_at part_bytes ◌>>=◌
part_back f seen (one v) w h n g =
    let l : 2 + (4 + length v.value) ≤ 65536 = rw length_val at n in
    rw (value_goes set v w, part_at, value_back set f seen v w h (omega arith))
part_back f seen (targets ts) w h n g =
    let e : 2 + length (flat_all target_bytes ts) ≡ length (TS.0 ∷ TS.1 ∷ flat_all target_bytes ts) = omega arith in
    series_back f seen ts w h (omega (arith, n)) g ∙ ap (λ k. ok (got (targets ts) k)) e

next_part : (p : Part) (w : List ℕ) → Between (part_bytes p ++ w)
unfolding part_bytes val_bytes
next_part (one v) w = (refl, refl)
next_part (targets ts) w = (refl, refl)

part_some : (p : Part) → 0 < length (part_bytes p)
unfolding part_bytes val_bytes
part_some (one v) = omega arith
part_some (targets ts) = omega arith

-- ---- read and valid

part_valid : (f : Form) (seen : List ℕ) (p : Part) → PartRead f seen p → (has (tag_of_part p) seen ≡ false) × (may_begin set f (tag_of_part p) seen ≡ true) × PartValid f p
part_valid f seen (one v) h = (h.new, h.begins, h.valid)
part_valid f seen (targets ts) h = (h.0.new, h.0.begins, h.1)

valid_part : (f : Form) (seen : List ℕ) (p : Part) → has (tag_of_part p) seen ≡ false → may_begin set f (tag_of_part p) seen ≡ true → PartValid f p → PartRead f seen p
valid_part f seen (one v) n m h = record { new = n; begins = m; valid = h }
valid_part f seen (targets ts) n m h = (record { new = n; may_stand = set_stands f 101 true refl; begins = m }, h)

-- ---- the whole sheet

pub form_back : (f : Form) (s : List ℕ) → form_of (form_byte f ∷ s) ≡ ok f
form_back embedded s = refl
form_back standalone s = refl

form_says : (s : List ℕ) (f : Form) → form_of s ≡ ok f → s ≡ form_byte f ∷ drop 1 s
form_says [] f e = never 17 0 f e
form_says (zero ∷ s) f e = rw (← ok_inj _ _ e)
form_says (suc zero ∷ s) f e = rw (← ok_inj _ _ e)
form_says (suc (suc n) ∷ s) f e = never 17 0 f e

parts_read : (f : Form) (ps : List Part) → length (flat_all part_bytes ps) ≤ 65536 → Together tag_of_part (PartValid f) ps → Begins f (map tag_of_part ps)
    → Along tag_of_part part_bytes (ReadsAt always tag_of_part (part_at f) part_bytes) [] ps []
parts_read f ps n h b =
    together_along always tag_of_part (part_at f) part_bytes (λ p. PartValid f p × (length (part_bytes p) ≤ 65536)) (λ seen k. may_begin set f k seen ≡ true) Between (begin_later set f) next_part
    (λ seen p w e m z k. record { goes = refl; reads = part_back f seen p w (valid_part f seen p e m k.0) k.1 z; some = part_some p })
    ps [] (first f ps b) (tt, tt) (record { once = h.once; each = all_sized (PartValid f) part_bytes 65536 ps n h.each })
  where
    first : (f : Form) (ps : List Part) → Begins f (map tag_of_part ps) → First tag_of_part part_bytes (λ seen k. may_begin set f k seen ≡ true) [] ps
    first embedded [] b = tt
    first embedded (p ∷ ps) b = begin_embedded (tag_of_part p) []
    first standalone [] b = tt
    first standalone (p ∷ ps) b = rw b (begin_two [])

not_empty : (f : Form) (ps : List Part) → Begins f (map tag_of_part ps) → not (is_alone f) || not (none? ps) ≡ true
not_empty embedded ps b = refl
not_empty standalone [] b = absurd b
not_empty standalone (p ∷ ps) b = refl

-- a valid sheet is read back from its bytes
pub sheet_back : (t : Sheet) → SheetValid t → unsheet (sheet_bytes t) ≡ ok t
unfolding unsheet sheet_limit sheet_bytes ◌>>=◌ need after
sheet_back t h =
    let ps : List ℕ = flat_all part_bytes t.parts in
    let l : leb (length (sheet_bytes t)) 65536 ≡ true = le-leb (length (sheet_bytes t)) 65536 h.small in
    let n : length ps ≤ 65536 = omega (arith, h.small) in
    let a = parts_read t.form t.parts n h.parts_valid h.begins in
    rw (l, form_back t.form ps, all_back tag_of_part (part_at t.form) part_bytes t.parts a, not_empty t.form t.parts h.begins)

parts_begin : (f : Form) (ps : List Part) → not (is_alone f) || not (none? ps) ≡ true → Along tag_of_part part_bytes (λ seen p w. PartRead f seen p) [] ps [] → Begins f (map tag_of_part ps)
parts_begin embedded ps n h = tt
parts_begin standalone [] n h = no_bool n
parts_begin standalone (p ∷ ps) n h = begins_two (tag_of_part p) (part_valid standalone [] p h.0).1

part_faithful : (f : Form) → Faithful always tag_of_part (part_at f) part_bytes
part_faithful f seen s r b _ e = (part_says f seen s r b e).0

part_stood : (f : Form) (seen : List ℕ) (p : Part) (w : List ℕ) → Bytes (part_bytes p ++ w) → ReadsAt always tag_of_part (part_at f) part_bytes seen p w → PartRead f seen p
part_stood f seen p w b h = (part_says f seen (part_bytes p ++ w) (got p (length (part_bytes p))) b h.reads).1

sheet_bytes_lem : (f : Form) (b : List ℕ) (ps : List Part) → is PK b ≡ true → form_of (drop 2 b) ≡ ok f → drop 3 b ≡ flat_all part_bytes ps
    → sheet_bytes (record { form = f; parts = ps }) ≡ b
unfolding sheet_bytes
sheet_bytes_lem f b ps m ef z =
    sym (mark_says PK b m ∙ ap (λ x. PK.0 ∷ PK.1 ∷ x) (form_says (drop 2 b) f ef ∙ ap (λ x. form_byte f ∷ x) (drop-drop 1 2 b ∙ z)))

sheet_whole : (f : Form) (b : List ℕ) (ps : Got (List Part)) → Bytes b → length b ≤ 65536 → is PK b ≡ true → form_of (drop 2 b) ≡ ok f
    → run always tag_of_part (part_at f) (drop 3 b) ≡ ok ps → not (is_alone f) || not (none? ps.val) ≡ true
    → (sheet_bytes (record { form = f; parts = ps.val }) ≡ b) × SheetValid (record { form = f; parts = ps.val })
sheet_whole f b ps h l m ef eps some =
    let ran = all_says tag_of_part (part_at f) part_bytes (part_faithful f) (drop 3 b) ps (bytes_drop 3 b h) eps in
    let fl : Bytes (flat_all part_bytes ps.val ++ []) = rw (append-nil (flat_all part_bytes ps.val)) (rw ran.bytes at (bytes_drop 3 b h)) in
    let z : sheet_bytes (record { form = f; parts = ps.val }) ≡ b = sheet_bytes_lem f b ps.val m ef ran.bytes in (
      z,
      record {
        small = rw z l;
        parts_valid = along_together always tag_of_part (part_at f) part_bytes (PartValid f)
            (λ seen p w b' r. let g = part_valid f seen p (part_stood f seen p w b' r) in (g.0, g.2)) ps.val [] fl ran.along;
        begins = parts_begin f ps.val some
            (along_map tag_of_part part_bytes _ (λ seen p w. PartRead f seen p) (part_stood f) [] ps.val [] fl ran.along);
      },
    )

pub sheet_says : (b : List ℕ) (t : Sheet) → Bytes b → unsheet b ≡ ok t → (sheet_bytes t ≡ b) × SheetValid t
unfolding unsheet sheet_limit
sheet_says b t h e =
    need_then _ _ _ _ e λ l e₁.
    need_then _ _ _ _ e₁ λ m e₂.
    bind_then _ _ _ e₂ λ f ef e₃.
    after_then _ _ _ _ e₃ λ ps eps e₄.
    after_need_then _ _ _ _ _ e₄ λ some e₅.
    rw (← ok_inj _ _ e₅) (sheet_whole f b ps h (leb-true (length b) 65536 l) m ef eps some)
