-- A target added and dropped again: the old sheet, but for tag 6.
use mathlib.Core.Path.{◌≡◌, refl, sym, ap, ◌∙◌}
use Prim.Native.Nat.{ℕ}
use mathlib.Core.Bool.{true, false}
use mathlib.Core.List.{List, [], ◌∷◌, ◌++◌}
use lib.ListN.{length}
use borrow.Author.Tests.{eqb-true}
use Rattle.format.specs.Answer.{ok}
use Rattle.format.specs.Lists.{has, put_in, take_out}
use Rattle.format.specs.Table.{Form}
use Rattle.format.specs.Sheet.{Target, Part, one, targets, Sheet, id_of_target, tag_of_part}
use Rattle.format.specs.Targets.{added, dropped, moved, series_now, count_of, recounted, targets_in, change_parts, change_sheet, target_rules}
use Rattle.format.specs.Valid.{All, PartValid, SheetValid}
use Rattle.format.specs.Demands.Targets.{recounted_sheet}
use Rattle.format.proofs.Words.Answers.{no_bool, need_ok}
use Rattle.format.proofs.Words.Changes.{on_on, on_put, on_out}
use Rattle.format.proofs.Words.Firsts.{keyed, out_last, at_has}
use Rattle.format.proofs.Sheets.Normal.{sheet_path}
use Rattle.format.proofs.Series.Moves.{count_tag}
use Rattle.format.proofs.Series.Rules.{ids_of}
use Rattle.format.proofs.Series.Sheets.{parts_now, past_one, targets_now}

-- ---- tag 6

abbrev counted : ℕ → List Part → List Part
counted n ps = recounted tag_of_part one n ps

-- what is counted is not the series, and does not become it
count_apart : (n : ℕ) (p : Part) → keyed tag_of_part 6 p ≡ true → (keyed tag_of_part 101 p ≡ false) × (keyed tag_of_part 101 (one (count_of n)) ≡ false)
count_apart n p z = (rw (eqb-true (tag_of_part p) 6 z), rw (count_tag n))

-- counted anew, the last count stands
counted_twice : (m n : ℕ) (ps : List Part) → counted n (counted m ps) ≡ counted n ps
unfolding recounted
counted_twice m n ps = on_on (keyed tag_of_part 6) (λ p. one (count_of m)) (λ p. one (count_of n)) (λ p. one (count_of n)) (λ p z. rw (count_tag m)) (λ p. refl) ps

-- the count and the series do not meet
counted_series : (n : ℕ) (ts : List Target) (ps : List Part) → counted n (parts_now ts ps) ≡ parts_now ts (counted n ps)
unfolding recounted series_now
counted_series n [] ps = on_out (keyed tag_of_part 6) (keyed tag_of_part 101) (λ p. one (count_of n)) (count_apart n) ps
counted_series n (t ∷ ts) ps = on_put (keyed tag_of_part 6) (keyed tag_of_part 101) (λ p. one (count_of n)) (count_apart n) (targets (t ∷ ts)) refl ps

-- ---- the series: one target more, or that target alone, and the old targets again

series_back : (f : Form) (t : Target) (ps : List Part) → All (PartValid f) ps → parts_now (targets_in ps) (parts_now (targets_in ps ++ (t ∷ [])) ps) ≡ ps
unfolding series_now put_in take_out targets_in
series_back f t [] h = refl
series_back f t (one v ∷ ps) h =
    let ts : List Target = targets_in ps in
    ap (parts_now ts) (past_one f (ts ++ (t ∷ [])) v ps h.0) ∙ past_one f ts v _ h.0 ∙ ap (λ r. one v ∷ r) (series_back f t ps h.1)
series_back f t (targets [] ∷ ps) h = no_bool (sym h.0.0)
series_back f t (targets (u ∷ us) ∷ ps) h = refl

-- ---- both, on a sheet

module _ (t : Target) (s : Sheet) (v : SheetValid s) where
  pub back_rules : target_rules (dropped t.id) (change_sheet (added t) s) ≡ ok tt
  unfolding target_rules moved
  back_rules = need_ok _ 18 (at_has id_of_target t.id {before = targets_in s.parts} {after = []} (record { parts = targets_now (added t) s v; key_is = refl }))

  pub back_sheet : has t.id (ids_of s) ≡ false → change_sheet (dropped t.id) (change_sheet (added t) s) ≡ recounted_sheet s
  unfolding change_sheet change_parts moved
  back_sheet n =
      let ps : List Part = s.parts in
      let ts : List Target = targets_in ps in
      let more : List Target = ts ++ (t ∷ []) in
      let now : List Part = counted (length more) (parts_now more ps) in
      let e : take_out (keyed id_of_target t.id) (targets_in now) ≡ ts
      = ap (take_out (keyed id_of_target t.id)) (targets_now (added t) s v) ∙ out_last id_of_target t.id t refl ts n in
      sheet_path _ _ _ _ refl
      (ap (λ us. counted (length us) (parts_now us now)) e
      ∙ ap (counted (length ts)) (sym (counted_series (length more) ts (parts_now more ps)))
      ∙ counted_twice (length more) (length ts) _
      ∙ ap (counted (length ts)) (series_back s.form t ps v.parts_valid.each))
