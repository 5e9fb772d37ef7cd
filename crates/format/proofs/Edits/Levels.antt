-- The level that an edit names, in a valid sheet: its tags stand once, and it ends as it must.
use mathlib.Core.Path.{◌≡◌, refl}
use Prim.Native.Nat.{ℕ}
use mathlib.Core.Bool.{true}
use mathlib.Core.List.{List, [], ◌∷◌, map}
use borrow.Author.Tests.{eq-eqb}
use Rattle.format.specs.Answer.{ok}
use Rattle.format.specs.Lists.{has}
use Rattle.format.specs.Table.{Form, embedded, standalone, set}
use Rattle.format.specs.Sheet.{Part, one, targets, Sheet, tag_of_val, id_of_target, tag_of_part}
use Rattle.format.specs.Edit.{Holder, the_set, target, level_of, is_targets, target_tags, tags_at, ending}
use Rattle.format.specs.Valid.{Once, Begins, TargetValid, PartValid, SheetValid}
use Rattle.format.proofs.Words.Answers.{never, need_ok, ok_inj}
use Rattle.format.proofs.Words.Firsts.{First, first_all, ask_then, keyed}

-- a standalone set that begins with tag 2 has it
begins_has : (ks : List ℕ) → Begins standalone ks → has 2 ks ≡ true
unfolding has
begins_has [] b = absurd b
begins_has (k ∷ ks) b = rw (eq-eqb k 2 b)

pub begins_ending : (f : Form) (ks : List ℕ) → Begins f ks → ending f set ks ≡ ok tt
unfolding ending
begins_ending embedded ks b = need_ok _ 14 refl
begins_ending standalone ks b = need_ok _ 14 (begins_has ks b)

pub level_valid : (h : Holder) (s : Sheet) (tags : List ℕ) → SheetValid s → tags_at h s.parts ≡ ok tags → Once tags × (ending s.form (level_of h) tags ≡ ok tt)
unfolding tags_at target_tags ending
level_valid the_set s tags v e =
    let z : map tag_of_part s.parts ≡ tags = ok_inj _ _ e in
    rw (← z) (v.parts_valid.once, begins_ending s.form (map tag_of_part s.parts) v.begins)
level_valid (target i) s tags v e = ask_then is_targets (target_tags i) tags s.parts e λ r q. go r.before r.it r.after r.first q
  where
    go : (before : List Part) (x : Part) (after : List Part) → First is_targets s.parts before x after → target_tags i x ≡ ok tags
        → Once tags × (ending s.form (level_of (target i)) tags ≡ ok tt)
    go before (one x) after a q = never 18 0 tags q
    go before (targets ts) after a q =
        ask_then (keyed id_of_target i) (λ g. ok (map tag_of_val g.vals)) tags ts q λ r y.
        let g : TargetValid s.form r.it = first_all (TargetValid s.form) r.first (first_all (PartValid s.form) a v.parts_valid.each).1.each in
        let z : map tag_of_val r.it.vals ≡ tags = ok_inj _ _ y in
        rw (← z) (g.vals_valid.once, g.ends)
