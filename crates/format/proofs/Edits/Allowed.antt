-- What may be asked of a valid sheet is what the edit's rules let through: the changes are distinct where each may follow those before it,
-- and the level ends as it must where a valid sheet is left.
use mathlib.Core.Path.{◌≡◌, refl, sym, ap, ◌∙◌, subst}
use Prim.Native.Nat.{ℕ}
use native.Mathlib.Omega.{arith}
use mathlib.Core.Bool.{true, not}
use mathlib.Core.List.{List, [], ◌∷◌, map}
use borrow.Author.Tests.{not-true}
use Rattle.format.specs.Answer.{ok}
use Rattle.format.specs.Lists.{has, ask_hit, on_hit}
use Rattle.format.specs.Table.{Form, set, pack}
use Rattle.format.specs.Sheet.{Part, one, targets, Sheet, Target, tag_of_val, id_of_target, tag_of_part}
use Rattle.format.specs.Edit.{Holder, the_set, target, Changes, level_of, val_with, in_target, is_targets, in_part, edit_parts, edit_sheet, target_tags, tags_at, ending}
use Rattle.format.specs.Valid.{All, SheetValid}
use Rattle.format.specs.Demands.Demand3.{Asks, Distinct, Allowed}
use Rattle.format.proofs.Words.Answers.{never, no_bool, ok_inj}
use Rattle.format.proofs.Words.Keys.{Fresh, fresh_says, once_fresh}
use Rattle.format.proofs.Words.Firsts.{First, first_changed, first_hits, first_ask, ask_then, keyed}
use Rattle.format.proofs.Edits.Applied.{keys_after, applied_keys}
use Rattle.format.proofs.Edits.Rules.{Follows, Presents, Turned}
use Rattle.format.proofs.Edits.Levels.{level_valid}

-- ---- distinct changes

abbrev tags_of : Changes → List ℕ
tags_of cs = map (λ c. c.0) cs

follows_fresh : (i : ℕ) (before : List ℕ) (cs : Changes) → Follows (target i) before cs → Fresh before (tags_of cs)
follows_fresh i before [] h = tt
follows_fresh i before ((tag, c) ∷ cs) h = (not-true (has tag before) h.0, follows_fresh i (tag ∷ before) cs h.1)

fresh_follows : (i : ℕ) (before : List ℕ) (cs : Changes) → Fresh before (tags_of cs) → Follows (target i) before cs
fresh_follows i before [] h = tt
fresh_follows i before ((tag, c) ∷ cs) h = (ap not h.0, fresh_follows i (tag ∷ before) cs h.1)

follows_distinct : (h : Holder) (cs : Changes) → Follows h [] cs → Distinct h cs
follows_distinct the_set [] t = omega arith
follows_distinct the_set (c ∷ []) t = omega arith
follows_distinct the_set (c ∷ (d ∷ cs)) t = no_bool t.1.0
follows_distinct (target i) cs t = (fresh_says [] (tags_of cs) (follows_fresh i [] cs t)).0

pub distinct_follows : (h : Holder) (cs : Changes) → Distinct h cs → Follows h [] cs
distinct_follows the_set [] t = tt
distinct_follows the_set (c ∷ []) t = (refl, tt)
distinct_follows the_set (c ∷ (d ∷ cs)) t = absurd (omega (arith, t))
distinct_follows (target i) cs t = fresh_follows i [] cs (once_fresh (tags_of cs) t)

-- ---- the tags of the edited level

in_target_tags : (cs : Changes) (g : Target) → map tag_of_val (in_target cs g).vals ≡ keys_after cs (map tag_of_val g.vals)
unfolding in_target
in_target_tags cs g = applied_keys tag_of_val (val_with pack) (λ tag v. unfold val_with in refl) cs g.vals

in_target_id : (cs : Changes) (g : Target) → (in_target cs g).id ≡ g.id
unfolding in_target
in_target_id cs g = refl

pub tags_after : (h : Holder) (cs : Changes) (ps : List Part) (tags : List ℕ) → tags_at h ps ≡ ok tags → tags_at h (edit_parts h cs ps) ≡ ok (keys_after cs tags)
unfolding tags_at target_tags edit_parts in_part
tags_after the_set cs ps tags e =
    ap ok (applied_keys tag_of_part (λ tag v. one (val_with set tag v)) (λ tag v. unfold val_with in refl) cs ps ∙ ap (keys_after cs) (ok_inj _ _ e))
tags_after (target i) cs ps tags e = ask_then is_targets (target_tags i) tags ps e λ r q. go r.before r.it r.after r.first q
  where
    in_series : (ts : List Target) → target_tags i (targets ts) ≡ ok tags → target_tags i (in_part i cs (targets ts)) ≡ ok (keys_after cs tags)
    in_series ts q =
        ask_then (keyed id_of_target i) (λ g. ok (map tag_of_val g.vals)) tags ts q λ r z.
        let hit : keyed id_of_target i (in_target cs r.it) ≡ true = ap (λ k. keyed (λ n. n) i k) (in_target_id cs r.it) ∙ first_hits r.first in
        first_ask (λ g. ok (map tag_of_val g.vals)) (first_changed (in_target cs) hit r.first)
        ∙ ap ok (in_target_tags cs r.it ∙ ap (keys_after cs) (ok_inj _ _ z))

    go : (before : List Part) (x : Part) (after : List Part) → First is_targets ps before x after → target_tags i x ≡ ok tags
        → ask_hit is_targets (target_tags i) (on_hit is_targets (in_part i cs) ps) ≡ ok (keys_after cs tags)
    go before (one x) after a q = never 18 0 tags q
    go before (targets ts) after a q = first_ask (target_tags i) (first_changed (in_part i cs) refl a) ∙ in_series ts q

-- ---- the two ways

module _ (f : Form) (h : Holder) (cs : Changes) (s : Sheet) (e : s.form ≡ f) (tags : List ℕ) where
  pub allowed_says : Turned s.form h [] cs tags → SheetValid (edit_sheet h cs s) → Allowed f h cs s
  allowed_says t w = record { each = subst (λ g. All (Asks g (level_of h)) cs) e t.asked; distinct = follows_distinct h cs t.follow; left = w }

  pub allowed_gives : tags_at h s.parts ≡ ok tags → Presents cs tags → Allowed f h cs s
      → Turned s.form h [] cs tags × (ending s.form (level_of h) (keys_after cs tags) ≡ ok tt)
  unfolding edit_sheet
  allowed_gives et pr a = (
    record { asked = subst (λ g. All (Asks g (level_of h)) cs) (sym e) a.each; follow = distinct_follows h cs a.distinct; present = pr },
    (level_valid h (edit_sheet h cs s) (keys_after cs tags) a.left (tags_after h cs s.parts tags et)).1,
  )
