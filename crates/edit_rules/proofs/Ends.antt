-- What two cuts leave of a level that stood right: 20 and 14, told by the cuts alone.
use mathlib.Core.Path.{◌≡◌, refl, sym, ap, ◌∙◌, subst}
use Prim.Native.Nat.{ℕ, ◌<◌}
use native.Mathlib.Omega.{arith}
use mathlib.Core.Bool.{Bool, true, false, not, ◌||◌}
use mathlib.Core.List.{List}
use lib.Dec.{eqb, ltb}
use borrow.Author.Tests.{eqb-true, not-true, not-false}
use Rattle.std.specs.Prelude.{Result, Err}
use Rattle.format.specs.Answer.{ok, refused, need}
use Rattle.format.specs.Lists.{has}
use Rattle.format.specs.Table.{Form, Level, embedded, standalone, is_alone, alike, ended}
use Rattle.format.specs.Edit.{ending}
use Rattle.format.proofs.Words.Answers.{no_bool, need_then, need_last}
use Rattle.coding.specs.declared.refusals.Refusal.{Refusal}
use Rattle.coding.specs.declared.refusals.Refusal.TheVariants.{HalfCentroid}
use Rattle.items.specs.Meet.{form_of, level_of, answered}
use Rattle.items.proofs.Tests.{need_so, need_not}
use Rattle.edit_rules.specs.declared.Cut.{Cut}
use Rattle.edit_rules.specs.Meet.{left_by, pair_of, parted_by, lost_by, EndsAs}

alike_same : (x y : Bool) → alike x y ≡ true → x ≡ y
alike_same true y e = sym e
alike_same false true e = no_bool e
alike_same false false e = refl

alike_self : (x : Bool) → alike x x ≡ true
alike_self true = refl
alike_self false = refl

-- a tag that is not cut
untouched : (c : Cut) (k : ℕ) (x : Bool) → eqb c.tag k ≡ false → left_by c k x ≡ x
untouched c k x e = rw (e, left_by)

-- ---- 14

-- what stood, and so stands by the cuts
stood_so : (f : Form) (stood : Bool) (g : Bool → Bool) → not (is_alone f) || stood ≡ true → not (is_alone f) || g true ≡ not (is_alone f) || g stood
stood_so embedded stood g e = refl
stood_so standalone stood g e = ap g (sym e)

module _ (f : Form) (a b : Cut) (tags left : List ℕ) (by : (k : ℕ) → 0 < k → has k left ≡ left_by b k (left_by a k (has k tags))) where
  lost_is : (k : ℕ) → 0 < k → not (is_alone f) || has k tags ≡ true → lost_by f a b k ≡ need (not (is_alone f) || has k left) 14
  lost_is k l e =
      ap (λ x. need x 14) (stood_so f (has k tags) (λ x. left_by b k (left_by a k x)) e ∙ ap (λ x. not (is_alone f) || x) (sym (by k l)))

  -- ---- 20

  module _ (same : has 19 tags ≡ has 20 tags) (sa : 0 < a.tag → has a.tag tags ≡ ltb a.at a.next) (sb : 0 < b.tag → has b.tag tags ≡ ltb b.at b.next) where
    -- one of the cuts has told it
    told : pair_of a b ≡ has 19 tags → parted_by a b ≡ not (alike (has 19 left) (has 20 left))
    told e = rw (by 19 (omega arith), by 20 (omega arith), e, ← same)

    first_19 : eqb a.tag 19 ≡ true → pair_of a b ≡ has 19 tags
    first_19 z = rw (z, pair_of) (let e = eqb-true a.tag 19 z in sym (sa (omega (arith, e))) ∙ ap (λ k. has k tags) e)

    first_20 : eqb a.tag 19 ≡ false → eqb a.tag 20 ≡ true → pair_of a b ≡ has 19 tags
    first_20 y z = rw (y, z, pair_of) (let e = eqb-true a.tag 20 z in sym (sa (omega (arith, e))) ∙ ap (λ k. has k tags) e ∙ sym same)

    second_19 : eqb a.tag 19 ≡ false → eqb a.tag 20 ≡ false → eqb b.tag 19 ≡ true → pair_of a b ≡ has 19 tags
    second_19 x y z = rw (x, y, pair_of) (let e = eqb-true b.tag 19 z in sym (sb (omega (arith, e))) ∙ ap (λ k. has k tags) e)

    second_20 : eqb a.tag 19 ≡ false → eqb a.tag 20 ≡ false → eqb b.tag 20 ≡ true → pair_of a b ≡ has 19 tags
    second_20 x y z = rw (x, y, pair_of) (let e = eqb-true b.tag 20 z in sym (sb (omega (arith, e))) ∙ ap (λ k. has k tags) e ∙ sym same)

    -- neither is cut
    neither : eqb a.tag 19 ≡ false → eqb a.tag 20 ≡ false → eqb b.tag 19 ≡ false → eqb b.tag 20 ≡ false → parted_by a b ≡ not (alike (has 19 left) (has 20 left))
    neither x y z u =
        let l₁ : has 19 left ≡ has 19 tags = by 19 (omega arith) ∙ untouched b 19 _ z ∙ untouched a 19 _ x in
        let l₂ : has 20 left ≡ has 20 tags = by 20 (omega arith) ∙ untouched b 20 _ u ∙ untouched a 20 _ y in
        let r₁ : left_by b 19 (left_by a 19 (pair_of a b)) ≡ pair_of a b = untouched b 19 _ z ∙ untouched a 19 _ x in
        let r₂ : left_by b 20 (left_by a 20 (pair_of a b)) ≡ pair_of a b = untouched b 20 _ u ∙ untouched a 20 _ y in
        ap not (ap (λ r. alike r (left_by b 20 (left_by a 20 (pair_of a b)))) r₁ ∙ ap (alike (pair_of a b)) r₂ ∙ alike_self (pair_of a b) ∙ sym (ap (λ r. alike r (has 20 left)) (l₁ ∙ same ∙ sym l₂) ∙ alike_self (has 20 left)))

    parted_is : parted_by a b ≡ not (alike (has 19 left) (has 20 left))
    parted_is = go (eqb a.tag 19) refl (eqb a.tag 20) refl (eqb b.tag 19) refl (eqb b.tag 20) refl
      where
        go : (x : Bool) → eqb a.tag 19 ≡ x → (y : Bool) → eqb a.tag 20 ≡ y → (z : Bool) → eqb b.tag 19 ≡ z → (u : Bool) → eqb b.tag 20 ≡ u → parted_by a b ≡ not (alike (has 19 left) (has 20 left))
        go true x y ey z ez u eu = told (first_19 x)
        go false x true ey z ez u eu = told (first_20 x ey)
        go false x false ey true ez u eu = told (second_19 x ey ez)
        go false x false ey false ez true eu = told (second_20 x ey eu)
        go false x false ey false ez false eu = neither x ey ez eu

    -- 14 after 20
    pack_ends : not (is_alone f) || has 17 tags ≡ true → (parted_by a b ≡ true → refused 20 0 ≡ ended f left) × (parted_by a b ≡ false → lost_by f a b 17 ≡ ended f left)
    unfolding ended
    pack_ends e = (
      λ z. sym (need_not _ _ _ (not-true _ (sym parted_is ∙ z))),
      λ z. lost_is 17 (omega arith) e ∙ sym (need_so _ _ _ (not-false _ (sym parted_is ∙ z))),
    )

-- ---- by the level

stood_pack : (f : Form) (tags : List ℕ) → ended f tags ≡ ok tt → (has 19 tags ≡ has 20 tags) × (not (is_alone f) || has 17 tags ≡ true)
unfolding ended
stood_pack f tags e = need_then _ _ _ _ e λ p e₁. (alike_same (has 19 tags) (has 20 tags) p, need_last _ _ _ e₁)

module _ (f : Form) (a b : Cut) where
  pub set_end : {b' : Bool} → b' ≡ true → (r : Result (Unit {0}) Refusal) → answered r ≡ lost_by f a b 2 → EndsAs f (level_of b') a b r
  unfolding ending
  set_end eb r er tags left st sa sb by = rw eb (er ∙ lost_is f a b tags left by 2 (omega arith) (need_last _ _ _ (rw eb at st)))

  module _ {b' : Bool} (eb : b' ≡ false) {x : Bool} (ex : x ≡ parted_by a b) where
    pub pack_parts : x ≡ true → EndsAs f (level_of b') a b (Err HalfCentroid)
    unfolding ending
    pack_parts z tags left st sa sb by = let (e, l) = stood_pack f tags (rw eb at st) in rw eb ((pack_ends f a b tags left by e sa sb l).0 (sym ex ∙ z))

    pub pack_stays : x ≡ false → (r : Result (Unit {0}) Refusal) → answered r ≡ lost_by f a b 17 → EndsAs f (level_of b') a b r
    unfolding ending
    pack_stays z r er tags left st sa sb by = let (e, l) = stood_pack f tags (rw eb at st) in rw eb (er ∙ (pack_ends f a b tags left by e sa sb l).1 (sym ex ∙ z))

-- by cuts that are these
pub ends_by : (f : Form) (l : Level) (r : Result (Unit {0}) Refusal) {a a' b b' : Cut} → a ≡ a' → b ≡ b' → EndsAs f l a b r → EndsAs f l a' b' r
ends_by f l r {a = a} {b' = b'} ea eb e = subst (λ x. EndsAs f l x b' r) ea (subst (λ y. EndsAs f l a y r) eb e)

-- ---- as the code asks it

module _ (a b : Cut) (tag : ℕ) (alone : Bool) where
  pub lost_none : alone ≡ false → ok tt ≡ lost_by (form_of alone) a b tag
  unfolding need
  lost_none e = rw e

  module _ (e : alone ≡ true) {x : Bool} (ex : x ≡ left_by a tag true) {y : Bool} (ey : y ≡ left_by b tag x) where
    pub lost_kept : y ≡ true → ok tt ≡ lost_by (form_of alone) a b tag
    unfolding need
    lost_kept z = rw e (ap (λ w. need w 14) (sym z ∙ ey ∙ ap (left_by b tag) ex))

    pub lost_gone : y ≡ false → refused 14 0 ≡ lost_by (form_of alone) a b tag
    unfolding need
    lost_gone z = rw e (ap (λ w. need w 14) (sym z ∙ ey ∙ ap (left_by b tag) ex))
