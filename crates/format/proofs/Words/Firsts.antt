-- The first thing that a test hits, with what stands before it and after it; and what one change makes of the list.
use mathlib.Core.Path.{◌≡◌, refl, sym, ap, ◌∙◌}
use Prim.Native.Nat.{ℕ}
use mathlib.Core.Bool.{Bool, true, false}
use mathlib.Core.List.{List, [], ◌∷◌, ◌++◌, map}
use mathlib.Core.Logic.{◌⊎◌, inl, inr}
use lib.Dec.{eqb}
use borrow.Author.Tests.{eqb-true, eq-eqb, ne_eqb}
use Rattle.format.specs.Answer.{Ans, ok, refused}
use Rattle.format.specs.Lists.{has, put_in, take_out, on_hit, ask_hit}
use Rattle.format.specs.Valid.{All, Once}
use Rattle.format.specs.Demands.Kept.{At}
use Rattle.format.proofs.Words.Answers.{no_bool, never, or_right}
use Rattle.format.proofs.Words.Keys.{has_not, has_none}

pub data First {X : Type 0} (hit : X → Bool) : List X → List X → X → List X → Type 0 where
  here : {x : X} {after : List X} → hit x ≡ true → First hit (x ∷ after) [] x after
  there : {y x : X} {xs before after : List X} → hit y ≡ false → First hit xs before x after → First hit (y ∷ xs) (y ∷ before) x after

module _ {X : Type 0} {hit : X → Bool} where
  pub first_parts : {xs before after : List X} {x : X} → First hit xs before x after → xs ≡ before ++ (x ∷ after)
  first_parts (here z) = refl
  first_parts (there {y = y} z r) = ap (λ l. y ∷ l) (first_parts r)

  pub first_hits : {xs before after : List X} {x : X} → First hit xs before x after → hit x ≡ true
  first_hits (here z) = z
  first_hits (there z r) = first_hits r

  pub first_all : (P : X → Type 0) {xs before after : List X} {x : X} → First hit xs before x after → All P xs → P x
  first_all P (here z) h = h.0
  first_all P (there z r) h = first_all P r h.1

  pub first_put : (new : X) {xs before after : List X} {x : X} → First hit xs before x after → put_in hit new xs ≡ before ++ (new ∷ after)
  unfolding put_in
  first_put new (here z) = rw (z, put_in)
  first_put new (there {y = y} z r) = rw (z, put_in) (ap (λ l. y ∷ l) (first_put new r))

  pub first_out : {xs before after : List X} {x : X} → First hit xs before x after → take_out hit xs ≡ before ++ after
  unfolding take_out
  first_out (here z) = rw (z, take_out)
  first_out (there {y = y} z r) = rw (z, take_out) (ap (λ l. y ∷ l) (first_out r))

  pub first_on : (f : X → X) {xs before after : List X} {x : X} → First hit xs before x after → on_hit hit f xs ≡ before ++ (f x ∷ after)
  unfolding on_hit
  first_on f (here z) = rw (z, on_hit)
  first_on f (there {y = y} z r) = rw (z, on_hit) (ap (λ l. y ∷ l) (first_on f r))

  -- what it is changed to is the first hit, if it is one
  pub first_changed : (f : X → X) {xs before after : List X} {x : X} → hit (f x) ≡ true → First hit xs before x after → First hit (on_hit hit f xs) before (f x) after
  unfolding on_hit
  first_changed f e (here z) = rw (z, on_hit) (here e)
  first_changed f e (there z r) = rw (z, on_hit) (there z (first_changed f e r))

  pub first_ask : {A : Type 0} (f : X → Ans A) {xs before after : List X} {x : X} → First hit xs before x after → ask_hit hit f xs ≡ f x
  unfolding ask_hit
  first_ask f (here z) = rw (z, ask_hit)
  first_ask f (there z r) = rw (z, ask_hit) (first_ask f r)

-- another test that hits it, and nothing new before it
pub first_as : {X : Type 0} {hit hit' : X → Bool} → ((y : X) → hit y ≡ false → hit' y ≡ false) → {xs before after : List X} {x : X} → hit' x ≡ true
    → First hit xs before x after → First hit' xs before x after
first_as less e (here z) = here e
first_as less e (there {y = y} z r) = there (less y z) (first_as less e r)

module _ {X : Type 0} (hit : X → Bool) where
  -- the first hit of a list, wherever it stands
  pub record Hit (xs : List X) : Type 0 where
    pub before : List X
    pub it : X
    pub after : List X
    pub first : First hit xs before it after

  pub found : (xs : List X) → Hit xs ⊎ All (λ x. hit x ≡ false) xs
  found [] = inr tt
  found (y ∷ ys) = go (found ys) (hit y) refl
    where
      go : Hit ys ⊎ All (λ x. hit x ≡ false) ys → (b : Bool) → hit y ≡ b → Hit (y ∷ ys) ⊎ All (λ x. hit x ≡ false) (y ∷ ys)
      go ih true z = inl (record { before = []; it = y; after = ys; first = here z })
      go (inl r) false z = inl (record { before = y ∷ r.before; it = r.it; after = r.after; first = there z r.first })
      go (inr n) false z = inr (z, n)

  none_ask : {A : Type 0} (f : X → Ans A) (xs : List X) → All (λ x. hit x ≡ false) xs → ask_hit hit f xs ≡ refused 18 0
  unfolding ask_hit
  none_ask f [] n = refl
  none_ask f (x ∷ xs) n = rw (n.0, ask_hit) (none_ask f xs n.1)

  pub ask_then : {A Z : Type 0} (f : X → Ans A) (a : A) (xs : List X) → ask_hit hit f xs ≡ ok a → ((r : Hit xs) → f r.it ≡ ok a → Z) → Z
  ask_then {A = A} {Z = Z} f a xs e k = go (found xs)
    where
      go : Hit xs ⊎ All (λ x. hit x ≡ false) xs → Z
      go (inl r) = k r (sym (first_ask f r.first) ∙ e)
      go (inr n) = never 18 0 a (sym (none_ask f xs n) ∙ e)

-- ---- by a key

module _ {X : Type 0} (key : X → ℕ) (k : ℕ) where
  abbrev pub keyed : X → Bool
  keyed x = eqb (key x) k

  pub none_put : (new : X) (xs : List X) → has k (map key xs) ≡ false → put_in keyed new xs ≡ xs ++ (new ∷ [])
  unfolding put_in
  none_put new [] n = refl
  none_put new (x ∷ xs) n =
      let (a, b) = has_none (key x) k (map key xs) n in
      rw (a, put_in) (ap (λ l. x ∷ l) (none_put new xs b))

  pub none_on : (f : X → X) (xs : List X) → has k (map key xs) ≡ false → on_hit keyed f xs ≡ xs
  unfolding on_hit
  none_on f [] n = refl
  none_on f (x ∷ xs) n =
      let (a, b) = has_none (key x) k (map key xs) n in
      rw (a, on_hit) (ap (λ l. x ∷ l) (none_on f xs b))

  -- the only one with the key, at the end, taken out again
  pub out_last : (y : X) → key y ≡ k → (xs : List X) → has k (map key xs) ≡ false → take_out keyed (xs ++ (y ∷ [])) ≡ xs
  unfolding take_out
  out_last y e [] n = rw (eq-eqb (key y) k e, take_out)
  out_last y e (x ∷ xs) n =
      let (a, b) = has_none (key x) k (map key xs) n in
      rw (a, take_out) (ap (λ l. x ∷ l) (out_last y e xs b))

  pub none_has : (xs : List X) → All (λ x. keyed x ≡ false) xs → has k (map key xs) ≡ false
  none_has [] n = unfold has in refl
  none_has (x ∷ xs) n = has_not (key x) k (map key xs) n.0 (none_has xs n.1)

  -- a key that stands is somewhere hit
  pub has_hit : (xs : List X) → has k (map key xs) ≡ true → Hit keyed xs
  has_hit xs e = go (found keyed xs)
    where
      go : Hit keyed xs ⊎ All (λ x. keyed x ≡ false) xs → Hit keyed xs
      go (inl r) = r
      go (inr n) = no_bool (sym (none_has xs n) ∙ e)

  pub first_at : {xs before after : List X} {x : X} → First keyed xs before x after → At key k xs before x after
  first_at {x = x} r = record { parts = first_parts r; key_is = eqb-true (key x) k (first_hits r) }

  has_mid : (before : List X) (x : X) (after : List X) → key x ≡ k → has k (map key (before ++ (x ∷ after))) ≡ true
  unfolding has
  has_mid [] x after e = rw (eq-eqb (key x) k e)
  has_mid (y ∷ before) x after e = rw (has_mid before x after e) (or_right (eqb (key y) k))

  pub at_has : {xs before after : List X} {x : X} → At key k xs before x after → has k (map key xs) ≡ true
  at_has {before = before} {after} {x} r = rw r.parts (has_mid before x after r.key_is)

  -- where no key stands twice, the one with the key is the first with it
  mid_first : (before : List X) (x : X) (after : List X) → key x ≡ k → Once (map key (before ++ (x ∷ after))) → First keyed (before ++ (x ∷ after)) before x after
  mid_first [] x after e o = here (eq-eqb (key x) k e)
  mid_first (y ∷ before) x after e o =
      there
      (ne_eqb (key y) k λ z. no_bool (sym (rw z at o.0) ∙ has_mid before x after e))
      (mid_first before x after e o.1)

  pub at_first : {xs before after : List X} {x : X} → Once (map key xs) → At key k xs before x after → First keyed xs before x after
  at_first {before = before} {after} {x} o r =
      rw r.parts (mid_first before x after r.key_is (rw r.parts at o))
