-- Laws of one change to a list, for anything that the list holds.
use mathlib.Core.Path.{◌≡◌, refl, sym, ap, ◌∙◌}
use Prim.Native.Nat.{ℕ}
use mathlib.Core.Bool.{Bool, true, false}
use mathlib.Core.List.{List, [], ◌∷◌, map}
use lib.Dec.{eqb}
use borrow.Author.Tests.{eqb-true, eq-eqb}
use Rattle.format.specs.Answer.{Ans}
use Rattle.format.specs.Lists.{has, put_in, take_out, on_hit, ask_hit}
use Rattle.format.specs.Edit.{Change, put, remove, changed}
use Rattle.format.specs.Valid.{All, Once}
use Rattle.format.proofs.Words.Answers.{no_bool, or_mono}
use Rattle.format.proofs.Words.Keys.{flip, has_not, has_none}

-- ---- a change and a map

module _ {X Y : Type 0} (g : X → Y) (hit : X → Bool) (hit' : Y → Bool) (same : (x : X) → hit' (g x) ≡ hit x) where
  pub map_put : (x : X) (xs : List X) → map g (put_in hit x xs) ≡ put_in hit' (g x) (map g xs)
  unfolding put_in
  map_put x [] = refl
  map_put x (y ∷ ys) = go (map_put x ys) (hit y) refl
    where
      go : map g (put_in hit x ys) ≡ put_in hit' (g x) (map g ys) → (b : Bool) → hit y ≡ b → map g (put_in hit x (y ∷ ys)) ≡ put_in hit' (g x) (g y ∷ map g ys)
      go ih true z = rw (same y, z, put_in)
      go ih false z = rw (same y, z, put_in) (ap (λ r. g y ∷ r) ih)

  pub map_out : (xs : List X) → map g (take_out hit xs) ≡ take_out hit' (map g xs)
  unfolding take_out
  map_out [] = refl
  map_out (y ∷ ys) = go (map_out ys) (hit y) refl
    where
      go : map g (take_out hit ys) ≡ take_out hit' (map g ys) → (b : Bool) → hit y ≡ b → map g (take_out hit (y ∷ ys)) ≡ take_out hit' (g y ∷ map g ys)
      go ih true z = rw (same y, z, take_out)
      go ih false z = rw (same y, z, take_out) (ap (λ r. g y ∷ r) ih)

  pub map_on : (f : X → X) (f' : Y → Y) → ((x : X) → g (f x) ≡ f' (g x)) → (xs : List X) → map g (on_hit hit f xs) ≡ on_hit hit' f' (map g xs)
  unfolding on_hit
  map_on f f' e [] = refl
  map_on f f' e (y ∷ ys) = go (map_on f f' e ys) (hit y) refl
    where
      go : map g (on_hit hit f ys) ≡ on_hit hit' f' (map g ys) → (b : Bool) → hit y ≡ b → map g (on_hit hit f (y ∷ ys)) ≡ on_hit hit' f' (g y ∷ map g ys)
      go ih true z = rw (same y, z, on_hit) (ap (λ r. r ∷ map g ys) (e y))
      go ih false z = rw (same y, z, on_hit) (ap (λ r. g y ∷ r) ih)

  pub map_ask : {A : Type 0} (f : Y → Ans A) (xs : List X) → ask_hit hit' f (map g xs) ≡ ask_hit hit (λ x. f (g x)) xs
  unfolding ask_hit
  map_ask f [] = refl
  map_ask f (y ∷ ys) = go (map_ask f ys) (hit y) refl
    where
      go : ask_hit hit' f (map g ys) ≡ ask_hit hit (λ x. f (g x)) ys → (b : Bool) → hit y ≡ b → ask_hit hit' f (g y ∷ map g ys) ≡ ask_hit hit (λ x. f (g x)) (y ∷ ys)
      go ih true z = rw (same y, z, ask_hit)
      go ih false z = rw (same y, z, ask_hit) ih

-- ---- a change after a change in the same place

pub on_on : {X : Type 0} (hit : X → Bool) (f g k : X → X) → ((x : X) → hit x ≡ true → hit (f x) ≡ true) → ((x : X) → g (f x) ≡ k x) → (xs : List X) → on_hit hit g (on_hit hit f xs) ≡ on_hit hit k xs
unfolding on_hit
on_on hit f g k stays e [] = refl
on_on hit f g k stays e (y ∷ ys) = go (on_on hit f g k stays e ys) (hit y) refl
  where
    go : on_hit hit g (on_hit hit f ys) ≡ on_hit hit k ys → (b : Bool) → hit y ≡ b → on_hit hit g (on_hit hit f (y ∷ ys)) ≡ on_hit hit k (y ∷ ys)
    go ih true z = rw (z, on_hit, stays y z, on_hit) (ap (λ x. x ∷ ys) (e y))
    go ih false z = rw (z, on_hit, z, on_hit) (ap (λ r. y ∷ r) ih)

-- ---- changes in two places do not meet: what the one test hits, before its change and after, the other does not

module _ {X : Type 0} (hit hit' : X → Bool) (f : X → X) (apart : (x : X) → hit x ≡ true → (hit' x ≡ false) × (hit' (f x) ≡ false)) where
  pub on_put : (x : X) → hit x ≡ false → (xs : List X) → on_hit hit f (put_in hit' x xs) ≡ put_in hit' x (on_hit hit f xs)
  unfolding on_hit put_in
  on_put x n [] = rw (n, on_hit)
  on_put x n (y ∷ ys) = go (on_put x n ys) (hit y) refl (hit' y) refl
    where
      go : on_hit hit f (put_in hit' x ys) ≡ put_in hit' x (on_hit hit f ys) → (b : Bool) → hit y ≡ b → (c : Bool) → hit' y ≡ c
          → on_hit hit f (put_in hit' x (y ∷ ys)) ≡ put_in hit' x (on_hit hit f (y ∷ ys))
      go ih true z c w = rw ((apart y z).0, put_in, z, on_hit, (apart y z).1, put_in)
      go ih false z true w = rw (w, put_in, n, on_hit, z, on_hit, w, put_in)
      go ih false z false w = rw (w, put_in, z, on_hit, w, put_in) (ap (λ r. y ∷ r) ih)

  pub on_out : (xs : List X) → on_hit hit f (take_out hit' xs) ≡ take_out hit' (on_hit hit f xs)
  unfolding on_hit take_out
  on_out [] = refl
  on_out (y ∷ ys) = go (on_out ys) (hit y) refl (hit' y) refl
    where
      go : on_hit hit f (take_out hit' ys) ≡ take_out hit' (on_hit hit f ys) → (b : Bool) → hit y ≡ b → (c : Bool) → hit' y ≡ c
          → on_hit hit f (take_out hit' (y ∷ ys)) ≡ take_out hit' (on_hit hit f (y ∷ ys))
      go ih true z c w = rw ((apart y z).0, take_out, z, on_hit, (apart y z).1, take_out)
      go ih false z true w = rw (w, take_out, z, on_hit, w, take_out)
      go ih false z false w = rw (w, take_out, z, on_hit, w, take_out) (ap (λ r. y ∷ r) ih)

-- ---- a change and what holds of each

module _ {X : Type 0} (P : X → Type 0) (hit : X → Bool) where
  pub all_put : (y : X) → P y → (xs : List X) → All P xs → All P (put_in hit y xs)
  unfolding put_in
  all_put y p [] h = (p, tt)
  all_put y p (x ∷ xs) h = go (all_put y p xs h.1) (hit x) refl
    where
      go : All P (put_in hit y xs) → (b : Bool) → hit x ≡ b → All P (put_in hit y (x ∷ xs))
      go ih true z = rw (z, put_in) (p, h.1)
      go ih false z = rw (z, put_in) (h.0, ih)

  pub all_out : (xs : List X) → All P xs → All P (take_out hit xs)
  unfolding take_out
  all_out [] h = tt
  all_out (x ∷ xs) h = go (all_out xs h.1) (hit x) refl
    where
      go : All P (take_out hit xs) → (b : Bool) → hit x ≡ b → All P (take_out hit (x ∷ xs))
      go ih true z = rw (z, take_out) h.1
      go ih false z = rw (z, take_out) (h.0, ih)

  pub all_on : (f : X → X) → ((x : X) → P (f x)) → (xs : List X) → All P xs → All P (on_hit hit f xs)
  unfolding on_hit
  all_on f p [] h = tt
  all_on f p (x ∷ xs) h = go (all_on f p xs h.1) (hit x) refl
    where
      go : All P (on_hit hit f xs) → (b : Bool) → hit x ≡ b → All P (on_hit hit f (x ∷ xs))
      go ih true z = rw (z, on_hit) (p x, h.1)
      go ih false z = rw (z, on_hit) (h.0, ih)

-- ---- a change and the keys

pub keys_on : {X : Type 0} (key : X → ℕ) (hit : X → Bool) (f : X → X) → ((x : X) → hit x ≡ true → key (f x) ≡ key x) → (xs : List X) → map key (on_hit hit f xs) ≡ map key xs
unfolding on_hit
keys_on key hit f e [] = refl
keys_on key hit f e (x ∷ xs) = go (keys_on key hit f e xs) (hit x) refl
  where
    go : map key (on_hit hit f xs) ≡ map key xs → (b : Bool) → hit x ≡ b → map key (on_hit hit f (x ∷ xs)) ≡ key x ∷ map key xs
    go ih true z = rw (z, on_hit) (ap (λ k. k ∷ map key xs) (e x z))
    go ih false z = rw (z, on_hit) (ap (λ r. key x ∷ r) ih)

module _ (t : ℕ) where
  -- t put among keys, and t taken out
  abbrev pub put_key : List ℕ → List ℕ
  put_key ks = put_in (λ k. eqb k t) t ks

  abbrev pub out_key : List ℕ → List ℕ
  out_key ks = take_out (λ k. eqb k t) ks

  put_not : (j : ℕ) → eqb t j ≡ false → (ks : List ℕ) → has j ks ≡ false → has j (put_key ks) ≡ false
  unfolding put_in
  put_not j n [] h = has_not t j [] n h
  put_not j n (k ∷ ks) h = go (put_not j n ks (has_none k j ks h).1) (eqb k t) refl
    where
      go : has j (put_key ks) ≡ false → (b : Bool) → eqb k t ≡ b → has j (put_key (k ∷ ks)) ≡ false
      go ih true z = rw (z, put_in) (has_not t j ks n (has_none k j ks h).1)
      go ih false z = rw (z, put_in) (has_not k j (put_key ks) (has_none k j ks h).0 ih)

  once_put : (ks : List ℕ) → Once ks → Once (put_key ks)
  unfolding put_in
  once_put [] h = (unfold has in refl, tt)
  once_put (k ∷ ks) h = go (once_put ks h.1) (eqb k t) refl
    where
      go : Once (put_key ks) → (b : Bool) → eqb k t ≡ b → Once (put_key (k ∷ ks))
      go ih true z = rw (z, put_in) (rw (eqb-true k t z) at h.0, h.1)
      go ih false z = rw (z, put_in) (put_not k (flip k t z) ks h.0, ih)

  out_not : (j : ℕ) (ks : List ℕ) → has j ks ≡ false → has j (out_key ks) ≡ false
  unfolding take_out
  out_not j [] h = h
  out_not j (k ∷ ks) h = go (out_not j ks (has_none k j ks h).1) (eqb k t) refl
    where
      go : has j (out_key ks) ≡ false → (b : Bool) → eqb k t ≡ b → has j (out_key (k ∷ ks)) ≡ false
      go ih true z = rw (z, take_out) (has_none k j ks h).1
      go ih false z = rw (z, take_out) (has_not k j (out_key ks) (has_none k j ks h).0 ih)

  once_out : (ks : List ℕ) → Once ks → Once (out_key ks)
  unfolding take_out
  once_out [] h = tt
  once_out (k ∷ ks) h = go (once_out ks h.1) (eqb k t) refl
    where
      go : Once (out_key ks) → (b : Bool) → eqb k t ≡ b → Once (out_key (k ∷ ks))
      go ih true z = rw (z, take_out) h.1
      go ih false z = rw (z, take_out) (out_not k ks h.0, ih)

  -- ---- a key that stands goes on to stand

  has_put : (j : ℕ) (ks : List ℕ) → has j ks ≡ true → has j (put_key ks) ≡ true
  unfolding put_in has
  has_put j [] e = no_bool e
  has_put j (k ∷ ks) e = go (has_put j ks) (eqb k t) refl
    where
      go : (has j ks ≡ true → has j (put_key ks) ≡ true) → (b : Bool) → eqb k t ≡ b → has j (put_key (k ∷ ks)) ≡ true
      go ih true z = rw (z, put_in) (rw (eqb-true k t z) at e)
      go ih false z = rw (z, put_in) (or_mono (eqb k j) (has j ks) (has j (put_key ks)) ih e)

  has_out : (j : ℕ) → eqb t j ≡ false → (ks : List ℕ) → has j ks ≡ true → has j (out_key ks) ≡ true
  unfolding take_out has
  has_out j n [] e = e
  has_out j n (k ∷ ks) e = go (has_out j n ks) (eqb k t) refl
    where
      go : (has j ks ≡ true → has j (out_key ks) ≡ true) → (b : Bool) → eqb k t ≡ b → has j (out_key (k ∷ ks)) ≡ true
      go ih true z = rw (z, take_out) (rw (eqb-true k t z, n) at e)
      go ih false z = rw (z, take_out) (or_mono (eqb k j) (has j ks) (has j (out_key ks)) ih e)

  -- and one taken out of keys that stand once is gone
  out_gone : (ks : List ℕ) → Once ks → has t (out_key ks) ≡ false
  unfolding take_out
  out_gone [] o = unfold has in refl
  out_gone (k ∷ ks) o = go (out_gone ks o.1) (eqb k t) refl
    where
      go : has t (out_key ks) ≡ false → (b : Bool) → eqb k t ≡ b → has t (out_key (k ∷ ks)) ≡ false
      go ih true z = rw (z, take_out) (rw (eqb-true k t z) at o.0)
      go ih false z = rw (z, take_out) (has_not k t (out_key ks) z ih)

  put_stands : (ks : List ℕ) → has t (put_key ks) ≡ true
  unfolding put_in has
  put_stands [] = rw (eq-eqb t t refl)
  put_stands (k ∷ ks) = go (put_stands ks) (eqb k t) refl
    where
      go : has t (put_key ks) ≡ true → (b : Bool) → eqb k t ≡ b → has t (put_key (k ∷ ks)) ≡ true
      go ih true z = rw (z, put_in, eq-eqb t t refl)
      go ih false z = rw (z, put_in) (rw z ih)

-- ---- the keys of a level after a change

abbrev pub changed_keys : ℕ → Change → List ℕ → List ℕ
changed_keys tag c ks = changed (λ k. k) (λ t v. t) tag c ks

pub once_changed : (tag : ℕ) (c : Change) (ks : List ℕ) → Once ks → Once (changed_keys tag c ks)
unfolding changed
once_changed tag (put v) ks h = once_put tag ks h
once_changed tag remove ks h = once_out tag ks h

abbrev pub is_put : Change → Bool
is_put (put v) = true
is_put remove = false

-- another key stands if it stood
pub has_other : (tag : ℕ) (c : Change) (k : ℕ) (ks : List ℕ) → eqb tag k ≡ false → has k (changed_keys tag c ks) ≡ has k ks
unfolding changed
has_other tag (put v) k ks n = go (has k ks) refl
  where
    go : (b : Bool) → has k ks ≡ b → has k (put_key tag ks) ≡ has k ks
    go true z = has_put tag k ks z ∙ sym z
    go false z = put_not tag k n ks z ∙ sym z
has_other tag remove k ks n = go (has k ks) refl
  where
    go : (b : Bool) → has k ks ≡ b → has k (out_key tag ks) ≡ has k ks
    go true z = has_out tag k n ks z ∙ sym z
    go false z = out_not tag k ks z ∙ sym z

-- the key itself, if it was put
has_own : (tag : ℕ) (c : Change) (ks : List ℕ) → Once ks → has tag (changed_keys tag c ks) ≡ is_put c
unfolding changed
has_own tag (put v) ks o = put_stands tag ks
has_own tag remove ks o = out_gone tag ks o

pub has_changed : (tag : ℕ) (c : Change) (k : ℕ) (ks : List ℕ) → Once ks → has k (changed_keys tag c ks) ≡ elim (eqb tag k) [ true ↦ is_put c | false ↦ has k ks ]
has_changed tag c k ks o = go (eqb tag k) refl
  where
    go : (b : Bool) → eqb tag k ≡ b → has k (changed_keys tag c ks) ≡ elim b [ true ↦ is_put c | false ↦ has k ks ]
    go true z = ap (λ j. has j (changed_keys tag c ks)) (sym (eqb-true tag k z)) ∙ has_own tag c ks o
    go false z = has_other tag c k ks z
