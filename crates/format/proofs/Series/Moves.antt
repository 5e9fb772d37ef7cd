-- A target added or dropped, in any list: what the three changes leave under a map, of the keys, and of what holds of each.
use mathlib.Core.Path.{◌≡◌, refl, sym, ap, ◌∙◌}
use Prim.Native.Nat.{ℕ}
use mathlib.Core.Bool.{true, false}
use mathlib.Core.List.{List, [], ◌∷◌, ◌++◌, map, map-append}
use lib.Dec.{eqb}
use borrow.Author.Tests.{eqb-true}
use Rattle.format.specs.Lists.{none?, has}
use Rattle.format.specs.Sheet.{Val, Target, id_of_target}
use Rattle.format.specs.Edit.{Change, put, remove, changed, val_with}
use Rattle.format.specs.Targets.{TargetChange, added, dropped, moved, series_now, count_of, recounted}
use Rattle.format.specs.Valid.{All, Once}
use Rattle.format.proofs.Words.Changes.{map_put, map_out, map_on, all_put, all_out, all_on, keys_on, changed_keys, once_changed}
use Rattle.format.proofs.Words.Firsts.{keyed}
use Rattle.format.proofs.Words.Keys.{all_both, once_snoc}

-- what is asked of the target that is added
abbrev pub Of : (Target → Type 0) → TargetChange → Type 0
Of P (added t) = P t
Of P (dropped i) = Unit {0}

-- and of the ids that stand: a new one is added, one of them dropped
abbrev pub IdFits : List ℕ → TargetChange → Type 0
IdFits ids (added t) = has t.id ids ≡ false
IdFits ids (dropped i) = has i ids ≡ true

pub of_each : (P : Target → Type 0) → ((t : Target) → P t) → (c : TargetChange) → Of P c
of_each P k (added t) = k t
of_each P k (dropped i) = tt

pub of_map : (P Q : Target → Type 0) → ((t : Target) → P t → Q t) → (c : TargetChange) → Of P c → Of Q c
of_map P Q k (added t) h = k t h
of_map P Q k (dropped i) h = tt

-- ---- under a map

module _ {X Y : Type 0} (g : X → Y) (key : X → ℕ) (key' : Y → ℕ) (same : (x : X) → key' (g x) ≡ key x) where
  pub map_moved : (make : Target → X) (make' : Target → Y) (c : TargetChange) → Of (λ t. g (make t) ≡ make' t) c → (xs : List X)
      → map g (moved key make c xs) ≡ moved key' make' c (map g xs)
  unfolding moved
  map_moved make make' (added t) e xs = map-append g xs (make t ∷ []) ∙ ap (λ y. map g xs ++ (y ∷ [])) e
  map_moved make make' (dropped i) e xs = map_out g (keyed key i) (keyed key' i) (λ x. ap (λ k. eqb k i) (same x)) xs

  pub map_series : {A B : Type 0} (h : A → B) (make : List A → X) (make' : List B → Y) → ((vs : List A) → g (make vs) ≡ make' (map h vs)) → (vs : List A) (xs : List X)
      → map g (series_now key make vs xs) ≡ series_now key' make' (map h vs) (map g xs)
  unfolding series_now
  map_series h make make' e [] xs = map_out g (keyed key 101) (keyed key' 101) (λ x. ap (λ k. eqb k 101) (same x)) xs
  map_series h make make' e (v ∷ vs) xs =
      map_put g (keyed key 101) (keyed key' 101) (λ x. ap (λ k. eqb k 101) (same x)) (make (v ∷ vs)) xs
      ∙ ap (λ y. series_now key' (λ _. y) (map h (v ∷ vs)) (map g xs)) (e (v ∷ vs))

  pub map_recounted : (make : Val → X) (make' : Val → Y) (n : ℕ) → g (make (count_of n)) ≡ make' (count_of n) → (xs : List X)
      → map g (recounted key make n xs) ≡ recounted key' make' n (map g xs)
  unfolding recounted
  map_recounted make make' n e xs = map_on g (keyed key 6) (keyed key' 6) (λ x. ap (λ k. eqb k 6) (same x)) (λ x. make (count_of n)) (λ y. make' (count_of n)) (λ x. e) xs

-- ---- the keys

pub count_tag : (n : ℕ) → (count_of n).tag ≡ 6
unfolding count_of val_with
count_tag n = refl

abbrev ids_moved : TargetChange → List ℕ → List ℕ
ids_moved c ks = moved (λ k. k) id_of_target c ks

pub once_moved : (c : TargetChange) (ks : List ℕ) → IdFits ks c → Once ks → Once (ids_moved c ks)
unfolding moved changed
once_moved (added t) ks n o = once_snoc ks t.id o n
once_moved (dropped i) ks n o = once_changed i remove ks o

-- the series is put or removed
abbrev pub series_change : {A : Type 0} → List A → Change
series_change [] = remove
series_change (v ∷ vs) = put []

module _ {X : Type 0} (key : X → ℕ) where
  pub moved_keys : (make : Target → X) → ((t : Target) → key (make t) ≡ t.id) → (c : TargetChange) (xs : List X) → map key (moved key make c xs) ≡ ids_moved c (map key xs)
  moved_keys make e c xs = map_moved key key (λ k. k) (λ x. refl) make id_of_target c (of_each (λ t. key (make t) ≡ t.id) e c) xs

  pub series_keys : {A : Type 0} (make : List A → X) → ((vs : List A) → key (make vs) ≡ 101) → (vs : List A) (xs : List X)
      → map key (series_now key make vs xs) ≡ changed_keys 101 (series_change vs) (map key xs)
  unfolding series_now changed
  series_keys make e [] xs = map_out key (keyed key 101) (λ k. eqb k 101) (λ x. refl) xs
  series_keys make e (v ∷ vs) xs =
      map_put key (keyed key 101) (λ k. eqb k 101) (λ x. refl) (make (v ∷ vs)) xs
      ∙ ap (λ k. changed (λ j. j) (λ t u. k) 101 (put []) (map key xs)) (e (v ∷ vs))

  pub recounted_keys : (make : Val → X) (n : ℕ) → key (make (count_of n)) ≡ 6 → (xs : List X) → map key (recounted key make n xs) ≡ map key xs
  unfolding recounted
  recounted_keys make n e xs = keys_on key (keyed key 6) (λ x. make (count_of n)) (λ x z. e ∙ sym (eqb-true (key x) 6 z)) xs

-- ---- what holds of each

module _ {X : Type 0} (P : X → Type 0) (key : X → ℕ) where
  pub all_moved : (make : Target → X) (c : TargetChange) → Of (λ t. P (make t)) c → (xs : List X) → All P xs → All P (moved key make c xs)
  unfolding moved
  all_moved make (added t) p xs h = all_both P xs (make t ∷ []) h (p, tt)
  all_moved make (dropped i) p xs h = all_out P (keyed key i) xs h

  -- of the series only where there are targets
  pub all_series : {A : Type 0} (make : List A → X) (vs : List A) → (none? vs ≡ false → P (make vs)) → (xs : List X) → All P xs → All P (series_now key make vs xs)
  unfolding series_now
  all_series make [] p xs h = all_out P (keyed key 101) xs h
  all_series make (v ∷ vs) p xs h = all_put P (keyed key 101) (make (v ∷ vs)) (p refl) xs h

  pub all_recounted : (make : Val → X) (n : ℕ) → P (make (count_of n)) → (xs : List X) → All P xs → All P (recounted key make n xs)
  unfolding recounted
  all_recounted make n p xs h = all_on P (keyed key 6) (λ x. make (count_of n)) (λ x. p) xs h
