-- Keys that stand once: by what was seen before each, and by the list alone.
use mathlib.Core.Path.{◌≡◌, refl, sym}
use Prim.Native.Nat.{ℕ}
use mathlib.Core.Bool.{false}
use mathlib.Core.List.{List, [], ◌∷◌, ◌++◌, map}
use lib.Dec.{eqb}
use borrow.Author.Tests.{eqb-false, ne_eqb}
use Rattle.format.specs.Lists.{none?, has}
use Rattle.format.specs.Valid.{All, Once}
use Rattle.format.proofs.Words.Answers.{or_neither}

-- each key is new, given those seen before it
abbrev pub Fresh : List ℕ → List ℕ → Type 0
Fresh seen [] = Unit {0}
Fresh seen (k ∷ ks) = (has k seen ≡ false) × Fresh (k ∷ seen) ks

-- none of these was seen
abbrev pub Apart : List ℕ → List ℕ → Type 0
Apart seen ks = All (λ k. has k seen ≡ false) ks

pub flip : (a b : ℕ) → eqb a b ≡ false → eqb b a ≡ false
flip a b e = ne_eqb b a λ z. eqb-false a b e (sym z)

pub has_not : (k j : ℕ) (ks : List ℕ) → eqb k j ≡ false → has j ks ≡ false → has j (k ∷ ks) ≡ false
unfolding has
has_not k j ks e h = rw (e, h)

pub has_none : (k j : ℕ) (ks : List ℕ) → has j (k ∷ ks) ≡ false → (eqb k j ≡ false) × (has j ks ≡ false)
unfolding has
has_none k j ks e = or_neither (eqb k j) (has j ks) e

-- ---- apart from one more

apart_gives : (k : ℕ) (seen ks : List ℕ) → Apart (k ∷ seen) ks → (has k ks ≡ false) × Apart seen ks
apart_gives k seen [] h = (unfold has in refl, tt)
apart_gives k seen (j ∷ ks) h =
    let (a, b) = has_none k j seen h.0 in
    let (c, d) = apart_gives k seen ks h.1 in
    (has_not j k ks (flip k j a) c, (b, d))

apart_from : (k : ℕ) (seen ks : List ℕ) → has k ks ≡ false → Apart seen ks → Apart (k ∷ seen) ks
apart_from k seen [] e h = tt
apart_from k seen (j ∷ ks) e h =
    let (a, b) = has_none j k ks e in
    (has_not k j seen (flip j k a) h.0, apart_from k seen ks b h.1)

-- ---- the two ways

pub fresh_says : (seen ks : List ℕ) → Fresh seen ks → Once ks × Apart seen ks
fresh_says seen [] h = (tt, tt)
fresh_says seen (k ∷ ks) h =
    let (a, b) = fresh_says (k ∷ seen) ks h.1 in
    let (c, d) = apart_gives k seen ks b in
    ((c, a), (h.0, d))

pub fresh_from : (seen ks : List ℕ) → Once ks → Apart seen ks → Fresh seen ks
fresh_from seen [] h a = tt
fresh_from seen (k ∷ ks) h a = (a.0, fresh_from (k ∷ seen) ks h.1 (apart_from k seen ks h.0 a.1))

apart_none : (ks : List ℕ) → Apart [] ks
apart_none [] = tt
apart_none (k ∷ ks) = (unfold has in refl, apart_none ks)

pub once_fresh : (ks : List ℕ) → Once ks → Fresh [] ks
once_fresh ks h = fresh_from [] ks h (apart_none ks)

-- ---- the keys of what was passed, last first

abbrev pub past : {X : Type 0} → (X → ℕ) → List ℕ → List X → List ℕ
past key seen [] = seen
past key seen (x ∷ xs) = past key (key x ∷ seen) xs

pub past_has : {X : Type 0} (key : X → ℕ) (k : ℕ) (seen : List ℕ) (xs : List X) → has k seen ≡ false → All (λ x. eqb (key x) k ≡ false) xs → has k (past key seen xs) ≡ false
past_has key k seen [] e h = e
past_has key k seen (x ∷ xs) e h = past_has key k (key x ∷ seen) xs (has_not (key x) k seen h.0 e) h.1

pub past_some : {X : Type 0} (key : X → ℕ) (seen : List ℕ) (xs : List X) → none? seen ≡ false → none? (past key seen xs) ≡ false
past_some key seen [] e = e
past_some key seen (x ∷ xs) e = past_some key (key x ∷ seen) xs refl

-- ---- prefixes

pub all_left : {X : Type 0} (P : X → Type 0) (xs ys : List X) → All P (xs ++ ys) → All P xs
all_left P [] ys h = tt
all_left P (x ∷ xs) ys h = (h.0, all_left P xs ys h.1)

pub all_mid : {X : Type 0} (P : X → Type 0) (before : List X) (x : X) (after : List X) → All P (before ++ (x ∷ after)) → P x
all_mid P [] x after h = h.0
all_mid P (y ∷ before) x after h = all_mid P before x after h.1

pub all_both : {X : Type 0} (P : X → Type 0) (xs ys : List X) → All P xs → All P ys → All P (xs ++ ys)
all_both P [] ys h g = g
all_both P (x ∷ xs) ys h g = (h.0, all_both P xs ys h.1 g)

pub all_map : {X : Type 0} (P Q : X → Type 0) → ((x : X) → P x → Q x) → (xs : List X) → All P xs → All Q xs
all_map P Q g [] h = tt
all_map P Q g (x ∷ xs) h = (g x h.0, all_map P Q g xs h.1)

-- P of each g x is P ∘ g of each x
pub all_of_map : {X Y : Type 0} (P : Y → Type 0) (g : X → Y) (xs : List X) → All (λ x. P (g x)) xs → All P (map g xs)
all_of_map P g [] h = tt
all_of_map P g (x ∷ xs) h = (h.0, all_of_map P g xs h.1)

has_left : (k : ℕ) (xs ys : List ℕ) → has k (xs ++ ys) ≡ false → has k xs ≡ false
has_left k [] ys h = unfold has in refl
has_left k (x ∷ xs) ys h = let (a, b) = has_none x k (xs ++ ys) h in has_not x k xs a (has_left k xs ys b)

pub once_left : (xs ys : List ℕ) → Once (xs ++ ys) → Once xs
once_left [] ys h = tt
once_left (x ∷ xs) ys h = (has_left x xs ys h.0, once_left xs ys h.1)

-- ---- one key more at the end

has_end : (k x : ℕ) (xs : List ℕ) → has x xs ≡ false → eqb k x ≡ false → has x (xs ++ (k ∷ [])) ≡ false
has_end k x [] h e = has_not k x [] e h
has_end k x (y ∷ ys) h e = let (a, b) = has_none y x ys h in has_not y x (ys ++ (k ∷ [])) a (has_end k x ys b e)

pub once_snoc : (xs : List ℕ) (k : ℕ) → Once xs → has k xs ≡ false → Once (xs ++ (k ∷ []))
once_snoc [] k o e = (e, tt)
once_snoc (x ∷ xs) k o e = let (a, b) = has_none x k xs e in (has_end k x xs o.0 (flip x k a), once_snoc xs k o.1 b)
