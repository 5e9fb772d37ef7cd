-- Bytes laid out as others are: one more, and a block more.
use Rattle.std.proofs.Common.{◌≡◌, ℕ, ◌+◌, ◌-◌, ◌<◌, ◌≤◌, Bool, true, false, not, ◌&&◌, ◌||◌, eqb, ltb, List, length, get_or, drop, set, sym, refl, ap, ◌∙◌, inl, inr, ⊎_elim, arith, length-set, get_or-drop, get_or-set_other, get_or-set_same, ltb-false, ltb-true, eqb-true}
use borrow.Author.Tests.{eqb-false}
use Rattle.format.proofs.Words.Answers.{no_bool}
use Rattle.coding.specs.Alike.{Alike, AlikeTo, ItemMasked}

all_told : (mask x y : ℕ) → (eqb x y || (ltb mask 2 && (eqb mask 0 || not (eqb y 0)))) ≡ true → Alike mask x y
all_told mask x y = go (eqb x y) refl (ltb mask 2) refl (eqb mask 0) refl (eqb y 0) refl
  where
    go : (a : Bool) → eqb x y ≡ a → (b : Bool) → ltb mask 2 ≡ b → (c : Bool) → eqb mask 0 ≡ c → (d : Bool) → eqb y 0 ≡ d → (a || (b && (c || not d))) ≡ true → Alike mask x y
    go true ea b eb c ec d ed e = inl (eqb-true x y ea)
    go false ea false eb c ec d ed e = no_bool e
    go false ea true eb true ec d ed e = inr (ltb-true mask 2 eb, inl (eqb-true mask 0 ec))
    go false ea true eb false ec true ed e = no_bool e
    go false ea true eb false ec false ed e = inr (ltb-true mask 2 eb, inr (omega (arith, eqb-false y 0 ed)))

-- as the code asks it of one byte, in three steps
pub alike_told : (mask x y : ℕ) {p q r : Bool} → p ≡ (eqb mask 0 || not (eqb y 0)) → q ≡ (ltb mask 2 && p) → r ≡ (eqb x y || q) → r ≡ true → Alike mask x y
alike_told mask x y ep eq er e = all_told mask x y (sym (er ∙ ap (λ z. eqb x y || z) (eq ∙ ap (λ z. ltb mask 2 && z) ep)) ∙ e)

pub alike_none : (masks a b : List ℕ) → AlikeTo masks a b 0
alike_none masks a b = record { at = λ i h. absurd (omega (arith, h)) }

pub alike_same : (masks a : List ℕ) (n : ℕ) → AlikeTo masks a a n
alike_same masks a n = record { at = λ i h. inl refl }

pub alike_more : {masks a b : List ℕ} {i : ℕ} → AlikeTo masks a b i → Alike (get_or masks i 0) (get_or a i 0) (get_or b i 0) → AlikeTo masks a b (i + 1)
alike_more {masks = masks} {a = a} {b = b} {i = i} h e = record { at = λ j l. go j l (ltb j i) refl }
  where
    go : (j : ℕ) → j < i + 1 → (x : Bool) → ltb j i ≡ x → Alike (get_or masks j 0) (get_or a j 0) (get_or b j 0)
    go j l true z = h.at j (ltb-true j i z)
    go j l false z = let s : j ≡ i = omega (arith, ltb-false j i z) in rw s e

-- and some more, from k on
pub alike_on : {masks a b : List ℕ} {i n : ℕ} → AlikeTo masks a b i → (k : ℕ) → k ≤ i → AlikeTo (drop k masks) (drop k a) (drop k b) n → AlikeTo masks a b (k + n)
alike_on {masks = masks} {a = a} {b = b} {i = i} {n = n} h k to e = record { at = λ j l. go j l (ltb j i) refl }
  where
    go : (j : ℕ) → j < k + n → (x : Bool) → ltb j i ≡ x → Alike (get_or masks j 0) (get_or a j 0) (get_or b j 0)
    go j l true z = h.at j (ltb-true j i z)
    go j l false z =
        let s : k + (j - k) ≡ j = omega (arith, ltb-false j i z) in
        rw (get_or-drop k masks (j - k) 0, get_or-drop k a (j - k) 0, get_or-drop k b (j - k) 0, s) at (e.at (j - k) (omega (arith, ltb-false j i z)))

pub alike_less : {masks a b : List ℕ} {i n : ℕ} → AlikeTo masks a b i → n ≤ i → AlikeTo masks a b n
alike_less h l = record { at = λ j m. h.at j (omega arith) }

-- of others that have the same bytes there
pub alike_as : {masks a b : List ℕ} (a' b' : List ℕ) {n : ℕ} → ((i : ℕ) → i < n → get_or a i 0 ≡ get_or a' i 0) → ((i : ℕ) → i < n → get_or b i 0 ≡ get_or b' i 0) → AlikeTo masks a b n → AlikeTo masks a' b' n
alike_as a' b' ea eb h = record { at = λ i l. rw (ea i l, eb i l) at (h.at i l) }

-- ---- masks

-- those of the first i bytes of a head
pub record HeadMasked (before after : List ℕ) (p i : ℕ) : Type 0 where
  pub long : length after ≡ length before
  pub kept : (j : ℕ) → j < p → get_or after j 0 ≡ get_or before j 0
  pub head : (j : ℕ) → j < i → get_or after (p + j) 0 ≡ 2

pub head_none : (l : List ℕ) (p : ℕ) → HeadMasked l l p 0
head_none l p = record { long = refl; kept = λ j h. refl; head = λ j h. absurd (omega (arith, h)) }

pub head_more : {l m : List ℕ} {p i : ℕ} → HeadMasked l m p i → p + i < length l → HeadMasked l (set m (p + i) 2) p (i + 1)
head_more {l = l} {m = m} {p = p} {i = i} h r = record {
  long = length-set m (p + i) 2 ∙ h.long;
  kept = λ j g. get_or-set_other m (p + i) j 2 0 (λ e. omega (arith, e, g)) ∙ h.kept j g;
  head = λ j g. go j g (eqb j i) refl;
}
  where
    go : (j : ℕ) → j < i + 1 → (x : Bool) → eqb j i ≡ x → get_or (set m (p + i) 2) (p + j) 0 ≡ 2
    go j g true z = let e : j ≡ i = eqb-true j i z in rw e (get_or-set_same m (p + i) 2 0 (omega (arith, r, h.long)))
    go j g false z =
        let n : p + j ≡ p + i → ⊥ = λ e. eqb-false j i z (omega (arith, e)) in
        get_or-set_other m (p + i) (p + j) 2 0 n ∙ h.head j (let y : j ≡ i → ⊥ = eqb-false j i z in omega (arith, g, y))

pub item_masked : {l m : List ℕ} {p i k : ℕ} → HeadMasked l m p i → k ≤ i → p + k < length l → (first : ℕ) → ItemMasked l (set m (p + k) first) p k first
item_masked {m = m} {p = p} {k = k} h few r first = record {
  long = length-set m (p + k) first ∙ h.long;
  kept = λ j g. get_or-set_other m (p + k) j first 0 (λ e. omega (arith, e, g)) ∙ h.kept j g;
  head = λ j g. get_or-set_other m (p + k) (p + j) first 0 (λ e. omega (arith, e, g)) ∙ h.head j (omega (arith, few, g));
  value = get_or-set_same m (p + k) first 0 (omega (arith, r, h.long));
}

-- what is alike with the item's masks is alike before it, has its head, and begins its value as that may
module _ {l m : List ℕ} {p k first : ℕ} (i : ItemMasked l m p k first) {a b : List ℕ} {next : ℕ} (room : p + k < next) (h : AlikeTo m a b next) where
  pub masked_before : AlikeTo l a b p
  masked_before = record { at = λ j g. rw (i.kept j g) at (h.at j (omega (arith, g, room))) }

  pub masked_head : (j : ℕ) → j < k → get_or a (p + j) 0 ≡ get_or b (p + j) 0
  masked_head j g = ⊎_elim (λ e. e) (λ x. absurd (omega (arith, x.0, i.head j g))) (h.at (p + j) (omega (arith, g, room)))

  pub masked_value : Alike first (get_or a (p + k) 0) (get_or b (p + k) 0)
  masked_value = rw i.value at (h.at (p + k) room)
