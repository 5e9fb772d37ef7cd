-- Laws of `sets`, numbers stored from an index on. Only `sets_start` asks that they fit.
use Prim.Native.Nat.{ℕ, zero, suc, ◌+◌, ◌-◌, ◌/◌, ◌%◌, ◌≤◌, ◌<◌}
use mathlib.Core.Path.{◌≡◌, refl, ◌∙◌, ap, sym}
use mathlib.Core.Logic.{⊎_elim}
use mathlib.Core.List.{List, [], ◌∷◌, ◌++◌, append-nil}
use native.Mathlib.Nat.{add-suc, add-zero, zero-add, le_refl, le-add_right, eq-or-lt_of_le}
use native.Mathlib.Omega.{arith}
use lib.ListN.{length, take, drop, set, get_or, take-append-drop, length-append, length-drop, length-set, drop_of_length-le}
use lib.Seq.{sets, sets-eq, length-take-le, set_comm, take-set-le, drop-set-add, take_all}
use borrow.Rule.Slice.PartMut.{put_mid}
use Rattle.std.proofs.lemmas.List.{take_more}
use Rattle.format.specs.Coding.{digits, fixed}
use Rattle.format.proofs.Coding.Digits.{length_fixed}

-- one run after another
pub sets_append : (l : List ℕ) (i : ℕ) (xs ys : List ℕ) → sets l i (xs ++ ys) ≡ sets (sets l i xs) (i + length xs) ys
sets_append l i [] ys = ap (λ k. sets l k ys) (omega arith)
sets_append l i (x ∷ xs) ys = sets_append (set l i x) (suc i) xs ys ∙ ap (λ k. sets (sets (set l i x) (suc i) xs) k ys) (omega arith)

-- one number more
pub sets_more : (l : List ℕ) (i : ℕ) (s : List ℕ) (k d : ℕ) → k < length s → set (sets l i (take k s)) (i + k) (get_or s k d) ≡ sets l i (take (k + 1) s)
sets_more l i s k d h =
    let long : length (take k s) ≡ k = length-take-le k s (omega arith) in
    sym (ap (sets l i) (take_more s k d h) ∙ sets_append l i (take k s) (get_or s k d ∷ []) ∙ ap (λ j. set (sets l i (take k s)) (i + j) (get_or s k d)) long)

-- a run at the start
pub sets_start : (l vs : List ℕ) → length vs ≤ length l → sets l 0 vs ≡ vs ++ drop (length vs) l
sets_start l vs h = sets-eq vs l 0 (omega arith) ∙ ap (λ k. vs ++ drop k l) (zero-add (length vs))

-- a store behind a run commutes with it
pub sets_behind : (l : List ℕ) (i : ℕ) (xs : List ℕ) (j b : ℕ) → i + length xs ≤ j → set (sets l i xs) j b ≡ sets (set l j b) i xs
sets_behind l i [] j b h = refl
sets_behind l i (x ∷ xs) j b h = sets_behind (set l i x) (suc i) xs j b (omega arith) ∙ ap (λ r. sets r (suc i) xs) (set_comm l i j x b (λ e. omega arith))

-- a run in front of another, stored after it
pub sets_swap : (l : List ℕ) (i : ℕ) (xs : List ℕ) (j : ℕ) (ys : List ℕ) → i + length xs ≤ j → sets (sets l j ys) i xs ≡ sets (sets l i xs) j ys
sets_swap l i xs j [] h = refl
sets_swap l i xs j (y ∷ ys) h = sets_swap (set l j y) i xs (suc j) ys (omega arith) ∙ ap (λ r. sets r (suc j) ys) (sym (sets_behind l i xs j y h))

-- a run stored over another leaves nothing of it
set_again : (l : List ℕ) (i x y : ℕ) → set (set l i x) i y ≡ set l i y
set_again [] i x y = refl
set_again (z ∷ l) zero x y = refl
set_again (z ∷ l) (suc i) x y = ap (λ r. z ∷ r) (set_again l i x y)

set_under : (l : List ℕ) (i x j : ℕ) (ys : List ℕ) → j ≤ i → i < j + length ys → sets (set l i x) j ys ≡ sets l j ys
set_under l i x j [] g h = absurd (omega arith)
set_under l i x j (y ∷ ys) g h =
    ⊎_elim
    (λ e. ap (λ r. sets r (suc j) ys) (ap (λ k. set (set l k x) j y) (sym e) ∙ set_again l j x y))
    (λ n. ap (λ r. sets r (suc j) ys) (set_comm l i j x y (λ e. omega arith)) ∙ set_under (set l j y) i x (suc j) ys (omega arith) (omega arith))
    (eq-or-lt_of_le g)

pub sets_under : (l : List ℕ) (i : ℕ) (xs : List ℕ) (j : ℕ) (ys : List ℕ) → j ≤ i → i + length xs ≤ j + length ys → sets (sets l i xs) j ys ≡ sets l j ys
sets_under l i [] j ys g h = refl
sets_under l i (x ∷ xs) j ys g h = sets_under (set l i x) (suc i) xs j ys (omega arith) (omega arith) ∙ set_under l i x j ys g (omega arith)

-- the last of a run first, the others in front of it later
pub sets_snoc : (l : List ℕ) (i : ℕ) (xs : List ℕ) (x : ℕ) {k : ℕ} → length xs ≡ k → sets l i (xs ++ (x ∷ [])) ≡ sets (set l (i + k) x) i xs
sets_snoc l i xs x {k = k} e = sets_append l i xs (x ∷ []) ∙ ap (λ j. set (sets l i xs) (i + j) x) e ∙ sets_behind l i xs (i + k) x (omega arith)

-- a run stored in the tail from n on, seen in the whole
pub sets_tail : (n i : ℕ) (l vs : List ℕ) → take n l ++ sets (drop n l) i vs ≡ sets l (n + i) vs
sets_tail n i l [] = take-append-drop n l
sets_tail n i l (v ∷ vs) =
    ap (λ r. take n l ++ sets r (suc i) vs) (sym (drop-set-add n l i v))
    ∙ ap (λ r. r ++ sets (drop n (set l (n + i) v)) (suc i) vs) (sym (take-set-le n l (n + i) v (le-add_right n i)))
    ∙ sets_tail n (suc i) (set l (n + i) v) vs
    ∙ ap (λ k. sets (set l (n + i) v) k vs) (add-suc n i)

-- the rest of l from p on is lent as `&mut l[p..]`
module _ (l : List ℕ) (p : ℕ) where
  pub tail_all : take (length l - p) (drop p l) ≡ drop p l
  tail_all = take_all (length l - p) (drop p l) (simp length-drop (omega arith))

  pub tail_length : length (take (length l - p) (drop p l)) ≡ length l - p
  tail_length = ap length tail_all ∙ length-drop p l

  -- and comes back with vs stored at its start
  pub tail_stored : (e vs : List ℕ) → e ≡ sets (take (length l - p) (drop p l)) 0 vs → put_mid p (length l - p) l e ≡ sets l p vs
  tail_stored e vs q =
      let none : drop (length l - p) (drop p l) ≡ [] = drop_of_length-le (drop p l) {i = length l - p} (simp length-drop (le_refl (length l - p))) in
      rw (q, tail_all, none, append-nil)
      (sets_tail p 0 l vs ∙ ap (λ k. sets l k vs) (add-zero p))

-- a loop that stores `whole` from its last number to its first: what it still has to store, the numbers ds in front
pub record BackLeft (out₀ : List ℕ) (at : ℕ) (whole out ds : List ℕ) : Type 0 where
  pub same : length out ≡ length out₀
  pub rest : sets out₀ at whole ≡ sets out at ds

pub back_start : (out : List ℕ) (at : ℕ) (whole : List ℕ) → BackLeft out at whole out whole
back_start out at whole = record { same = refl; rest = refl }

module _ (out₀ : List ℕ) (at : ℕ) (whole out ds : List ℕ) (l : BackLeft out₀ at whole out ds) where
  pub back_step : (ds' : List ℕ) (d : ℕ) → ds ≡ ds' ++ (d ∷ []) → {i : ℕ} → length ds' ≡ i → BackLeft out₀ at whole (set out (at + i) d) ds'
  back_step ds' d e len = record { same = simp length-set l.same; rest = l.rest ∙ ap (sets out at) e ∙ sets_snoc out at ds' d len }

  pub back_done : length ds ≡ 0 → out ≡ sets out₀ at whole
  back_done e = sym (l.rest ∙ none ds e)
    where
      none : (ds : List ℕ) → length ds ≡ 0 → sets out at ds ≡ out
      none [] e = refl
      none (d ∷ ds) e = absurd (omega arith)

-- the bytes of a number
module _ (out₀ : List ℕ) (at : ℕ) (whole out : List ℕ) (i n : ℕ) (l : BackLeft out₀ at whole out (fixed i n)) where
  pub number_step : 0 < i → BackLeft out₀ at whole (set out (at + (i - 1)) (n % 256)) (fixed (i - 1) (n / 256))
  unfolding fixed
  number_step g =
      let e : i ≡ suc (i - 1) = omega arith in
      back_step out₀ at whole out (fixed i n) l (fixed (i - 1) (n / 256)) (n % 256) (ap (λ j. fixed j n) e) (length_fixed (i - 1) (n / 256))

  pub number_done : i ≤ 0 → out ≡ sets out₀ at whole
  number_done g = back_done out₀ at whole out (fixed i n) l (omega (arith, length_fixed i n))

-- the digits of a number: as many as there are, whatever the count that `digits` was given
pub record DigitsLeft (b m : ℕ) (out₀ : List ℕ) (at : ℕ) (whole out : List ℕ) (i n : ℕ) : Type 0 where
  pub most : ℕ
  pub long : length (digits b m most n) ≡ i
  pub left : BackLeft out₀ at whole out (digits b m most n)

module _ (b m : ℕ) (out₀ : List ℕ) (at : ℕ) where
  pub digits_start : (k n : ℕ) {i : ℕ} → length (digits b m k n) ≡ i → DigitsLeft b m out₀ at (digits b m k n) out₀ i n
  digits_start k n e = record { most = k; long = e; left = back_start out₀ at (digits b m k n) }

  module _ (whole out : List ℕ) (i n : ℕ) (l : DigitsLeft b m out₀ at whole out i n) where
    pub digits_step : 0 < i → {d : ℕ} → d ≡ n % b + m → {n' : ℕ} → n' ≡ n / b → DigitsLeft b m out₀ at whole (set out (at + (i - 1)) d) (i - 1) n'
    unfolding digits
    digits_step g ed en = rw (ed, en) (by l.most n l.long l.left)
      where
        by : (k n : ℕ) → length (digits b m k n) ≡ i → BackLeft out₀ at whole out (digits b m k n) → DigitsLeft b m out₀ at whole (set out (at + (i - 1)) (n % b + m)) (i - 1) (n / b)
        by zero n e r = absurd (omega arith)
        by (suc k) zero e r = absurd (omega arith)
        by (suc k) (suc n) e r =
            let ds : List ℕ = digits b m k (suc n / b) in
            let long : length ds ≡ i - 1 = omega (arith, simp length-append at e) in
            record { most = k; long = long; left = back_step out₀ at whole out _ r ds _ refl long }

    pub digits_done : i ≤ 0 → out ≡ sets out₀ at whole
    digits_done g = back_done out₀ at whole out _ l.left (omega (arith, l.long))
