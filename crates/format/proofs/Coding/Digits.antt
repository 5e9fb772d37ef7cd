-- Numbers and their digits, once over the base, the flag and the count.
use mathlib.Core.Path.{◌≡◌, refl, sym, ◌∙◌}
use Prim.Native.Nat.{ℕ, zero, suc, ◌+◌, ◌-◌, ◌*◌, ◌/◌, ◌%◌, ◌≤◌, ◌<◌, ◌^◌}
use native.Mathlib.Nat.{div-add-mod', zero-div, zero-add, sub-zero, add-zero, mul-add-div_right, mul-add-mod_self_right, mod-eq_of_lt, div-eq_of_lt, div-lt_iff_lt-mul, pow-suc, pow-zero, suc-mul}
use native.Mathlib.Omega.{arith}
use native.Mathlib.Numerals.{add-one}
use mathlib.Core.List.{List, [], ◌∷◌, ◌++◌, append_assoc, append-nil}
use lib.ListN.{length, get_or, length-append}
use Rattle.format.specs.Coding.{Bytes, number, digits, fixed}
use Rattle.format.specs.Valid.{All}

-- n has at most k digits in a base
abbrev pub Fits : ℕ → ℕ → ℕ → Type 0
Fits b zero n = n ≡ 0
Fits b (suc k) n = Fits b k (n / b)

-- a digit of a base, with its flag
abbrev pub Digit : ℕ → ℕ → ℕ → Type 0
Digit b m d = (m ≤ d) × (d - m < b)

fits_zero : (b k : ℕ) → Fits b k 0
fits_zero b zero = refl
fits_zero b (suc k) = rw zero-div (fits_zero b k)

pub fits_more : (b k j n : ℕ) → Fits b k n → k ≤ j → Fits b j n
fits_more b zero j n h l = rw h (fits_zero b j)
fits_more b (suc k) zero n h l = absurd (omega arith)
fits_more b (suc k) (suc j) n h l = fits_more b k j (n / b) h (omega arith)

-- the same by a power of the base
pub fits_below : (b k n : ℕ) → 0 < b → Fits b k n → n < b ^ k
fits_below b zero n p h = rw (h, pow-zero) (omega arith)
fits_below b (suc k) n p h = rw pow-suc ((div-lt_iff_lt-mul p).0 (fits_below b k (n / b) p h))

pub below_fits : (b k n : ℕ) → 0 < b → n < b ^ k → Fits b k n
below_fits b zero n p h = let h' : n < 1 = rw pow-zero at h in omega arith
below_fits b (suc k) n p h = below_fits b k (n / b) p ((div-lt_iff_lt-mul p).1 (rw pow-suc at h))

-- one digit more
pub push_div : (b acc d : ℕ) → d < b → (acc * b + d) / b ≡ acc
push_div b acc d h = let p : 0 < b = omega arith in rw (mul-add-div_right p acc d, div-eq_of_lt h, add-zero)

pub push_mod : (b acc d : ℕ) → d < b → (acc * b + d) % b ≡ d
push_mod b acc d h = rw (mul-add-mod_self_right acc b d, mod-eq_of_lt h)

-- how large a number of so many digits is
pub number_fits : (b m k acc : ℕ) (ds : List ℕ) → Fits b k acc → All (Digit b m) ds → Fits b (length ds + k) (number b m acc ds)
unfolding number
number_fits b m k acc [] f h = rw zero-add f
number_fits b m k acc (d ∷ ds) f h =
    let e : suc (length ds) + k ≡ length ds + suc k = omega arith in
    rw e (number_fits b m (suc k) (acc * b + (d - m)) ds (rw (push_div b acc (d - m) h.0.1) f) h.1)

pub number_snoc : (b m acc : ℕ) (ds : List ℕ) (d : ℕ) → number b m acc (ds ++ (d ∷ [])) ≡ number b m acc ds * b + (d - m)
unfolding number
number_snoc b m acc [] d = refl
number_snoc b m acc (x ∷ ds) d = number_snoc b m (acc * b + (x - m)) ds d

-- bytes are digits
pub bytes_digits : (ds : List ℕ) → Bytes ds → All (Digit 256 0) ds
bytes_digits [] h = tt
bytes_digits (d ∷ ds) h = let l : d < 256 = h 0 in ((omega arith, omega arith), bytes_digits ds (λ i. h (suc i)))

-- ---- the digits of a number

module _ (b m : ℕ) where
  -- every digit bears the flag
  abbrev pub Flagged : List ℕ → Type 0
  Flagged [] = Unit {0}
  Flagged (d ∷ ds) = (m ≤ d) × Flagged ds

  flagged_snoc : (ds : List ℕ) (d : ℕ) → Flagged ds → m ≤ d → Flagged (ds ++ (d ∷ []))
  flagged_snoc [] d h g = (g, tt)
  flagged_snoc (x ∷ ds) d h g = (h.0, flagged_snoc ds d h.1 g)

  pub digits_flagged : (k n : ℕ) → Flagged (digits b m k n)
  unfolding digits
  digits_flagged zero n = tt
  digits_flagged (suc k) zero = tt
  digits_flagged (suc k) (suc n) = flagged_snoc (digits b m k (suc n / b)) _ (digits_flagged k (suc n / b)) (omega arith)

  pub digits_number : (k n : ℕ) → Fits b k n → number b m 0 (digits b m k n) ≡ n
  unfolding number digits
  digits_number zero n h = sym h
  digits_number (suc k) zero h = refl
  digits_number (suc k) (suc n) h =
      let e : (suc n % b + m) - m ≡ suc n % b = omega arith in
      rw (number_snoc, digits_number k (suc n / b) h, e) (div-add-mod' (suc n) b)

  -- no more digits than are needed, and no fewer
  pub digits_few : (k j n : ℕ) → Fits b j n → length (digits b m k n) ≤ j
  unfolding digits
  digits_few zero j n h = omega arith
  digits_few (suc k) j zero h = omega arith
  digits_few (suc k) zero (suc n) h = omega arith
  digits_few (suc k) (suc j) (suc n) h = simp length-append (omega (arith, digits_few k j (suc n / b) h))

  pub digits_just : (k n : ℕ) → Fits b k n → Fits b (length (digits b m k n)) n
  unfolding digits
  digits_just zero n h = h
  digits_just (suc k) zero h = refl
  digits_just (suc k) (suc n) h = simp (length-append, add-one) (digits_just k (suc n / b) h)

  pub digits_zero : (k : ℕ) → digits b m k 0 ≡ []
  unfolding digits
  digits_zero zero = refl
  digits_zero (suc k) = refl

  pub digits_pos : (k n : ℕ) → 0 < n → digits b m (suc k) n ≡ digits b m k (n / b) ++ ((n % b + m) ∷ [])
  unfolding digits
  digits_pos k zero p = absurd (omega arith)
  digits_pos k (suc n) p = refl

  -- the first is no bare flag
  pub digits_head : (k n : ℕ) (t : List ℕ) → Fits b k n → 0 < n → get_or (digits b m k n ++ t) 0 0 ≡ m → ⊥
  unfolding digits
  digits_head zero n t h p e = omega arith
  digits_head (suc k) zero t h p e = omega arith
  digits_head (suc k) (suc n) t h p e = go (λ z. digits_head k (suc n / b) (d ∷ t) h z e') (suc n / b) refl
    where
      d : ℕ
      d = suc n % b + m

      e' : get_or (digits b m k (suc n / b) ++ (d ∷ t)) 0 0 ≡ m
      e' = rw append_assoc at e

      go : (0 < suc n / b → ⊥) → (q : ℕ) → suc n / b ≡ q → ⊥
      go ih zero z =
          let r : d ≡ m = rw (z, digits_zero) at e' in
          let w : suc n / b * b + suc n % b ≡ suc n = div-add-mod' (suc n) b in
          let w' : 0 * b + suc n % b ≡ suc n = rw z at w in
          omega arith
      go ih (suc q) z = ih (omega arith)

  -- flagged digits after a number that is not 0 are the digits of what they spell
  pub digits_acc : (k acc : ℕ) (ds : List ℕ) → 0 < acc → All (Digit b m) ds → digits b m (length ds + k) (number b m acc ds) ≡ digits b m k acc ++ ds
  unfolding number
  digits_acc k acc [] p g = rw (zero-add, append-nil)
  digits_acc k acc (d ∷ ds) p g =
      let a : ℕ = acc * b + (d - m) in
      let q : a / b ≡ acc = push_div b acc (d - m) g.0.1 in
      let r : a % b + m ≡ d = rw (push_mod b acc (d - m) g.0.1) (omega (arith, g.0.0)) in
      let e : suc (length ds) + k ≡ length ds + suc k = omega arith in
      let z : 0 < a = pos_push b acc (d - m) p g.0.1 in
      rw (e, digits_acc (suc k) a ds z g.1, digits_pos k a z, q, r, append_assoc)
    where
      pos_push : (b acc d : ℕ) → 0 < acc → d < b → 0 < acc * b + d
      pos_push b zero d p h = absurd (omega arith)
      pos_push b (suc acc) d p h = rw suc-mul (omega arith)

-- ---- just so many bytes

pub fixed_number : (k n : ℕ) → n < 256 ^ k → number 256 0 0 (fixed k n) ≡ n
unfolding number fixed
fixed_number zero n h = let h' : n < 1 = rw pow-zero at h in omega arith
fixed_number (suc k) n h =
    let p : ◌<◌ 0 256 = omega arith in
    rw (number_snoc, fixed_number k (n / 256) ((div-lt_iff_lt-mul p).1 (rw pow-suc at h)), sub-zero) (div-add-mod' n 256)

pub length_fixed : (k n : ℕ) → length (fixed k n) ≡ k
unfolding fixed
length_fixed zero n = refl
length_fixed (suc k) n = simp (length-append, length_fixed k (n / 256), add-one)

fixed_acc : (k acc : ℕ) (ds : List ℕ) → All (Digit 256 0) ds → fixed (length ds + k) (number 256 0 acc ds) ≡ fixed k acc ++ ds
unfolding number fixed
fixed_acc k acc [] h = rw (zero-add, append-nil)
fixed_acc k acc (d ∷ ds) h =
    let q : (acc * 256 + (d - 0)) / 256 ≡ acc = push_div 256 acc (d - 0) h.0.1 in
    let m : (acc * 256 + (d - 0)) % 256 ≡ d = push_mod 256 acc (d - 0) h.0.1 ∙ sub-zero d in
    let ih : fixed (length ds + suc k) (number 256 0 (acc * 256 + (d - 0)) ds) ≡ fixed (suc k) (acc * 256 + (d - 0)) ++ ds
    = fixed_acc (suc k) (acc * 256 + (d - 0)) ds h.1 in
    let e : suc (length ds) + k ≡ length ds + suc k = omega arith in
    rw (e, ih, q, m, append_assoc)

pub fixed_back : (k : ℕ) (ds : List ℕ) → Bytes ds → length ds ≡ k → fixed k (number 256 0 0 ds) ≡ ds
unfolding fixed
fixed_back k ds h e =
    let w : fixed (length ds + 0) (number 256 0 0 ds) ≡ fixed 0 0 ++ ds = fixed_acc 0 0 ds (bytes_digits ds h) in
    let z : length ds + 0 ≡ k = omega arith in
    rw z at w

-- so many bytes spell a number below that power of 256
pub number_below : (k : ℕ) (ds : List ℕ) → Bytes ds → length ds ≡ k → number 256 0 0 ds < 256 ^ k
number_below k ds h e =
    let z : length ds + 0 ≡ k = omega arith in
    fits_below 256 k (number 256 0 0 ds) (omega arith) (rw z at (number_fits 256 0 0 0 ds refl (bytes_digits ds h)))
