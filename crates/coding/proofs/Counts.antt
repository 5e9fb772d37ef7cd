-- How many bytes lengths, tags and ids take: `len_width` between bounds, and the length of `oid_bytes` as a loop counts it.
use Rattle.std.proofs.Common.{◌≡◌, ℕ, zero, suc, ◌+◌, ◌-◌, ◌/◌, ◌^◌, ◌<◌, ◌≤◌, Bool, true, false, ltb, length, refl, pow-suc, le-div_iff_mul-le, arith, length-append, le-ltb, lt-ltb}
use native.Mathlib.Nat.{zero-div, pow-zero}
use Rattle.format.specs.Coding.{digits, len_width, oid_bytes}
use Rattle.format.proofs.Coding.Digits.{Fits, below_fits, digits_few, digits_zero, digits_pos}

-- ---- how many digits there are

module _ (b m : ℕ) where
  pub digits_most : (k n : ℕ) → length (digits b m k n) ≤ k
  unfolding digits
  digits_most zero n = omega arith
  digits_most (suc k) zero = omega arith
  digits_most (suc k) (suc n) = simp length-append (omega (arith, digits_most k (suc n / b)))

  -- n has a digit at the place j
  pub digits_many : (k j n : ℕ) → 0 < b → j < k → b ^ j ≤ n → j < length (digits b m k n)
  unfolding digits
  digits_many zero j n p h l = absurd (omega arith)
  digits_many (suc k) zero zero p h l = let l' : 1 ≤ 0 = rw pow-zero at l in omega arith
  digits_many (suc k) zero (suc n) p h l = simp length-append (omega arith)
  digits_many (suc k) (suc j) n p h l = go n (digits_many k j (n / b) p (omega arith) ((le-div_iff_mul-le p).1 (rw pow-suc at l)))
    where
      go : (n : ℕ) → j < length (digits b m k (n / b)) → suc j < length (digits b m (suc k) n)
      go zero ih = let z : j < 0 = rw (zero-div, digits_zero b m k) at ih in omega arith
      go (suc n) ih = simp length-append (omega arith)

-- ---- lengths

pub len_one : (n : ℕ) → n < 128 → 1 ≡ len_width n
unfolding len_width
len_one n h = rw (lt-ltb n 128 h, len_width)

pub len_most : (n : ℕ) → len_width n ≤ 5
unfolding len_width
len_most n = go (ltb n 128) refl
  where
    go : (t : Bool) → ltb n 128 ≡ t → len_width n ≤ 5
    go true e = rw (e, len_width) (omega arith)
    go false e = rw (e, len_width) (omega (arith, digits_most 256 0 4 n))

pub len_some : (n : ℕ) → 1 ≤ len_width n
unfolding len_width
len_some n = go (ltb n 128) refl
  where
    go : (t : Bool) → ltb n 128 ≡ t → 1 ≤ len_width n
    go true e = rw (e, len_width) (omega arith)
    go false e = rw (e, len_width) (omega arith)

-- a count, and bytes as there are digits
module _ (n : ℕ) (h : 128 ≤ n) where
  counted : len_width n ≡ suc (length (digits 256 0 4 n))
  unfolding len_width
  counted = rw (le-ltb n 128 h, len_width)

  pub len_below : (j : ℕ) → n < 256 ^ j → len_width n ≤ 1 + j
  len_below j g = omega (arith, counted, digits_few 256 0 4 j n (below_fits 256 j n (omega arith) g))

  pub len_above : (j : ℕ) → j < 4 → 256 ^ j ≤ n → 2 + j ≤ len_width n
  len_above j l g = omega (arith, counted, digits_many 256 0 4 j n (omega arith) l g)

  pub len_is : (j : ℕ) → j < 4 → 256 ^ j ≤ n → len_width n ≤ 2 + j → 2 + j ≡ len_width n
  len_is j l g u = omega (arith, len_above j l g)

-- ---- tags and ids

pub oid_most : (n : ℕ) → length (oid_bytes n) ≤ 9
unfolding oid_bytes
oid_most n = simp length-append (omega (arith, digits_most 128 128 8 (n / 128)))

-- a loop that counts the bytes of n: k are counted, and a byte is to come for each digit above the last of m
pub record OidCount (n k m : ℕ) : Type 0 where
  pub few : k ≤ 9
  pub fits : Fits 128 (9 - k) (m / 128)
  pub rest : length (oid_bytes n) ≡ k + length (digits 128 128 (9 - k) (m / 128))

pub count_start : (n : ℕ) → n < 2 ^ 63 → OidCount n 1 n
unfolding oid_bytes
count_start n h = record { few = omega arith; fits = below_fits 128 8 (n / 128) (omega arith) (omega arith); rest = simp length-append (omega arith) }

module _ (n k m : ℕ) (l : OidCount n k m) where
  pub count_more : 128 ≤ m → {m' : ℕ} → m' ≡ m / 128 → OidCount n (k + 1) m'
  count_more h em = rw em (by (9 - k) refl)
    where
      by : (j : ℕ) → 9 - k ≡ j → OidCount n (k + 1) (m / 128)
      by zero e = let f : m / 128 ≡ 0 = rw e at l.fits in absurd (omega arith)
      by (suc j) e =
          let e' : 9 - (k + 1) ≡ j = omega arith in
          let r = rw (e, digits_pos 128 128 j (m / 128) (omega arith)) at l.rest in
          record { few = omega (arith, l.few); fits = rw e' (rw e at l.fits); rest = rw e' (omega (arith, simp length-append at r)) }

  pub count_done : m < 128 → (k ≡ length (oid_bytes n)) × (k ≤ 9)
  count_done h =
      let z : m / 128 ≡ 0 = omega arith in
      let r = rw (z, digits_zero 128 128 (9 - k)) at l.rest in
      (omega (arith, r), l.few)
