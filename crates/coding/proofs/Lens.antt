-- Numbers and lengths as the code reads them: one byte more, and the cases of `len_of` by the first byte.
use Rattle.std.proofs.Common.{◌≡◌, ℕ, suc, ◌+◌, ◌-◌, ◌*◌, ◌^◌, ◌<◌, ◌≤◌, ◌⊎◌, List, [], ◌∷◌, ◌++◌, length, get_or, take, drop, sym, refl, ap, ◌∙◌, inl, inr, add-zero, pow-suc, add-one, arith, length-drop, length-take-le, get_or-drop, take-suc, take-add, le-ltb, lt-ltb, le-leb}
use native.Mathlib.Nat.{sub-zero, pow-zero}
use borrow.Author.Tests.{lt-leb}
use Rattle.format.specs.Answer.{ok, refused, got, ◌>>=◌, need}
use Rattle.format.specs.Coding.{bytes_number, number, len_of, long_of}
use Rattle.format.proofs.Coding.Digits.{number_snoc}
use Rattle.coding.proofs.Rooms.{tail_part}

-- one byte more
pub number_more : (s : List ℕ) (i : ℕ) → i < length s → bytes_number (take i s) * 256 + get_or s i 0 ≡ bytes_number (take (i + 1) s)
number_more s i h = rw (add-one, take-suc s i 0, number_snoc, sub-zero)

-- bytes after bytes
number_from : (acc : ℕ) (ds : List ℕ) → number 256 0 acc ds ≡ acc * 256 ^ length ds + bytes_number ds
unfolding number
number_from acc [] = rw pow-zero (omega arith)
number_from acc (d ∷ ds) = rw (pow-suc, number_from (acc * 256 + (d - 0)) ds, number_from (0 * 256 + (d - 0)) ds) (omega arith)

number_then : (acc : ℕ) (xs ys : List ℕ) → number 256 0 acc (xs ++ ys) ≡ number 256 0 (number 256 0 acc xs) ys
unfolding number
number_then acc [] ys = refl
number_then acc (x ∷ xs) ys = number_then (acc * 256 + (x - 0)) xs ys

pub number_append : (xs ys : List ℕ) → bytes_number (xs ++ ys) ≡ bytes_number xs * 256 ^ length ys + bytes_number ys
number_append xs ys = number_then 0 xs ys ∙ number_from (bytes_number xs) ys

-- eight as four and four
pub number_halves : (s : List ℕ) → 8 ≤ length s → {a b : ℕ} → a ≡ bytes_number (take 4 s) → b ≡ bytes_number (take 4 (take (length s - 4) (drop 4 s))) → a * 4294967296 + b ≡ bytes_number (take 8 s)
number_halves s h ea eb =
    let n : length (take 4 (drop 4 s)) ≡ 4 = length-take-le 4 (drop 4 s) (rw length-drop (omega arith)) in
    rw (take-add 4 4 s, number_append (take 4 s) (take 4 (drop 4 s)), n, ea, eb, tail_part)

-- two of which the first is 0
none : (u : List ℕ) → bytes_number (take 0 u) ≡ 0
unfolding number
none u = refl

pub two_small : (s : List ℕ) (q : ℕ) {r : ℕ} → r ≡ q + 1 → q + 2 ≤ length s → get_or s q 0 ≡ 0 → get_or s r 0 ≡ bytes_number (take 2 (drop q s))
two_small s q e h z =
    let long : 2 ≤ length (drop q s) = omega (arith, length-drop q s) in
    let zero_first : get_or (drop q s) 0 0 ≡ 0 = get_or-drop q s 0 0 ∙ ap (λ i. get_or s i 0) (add-zero q) ∙ z in
    let first : bytes_number (take 0 (drop q s)) * 256 + get_or (drop q s) 0 0 ≡ bytes_number (take 1 (drop q s)) = number_more (drop q s) 0 (omega (arith, long)) in
    let second : bytes_number (take 1 (drop q s)) * 256 + get_or (drop q s) 1 0 ≡ bytes_number (take 2 (drop q s)) = number_more (drop q s) 1 (omega (arith, long)) in
    omega (arith, none (drop q s), zero_first, first, second, get_or-drop q s 1 0, ap (λ i. get_or s i 0) e)

-- ---- the cases of `len_of`

pub len_none : (s : List ℕ) → length s ≡ 0 → refused 3 0 ≡ len_of s
unfolding len_of
len_none [] h = refl
len_none (b ∷ s) h = absurd (omega arith)

pub len_small : (s : List ℕ) (b : ℕ) → b ≡ get_or s 0 0 → 0 < length s → b < 128 → ok (got b 1) ≡ len_of s
unfolding len_of
len_small [] b e p h = absurd (omega arith)
len_small (c ∷ s) b e p h = rw (e, lt-ltb c 128 (omega arith), len_of)

len_large : (s : List ℕ) (b : ℕ) → b ≡ get_or s 0 0 → 0 < length s → 128 ≤ b → len_of s ≡ long_of (b - 128) (drop 1 s)
unfolding len_of
len_large [] b e p h = absurd (omega arith)
len_large (c ∷ s) b e p h = rw (e, le-ltb c 128 (omega arith), len_of)

long_zero : (s : List ℕ) → long_of 0 s ≡ refused 5 0
unfolding long_of ◌>>=◌ need
long_zero s = refl

long_over : (k : ℕ) (s : List ℕ) → 4 < k → long_of k s ≡ refused 5 0
unfolding long_of ◌>>=◌ need
long_over k s h = rw (lt-ltb 0 k (omega arith), lt-leb k 4 h)

long_cut : (k : ℕ) (s : List ℕ) → 0 < k → k ≤ 4 → length s < k → long_of k s ≡ refused 3 0
unfolding long_of ◌>>=◌ need
long_cut k s p q h = rw (lt-ltb 0 k p, le-leb k 4 q, lt-leb k (length s) h)

long_whole : (k : ℕ) (s : List ℕ) → 0 < k → k ≤ 4 → k ≤ length s → long_of k s ≡ ok (got (bytes_number (take k s)) (suc k))
unfolding long_of ◌>>=◌ need
long_whole k s p q h = rw (lt-ltb 0 k p, le-leb k 4 q, le-leb k (length s) h)

-- over the code's first byte b
module _ (s : List ℕ) (b : ℕ) (e : b ≡ get_or s 0 0) (p : 0 < length s) (q : 128 ≤ b) where
  large : len_of s ≡ long_of (b - 128) (drop 1 s)
  large = len_large s b e p q

  pub len_bad : (b ≡ 128) ⊎ (132 < b) → refused 5 0 ≡ len_of s
  len_bad (inl h) = sym (large ∙ rw h (long_zero (drop 1 s)))
  len_bad (inr h) = sym (large ∙ long_over (b - 128) (drop 1 s) (omega arith))

  pub len_cut : 128 < b → b ≤ 132 → length s - 1 < b - 128 → refused 3 0 ≡ len_of s
  len_cut h j c = sym (large ∙ long_cut (b - 128) (drop 1 s) (omega arith) (omega arith) (rw length-drop c))

  pub len_whole : (n : ℕ) → 128 < b → b ≤ 132 → b - 128 ≤ length s - 1 → n ≡ bytes_number (take (b - 128) (take (length s - 1) (drop 1 s))) → ok (got n (b - 128 + 1)) ≡ len_of s
  len_whole n h j c z =
      rw (z, tail_part 1 s, add-one) (sym (large ∙ long_whole (b - 128) (drop 1 s) (omega arith) (omega arith) (rw length-drop c)))

-- two bytes, of which the first says that there is one more
pub len_two : (s : List ℕ) {b : ℕ} → b ≡ get_or s 0 0 → b ≡ 129 → 2 ≤ length s → {n : ℕ} → n ≡ get_or s 1 0 → ok (got n 2) ≡ len_of s
len_two s {b = b} e h p {n = n} en =
    let one : bytes_number (take 0 (drop 1 s)) * 256 + get_or (drop 1 s) 0 0 ≡ bytes_number (take 1 (drop 1 s)) = number_more (drop 1 s) 0 (omega (arith, length-drop 1 s, p)) in
    let value : n ≡ bytes_number (take 1 (take (length s - 1) (drop 1 s))) = rw tail_part (omega (arith, none (drop 1 s), one, get_or-drop 1 s 0 0, en)) in
    len_whole s 129 (sym h ∙ e) (omega arith) (omega arith) n (omega arith) (omega arith) (omega arith) value
