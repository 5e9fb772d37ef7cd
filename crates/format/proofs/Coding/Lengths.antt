-- Lengths: what was written is read back, and what was read is what would be written.
use mathlib.Core.Path.{◌≡◌, refl, ap, ◌∙◌}
use Prim.Native.Nat.{ℕ, zero, suc, ◌+◌, ◌-◌, ◌≤◌, ◌<◌, ◌^◌}
use native.Mathlib.Omega.{arith}
use mathlib.Core.Bool.{Bool, true, false}
use mathlib.Core.List.{List, [], ◌∷◌, ◌++◌}
use lib.ListN.{length, take, drop, length-append, take-append-drop}
use lib.Seq.{take_at, length-take-le}
use lib.Dec.{ltb, leb}
use borrow.Author.Tests.{lt-ltb, le-ltb, le-leb, ltb-true, ltb-false, leb-true}
use Rattle.format.specs.Answer.{ok, Got, got, ◌>>=◌, need}
use Rattle.format.specs.Coding.{Bytes, bytes_number, digits, fixed, long_of, len_of, len_bytes, len_width}
use Rattle.format.specs.Valid.{Holds}
use Rattle.format.proofs.Words.Answers.{never, need_then, ok_inj, and_both}
use Rattle.format.proofs.Words.Bytes.{bytes_take, Took}
use Rattle.format.proofs.Coding.Digits.{Fits, fits_below, below_fits, digits_few, digits_just, fixed_number, length_fixed, fixed_back, number_below}

pub length_len : (w n : ℕ) → length (len_bytes w n) ≡ w
unfolding len_bytes
length_len zero n = refl
length_len (suc zero) n = refl
length_len (suc (suc k)) n = ap suc (length_fixed (suc k) n)

pub holds_pos : (w n : ℕ) → Holds w n → 0 < w
holds_pos zero n h = absurd h
holds_pos (suc w) n h = omega arith

-- ---- written, then read

len_long : (k n : ℕ) (t : List ℕ) → n < 256 ^ suc k → k < 4 → len_of (len_bytes (suc (suc k)) n ++ t) ≡ ok (got n (suc (suc k)))
unfolding len_of len_bytes long_of ◌>>=◌ need
len_long k n t h p =
    let e : 129 + k - 128 ≡ suc k = omega arith in
    let l : length (fixed (suc k) n) ≡ suc k = length_fixed (suc k) n in
    let room : suc k ≤ length (fixed (suc k) n ++ t) = simp length-append (omega arith) in
    rw (
      le-ltb (129 + k) 128 (omega arith),
      len_of,
      e,
      lt-ltb 0 (suc k) (omega arith),
      le-leb (suc k) 4 (omega arith),
      le-leb _ _ room,
      take_at (fixed (suc k) n) t (suc k) l,
      fixed_number (suc k) n h,
    )

pub len_back : (w n : ℕ) (t : List ℕ) → Holds w n → len_of (len_bytes w n ++ t) ≡ ok (got n w)
unfolding len_of len_bytes
len_back zero n t h = absurd h
len_back (suc zero) n t h = rw (lt-ltb n 128 h, len_of)
len_back (suc (suc k)) n t h = len_long k n t h.1 h.0

-- ---- read, then written

long_bytes : (k : ℕ) (s : List ℕ) → Bytes s → 0 < k → k ≤ length s → (128 + k) ∷ s ≡ len_bytes (suc k) (bytes_number (take k s)) ++ drop k s
unfolding len_bytes
long_bytes zero s h p q = absurd (omega arith)
long_bytes (suc j) s h p q =
    let e : 128 + suc j ≡ 129 + j = omega arith in
    rw (fixed_back (suc j) (take (suc j) s) (bytes_take (suc j) s h) (length-take-le (suc j) s q), take-append-drop, e)

long_holds : (k : ℕ) (s : List ℕ) → Bytes s → 0 < k → k ≤ 4 → k ≤ length s → Holds (suc k) (bytes_number (take k s))
long_holds zero s h p q l = absurd (omega arith)
long_holds (suc k) s h p q l = (q, number_below (suc k) (take (suc k) s) (bytes_take (suc k) s h) (length-take-le (suc k) s l))

-- what was read stands there, and its width holds it
abbrev pub LenSaid : List ℕ → Got ℕ → Type 0
LenSaid s r = Took (len_bytes r.used r.val) s r.used × Holds r.used r.val

long_says : (b : ℕ) (s : List ℕ) (r : Got ℕ) → Bytes s → 128 ≤ b → long_of (b - 128) s ≡ ok r → LenSaid (b ∷ s) r
unfolding long_of
long_says b s r h l e =
    need_then _ _ _ _ e λ t e₁.
    need_then _ _ _ _ e₁ λ u e₂.
    let (t₁, t₂) = and_both (ltb 0 (b - 128)) (leb (b - 128) 4) t in
    let p : 0 < b - 128 = ltb-true _ _ t₁ in
    let q : b - 128 ≤ length s = leb-true _ _ u in
    let z : b ≡ 128 + (b - 128) = omega arith in
    rw (← ok_inj _ _ e₂) (
      record { bytes = ap (λ x. x ∷ s) z ∙ long_bytes (b - 128) s h p q; pos = omega arith; room = omega arith },
      long_holds (b - 128) s h p (leb-true _ _ t₂) q,
    )

pub len_says : (s : List ℕ) (r : Got ℕ) → Bytes s → len_of s ≡ ok r → LenSaid s r
unfolding len_of len_bytes
len_says [] r h e = never 3 0 r e
len_says (b ∷ s) r h e = go (ltb b 128) refl
  where
    go : (t : Bool) → ltb b 128 ≡ t → LenSaid (b ∷ s) r
    go true z =
        let e' : got b 1 ≡ r = ok_inj (got b 1) r (rw (z, len_of) at e) in
        rw (← e') (record { bytes = refl; pos = omega arith; room = omega arith }, ltb-true b 128 z)
    go false z = long_says b s r (λ i. h (suc i)) (ltb-false b 128 z) (rw (z, len_of) at e)

-- ---- the shortest width

holds_many : (m n : ℕ) → 0 < n → m ≤ 4 → Fits 256 m n → Holds (suc m) n
holds_many zero n p q h = absurd (omega arith)
holds_many (suc k) n p q h = (q, fits_below 256 (suc k) n (omega arith) h)

pub width_holds : (n : ℕ) → n < 2 ^ 32 → Holds (len_width n) n
unfolding len_width
width_holds n h = go (ltb n 128) refl
  where
    f : Fits 256 4 n
    f = omega arith

    go : (b : Bool) → ltb n 128 ≡ b → Holds (len_width n) n
    go true e = rw (e, len_width) (ltb-true n 128 e)
    go false e =
        let g : 128 ≤ n = ltb-false n 128 e in
        rw (e, len_width) (holds_many (length (digits 256 0 4 n)) n (omega arith) (digits_few 256 0 4 4 n f) (digits_just 256 0 4 n f))

-- no width that holds n, or more, is shorter
few_digits : (w m n : ℕ) → 128 ≤ n → n ≤ m → Holds w m → suc (length (digits 256 0 4 n)) ≤ w
few_digits zero m n g l h = absurd h
few_digits (suc zero) m n g l h = absurd (omega arith)
few_digits (suc (suc k)) m n g l h =
    let b : m < 256 ^ suc k = h.1 in
    let q : n < 256 ^ suc k = omega arith in
    let z = digits_few 256 0 4 (suc k) n (below_fits 256 (suc k) n (omega arith) q) in
    omega arith

pub width_least : (w m n : ℕ) → n ≤ m → Holds w m → len_width n ≤ w
unfolding len_width
width_least w m n l h = go (ltb n 128) refl
  where
    p : 0 < w
    p = holds_pos w m h

    go : (b : Bool) → ltb n 128 ≡ b → len_width n ≤ w
    go true e = rw (e, len_width) (omega (arith, p))
    go false e = rw (e, len_width) (few_digits w m n (ltb-false n 128 e) l h)
