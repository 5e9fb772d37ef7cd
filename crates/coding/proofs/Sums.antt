-- The checksum as a loop adds it up, a byte a turn, cut to 16 bits: what is left to add after i bytes.
use Rattle.std.proofs.Common.{◌≡◌, ℕ, zero, suc, ◌+◌, ◌-◌, ◌*◌, ◌/◌, ◌%◌, ◌<◌, ◌≤◌, List, [], ◌∷◌, length, get_or, take, drop, sym, refl, ap, ◌∙◌, ap₂, arith, drop-cons}
use native.Mathlib.Nat.{add-mod, mul-mod_left}
use Rattle.format.specs.Packet.{sums, checksum}

-- ---- bytes by their weights

-- how often the byte at k counts
abbrev pub weight : ℕ → ℕ
weight k = 256 - 255 * (k % 2)

-- bytes from k on
pub weighed : ℕ → List ℕ → ℕ
weighed k [] = 0
weighed k (a ∷ s) = a * weight k + weighed (suc k) s

weight_on : (k : ℕ) → weight (suc (suc k)) ≡ weight k
weight_on k = omega arith

weighed_on : (k : ℕ) (s : List ℕ) → weighed (suc (suc k)) s ≡ weighed k s
unfolding weighed
weighed_on k [] = refl
weighed_on k (a ∷ s) = ap₂ (λ w r. a * w + r) (weight_on k) (weighed_on (suc k) s)

sums_weighed : (s : List ℕ) → sums s ≡ weighed 0 s
unfolding sums weighed
sums_weighed [] = refl
sums_weighed (a ∷ []) = omega arith
sums_weighed (a ∷ b ∷ s) = let e = sums_weighed s ∙ sym (weighed_on 0 s) in omega (arith, e)

-- a byte that counts so often fits in 16 bits
pub weight_small : (a k : ℕ) → a < 256 → a * weight k < 65536
weight_small a k h = go (k % 2) refl
  where
    go : (p : ℕ) → k % 2 ≡ p → a * weight k < 65536
    go zero e = rw e (omega (arith, h))
    go (suc zero) e = rw e (omega (arith, h))
    go (suc (suc p)) e = absurd (omega (arith, e))

-- ---- the loop

pub record SumLeft (s : List ℕ) (n t i : ℕ) : Type 0 where
  pub to : i ≤ n
  pub small : t < 65536
  pub rest : sums (take n s) % 65536 ≡ (t + weighed i (take (n - i) (drop i s))) % 65536

pub sum_start : (s : List ℕ) (n : ℕ) → SumLeft s n 0 0
sum_start s n =
    let e : n - 0 ≡ n = omega arith in
    record { to = omega arith; small = omega arith; rest = rw e (omega (arith, sums_weighed (take n s))) }

-- what is cut is whole multiples
cut : (t x r p : ℕ) → p ≡ (t + x) % 65536 → (t + (x + r)) % 65536 ≡ (p + r) % 65536
cut t x r p e =
    let k = (t + x) / 65536 in
    let z : t + (x + r) ≡ p + r + k * 65536 = omega arith in
    ap (λ y. y % 65536) z ∙ add-mod (p + r) (k * 65536) 65536 ∙ rw (mul-mod_left k 65536) (omega arith)

module _ (s : List ℕ) (n t i : ℕ) (l : SumLeft s n t i) (g : n ≤ length s) where
  pub sum_more : i < n → (a p : ℕ) → a ≡ get_or s i 0 → p ≡ (t + a * weight i) % 65536 → SumLeft s n p (i + 1)
  unfolding weighed
  sum_more h a p ea ep =
      let e : n - i ≡ suc (n - (i + 1)) = omega arith in
      let d : i + 1 ≡ suc i = omega arith in
      let c : drop i s ≡ a ∷ drop (i + 1) s = drop-cons s i 0 (omega arith) ∙ rw (ea, d) in
      let v : weighed i (take (n - i) (drop i s)) ≡ a * weight i + weighed (i + 1) (take (n - (i + 1)) (drop (i + 1) s)) = rw (e, c, d) in
      record { to = omega arith; small = omega arith; rest = l.rest ∙ ap (λ z. (t + z) % 65536) v ∙ cut t (a * weight i) (weighed (i + 1) (take (n - (i + 1)) (drop (i + 1) s))) p ep }

  pub sum_all : n ≤ i → t ≡ checksum (take n s)
  unfolding weighed checksum
  sum_all h =
      let e : n - i ≡ 0 = omega arith in
      let v : weighed i (take (n - i) (drop i s)) ≡ 0 = rw e in
      let w : sums (take n s) % 65536 ≡ (t + 0) % 65536 = l.rest ∙ ap (λ z. (t + z) % 65536) v in
      omega (arith, w, l.small)
