-- What a level holds, as bits: the bit of each tag below 64 says whether that tag is there.
use mathlib.Core.Path.{◌≡◌, refl, sym, ap, ap₂, ◌∙◌}
use Prim.Native.Nat.{ℕ, zero, suc, ◌+◌, ◌-◌, ◌*◌, ◌/◌, ◌%◌, ◌^◌, ◌≤◌, ◌<◌, max}
use native.Mathlib.Omega.{arith}
use native.Mathlib.Nat.{mod-lt, zero-div, div-eq_of_lt, one-mul}
use mathlib.Core.Bool.{Bool, true, false, ◌||◌}
use mathlib.Core.List.{List, [], ◌∷◌, map}
use lib.Arith.{bin_ind}
use lib.Dec.{ltb, eqb, lit<}
use lib.Pow.{pow-lt, pow-add, shl-shr}
use lib.Bits.{bit_or, or_step, or_shr, or_mod, shifted_even}
use borrow.Author.Tests.{ltb-true, ltb-false, le-ltb, eq-eqb, ne_eqb}
use Rattle.format.specs.Lists.{has}
use Rattle.tally.specs.Meet.{bits, bit_of, is_held}

-- ---- digits

digit_or : (x y : ℕ) → x < 2 → y < 2 → bit_or x y ≡ max x y
digit_or zero y h k = omega arith
digit_or (suc zero) zero h k = refl
digit_or (suc zero) (suc zero) h k = refl
digit_or (suc zero) (suc (suc y)) h k = absurd (omega arith)
digit_or (suc (suc x)) y h k = absurd (omega arith)

digit_held : (x y : ℕ) → x < 2 → y < 2 → eqb (max x y) 1 ≡ (eqb x 1 || eqb y 1)
digit_held zero zero h k = refl
digit_held zero (suc zero) h k = refl
digit_held (suc zero) zero h k = refl
digit_held (suc zero) (suc zero) h k = refl
digit_held zero (suc (suc y)) h k = absurd (omega arith)
digit_held (suc zero) (suc (suc y)) h k = absurd (omega arith)
digit_held (suc (suc x)) y h k = absurd (omega arith)

or_low : (a b : ℕ) → bit_or a b % 2 ≡ max (a % 2) (b % 2)
or_low a b = or_mod a b 1 ∙ digit_or (a % 2) (b % 2) (mod-lt a (lit< tt)) (mod-lt b (lit< tt))

pub or_assoc : (a b c : ℕ) → bit_or a (bit_or b c) ≡ bit_or (bit_or a b) c
or_assoc a =
    bin_ind (λ (n : ℕ). (b c : ℕ) → bit_or n (bit_or b c) ≡ bit_or (bit_or n b) c) (λ b c. refl)
    (λ n ih b c.
    or_step n (bit_or b c)
    ∙ ap₂ (λ x y. bit_or (n / 2) x * 2 + max (n % 2) y) (or_shr b c 1) (or_low b c)
    ∙ ap₂ (λ x y. x * 2 + y) (ih (b / 2) (c / 2)) (omega arith)
    ∙ sym (ap₂ (λ x y. bit_or x (c / 2) * 2 + max y (c % 2)) (or_shr n b 1) (or_low n b))
    ∙ sym (or_step (bit_or n b) c))
    a

-- ---- whether a bit is set

pub held_or : (k a b : ℕ) → is_held k (bit_or a b) ≡ (is_held k a || is_held k b)
unfolding is_held
held_or k a b =
    ap (λ x. eqb (x % 2) 1) (or_shr a b k)
    ∙ ap (λ x. eqb x 1) (or_low (a / 2 ^ k) (b / 2 ^ k))
    ∙ digit_held (a / 2 ^ k % 2) (b / 2 ^ k % 2) (mod-lt (a / 2 ^ k) (lit< tt)) (mod-lt (b / 2 ^ k) (lit< tt))

none_held : (k : ℕ) → is_held k 0 ≡ false
unfolding is_held
none_held k = rw zero-div

power_held : (k tag : ℕ) → is_held k (2 ^ tag) ≡ eqb tag k
unfolding is_held
power_held k tag = go (ltb tag k) refl (ltb k tag) refl
  where
    above : (d : ℕ) → tag ≡ suc d + k → 2 ^ tag / 2 ^ k % 2 ≡ 0
    above d e = ap (λ x. 2 ^ x / 2 ^ k % 2) e ∙ ap (λ x. x / 2 ^ k % 2) (pow-add 2 (suc d) k) ∙ ap (λ x. x % 2) (shl-shr (2 ^ suc d) k ∙ sym (one-mul (2 ^ suc d))) ∙ shifted_even 1 d

    same : 2 ^ k / 2 ^ k % 2 ≡ 1
    same = ap (λ x. x / 2 ^ k % 2) (sym (one-mul (2 ^ k))) ∙ ap (λ x. x % 2) (shl-shr 1 k)

    go : (b : Bool) → ltb tag k ≡ b → (c : Bool) → ltb k tag ≡ c → eqb (2 ^ tag / 2 ^ k % 2) 1 ≡ eqb tag k
    go true l c g = rw (div-eq_of_lt (pow-lt (ltb-true tag k l)), ne_eqb tag k (λ e. omega (arith, ltb-true tag k l)))
    go false l true g = rw (above (tag - k - 1) (omega (arith, ltb-true k tag g)), ne_eqb tag k (λ e. omega (arith, ltb-true k tag g)))
    go false l false g =
        let e : tag ≡ k = omega (arith, ltb-false tag k l, ltb-false k tag g) in
        rw (e, same, eq-eqb k k refl)

pub held_bit : (k tag : ℕ) → k < 64 → is_held k (bit_of tag) ≡ eqb tag k
unfolding bit_of
held_bit k tag h = go (ltb tag 64) refl
  where
    go : (b : Bool) → ltb tag 64 ≡ b → is_held k (bit_of tag) ≡ eqb tag k
    go true z = rw (z, bit_of) (power_held k tag)
    go false z = rw (z, bit_of) (none_held k ∙ sym (ne_eqb tag k (λ e. omega (arith, ltb-false tag 64 z, e))))

-- one from 64 on has none
pub no_bit : (tag : ℕ) → 64 ≤ tag → bit_of tag ≡ 0
unfolding bit_of
no_bit tag h = rw (le-ltb tag 64 h, bit_of)

-- ---- the bits of all

pub bits_map : {X Y : Type 0} (f : X → Y) (held : Y → ℕ) (xs : List X) → bits (λ x. held (f x)) xs ≡ bits held (map f xs)
unfolding bits
bits_map f held [] = refl
bits_map f held (x ∷ xs) = ap (bit_or (held (f x))) (bits_map f held xs)

-- the bits of some tags say which they are
pub bits_has : (k : ℕ) → k < 64 → (tags : List ℕ) → is_held k (bits bit_of tags) ≡ has k tags
unfolding bits has
bits_has k h [] = none_held k
bits_has k h (tag ∷ tags) = held_or k (bit_of tag) (bits bit_of tags) ∙ ap₂ (λ x y. x || y) (held_bit k tag h) (bits_has k h tags)
