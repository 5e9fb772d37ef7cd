-- A number has one shortest form: bytes that spell it, of which there is one, or the first is not 0.
use mathlib.Core.Path.{◌≡◌, refl, sym, ◌∙◌}
use mathlib.Core.Logic.{⊎_elim}
use mathlib.Core.List.{List, [], ◌∷◌}
use Prim.Native.Nat.{ℕ, zero, suc, ◌+◌, ◌-◌, ◌*◌, ◌/◌, ◌%◌, ◌<◌}
use native.Mathlib.Omega.{arith}
use native.Mathlib.Nat.{mod-eq_of_lt, div-eq_of_lt}
use lib.ListN.{length}
use Rattle.format.specs.Coding.{Bytes, bytes_number, number, digits}
use Rattle.format.specs.Demands.Demand2.{Shortest}
use Rattle.format.proofs.Coding.Digits.{digits_acc, digits_pos, digits_zero, bytes_digits}

-- bytes of which the first is not 0 are the digits of what they spell, however many are looked for
big : (d : ℕ) (ds : List ℕ) (k : ℕ) → 0 < d → Bytes (d ∷ ds) → digits 256 0 (length ds + suc k) (bytes_number (d ∷ ds)) ≡ d ∷ ds
unfolding number
big d ds k p h =
    let e : 0 + (d - 0) ≡ d = omega arith in
    let l : d < 256 = h 0 in
    let q : d / 256 ≡ 0 = div-eq_of_lt l in
    let r : d % 256 + 0 ≡ d = rw (mod-eq_of_lt l) (omega arith) in
    rw (e, digits_acc 256 0 (suc k) d ds p (bytes_digits ds (λ i. h (suc i))), digits_pos 256 0 k d p, q, digits_zero 256 0 k, r)

-- and they do not spell 0
not_0 : (acc : ℕ) (ds : List ℕ) → 0 < acc → 0 < number 256 0 acc ds
unfolding number
not_0 acc [] p = p
not_0 acc (d ∷ ds) p = not_0 (acc * 256 + (d - 0)) ds (omega arith)

-- a first byte of 0 stands alone
lone_0 : (ds : List ℕ) → Shortest (0 ∷ ds) → ds ≡ []
lone_0 [] s = refl
lone_0 (d ∷ ds) s = absurd (⊎_elim (λ e. omega (arith, e)) (λ p. omega (arith, p)) s.2)

zero_is : (ds : List ℕ) → Shortest (0 ∷ ds) → bytes_number (0 ∷ ds) ≡ 0
unfolding number
zero_is ds s = rw (lone_0 ds s) refl

more_is : (d : ℕ) (ds : List ℕ) → 0 < bytes_number (suc d ∷ ds)
unfolding number
more_is d ds = not_0 (0 * 256 + (suc d - 0)) ds (omega arith)

pub shortest_one : (v w : List ℕ) → Shortest v → Shortest w → bytes_number v ≡ bytes_number w → v ≡ w
shortest_one [] w s z e = absurd (omega (arith, s.1))
shortest_one (d ∷ ds) [] s z e = absurd (omega (arith, z.1))
shortest_one (zero ∷ ds) (zero ∷ cs) s z e = rw (lone_0 ds s, lone_0 cs z) refl
shortest_one (zero ∷ ds) (suc c ∷ cs) s z e = absurd (omega (arith, zero_is ds s, e, more_is c cs))
shortest_one (suc d ∷ ds) (zero ∷ cs) s z e = absurd (omega (arith, zero_is cs z, e, more_is d ds))
shortest_one (suc d ∷ ds) (suc c ∷ cs) s z e =
    let k : length ds + suc (length cs) ≡ length cs + suc (length ds) = omega arith in
    sym (big (suc d) ds (length cs) (omega arith) s.0) ∙ rw (k, e) (big (suc c) cs (length ds) (omega arith) z.0)
