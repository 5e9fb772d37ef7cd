-- The first byte of an id, as a loop finds it: digits fall away at the end, until the first is left.
use mathlib.Core.Path.{◌≡◌, refl, ap, ◌∙◌}
use Prim.Native.Nat.{ℕ, zero, suc, ◌+◌, ◌/◌, ◌%◌, ◌<◌, ◌^◌}
use native.Mathlib.Omega.{arith}
use mathlib.Core.List.{List, [], ◌∷◌, ◌++◌, append_assoc}
use lib.ListN.{get_or}
use Rattle.format.specs.Coding.{digits, oid_bytes}
use Rattle.format.proofs.Coding.Digits.{Fits, below_fits, digits_zero, digits_pos}

pub lead_low : (id : ℕ) → id < 128 → id ≡ get_or (oid_bytes id) 0 0
unfolding oid_bytes
lead_low id h =
    let q : id / 128 ≡ 0 = omega arith in
    let m : id % 128 ≡ id = omega arith in
    rw (q, m, digits_zero 128 128 8)

-- what is left is m, which has at most k digits; others fell away
pub record LeadAt (id m : ℕ) : Type 0 where
  pub k : ℕ
  pub fits : Fits 128 k m
  pub away : List ℕ
  pub first : get_or (oid_bytes id) 0 0 ≡ get_or (digits 128 128 k m ++ away) 0 0

pub lead_start : (id : ℕ) → id < 2 ^ 63 → {m : ℕ} → m ≡ id / 128 → LeadAt id m
unfolding oid_bytes
lead_start id h e = rw e (record { k = 8; fits = below_fits 128 8 (id / 128) (omega arith) (omega arith); away = id % 128 ∷ []; first = refl })

-- one digit less
record Split (id m : ℕ) : Type 0 where
  k : ℕ
  fits : Fits 128 k (m / 128)
  away : List ℕ
  first : get_or (oid_bytes id) 0 0 ≡ get_or (digits 128 128 k (m / 128) ++ ((m % 128 + 128) ∷ away)) 0 0

module _ {id m : ℕ} (some : 0 < m) (l : LeadAt id m) where
  split : Split id m
  split = by l.k l.fits l.first
    where
      by : (k : ℕ) → Fits 128 k m → get_or (oid_bytes id) 0 0 ≡ get_or (digits 128 128 k m ++ l.away) 0 0 → Split id m
      by zero f e = absurd (omega (arith, f, some))
      by (suc k) f e = record {
        k = k;
        fits = f;
        away = l.away;
        first = e ∙ ap (λ x. get_or x 0 0) (ap (λ x. x ++ l.away) (digits_pos 128 128 k m some) ∙ append_assoc (digits 128 128 k (m / 128)) ((m % 128 + 128) ∷ []) l.away);
      }

  pub lead_more : {n : ℕ} → n ≡ m / 128 → LeadAt id n
  lead_more e = rw e (record { k = split.k; fits = split.fits; away = (m % 128 + 128) ∷ split.away; first = split.first })

  pub lead_done : m < 128 → 128 + m ≡ get_or (oid_bytes id) 0 0
  lead_done h =
      let q : m / 128 ≡ 0 = omega arith in
      let z : get_or (oid_bytes id) 0 0 ≡ m % 128 + 128 = split.first ∙ rw (q, digits_zero 128 128 split.k) in
      omega (arith, z)
