-- How many bytes the entries take: as the code counts them, and as the bytes are.
use mathlib.Core.Path.{◌≡◌, refl, ap, ◌∙◌}
use mathlib.Core.Logic.{inl, inr, ⊎_elim}
use Prim.Native.Nat.{ℕ, ◌+◌, ◌-◌, ◌≤◌, ◌<◌}
use native.Mathlib.Nat.{sub-zero}
use native.Mathlib.Omega.{arith}
use mathlib.Core.Bool.{Bool, true, false}
use mathlib.Core.List.{List, [], ◌++◌}
use lib.ListN.{length, length-append}
use lib.Dec.{ltb, eqb}
use borrow.Author.Tests.{ltb-true, ltb-false, eqb-true, eqb-false, lt-ltb, le-ltb, eq-eqb, ne_eqb}
use Rattle.format.specs.Coding.{len_width}
use Rattle.coding.proofs.Counts.{len_most}
use Rattle.store_coded.proofs.Fronts.{series_long}
use Rattle.find.specs.declared.around.Series.{Series}
use Rattle.find.specs.Series.{InOrder}
use Rattle.store_coded.specs.Fronts.{series_front}
use Rattle.edit_rules.specs.Cuts.{part}
use Rattle.edit_rules.proofs.Sizes.{part_long}
use Rattle.target_bytes.specs.Meet.{count_item, counted, packs_size, series_size, series_put, entries_put, six_size, entries_size}
use Rattle.target_bytes.proofs.Counts.{count_few, counted_plain, counted_six}

-- ---- as the code counts them

module _ (r : Series) (n : ℕ) where
  pub six_there : r.six < r.stop → {k : ℕ} → k ≡ length (count_item n) → k ≡ six_size r n
  six_there h e = rw (lt-ltb r.six r.stop h, six_size) e

  pub six_none : r.stop ≤ r.six → 0 ≡ six_size r n
  six_none h = rw (le-ltb r.six r.stop h, six_size)

  pub six_few : n ≤ 65535 → six_size r n ≤ 4
  six_few h = go (ltb r.six r.stop) refl
    where
      go : (b : Bool) → ltb r.six r.stop ≡ b → six_size r n ≤ 4
      go true e = rw (e, six_size) (count_few n h)
      go false e = rw (e, six_size) (omega arith)

module _ (m : ℕ) where
  pub series_none : m ≡ 0 → 0 ≡ series_size m
  series_none e = rw (eq-eqb m 0 e, series_size)

  pub series_some : (m ≡ 0 → ⊥) → {w : ℕ} → w ≡ len_width m → 1 + w + m ≡ series_size m
  series_some h e = rw (ne_eqb m 0 h, series_size) (ap (λ w. 1 + w + m) e)

  pub series_few : series_size m ≤ 6 + m
  series_few = go (eqb m 0) refl
    where
      go : (b : Bool) → eqb m 0 ≡ b → series_size m ≤ 6 + m
      go true e = rw (e, series_size) (omega arith)
      go false e = rw (e, series_size) (omega (arith, len_most m))

-- tag 6 stands apart from the series
pub around_six : (r : Series) {k : ℕ} → InOrder k r → r.after - r.six ≤ r.stop - (r.tail - r.at)
around_six r h = ⊎_elim (λ a. omega (arith, h, a)) (λ a. omega (arith, h, a)) h.apart

pub entries_few : (r : Series) (n m : ℕ) → r.stop ≤ 8192 → n ≤ 65535 → m ≤ 65536 → entries_size r n m ≤ 1048576
entries_few r n m s h k = omega (arith, six_few r n h, series_few m)

-- ---- as the bytes are

-- tag 6 before the series, after it, or nowhere
six_before : (six after at tail stop k : ℕ) → six ≤ after → after ≤ at → at ≤ tail → tail ≤ stop → six + (k + (at - after)) + (stop - tail) ≡ (stop - (tail - at)) - (after - six) + k
six_before six after at tail stop k a b c d = omega arith

six_later : (six after at tail stop k : ℕ) → at ≤ tail → tail ≤ six → six ≤ after → after ≤ stop → at + ((six - tail) + (k + (stop - after))) ≡ (stop - (tail - at)) - (after - six) + k
six_later six after at tail stop k a b c d = omega arith

module _ (s : List ℕ) (r : Series) where
  pub put_none : (new : List ℕ) → packs_size r (length new) ≡ 0 → series_put s r new ≡ []
  unfolding series_put
  put_none new e = rw (eq-eqb (packs_size r (length new)) 0 e, series_put)

  pub put_some : (new : List ℕ) → (packs_size r (length new) ≡ 0 → ⊥)
      → series_put s r new ≡ series_front (packs_size r (length new)) ++ (part s r.packs r.pack ++ (part s r.last r.tail ++ new))
  unfolding series_put
  put_some new e = rw (ne_eqb (packs_size r (length new)) 0 e, series_put)

module _ (s : List ℕ) (r : Series) (h : InOrder (length s) r) where
  -- what stands before the series and after it
  module _ (n : ℕ) where
    abbrev around : ℕ
    around = length (counted s r n 0 r.at) + length (counted s r n r.tail r.stop)

    abbrev kept : ℕ
    kept = (r.stop - (r.tail - r.at)) - (r.after - r.six)

    long_before : (r.six < r.after) × (r.after ≤ r.at) → around ≡ kept + six_size r n
    long_before a =
        let u = part_long s 0 r.six (omega arith) (omega (arith, a, h)) in
        let v = part_long s r.after r.at a.1 (omega (arith, h)) in
        let w = part_long s r.tail r.stop h.to_stop h.to_end in
        rw (counted_six s r n 0 r.at (omega arith) (omega (arith, a)), counted_plain s r n r.tail r.stop (inl (omega (arith, a, h))), ← six_there r n (omega (arith, a, h)) refl)
        (simp (length-append, u, v, w) (rw (sub-zero r.six) (six_before r.six r.after r.at r.tail r.stop (length (count_item n)) h.six a.1 (omega (arith, h)) h.to_stop)))

    first_long : r.tail ≤ r.six → length (counted s r n 0 r.at) ≡ r.at
    first_long a = ap length (counted_plain s r n 0 r.at (inr (omega (arith, a, h)))) ∙ part_long s 0 r.at (omega arith) (omega (arith, h)) ∙ sub-zero r.at

    long_later : r.tail ≤ r.six → r.six < r.stop → around ≡ kept + six_size r n
    long_later a l =
        let u = part_long s r.tail r.six a (omega (arith, l, h)) in
        let v = part_long s r.after r.stop h.after h.to_end in
        rw (first_long a, counted_six s r n r.tail r.stop a l, ← six_there r n l refl)
        (simp (length-append, u, v) (six_later r.six r.after r.at r.tail r.stop (length (count_item n)) (omega (arith, h)) a h.six h.after))

    long_none : r.stop ≤ r.six → around ≡ kept + six_size r n
    long_none l =
        let w = part_long s r.tail r.stop h.to_stop h.to_end in
        rw (first_long (omega (arith, l, h)), counted_plain s r n r.tail r.stop (inr l), ← six_none r n l, w) (omega (arith, l, h))

    around_long : around ≡ kept + six_size r n
    around_long = ⊎_elim long_before (λ a. go a (ltb r.six r.stop) refl) h.apart
      where
        go : r.tail ≤ r.six → (b : Bool) → ltb r.six r.stop ≡ b → around ≡ kept + six_size r n
        go a true e = long_later a (ltb-true r.six r.stop e)
        go a false e = long_none (ltb-false r.six r.stop e)

  pub series_put_long : (new : List ℕ) → length (series_put s r new) ≡ series_size (packs_size r (length new))
  series_put_long new = go (eqb (packs_size r (length new)) 0) refl
    where
      go : (b : Bool) → eqb (packs_size r (length new)) 0 ≡ b → length (series_put s r new) ≡ series_size (packs_size r (length new))
      go true e = rw (e, series_size) (ap length (put_none s r new (eqb-true (packs_size r (length new)) 0 e)))
      go false e =
          let u = part_long s r.packs r.pack h.to_pack (omega (arith, h)) in
          let v = part_long s r.last r.tail h.to_tail (omega (arith, h)) in
          rw (e, series_size) (rw (put_some s r new (eqb-false (packs_size r (length new)) 0 e)) (simp (length-append, series_long, u, v) (omega arith)))

  pub entries_long : (n : ℕ) (new : List ℕ) → length (entries_put s r n new) ≡ entries_size r n (packs_size r (length new))
  unfolding entries_put
  entries_long n new =
      let a = length-append (counted s r n 0 r.at) (series_put s r new ++ counted s r n r.tail r.stop) in
      let b = length-append (series_put s r new) (counted s r n r.tail r.stop) in
      omega (arith, a, b, around_long n, series_put_long new)
