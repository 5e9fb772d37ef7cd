-- What the table's bits say is what its rules say, by one computed test for each level and form.
use mathlib.Core.Path.{◌≡◌, refl, sym, ap, ◌∙◌}
use Prim.Native.Nat.{ℕ, zero, suc, ◌+◌, ◌-◌, ◌/◌, ◌%◌, ◌^◌, ◌≤◌, ◌<◌}
use native.Mathlib.Omega.{arith}
use native.Mathlib.Nat.{mod-one}
use mathlib.Core.Bool.{Bool, true, false, not, ◌&&◌, ◌||◌}
use mathlib.Core.List.{List}
use mathlib.Core.Logic.{inl, inr, ⊎_elim}
use lib.ListN.{length, get_or}
use lib.Dec.{ltb, leb, eqb}
use borrow.Author.Tests.{ltb-true, leb-true, lt-ltb, le-ltb, le-leb, eqb-true, eqb-false, ne_eqb, eq-eqb, not-true}
use Rattle.format.specs.Answer.{ok, need}
use Rattle.format.specs.Coding.{bytes_number}
use Rattle.format.specs.Lists.{has}
use Rattle.format.specs.Table.{Form, is_alone, Level, set, pack, is_set, Kind, bytes, num, pixel, Rule, unlisted, rules, find, rule_of, nameable, may_stand, sized, not_pixel, is_number, valued, short}
use Rattle.format.proofs.Words.Answers.{no_bool, and_both}
use Rattle.items.specs.Meet.{level_of, form_of, most_tag, rows_from, glance_row, glance_table, offsets}
use Rattle.items.specs.Quick.{bit, least_row, row_tells, beyond, As, Glanced}
use Rattle.items.proofs.Rows.{glance_at, rule_over}
use Rattle.items.proofs.Tests.{need_so, first_some, short_first, offset_over}

-- ---- for each number below k

abbrev pub below : ℕ → (ℕ → Bool) → Bool
below zero p = true
below (suc k) p = p k && below k p

pub below_at : (k : ℕ) (p : ℕ → Bool) → below k p ≡ true → (i : ℕ) → i < k → p i ≡ true
below_at zero p h i l = absurd (omega arith)
below_at (suc k) p h i l =
    let (here, rest) = and_both (p k) (below k p) h in
    go here (below_at k p rest i) (eqb i k) refl
  where
    go : p k ≡ true → (i < k → p i ≡ true) → (b : Bool) → eqb i k ≡ b → p i ≡ true
    go here rest true e = ap p (eqb-true i k e) ∙ here
    go here rest false e = rest (let n : i ≡ k → ⊥ = eqb-false i k e in omega (arith, n))

-- ---- the table's bits

abbrev pub row_at : Bool → ℕ → ℕ
row_at b tag = glance_row (level_of b) tag (rule_of (level_of b) tag)

-- a length whose bit is set in a row that is not below the least is allowed, by a rule for bytes unless the uppermost bit is set too; and its tag may
-- stand, and is not the set's checksum
abbrev right : Level → Form → ℕ → ℕ → ℕ → ℕ → Bool
right l f least row tag n =
    not (bit row n && leb least row)
    || (ltb 0 n && (sized (rule_of l tag) n && ((ltb 0 (row / 2 ^ 31) || not (is_number (rule_of l tag).kind)) && (may_stand l f tag false && not (is_set l && eqb tag 1)))))

bits_right : (b a : Bool) → below (suc (most_tag b)) (λ tag. below 30 λ n. right (level_of b) (form_of a) (least_row a) (row_at b tag) tag n) ≡ true
unfolding rule_of rules find nameable sized may_stand has
bits_right true true = refl
bits_right true false = refl
bits_right false true = refl
bits_right false false = refl

-- ---- a value that is allowed and begins with no zero, or is no number

no_pixel : (k : Kind) → is_number k ≡ false → not_pixel k ≡ true
no_pixel bytes e = refl
no_pixel num e = absurd (no_bool (sym e))
no_pixel pixel e = absurd (no_bool (sym e))

pub or_true : (a : Bool) → (a || true) ≡ true
or_true true = refl
or_true false = refl

module _ (r : Rule) (v : List ℕ) (long : 0 < length v) (fits : sized r (length v) ≡ true) where
  pub passes : not_pixel r.kind || ltb 0 (bytes_number v) ≡ true → valued r v ≡ ok tt
  unfolding valued need
  passes e = need_so _ _ _ fits ∙ rw e

  pub plainly : is_number r.kind ≡ false → (valued r v ≡ ok tt) × (short r v ≡ v)
  unfolding short
  plainly e = (passes (rw (no_pixel r.kind e)), rw (e, short))

  briefly : (get_or v 0 0 ≡ 0 → ⊥) → (valued r v ≡ ok tt) × (short r v ≡ v)
  briefly g = (passes (rw (lt-ltb 0 (bytes_number v) (first_some v long g)) (or_true (not_pixel r.kind))), short_first r v long g)

-- ---- what is told at a glance

pub as_same : (first y : ℕ) → y ≡ first → As first y
as_same zero y e = inl refl
as_same (suc k) y e = inr (omega (arith, e))

-- an item told with one first byte, with another
pub quick_as : {l : Level} {f : Form} {tag n first : ℕ} {y : ℕ} → As first y → Glanced l f tag n first → Glanced l f tag n y
quick_as {first = first} {y = y} h q = record {
  some = q.some;
  no_series = q.no_series;
  no_seal = q.no_seal;
  stands = q.stands;
  allowed = λ v e g. q.allowed v e (on _ g);
  shortest = λ v e g. q.shortest v e (on _ g);
}
  where
    on : (z : ℕ) → As y z → As first z
    on z g = ⊎_elim inl (λ s. ⊎_elim (λ e. absurd (omega (arith, s, e))) inr g) h

pub implied : (a b : Bool) → not a || b ≡ true → a ≡ true → b ≡ true
implied true b e h = e
implied false b e h = no_bool h

most_few : (b : Bool) → most_tag b ≤ 23
most_few true = omega arith
most_few false = omega arith

and_false : (a : Bool) → (a && false) ≡ false
and_false true = refl
and_false false = refl

-- what may stand where nothing ends may stand anywhere
may_stand_lem : (l : Level) (f : Form) (tag : ℕ) (last : Bool) → may_stand l f tag false ≡ true → may_stand l f tag last ≡ true
unfolding may_stand
may_stand_lem set f tag false h = h
may_stand_lem set f tag true h = go (not (eqb tag 1)) h
  where
    go : (b : Bool) → b || (is_alone f && false) ≡ true → b || (is_alone f && true) ≡ true
    go true e = refl
    go false e = no_bool (sym (and_false (is_alone f)) ∙ e)
may_stand_lem pack f tag last h = h

module _ (b a : Bool) (tag n first : ℕ) (small : tag ≤ most_tag b) (high : least_row a ≤ row_at b tag) (g : row_tells (row_at b tag) n first ≡ true) where
  abbrev row : ℕ
  row = row_at b tag

  abbrev rule : Rule
  rule = rule_of (level_of b) tag

  parts : (ltb n 30 ≡ true) × (bit row n ≡ true) × (leb (row / 2 ^ 31) first ≡ true)
  unfolding row_tells
  parts =
      let (few, e) = and_both (ltb n 30) (bit row n && leb (row / 2 ^ 31) first) g in
      let (have, top) = and_both (bit row n) (leb (row / 2 ^ 31) first) e in
      (few, have, top)

  few : n < 30
  few = ltb-true n 30 parts.0

  holds : (ltb 0 n ≡ true) × (sized rule n ≡ true) × (ltb 0 (row / 2 ^ 31) || not (is_number rule.kind) ≡ true) × (may_stand (level_of b) (form_of a) tag false ≡ true) × (not (is_set (level_of b) && eqb tag 1) ≡ true)
  holds =
      let test : ℕ → ℕ → Bool = λ tag n. right (level_of b) (form_of a) (least_row a) (row_at b tag) tag n in
      let e = implied (bit row n && leb (least_row a) row) _ (below_at 30 (test tag) (below_at (suc (most_tag b)) (λ tag. below 30 (test tag)) (bits_right b a) tag (omega (arith, small))) n few) (rw (parts.1, le-leb (least_row a) row high)) in
      let (h₀, e₁) = and_both (ltb 0 n) _ e in
      let (h₁, e₂) = and_both (sized rule n) _ e₁ in
      let (h₂, e₃) = and_both (ltb 0 (row / 2 ^ 31) || not (is_number rule.kind)) _ e₂ in
      let (h₃, h₄) = and_both (may_stand (level_of b) (form_of a) tag false) _ e₃ in
      (h₀, h₁, h₂, h₃, h₄)

  some : 0 < n
  some = ltb-true 0 n holds.0

  value : (v : List ℕ) → length v ≡ n → As first (get_or v 0 0) → (valued rule v ≡ ok tt) × (short rule v ≡ v)
  value v e f = go (eqb first 0) refl
    where
      long : 0 < length v
      long = omega (arith, some)

      fits : sized rule (length v) ≡ true
      fits = rw e holds.1

      go : (z : Bool) → eqb first 0 ≡ z → (valued rule v ≡ ok tt) × (short rule v ≡ v)
      go true z =
          let low : row / 2 ^ 31 ≤ 0 = omega (arith, leb-true (row / 2 ^ 31) first parts.2, eqb-true first 0 z) in
          plainly rule v long fits (not-true _ (rw (le-ltb 0 (row / 2 ^ 31) low) at holds.2))
      go false z = briefly rule v long fits (λ y. ⊎_elim (eqb-false first 0 z) (λ h. omega (arith, h, y)) f)

  pub glanced_sized : sized rule n ≡ true
  glanced_sized = holds.1

  pub glanced_quick : (tag < 128) × (n < 128) × Glanced (level_of b) (form_of a) tag n first
  glanced_quick = (
    omega (arith, small, most_few b),
    omega (arith, few),
    record {
      some = some;
      no_series = rw (ne_eqb tag 101 λ e. omega (arith, small, most_few b)) (and_false (is_set (level_of b)));
      no_seal = not-true _ holds.4;
      stands = λ last. may_stand_lem (level_of b) (form_of a) tag last holds.3;
      allowed = λ v e f. (value v e f).0;
      shortest = λ v e f. (value v e f).1;
    },
  )

-- x and y are what the code has for the least row and for the tag's
pub quick_from : (b a : Bool) (tag : ℕ) → tag ≤ most_tag b → {x : ℕ} → x ≡ least_row a → {t : List ℕ} → t ≡ glance_table → {y : ℕ} → y ≡ get_or t (rows_from b + tag) 0 → x ≤ y
    → {n first : ℕ} {r : Bool} → r ≡ row_tells y n first → r ≡ true → (tag < 128) × (n < 128) × Glanced (level_of b) (form_of a) tag n first
quick_from b a tag small ex et ey high {n} {first} eg r =
    let e = ey ∙ glance_at b tag small et in
    glanced_quick b a tag n first small (rw (ex, e) at high) (sym (rw e at eg) ∙ r)

-- ---- the code's tests, one after the other

module _ (row n first : ℕ) where
  pub fits_long : 29 < n → false ≡ row_tells row n first
  unfolding row_tells
  fits_long h = rw (le-ltb n 30 (omega arith))

  module _ (few : n < 30) where
    pub fits_not : row / 2 ^ n % 2 ≡ 0 → false ≡ row_tells row n first
    unfolding row_tells
    fits_not e = rw (lt-ltb n 30 few, e)

    pub fits_so : (row / 2 ^ n % 2 ≡ 0 → ⊥) → leb (row / 2 ^ 31) first ≡ row_tells row n first
    unfolding row_tells
    fits_so have = rw (lt-ltb n 30 few, ne_eqb (row / 2 ^ n % 2) 0 have)

-- a row that tells a length whatever the value begins with
pub row_any : (row n : ℕ) → row_tells row n 1 ≡ true → row / 2 ^ 31 ≡ 0 → true ≡ row_tells row n 0
unfolding row_tells
row_any row n g z =
    let (few, e) = and_both (ltb n 30) (bit row n && leb (row / 2 ^ 31) 1) g in
    let (have, _) = and_both (bit row n) (leb (row / 2 ^ 31) 1) e in
    rw (few, have, z)

-- ---- a tag that is not listed

offset_beyond : (f : Form) (tag : ℕ) → 16 < tag → (not (is_alone f) || not (has tag offsets)) ≡ true
offset_beyond f tag h = rw (sym (offset_over tag h)) (or_true (not (is_alone f)))

-- one or more bytes will do
pub any_size : (n : ℕ) → 0 < n → sized unlisted n ≡ true
unfolding sized
any_size n some = rw (le-leb 1 n some, eq-eqb ((n - 1) % 1) 0 (mod-one (n - 1)))

beyond_quick : (l : Level) (f : Form) (tag n first : ℕ) → unlisted ≡ rule_of l tag → 0 < n → is_set l && eqb tag 101 ≡ false → is_set l && eqb tag 1 ≡ false → ((last : Bool) → may_stand l f tag last ≡ true)
    → Glanced l f tag n first
beyond_quick l f tag n first er some no_series no_seal stands = record {
  some = some;
  no_series = no_series;
  no_seal = no_seal;
  stands = stands;
  allowed = λ v e b. (value v e).0;
  shortest = λ v e b. (value v e).1;
}
  where
    value : (v : List ℕ) → length v ≡ n → (valued (rule_of l tag) v ≡ ok tt) × (short (rule_of l tag) v ≡ v)
    value v e =
        let long : 0 < length v = omega (arith, e, some) in
        rw (← er) (plainly unlisted v long (any_size (length v) long) refl)

pub quick_beyond : (b : Bool) (f : Form) (tag n first : ℕ) → beyond b tag ≡ true → 0 < n → Glanced (level_of b) f tag n first
unfolding may_stand
quick_beyond true f tag n first h some =
    let (a, c) = and_both (ltb 12 tag) (not (eqb tag 101)) h in
    let l = ltb-true 12 tag a in
    let one : eqb tag 1 ≡ false = ne_eqb tag 1 λ e. omega (arith, l, e) in
    beyond_quick set f tag n first (rule_over true tag l) some (not-true _ c) one λ last. rw one
quick_beyond false f tag n first h some =
    let l = ltb-true 23 tag h in
    beyond_quick pack f tag n first (rule_over false tag l) some refl refl λ last. offset_beyond f tag (omega (arith, l))

-- x is what the code says of such a tag
pub quick_other : (b : Bool) (f : Form) (tag n first : ℕ) {x : Bool} → (x ≡ true → (tag < 128) × (n < 128) × (0 < n) × (beyond b tag ≡ true)) → x ≡ true → (tag < 128) × (n < 128) × Glanced (level_of b) f tag n first
quick_other b f tag n first h tx = let (a, c, some, e) = h tx in (a, c, quick_beyond b f tag n first e some)
