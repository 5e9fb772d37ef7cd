-- A closer look at a value: whatever a glance tells, and a number that is not 0 with zeros before it.
use mathlib.Core.Path.{◌≡◌, refl, sym, ap, ◌∙◌}
use Prim.Native.Nat.{ℕ, zero, suc, ◌+◌, ◌-◌, ◌/◌, ◌^◌, ◌≤◌, ◌<◌}
use native.Mathlib.Omega.{arith}
use mathlib.Core.Bool.{Bool, true, false, not, ◌||◌}
use mathlib.Core.List.{List, [], ◌∷◌}
use lib.ListN.{length, get_or}
use lib.Dec.{ltb}
use borrow.Author.Tests.{lt-ltb}
use Rattle.format.specs.Lists.{has}
use Rattle.format.specs.Table.{Form, Level, rules, find, rule_of, nameable, may_stand, sized, not_pixel, is_number}
use Rattle.items.specs.Meet.{level_of, form_of, most_tag, rows_from, glance_table, zeros}
use Rattle.items.specs.Quick.{least_row, row_tells, As, Glanced, Looked}
use Rattle.items.proofs.Rows.{glance_at}
use Rattle.items.proofs.Tests.{zeros_some, short_some}
use Rattle.items.proofs.Glances.{below, below_at, row_at, implied, or_true, passes, glanced_sized, glanced_quick}

-- what a glance tells
pub looked_glanced : {l : Level} {f : Form} {tag n first : ℕ} (v : List ℕ) → length v ≡ n → As first (get_or v 0 0) → Glanced l f tag n first → Looked l f tag v n
looked_glanced v e h q = record {
  some = omega (arith, e, q.some);
  no_series = q.no_series;
  no_seal = q.no_seal;
  stands = q.stands;
  allowed = q.allowed v e h;
  shortest = ap length (q.shortest v e h) ∙ e;
}

pub zeros_most : (v : List ℕ) → zeros v ≤ length v
unfolding zeros
zeros_most [] = omega arith
zeros_most (zero ∷ v) = let h = zeros_most v in omega (arith, h)
zeros_most (suc b ∷ v) = omega arith

-- a row whose uppermost bit is set is a number's, by one computed test for each level
kinds_right : (b : Bool) → below (suc (most_tag b)) (λ tag. not (ltb 0 (row_at b tag / 2 ^ 31)) || is_number (rule_of (level_of b) tag).kind) ≡ true
unfolding rule_of rules find nameable sized may_stand has
kinds_right true = refl
kinds_right false = refl

module _ (b a : Bool) (tag : ℕ) (small : tag ≤ most_tag b) (high : least_row a ≤ row_at b tag) (v : List ℕ) (g : row_tells (row_at b tag) (length v) 1 ≡ true) (kind : 0 < row_at b tag / 2 ^ 31) where
  number : is_number (rule_of (level_of b) tag).kind ≡ true
  number =
      implied (ltb 0 (row_at b tag / 2 ^ 31)) _
      (below_at (suc (most_tag b)) (λ tag. not (ltb 0 (row_at b tag / 2 ^ 31)) || is_number (rule_of (level_of b) tag).kind) (kinds_right b) tag (omega (arith, small)))
      (lt-ltb 0 _ kind)

  looked_number : {z : ℕ} → z ≡ zeros v → z < length v → Looked (level_of b) (form_of a) tag v (length v - z)
  looked_number ez some =
      let q = (glanced_quick b a tag (length v) 1 small high g).2 in
      let rule = rule_of (level_of b) tag in
      let counts = zeros_some v (λ e. omega (arith, ez, e, some)) in
      record {
        some = q.some;
        no_series = q.no_series;
        no_seal = q.no_seal;
        stands = q.stands;
        allowed = passes rule v q.some (glanced_sized b a tag (length v) 1 small high g) (rw (lt-ltb 0 _ counts) (or_true (not_pixel rule.kind)));
        shortest = sym (short_some rule v (sym number) _ ez some);
      }

-- x and y are what the code has for the least row and for the tag's, and r for what the row tells
pub number_from : (b a : Bool) (tag : ℕ) → tag ≤ most_tag b → {x : ℕ} → x ≡ least_row a → {t : List ℕ} → t ≡ glance_table → {y : ℕ} → y ≡ get_or t (rows_from b + tag) 0 → x ≤ y
    → {v : List ℕ} {r : Bool} → r ≡ row_tells y (length v) 1 → r ≡ true → (y / 2 ^ 31 ≡ 0 → ⊥) → {z : ℕ} → z ≡ zeros v → 0 < length v - z
    → (tag < 128) × (length v - z < 128) × Looked (level_of b) (form_of a) tag v (length v - z)
number_from b a tag small ex et ey high {v = v} eg r kind ez some =
    let e = ey ∙ glance_at b tag small et in
    let above = rw (ex, e) at high in
    let told = sym (rw e at eg) ∙ r in
    let (few, short, _) = glanced_quick b a tag (length v) 1 small above told in
    let number : 0 < row_at b tag / 2 ^ 31 = let k = rw e at kind in omega (arith, k) in
    (few, omega (arith, short), looked_number b a tag small above v told number ez (omega arith))
