-- The code's tables have document 01's rule at each tag's place: a law on rows in their order, and one computed test over `rules`.
use mathlib.Core.Path.{◌≡◌, refl, sym, ap, ◌∙◌}
use Prim.Native.Nat.{ℕ, zero, suc, ◌+◌, ◌≤◌, ◌<◌}
use native.Mathlib.Nat.{add-zero, zero-add}
use native.Mathlib.Omega.{arith}
use mathlib.Core.Bool.{Bool, true, false, ◌&&◌}
use mathlib.Core.List.{List, [], ◌∷◌, map}
use lib.ListN.{length, get_or, get_or-append}
use lib.Seq.{get_or-drop}
use lib.Dec.{leb, eqb}
use borrow.Author.Tests.{leb-true, ne_eqb}
use Rattle.format.specs.Table.{Level, set, pack, Rule, unlisted, rules, find, rule_of}
use Rattle.format.proofs.Words.Answers.{and_both}
use Rattle.items.specs.Meet.{level_of, most_tag, rows_from, counted, rows_by, row_from, item_row, item_table, glance_row, glance_table}

-- ---- rows in their order

counted_at : (f : ℕ → ℕ) (k n i : ℕ) → i < n → get_or (counted f k n) i 0 ≡ f (k + i)
counted_at f k zero i h = absurd (omega arith)
counted_at f k (suc n) zero h = rw add-zero
counted_at f k (suc n) (suc i) h = counted_at f (suc k) n i (omega arith) ∙ ap f (omega arith)

pub row_in : (b : Bool) (tag : ℕ) → tag ≤ most_tag b → rows_from b + tag < 37
row_in true tag h = omega arith
row_in false tag h = omega arith

row_at : (f : Level → ℕ → ℕ) (b : Bool) (tag : ℕ) → tag ≤ most_tag b → get_or (rows_by f) (rows_from b + tag) 0 ≡ f (level_of b) tag
row_at f true tag h = sym (get_or-drop 24 (rows_by f) tag 0) ∙ counted_at (f set) 0 13 tag (omega arith) ∙ rw zero-add
row_at f false tag h =
    rw zero-add (get_or-append (counted (f pack) 0 24) (counted (f set) 0 13) 0 tag (omega arith) ∙ counted_at (f pack) 0 24 tag (omega arith) ∙ rw zero-add)

pub table_long : {t : List ℕ} → t ≡ item_table → length t ≡ 37
unfolding item_table
table_long e = ap length e

pub glances_long : {t : List ℕ} → t ≡ glance_table → length t ≡ 37
unfolding glance_table
glances_long e = ap length e

-- ---- a rule that its row stands for

abbrev kept : ℕ × Rule → Rule
kept e = row_from (item_row e.1)

all_kept : (l : Level) → map kept (rules l) ≡ map (λ e. e.1) (rules l)
unfolding rules
all_kept set = refl
all_kept pack = refl

find_kept : (es : List (ℕ × Rule)) (tag : ℕ) → map kept es ≡ map (λ e. e.1) es → row_from (item_row (find es tag)) ≡ find es tag
unfolding find
find_kept [] tag h = refl
find_kept (e ∷ es) tag h = go (cc) (find_kept es tag (cc)) (eqb e.0 tag)
  where
    go : kept e ≡ e.1 → row_from (item_row (find es tag)) ≡ find es tag → (b : Bool)
        → row_from (item_row (elim b [ true ↦ e.1 | false ↦ find es tag ])) ≡ elim b [ true ↦ e.1 | false ↦ find es tag ]
    go here rest true = here
    go here rest false = rest

-- ---- as the code finds it

module _ (b : Bool) (tag : ℕ) (h : tag ≤ most_tag b) {t : List ℕ} where
  pub item_at : t ≡ item_table → row_from (get_or t (rows_from b + tag) 0) ≡ rule_of (level_of b) tag
  unfolding item_table rule_of
  item_at e = rw e (ap row_from (row_at (λ l k. item_row (rule_of l k)) b tag h) ∙ find_kept (rules (level_of b)) tag (all_kept (level_of b)))

  pub glance_at : t ≡ glance_table → get_or t (rows_from b + tag) 0 ≡ glance_row (level_of b) tag (rule_of (level_of b) tag)
  unfolding glance_table
  glance_at e = rw e (row_at (λ l k. glance_row l k (rule_of l k)) b tag h)

-- ---- a tag above all that are listed

abbrev below : ℕ → List (ℕ × Rule) → Bool
below n [] = true
below n (e ∷ es) = leb e.0 n && below n es

find_none : (n tag : ℕ) (es : List (ℕ × Rule)) → below n es ≡ true → n < tag → unlisted ≡ find es tag
unfolding find
find_none n tag [] h g = refl
find_none n tag (e ∷ es) h g =
    let (a, b) = and_both (leb e.0 n) (below n es) h in
    let z : eqb e.0 tag ≡ false = ne_eqb e.0 tag λ x. omega (arith, leb-true e.0 n a) in
    rw (z, find) (find_none n tag es b g)

pub rule_over : (b : Bool) (tag : ℕ) → most_tag b < tag → unlisted ≡ rule_of (level_of b) tag
unfolding rule_of rules
rule_over true tag h = find_none (most_tag true) tag (rules set) refl h
rule_over false tag h = find_none (most_tag false) tag (rules pack) refl h
