-- Rows stored one after another from numbers: the laws of `table_of`, and where a loop that stores them stands.
use Prim.Native.Nat.{ℕ, zero, suc, ◌+◌, ◌*◌}
use mathlib.Core.Path.{◌≡◌, refl, ◌∙◌, ap}
use mathlib.Core.List.{List, [], ◌∷◌, ◌++◌, map}
use native.Mathlib.Omega.{arith}
use native.Mathlib.Numerals.{add-one}
use Rattle.std.proofs.lemmas.Grind.{take-set_at, drop_more_same}
use Rattle.std.proofs.lemmas.List.{drop-set-lt}
use lib.ListN.{length, drop}
use lib.Seq.{sets, sets-eq, get_or-drop, drop-drop}
use Rattle.format.specs.Rows as Rows
use Rattle.write_rows.specs.Meet.{numbers, row_of, row_at, table_of}

pub table_long : (n : ℕ) (ns : List ℕ) → length (table_of n ns) ≡ n
unfolding table_of
table_long zero ns = refl
table_long (suc n) ns = ap suc (table_long n (drop 4 ns))

-- the numbers of rows are these rows again
pub table_back : (rs : List Rows.Row) (more : List ℕ) → table_of (length rs) (numbers rs ++ more) ≡ map row_of rs
unfolding table_of numbers
table_back [] more = refl
table_back (r ∷ rs) more = ap (λ t. row_of r ∷ t) (table_back rs more)

-- the rows of what is left behind the first are the next ones
row_next : (ns : List ℕ) (k : ℕ) → row_at (drop 4 ns) k ≡ row_at ns (suc k)
row_next ns k = rw (get_or-drop 4 ns (4 * k) 0, get_or-drop 4 ns (4 * k + 1) 0, get_or-drop 4 ns (4 * k + 2) 0, get_or-drop 4 ns (4 * k + 3) 0, first, at 1, at 2, at 3)
  where
    first : 4 + 4 * k ≡ 4 * suc k
    first = omega arith

    at : (i : ℕ) → 4 + (4 * k + i) ≡ 4 * suc k + i
    at i = omega arith

-- one row more
table_next : (ns : List ℕ) (k : ℕ) → table_of (suc k) ns ≡ table_of k ns ++ row_at ns k ∷ []
unfolding table_of
table_next ns zero = refl
table_next ns (suc k) = ap (λ t. row_at ns 0 ∷ t) (table_next (drop 4 ns) k ∙ ap (λ r. table_of k (drop 4 ns) ++ r ∷ []) (row_next ns k))

pub table_more : (ns : List ℕ) (k : ℕ) → table_of (k + 1) ns ≡ table_of k ns ++ row_at ns k ∷ []
table_more ns k = ap (λ n. table_of n ns) (add-one k) ∙ table_next ns k

-- what a turn of the loop that stores them is proved by
pub ruleset row_stored = (table_more, take-set_at, drop-set-lt, drop_more_same)
