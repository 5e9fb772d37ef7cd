-- What a program that prints the rows needs: a table that was filled has four numbers for each row.
use mathlib.Core.Path.{◌≡◌, refl, ap, ◌∙◌}
use Prim.Native.Nat.{ℕ, ◌*◌, ◌≤◌}
use native.Mathlib.Omega.{arith}
use mathlib.Core.Bool.{Bool, true, false}
use mathlib.Core.List.{List, ◌++◌}
use lib.ListN.{length, drop, length-append}
use lib.Dec.{leb}
use Rattle.format.specs.Answer.{Ans, ok, refused}
use Rattle.format.specs.Table.{Form}
use Rattle.format.specs.Rows.{Row, rows_of, locate}
use Rattle.write_rows.specs.Meet.{numbers}
use Rattle.write_rows.proofs.Numbers.{numbers_long}
use Rattle.answers.specs.Meet.{Answer, left_of}
use Rattle.answers.proofs.Results.{call_refused}
use Rattle.locate.specs.Meet.{leaves_rows}

pub located_fits : (f : Form) (s lent out : List ℕ) (a : Answer) → left_of a out ≡ leaves_rows lent (locate f s) → a.number ≡ 0 → 4 * a.place ≤ length out
located_fits f s lent out a e z = go (locate f s) refl
  where
    fits : (rs : List Row) → left_of a out ≡ leaves_rows lent (ok rs) → (y : Bool) → leb (4 * length rs) (length lent) ≡ y → 4 * a.place ≤ length out
    fits rs e true y =
        let left : leaves_rows lent (ok rs) ≡ record { number = 0; place = length rs; lent = numbers rs ++ drop (4 * length rs) lent } = unfold leaves_rows in (rw (y, leaves_rows)) in
        let count : a.place ≡ length rs = ap (λ x. x.place) (e ∙ left) in
        let size = ap (λ x. length x.lent) (e ∙ left) ∙ length-append (numbers rs) (drop (4 * length rs) lent) in
        omega (arith, count, size, numbers_long rs)
    fits rs e false y =
        let q : (leaves_rows lent (ok rs)).number ≡ 16 = unfold leaves_rows in (rw (y, leaves_rows)) in
        absurd (omega (arith, ap (λ x. x.number) e ∙ q, z))

    go : (x : Ans (List Row)) → locate f s ≡ x → 4 * a.place ≤ length out
    go (refused n p) q =
        let k = call_refused f s rows_of n p (unfold locate in q) in
        let m : left_of a out ≡ record { number = n; place = p; lent = lent } = e ∙ unfold leaves_rows in (rw q) in
        absurd (omega (arith, k.0, ap (λ x. x.number) m, z))
    go (ok rs) q = fits rs (e ∙ ap (leaves_rows lent) q) _ refl
