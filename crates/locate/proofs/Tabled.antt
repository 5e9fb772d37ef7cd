-- The call `locate`, over `locate_numbers`: each answer with the rows that its numbers are.
use mathlib.Core.Path.{◌≡◌, refl, sym, ap, ◌∙◌, subst}
use Prim.Native.Nat.{ℕ, ◌*◌, ◌≤◌, ◌<◌}
use native.Mathlib.Omega.{arith}
use mathlib.Core.List.{List, ◌++◌, map}
use lib.ListN.{length, drop, length-append, length-map}
use mathlib.Core.Bool.{true, false}
use lib.Dec.{leb}
use borrow.Author.Tests.{le-leb, lt-leb, eq-eqb, ne_eqb}
use Rattle.std.specs.Prelude.{Err}
use Rattle.format.specs.Answer.{Ans, ok, refused}
use Rattle.format.specs.Coding.{Bytes}
use Rattle.format.specs.Table.{Form}
use Rattle.format.specs.Room.{leaves}
use Rattle.format.specs.Rows.{Row, rows_of, locate}
use Rattle.format.proofs.Demands.Sizes.{sizes as size_law}
use Rattle.write_rows.specs.declared.table.Row as table
use Rattle.write_rows.specs.Meet.{numbers, row_of, table_of}
use Rattle.write_rows.proofs.Numbers.{numbers_long}
use Rattle.write_rows.proofs.Filling.{table_back}
use Rattle.coding.specs.declared.refusals.Fault.{Fault}
use Rattle.coding.proofs.Tried.{number_some}
use Rattle.answers.specs.Meet.{Answer, left_of, answer_of, answer}
use Rattle.answers.proofs.Results.{call_refused}
use Rattle.locate.specs.Meet.{leaves_rows, leaves_table, count_of, Filled}

pub count_some : (a : Answer) → a.number ≡ 0 → count_of a ≡ a.place
count_some a e = rw (eq-eqb a.number 0 e, count_of)

pub count_none : (a : Answer) → 1 ≤ a.number → count_of a ≡ 0
count_none a h = rw (ne_eqb a.number 0 (λ e. omega arith), count_of)

-- a refusal counts none
pub none_counted : (e : Fault) → 0 ≡ count_of (answer (Err e))
none_counted e = sym (count_none (answer (Err e)) (number_some e.refusal))

pub left_none : {room : ℕ} {x : Ans (List Row)} {ns : List ℕ} (e : Fault) → Filled room x (answer (Err e)) ns → (lent : List table.Row) → length lent ≡ room → left_of (answer (Err e)) lent ≡ leaves_table lent x
unfolding table_of
left_none {ns = ns} e h lent z = ap (λ k. left_of (answer (Err e)) (table_of k ns ++ drop k lent)) (none_counted e) ∙ h.left lent z

-- an answer that counts none leaves a table as it is
none_filled : (room : ℕ) (x : Ans (List Row)) (a : Answer) (ns : List ℕ) → 1 ≤ a.number → ((lent : List table.Row) → length lent ≡ room → left_of a lent ≡ leaves_table lent x) → Filled room x a ns
unfolding table_of
none_filled room x a ns h left =
    let none = count_none a h in
    record {
      held = omega (arith, none);
      fits = omega (arith, none);
      left = λ lent e. ap (λ k. left_of a (table_of k ns ++ drop k lent)) none ∙ left lent e;
    }

table_written : (lent : List table.Row) (rs : List Row) → length rs ≤ length lent → left_of (answer_of 0 (length rs)) (map row_of rs ++ drop (length rs) lent) ≡ leaves_table lent (ok rs)
unfolding leaves
table_written lent rs h =
    let n : length (map row_of rs) ≡ length rs = length-map rs row_of in
    let g : leb (length (map row_of rs)) (length lent) ≡ true = le-leb (length (map row_of rs)) (length lent) (omega (arith, n, h)) in
    sym (rw (g, leaves) (λ i. record { number = 0; place = n i; lent = map row_of rs ++ drop (n i) lent }))

table_short : (lent : List table.Row) (rs : List Row) → length lent < length rs → left_of (answer_of 16 (length rs)) lent ≡ leaves_table lent (ok rs)
unfolding leaves
table_short lent rs h =
    let n : length (map row_of rs) ≡ length rs = length-map rs row_of in
    let g : leb (length (map row_of rs)) (length lent) ≡ false = lt-leb (length (map row_of rs)) (length lent) (omega (arith, n, h)) in
    sym (rw (g, leaves) (λ i. record { number = 16; place = n i; lent = lent }))

module _ (room : ℕ) (lent out : List ℕ) (a : Answer) where
  refused_filled : (n p : ℕ) → 1 ≤ n → left_of a out ≡ leaves_rows lent (refused n p) → Filled room (refused n p) a out
  unfolding leaves_rows leaves
  refused_filled n p h e =
      let en : a.number ≡ n = ap (λ x. x.number) e in
      none_filled room (refused n p) a out (omega arith) (λ l _. λ i. record { number = (e i).number; place = (e i).place; lent = l })

  module _ (rs : List Row) (few : 4 * length rs ≤ length lent) (e : left_of a out ≡ leaves_rows lent (ok rs)) where
    told : left_of a out ≡ record { number = 0; place = length rs; lent = numbers rs ++ drop (4 * length rs) lent }
    unfolding leaves_rows
    told = e ∙ rw (le-leb (4 * length rs) (length lent) few, leaves_rows)

    counted : count_of a ≡ length rs
    counted = count_some a (ap (λ x. x.number) told) ∙ ap (λ x. x.place) told

    rows_filled : count_of a ≤ room → Filled room (ok rs) a out
    rows_filled h = record {
      held = omega (arith, counted, ap (λ x. length x.lent) told, length-append (numbers rs) (drop (4 * length rs) lent), numbers_long rs);
      fits = h;
      left = λ l el.
          ap (λ k. left_of a (table_of k out ++ drop k l)) counted
          ∙ ap (λ x. left_of a (table_of (length rs) x.lent ++ drop (length rs) l)) told
          ∙ ap (λ t. left_of a (t ++ drop (length rs) l)) (table_back rs (drop (4 * length rs) lent))
          ∙ (λ i. record { number = (told i).number; place = (told i).place; lent = map row_of rs ++ drop (length rs) l })
          ∙ table_written l rs (omega (arith, counted));
    }

    short_filled : room < count_of a → Filled room (ok rs) (answer_of 16 (count_of a)) out
    short_filled h =
        none_filled room (ok rs) (answer_of 16 (count_of a)) out (omega arith)
        (λ l el. ap (λ k. left_of (answer_of 16 k) l) counted ∙ table_short l rs (omega (arith, counted)))

module _ (f : Form) (s : List ℕ) (b : Bytes s) (room : ℕ) (lent out : List ℕ) (big : 16384 ≤ length lent) (a : Answer) (e : left_of a out ≡ leaves_rows lent (locate f s)) where
  by_answer : (P : Ans (List Row) → Type 0) → ((n p : ℕ) → 1 ≤ n → left_of a out ≡ leaves_rows lent (refused n p) → P (refused n p))
      → ((rs : List Row) → 4 * length rs ≤ length lent → left_of a out ≡ leaves_rows lent (ok rs) → P (ok rs)) → P (locate f s)
  by_answer P faulty fine = go (locate f s) refl
    where
      go : (x : Ans (List Row)) → locate f s ≡ x → P (locate f s)
      go (refused n p) q = subst P (sym q) (faulty n p (call_refused f s rows_of n p (unfold locate in q)).0 (e ∙ ap (leaves_rows lent) q))
      go (ok rs) q = subst P (sym q) (fine rs (omega (arith, ((size_law f s b).rows rs q).1)) (e ∙ ap (leaves_rows lent) q))

  pub table_filled : {k : ℕ} → k ≡ count_of a → k ≤ room → Filled room (locate f s) a out
  table_filled ek h = by_answer (λ x. Filled room x a out) (λ n p l q. refused_filled room lent out a n p l q) (λ rs l q. rows_filled room lent out a rs l q (omega (arith, ek, h)))

  pub table_asked : {k : ℕ} → k ≡ count_of a → room < k → {r : Answer} → r ≡ answer_of 16 k → Filled room (locate f s) r out
  table_asked ek h er =
      subst (λ r. Filled room (locate f s) r out) (sym (er ∙ ap (answer_of 16) ek))
      (by_answer (λ x. Filled room x (answer_of 16 (count_of a)) out) (λ n p l q. absurd (none_over n p l q)) (λ rs l q. short_filled room lent out a rs l q (omega (arith, ek, h))))
    where
      none_over : (n p : ℕ) → 1 ≤ n → left_of a out ≡ leaves_rows lent (refused n p) → ⊥
      none_over n p l q = omega (arith, ek, h, (refused_filled room lent out a n p l q).fits)
