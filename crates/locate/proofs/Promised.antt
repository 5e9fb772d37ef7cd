-- What locate promises, from its contracts and what is promised of the definitions.
use mathlib.Core.Path.{◌≡◌, refl, sym, ap, ◌∙◌}
use mathlib.Core.Logic.{⊎_elim}
use mathlib.Core.List.{List, [], map}
use Prim.Native.Nat.{ℕ, ◌*◌}
use native.Mathlib.Omega.{arith}
use lib.ListN.{length}
use borrow.Author.Tests.{le-leb, lt-leb}
use Rattle.format.specs.Answer.{Ans, ok, refused}
use Rattle.format.specs.Coding.{Bytes}
use Rattle.format.specs.Table.{Form}
use Rattle.format.specs.Edit.{the_set}
use Rattle.format.specs.Room.{leaves}
use Rattle.format.specs.Rows.{Row, locate}
use Rattle.format.specs.Demands.Rows.{RowsPoint}
use Rattle.format.proofs.Demands.Demand1.{numbered}
use Rattle.format.proofs.Reading.Packets.{lies_parses}
use Rattle.format.proofs.Demands.Accepted.{read_is}
use Rattle.format.proofs.Demands.Rows.{locates, one_rows, locate_points}
use Rattle.write_rows.specs.declared.table.Row as table
use Rattle.write_rows.specs.Meet.{row_of}
use Rattle.answers.specs.Meet.{Answer, left_of, answer_of}
use Rattle.answers.specs.Given.{Given, Refusing, Accepted}
use Rattle.answers.proofs.Results.{one_result}
use Rattle.answers.proofs.Given.{given, one_given, by_room}
use Rattle.locate.specs.Meet.{leaves_rows, leaves_table}
use Rattle.locate.specs.Promise.{GivenNumbers, Locating, LocatePromise}

-- ---- the rows that are written

given_numbers : (rs : List Row) (lent : List ℕ) (a : Answer) (left : List ℕ) → left_of a left ≡ leaves_rows lent (ok rs) → GivenNumbers rs lent a left
unfolding leaves_rows
given_numbers rs lent a left e = record {
  with_room = λ l. is_left (e ∙ rw (le-leb (4 * length rs) (length lent) l, leaves_rows));
  without = λ l. is_left (e ∙ rw (lt-leb (4 * length rs) (length lent) l, leaves_rows));
}
  where
    is_left : {n p : ℕ} {l : List ℕ} → left_of a left ≡ left_of (answer_of n p) l → (a ≡ answer_of n p) × (left ≡ l)
    is_left {n} {p} {l} q = one_result a (answer_of n p) left l (left_of (answer_of n p) l) q refl

one_numbers : (rs : List Row) (lent : List ℕ) (a c : Answer) (left then : List ℕ) → GivenNumbers rs lent a left → GivenNumbers rs lent c then → (a ≡ c) × (left ≡ then)
one_numbers rs lent a c left then g k =
    by_room ((a ≡ c) × (left ≡ then)) (4 * length rs) (length lent)
    (λ l. ((g.with_room l).0 ∙ sym (k.with_room l).0, (g.with_room l).1 ∙ sym (k.with_room l).1))
    (λ l. ((g.without l).0 ∙ sym (k.without l).0, (g.without l).1 ∙ sym (k.without l).1))

-- ---- a call over what locate answers: W says that rows are to be written, and a refusal leaves what was lent

module _ {A : Type 0} (f : Form) (packet : List ℕ) (bytes : Bytes packet) (lent : List A) (a : Answer) (left : List A) where
  module _ (W : List Row → Type 0) (rows : (rs : List Row) → locate f packet ≡ ok rs → W rs) (not : Refusing (locate f packet) lent a left) where
    locating : Locating W f packet lent a left
    locating = record {
      points = λ rs h. rows rs (pointed rs h);
      only = λ y. go y (locate f packet) refl;
      refusing = λ n p e. not n p (((locates f packet bytes).refuses n p).1 e);
    }
      where
        -- no other rows point so
        pointed : (rs : List Row) → RowsPoint f packet rs → locate f packet ≡ ok rs
        pointed rs h =
            let (ts, e) = (locates f packet bytes).accepts.1 (_, read_is f packet h.packet (lies_parses f packet h.packet h.lies)) in
            e ∙ ap ok (one_rows f packet ts rs (locate_points f packet ts bytes e) h)

        go : Accepted a → (x : Ans (List Row)) → locate f packet ≡ x → (rs : List Row) × RowsPoint f packet rs
        go y (ok rs) e = (rs, locate_points f packet rs bytes e)
        go y (refused n p) e =
            let en : a.number ≡ n = ap (λ x. x.number) (not n p e).0 in
            let (k, m, s) = ((numbered f packet the_set []).locate_answers.by n p e).0 in
            absurd (⊎_elim (λ z. omega (arith, k, en, z)) (λ z. s (sym en ∙ z)) y)

  -- and nothing else is so answered
  one_locating : (c : Answer) (then : List A) (W X : List Row → Type 0) → ((rs : List Row) → W rs → X rs → (a ≡ c) × (left ≡ then))
      → Locating W f packet lent a left → Locating X f packet lent c then → (a ≡ c) × (left ≡ then)
  one_locating c then W X one g k = go (locate f packet) refl
    where
      go : (x : Ans (List Row)) → locate f packet ≡ x → (a ≡ c) × (left ≡ then)
      go (ok rs) e = let h = locate_points f packet rs bytes e in one rs (g.points rs h) (k.points rs h)
      go (refused n p) e =
          let r = ((locates f packet bytes).refuses n p).0 e in
          let (q, z) = g.refusing n p r in
          let (w, y) = k.refusing n p r in
          (q ∙ sym w, z ∙ sym y)

-- ---- the two calls

pub locate_promise : LocatePromise
unfolding leaves_rows leaves
locate_promise = record {
  numbered = λ f packet lent a left h e.
      locating f packet h lent a left _ (λ rs q. given_numbers rs lent a left (e ∙ ap (leaves_rows lent) q)) (λ n p q. one_result a (answer_of n p) left lent _ (e ∙ ap (leaves_rows lent) q) refl);
  tabled = λ f packet lent a left h e.
      locating f packet h lent a left _ (λ rs q. given lent left a (map row_of rs) (e ∙ ap (leaves_table lent) q)) (λ n p q. one_result a (answer_of n p) left lent _ (e ∙ ap (leaves_table lent) q) refl);
}

module _ (f : Form) (packet : List ℕ) (bytes : Bytes packet) (a c : Answer) where
  pub one_numbered : (lent left then : List ℕ) → Locating (λ rs. GivenNumbers rs lent a left) f packet lent a left
      → Locating (λ rs. GivenNumbers rs lent c then) f packet lent c then → (a ≡ c) × (left ≡ then)
  one_numbered lent left then = one_locating f packet bytes lent a left c then _ _ (λ rs. one_numbers rs lent a c left then)

  pub one_tabled : (lent left then : List table.Row) → Locating (λ rs. Given (map row_of rs) lent a left) f packet lent a left
      → Locating (λ rs. Given (map row_of rs) lent c then) f packet lent c then → (a ≡ c) × (left ≡ then)
  one_tabled lent left then = one_locating f packet bytes lent a left c then _ _ (λ rs. one_given (map row_of rs) lent a c left then)
