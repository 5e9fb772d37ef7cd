-- What a call leaves, read off its contract: an answer, and what was lent as it is then. Of bytes or of rows.
use mathlib.Core.Path.{◌≡◌, refl, sym, ap, ◌∙◌, subst}
use mathlib.Core.Logic.{◌⊎◌, inl, inr, ⊎_elim}
use mathlib.Core.Bool.{Bool, true, false}
use mathlib.Core.List.{List, ◌++◌}
use Prim.Native.Nat.{ℕ, ◌≤◌, ◌<◌}
use native.Mathlib.Omega.{arith}
use lib.ListN.{length, take, drop, length-append, length-drop}
use lib.Seq.{take-append_seam, drop-append_seam}
use lib.Dec.{leb}
use borrow.Author.Tests.{le-leb, lt-leb, leb-true, leb-false}
use Rattle.format.specs.Answer.{Ans, ok, refused}
use Rattle.format.specs.Room.{Left, leaves}
use Rattle.format.specs.Demands.Demand1.{Listed, Answers}
use Rattle.answers.specs.Meet.{Answer, left_of, answer_of}
use Rattle.answers.specs.Given.{Answered, Given, Refusing, Accepted, written}
use Rattle.answers.proofs.Results.{one_result}

abbrev left_is : {A : Type 0} → ℕ → ℕ → List A → Left A
left_is n p l = record { number = n; place = p; lent = l }

-- by whether there is room
pub by_room : (P : Type 0) (m n : ℕ) → (m ≤ n → P) → (n < m → P) → P
by_room P m n there short = go (leb m n) refl
  where
    go : (b : Bool) → leb m n ≡ b → P
    go true e = there (leb-true m n e)
    go false e = short (leb-false m n e)

room_left : {A : Type 0} (lent b : List A) → length b ≤ length lent → leaves lent (ok b) ≡ left_is 0 (length b) (b ++ drop (length b) lent)
unfolding leaves
room_left lent b l = rw (le-leb (length b) (length lent) l, leaves)

short_left : {A : Type 0} (lent b : List A) → length lent < length b → leaves lent (ok b) ≡ left_is 16 (length b) lent
unfolding leaves
short_left lent b l = rw (lt-leb (length b) (length lent) l, leaves)

module _ {A : Type 0} (lent left : List A) (a : Answer) where
  is_answer : (n p : ℕ) (l : List A) → left_of a left ≡ left_is n p l → (a ≡ answer_of n p) × (left ≡ l)
  is_answer n p l e = one_result a (answer_of n p) left l (left_is n p l) e refl

  pub given : (b : List A) → left_of a left ≡ leaves lent (ok b) → Given b lent a left
  given b e = record {
    with_room = λ l. is_answer 0 (length b) (b ++ drop (length b) lent) (e ∙ room_left lent b l);
    without = λ l. is_answer 16 (length b) lent (e ∙ short_left lent b l);
  }

  pub refusing : (x : Ans (List A)) → left_of a left ≡ leaves lent x → Refusing x lent a left
  unfolding leaves
  refusing x e n p q = is_answer n p lent (e ∙ ap (leaves lent) q)

  -- ---- demand 1

  refused_answer : (size n p : ℕ) → Listed n × (p ≤ size) → (a ≡ answer_of n p) × (left ≡ lent) → Answered size lent a left
  refused_answer size n p h q =
      let en : n ≡ a.number = sym (ap (λ x. x.number) q.0) in
      let ep : a.place ≡ p = ap (λ x. x.place) q.0 in
      inr (inr (subst Listed en h.0, omega (arith, h.1, ep), q.1))

  pub answered : (size : ℕ) (x : Ans (List A)) → Answers size x → left_of a left ≡ leaves lent x → Answered size lent a left
  answered size (refused n p) h e = refused_answer size n p (h.by n p refl) (refusing (refused n p) e n p refl)
  answered size (ok b) h e =
      by_room (Answered size lent a left) (length b) (length lent)
      (λ l.
      let (q, z) = (given b e).with_room l in
      let ep : a.place ≡ length b = ap (λ x. x.place) q in
      inl (
        ap (λ x. x.number) q,
        omega (arith, ep, l),
        ap length z ∙ simp (length-append, length-drop) (omega arith),
        ap (λ k. drop k left) ep ∙ ap (drop (length b)) z ∙ drop-append_seam b (drop (length b) lent) ∙ ap (λ k. drop k lent) (sym ep),
      ))
      (λ l.
      let (q, z) = (given b e).without l in
      let ep : a.place ≡ length b = ap (λ x. x.place) q in
      inr (inl (ap (λ x. x.number) q, omega (arith, ep, l), z)))

  -- ---- a call that was not refused

  pub accepted_only : (size : ℕ) (x : Ans (List A)) → Answers size x → left_of a left ≡ leaves lent x → Accepted a → (b : List A) × (x ≡ ok b)
  accepted_only size (ok b) h e y = (b, refl)
  accepted_only size (refused n p) h e y =
      let en : a.number ≡ n = ap (λ x. x.number) (refusing (refused n p) e n p refl).0 in
      let (k, m, s) = (h.by n p refl).0 in
      absurd (⊎_elim (λ z. omega (arith, k, en, z)) (λ z. s (sym en ∙ z)) y)

  -- one that answered 0 wrote it
  pub wrote : (size : ℕ) (x : Ans (List A)) → Answers size x → left_of a left ≡ leaves lent x → a.number ≡ 0 → (b : List A) × (x ≡ ok b) × (written a left ≡ b)
  wrote size x h e z =
      let (b, q) = accepted_only size x h e (inl z) in
      let g = given b (e ∙ ap (leaves lent) q) in (
        b,
        q,
        by_room (written a left ≡ b) (length b) (length lent)
            (λ l.
            let (k, s) = g.with_room l in
            ap (λ n. take n left) (ap (λ x. x.place) k) ∙ ap (take (length b)) s ∙ take-append_seam b (drop (length b) lent))
            (λ l. absurd (omega (arith, ap (λ x. x.number) (g.without l).0, z))),
      )

-- ---- one solution

pub one_given : {A : Type 0} (b lent : List A) (a c : Answer) (left then : List A) → Given b lent a left → Given b lent c then → (a ≡ c) × (left ≡ then)
one_given b lent a c left then g k =
    by_room ((a ≡ c) × (left ≡ then)) (length b) (length lent)
    (λ l. ((g.with_room l).0 ∙ sym (k.with_room l).0, (g.with_room l).1 ∙ sym (k.with_room l).1))
    (λ l. ((g.without l).0 ∙ sym (k.without l).0, (g.without l).1 ∙ sym (k.without l).1))

-- what x answers, or refuses, is all that is left
pub one_left : {A : Type 0} (x : Ans (List A)) (lent : List A) (a c : Answer) (left then : List A)
    → ((b : List A) → x ≡ ok b → Given b lent a left × Given b lent c then) → Refusing x lent a left → Refusing x lent c then → (a ≡ c) × (left ≡ then)
one_left (ok b) lent a c left then g r s = let (k, m) = g b refl in one_given b lent a c left then k m
one_left (refused n p) lent a c left then g r s =
    let (e, z) = r n p refl in
    let (q, y) = s n p refl in
    (e ∙ sym q, z ∙ sym y)
