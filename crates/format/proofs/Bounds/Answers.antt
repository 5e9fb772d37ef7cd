-- Refusals with a number of the table and an early place, through do-blocks and runs.
use mathlib.Core.Path.{◌≡◌, refl, sym, subst}
use Prim.Native.Nat.{ℕ, zero, suc, ◌+◌, ◌-◌, ◌≤◌, ◌<◌}
use native.Mathlib.Omega.{arith}
use mathlib.Core.Bool.{Bool, true, false, not, ◌&&◌}
use mathlib.Core.List.{List, [], ◌∷◌}
use lib.ListN.{length}
use lib.Dec.{leb, eqb}
use borrow.Author.Tests.{leb-true}
use Rattle.format.specs.Answer.{Ans, ok, refused, Got, got, ◌>>=◌, need, after}
use Rattle.format.specs.Run.{Step, skip, run}
use Rattle.format.specs.Demands.Demand1.{Refuses, Listed, Answers}
use Rattle.format.proofs.Words.Answers.{never, bind_then, after_then, ok_inj, no_bool, and_both}

-- ---- through do-blocks, for any P

pub refuses_ok : {A : Type 0} (P : ℕ → ℕ → Type 0) (a : A) → Refuses P (ok a)
refuses_ok P a = record { by = λ n p e. never n p a (sym e) }

pub refuses_no : {A : Type 0} (P : ℕ → ℕ → Type 0) (n p : ℕ) → P n p → Refuses {A = A} P (refused n p)
refuses_no {A} P n p h = record { by = λ m q e. subst (λ x. P x q) (same_number e) (subst (P n) (same_place e) h) }
  where
    same_number : {m q : ℕ} → ◌≡◌ {A = Ans A} (refused n p) (refused m q) → n ≡ m
    same_number e = cc

    same_place : {m q : ℕ} → ◌≡◌ {A = Ans A} (refused n p) (refused m q) → p ≡ q
    same_place e = cc

pub refuses_need : {P : ℕ → ℕ → Type 0} (t : Bool) (n : ℕ) → P n 0 → Refuses P (need t n)
unfolding need
refuses_need {P} true n h = refuses_ok P tt
refuses_need {P} false n h = refuses_no P n 0 h

pub refuses_bind : {A B : Type 0} {P : ℕ → ℕ → Type 0} (m : Ans A) (f : A → Ans B) → Refuses P m → ((a : A) → m ≡ ok a → Refuses P (f a)) → Refuses P (m >>= f)
unfolding ◌>>=◌
refuses_bind (ok a) f h g = g a refl
refuses_bind {P = P} (refused n p) f h g = refuses_no P n p (h.by n p refl)

pub refuses_more : {A : Type 0} {P Q : ℕ → ℕ → Type 0} (m : Ans A) → Refuses Q m → ((n p : ℕ) → Q n p → P n p) → Refuses P m
refuses_more m h g = record { by = λ n p e. g n p (h.by n p e) }

pub refuses_after : {A : Type 0} {P Q : ℕ → ℕ → Type 0} (j : ℕ) (m : Ans A) → Refuses Q m → ((n p : ℕ) → Q n p → P n (j + p)) → Refuses P (after j m)
unfolding after
refuses_after {P = P} j (ok a) h g = refuses_ok P a
refuses_after {P = P} j (refused n p) h g = refuses_no P n (j + p) (g n p (h.by n p refl))

-- ---- a number of the table, by one computed test

pub listed : (n : ℕ) → leb 1 n && leb n 20 && not (eqb n 16) ≡ true → Listed n
listed n e =
    let (a, b) = and_both (leb 1 n && leb n 20) (not (eqb n 16)) e in
    let (l, m) = and_both (leb 1 n) (leb n 20) a in
    (leb-true 1 n l, leb-true n 20 m, λ z. no_bool (rw z at b))

-- ---- before the end of what is read

abbrev pub Early : {A : Type 0} → ℕ → Ans A → Type 0
Early size a = Refuses (λ n p. Listed n × (p < size)) a

pub early_more : {A : Type 0} (j k : ℕ) (m : Ans A) → Early j m → j ≤ k → Early k m
early_more j k m h l = refuses_more m h (λ n p q. (q.0, omega (arith, q.1)))

pub early_after : {A : Type 0} (j k i : ℕ) (m : Ans A) → Early k m → (0 < k → j + k ≤ i) → Early i (after j m)
early_after j k i m h g = refuses_after j m h (λ n p q. (q.0, omega (arith, q.1, g (omega (arith, q.1)))))

pub early_answers : {A : Type 0} (j k : ℕ) (m : Ans A) → Early j m → j ≤ k + 1 → Answers k m
early_answers j k m h l = refuses_more m h (λ n p q. (q.0, omega (arith, q.1)))

-- ---- a run

-- a step refuses before the end of what it reads, and takes no more than that
pub record Steady {X : Type 0} (step : Step X) : Type 0 where
  pub early : (seen s : List ℕ) → 0 < length s → Early (length s) (step seen s)
  pub room : (seen s : List ℕ) (r : Got X) → step seen s ≡ ok r → r.used ≤ length s

module _ {X : Type 0} (more : List ℕ → Bool) (key : X → ℕ) (step : Step X) (h : Steady step) where
  skip_early : (seen : List ℕ) (k : ℕ) (s : List ℕ) → Early (length s - k) (skip more key step seen k s)
  unfolding skip
  skip_early seen k [] = refuses_ok _ (got [] 0)
  skip_early seen (suc k) (b ∷ s) =
      let e : length (b ∷ s) - suc k ≡ length s - k = omega arith in
      rw e (skip_early seen k s)
  skip_early seen zero (b ∷ s) = go (λ r. skip_early (key r.val ∷ seen) (r.used - 1) s) (more (b ∷ s)) refl
    where
      n : ℕ
      n = length (b ∷ s) - 0

      go : ((r : Got X) → Early (length s - (r.used - 1)) (skip more key step (key r.val ∷ seen) (r.used - 1) s)) → (m : Bool) → more (b ∷ s) ≡ m
          → Early n (skip more key step seen 0 (b ∷ s))
      go ih false m = rw (m, skip) (refuses_ok _ (got [] 0))
      go ih true m =
          let z : length (b ∷ s) - 0 ≡ length (b ∷ s) = omega arith in
          rw (m, skip, z)
          (refuses_bind (step seen (b ∷ s)) _ (h.early seen (b ∷ s) (omega arith)) λ r e.
          refuses_bind (after r.used (skip more key step (key r.val ∷ seen) (r.used - 1) s)) _
          (early_after r.used (length s - (r.used - 1)) (length (b ∷ s)) _ (ih r) (λ _. omega (arith, h.room seen (b ∷ s) r e))) λ rs _. refuses_ok _ _)

  pub run_early : (s : List ℕ) → Early (length s) (run more key step s)
  unfolding run
  run_early s = let z : length s - 0 ≡ length s = omega arith in rw z at (skip_early [] 0 s)

  -- what a run took
  skip_room : (seen : List ℕ) (k : ℕ) (s : List ℕ) (rs : Got (List X)) → skip more key step seen k s ≡ ok rs → rs.used ≤ length s - k
  unfolding skip
  skip_room seen k [] rs e = rw (← ok_inj _ _ e) (omega arith)
  skip_room seen (suc k) (b ∷ s) rs e = omega (arith, skip_room seen k s rs e)
  skip_room seen zero (b ∷ s) rs e = go (λ r qs z. skip_room (key r.val ∷ seen) (r.used - 1) s qs z) (more (b ∷ s)) refl
    where
      go : ((r : Got X) (qs : Got (List X)) → skip more key step (key r.val ∷ seen) (r.used - 1) s ≡ ok qs → qs.used ≤ length s - (r.used - 1))
          → (m : Bool) → more (b ∷ s) ≡ m → rs.used ≤ length (b ∷ s) - 0
      go ih false m = rw (← ok_inj _ _ (rw (m, skip) at e)) (omega arith)
      go ih true m =
          bind_then _ _ _ (rw (m, skip) at e) λ r er e₁.
          after_then _ _ _ _ e₁ λ qs eq e₂.
          rw (← ok_inj _ _ e₂) (omega (arith, ih r qs eq, h.room seen (b ∷ s) r er))

  pub run_room : (s : List ℕ) (rs : Got (List X)) → run more key step s ≡ ok rs → rs.used ≤ length s
  unfolding run
  run_room s rs e = omega (arith, skip_room [] 0 s rs e)
