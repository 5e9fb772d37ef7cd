-- A run whose things are those of another, mapped; and what a walk says of its run.
use mathlib.Core.Path.{◌≡◌, refl, sym, ap}
use Prim.Native.Nat.{ℕ, zero, suc, ◌+◌, ◌-◌}
use native.Mathlib.Omega.{arith}
use mathlib.Core.Bool.{Bool, true, false}
use mathlib.Core.List.{List, [], ◌∷◌, map}
use Rattle.format.specs.Answer.{Ans, ok, refused, Got, got, ◌>>=◌, after}
use Rattle.format.specs.Run.{Step, skip, run}
use Rattle.format.proofs.Words.Answers.{never, ok_inj}
use Rattle.tally.specs.declared.Sizes.{Sizes}
use Rattle.tally.specs.Pieces.{Good, Bad}
use Rattle.tally.specs.Meet.{total, bits, walked_of}

-- ---- the same run, each thing mapped

abbrev pub mapped : {X Y : Type 0} → (X → Y) → Ans (Got (List X)) → Ans (Got (List Y))
mapped g (ok rs) = ok (got (map g rs.val) rs.used)
mapped g (refused n p) = refused n p

module _ {X Y : Type 0} (g : X → Y) (more : List ℕ → Bool) (key : X → ℕ) (key' : Y → ℕ) (step : Step X) (step' : Step Y)
    (keys : (x : X) → key' (g x) ≡ key x) (steps : (seen s : List ℕ) → step' seen s ≡ (step seen s >>= λ r. ok (got (g r.val) r.used))) where
  map_more : (u : ℕ) (x : X) (a : Ans (Got (List X)))
      → (after u (mapped g a) >>= λ rs. ok (got (g x ∷ rs.val) (u + rs.used))) ≡ mapped g (after u a >>= λ rs. ok (got (x ∷ rs.val) (u + rs.used)))
  unfolding ◌>>=◌ after
  map_more u x (ok rs) = refl
  map_more u x (refused n p) = refl

  pub skip_map : (seen : List ℕ) (k : ℕ) (s : List ℕ) → skip more key' step' seen k s ≡ mapped g (skip more key step seen k s)
  unfolding skip
  skip_map seen k [] = refl
  skip_map seen (suc k) (b ∷ s) = skip_map seen k s
  skip_map seen zero (b ∷ s) = go (λ r. skip_map (key r.val ∷ seen) (r.used - 1) s) (more (b ∷ s)) refl (step seen (b ∷ s)) refl
    where
      go : ((r : Got X) → skip more key' step' (key r.val ∷ seen) (r.used - 1) s ≡ mapped g (skip more key step (key r.val ∷ seen) (r.used - 1) s))
          → (m : Bool) → more (b ∷ s) ≡ m → (a : Ans (Got X)) → step seen (b ∷ s) ≡ a
          → skip more key' step' seen 0 (b ∷ s) ≡ mapped g (skip more key step seen 0 (b ∷ s))
      go ih false m a e = rw (m, skip)
      go ih true m (ok r) e = unfold ◌>>=◌ in (rw (m, skip, steps seen (b ∷ s), e, keys r.val, ih r) (map_more r.used r.val _))
      go ih true m (refused n p) e = unfold ◌>>=◌ in (rw (m, skip, steps seen (b ∷ s), e))

  pub run_map : (s : List ℕ) → run more key' step' s ≡ mapped g (run more key step s)
  unfolding run
  run_map s = skip_map [] 0 s

-- the run behind it
module _ {X Y : Type 0} (g : X → Y) where
  pub mapped_good : (x : Ans (Got (List X))) (rs : Got (List Y)) → mapped g x ≡ ok rs → (xs : Got (List X)) × (x ≡ ok xs) × (map g xs.val ≡ rs.val)
  mapped_good (ok xs) rs e = (xs, refl, ap (λ r. r.val) (ok_inj _ _ e))
  mapped_good (refused n p) rs e = never n p rs e

  pub mapped_bad : (x : Ans (Got (List X))) (n p : ℕ) → mapped g x ≡ refused n p → x ≡ refused n p
  mapped_bad (ok xs) n p e = never n p _ (sym e)
  mapped_bad (refused m q) n p e = let a : m ≡ n = cc in let b : q ≡ p = cc in rw (a, b)

-- ---- what a walk says of its run

module _ {X : Type 0} (weight : X → Sizes) (held : X → ℕ) where
  pub record Walk (x : Ans (Got (List X))) (a : Sizes) (m : ℕ) : Type 0 where
    pub rs : Got (List X)
    pub ran : x ≡ ok rs
    pub weighs : total weight rs.val ≡ a
    pub holds : bits held rs.val ≡ m

  pub walked_good : (x : Ans (Got (List X))) (a : Sizes) (m : ℕ) → Good a m ≡ walked_of weight held x → Walk x a m
  walked_good (ok rs) a m e = record { rs = rs; ran = refl; weighs = cc; holds = cc }
  walked_good (refused n p) a m e = absurd (let z : ◌≡◌ {A = ℕ} 0 1 = cc in omega arith)

  pub walked_bad : (x : Ans (Got (List X))) (n p : ℕ) → Bad n p ≡ walked_of weight held x → x ≡ refused n p
  walked_bad (ok rs) n p e = absurd (let z : ◌≡◌ {A = ℕ} 0 1 = cc in omega arith)
  walked_bad (refused m q) n p e = let a : m ≡ n = cc in let b : q ≡ p = cc in rw (a, b)

-- things weigh what those weigh that they are mapped to
pub total_map : {X Y : Type 0} (f : X → Y) (a : X → Sizes) (b : Y → Sizes) → ((x : X) → a x ≡ b (f x)) → (xs : List X) → total a xs ≡ total b (map f xs)
unfolding total
total_map f a b e [] = refl
total_map f a b e (x ∷ xs) = rw (e x, total_map f a b e xs)
