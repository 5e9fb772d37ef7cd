-- A loop that writes what a run reads, one thing after another: its start, a turn, and the end.
-- `emit` is what one thing writes, and `next` the state after it.
use mathlib.Core.Path.{◌≡◌, refl, sym, ap, ◌∙◌}
use Prim.Native.Nat.{ℕ, ◌+◌, ◌-◌, ◌≤◌, ◌<◌}
use native.Mathlib.Omega.{arith}
use mathlib.Core.Bool.{Bool, true, false}
use mathlib.Core.List.{List, [], ◌∷◌, ◌++◌}
use lib.ListN.{length, drop, length-append, length-drop, drop_of_length-le}
use lib.Seq.{sets, length-sets, drop-drop}
use Rattle.format.specs.Answer.{ok, Got, got}
use Rattle.format.specs.Lists.{flat_all}
use Rattle.format.specs.Run.{Step, skip, run}
use Rattle.format.proofs.Words.Answers.{bind_then, after_then, ok_inj}
use Rattle.format.proofs.Reading.Runs.{skip_drop, drop_pred}
use Rattle.write_laws.specs.Writing.{Writing}
use Rattle.stores.proofs.Stores.{sets_append}

pub record Emits {X S : Type 0} (emit : S → X → List ℕ) (next : S → X → S) (emits : S → List X → List ℕ) : Type 0 where
  pub none : (σ : S) → emits σ [] ≡ []
  pub more : (σ : S) (x : X) (xs : List X) → emits σ (x ∷ xs) ≡ emit σ x ++ emits (next σ x) xs

-- what each thing writes by itself
pub each : {X : Type 0} (emit : X → List ℕ) → Emits {X = X} {S = Unit {0}} (λ _. emit) (λ _ _. tt) (λ _. flat_all emit)
unfolding flat_all
each emit = record { none = λ _. refl; more = λ _ _ _. refl }

-- a run that has more to read reads a thing, and goes on
skip_here : {X : Type 0} (more : List ℕ → Bool) (key : X → ℕ) (step : Step X) (seen s : List ℕ) (rs : Got (List X)) → 0 < length s → more s ≡ true → skip more key step seen 0 s ≡ ok rs
    → (r : Got X) × (step seen s ≡ ok r) × (qs : Got (List X)) × (rs.val ≡ r.val ∷ qs.val) × (rs.used ≡ r.used + qs.used) × (0 < r.used → skip more key step (key r.val ∷ seen) 0 (drop r.used s) ≡ ok qs)
unfolding skip
skip_here more key step seen [] rs h m e = absurd (omega arith)
skip_here more key step seen (b ∷ s) rs h m e =
    bind_then _ _ _ (rw (m, skip) at e) λ r er e₁.
    after_then _ _ _ _ e₁ λ qs eq e₂.
    (r, er, qs, ap (λ x. x.val) (sym (ok_inj _ _ e₂)), ap (λ x. x.used) (sym (ok_inj _ _ e₂)), λ u. rw (drop_pred r.used b s u, ← skip_drop more key step (λ _. []) (key r.val ∷ seen) (r.used - 1) s) eq)

-- one where no more of its kind stands is over
skip_over : {X : Type 0} (more : List ℕ → Bool) (key : X → ℕ) (step : Step X) (seen s : List ℕ) → more s ≡ false → skip more key step seen 0 s ≡ ok (got [] 0)
unfolding skip
skip_over more key step seen [] m = refl
skip_over more key step seen (b ∷ s) m = rw (m, skip)

module _ {X S : Type 0} {emit : S → X → List ℕ} {next : S → X → S} {emits : S → List X → List ℕ} (law : Emits emit next emits) (more : List ℕ → Bool) (key : X → ℕ) (step : Step X)
    (whole s out₀ : List ℕ) where
  -- with how many bytes it has to read
  pub writing_begins : (σ : S) (rs : Got (List X)) → run more key step s ≡ ok rs → whole ≡ emits σ rs.val → (w : Writing more emits key step whole s out₀ out₀ σ 0 0) × (w.things.used ≡ rs.used)
  unfolding run
  writing_begins σ rs e w = (
    record {
      seen = [];
      things = rs;
      reads = e;
      to = omega arith;
      same = refl;
      sum = omega (arith, ap length w);
      rest = ap (sets out₀ 0) w;
    },
    refl,
  )

  pub writing_start : (σ : S) (rs : Got (List X)) → run more key step s ≡ ok rs → whole ≡ emits σ rs.val → Writing more emits key step whole s out₀ out₀ σ 0 0
  writing_start σ rs e w = (writing_begins σ rs e w).0

  module _ {out : List ℕ} {σ : S} {p k : ℕ} (g : Writing more emits key step whole s out₀ out σ p k) where
    ended : skip more key step g.seen 0 (drop p s) ≡ ok (got [] 0) → (k ≡ length whole) × (out ≡ sets out₀ 0 whole)
    ended e =
        let t : g.things.val ≡ [] = ap (λ x. x.val) (ok_inj _ _ (sym g.reads ∙ e)) in
        let n : emits σ g.things.val ≡ [] = ap (emits σ) t ∙ law.none σ in
        (omega (arith, g.sum, ap length n), sym (g.rest ∙ ap (sets out k) n))

    -- the end: of the bytes, or where no more of its kind stands; nothing is left to read there
    pub none_left : length s ≤ p → g.things.used ≡ 0
    unfolding skip
    none_left h = let e : skip more key step g.seen 0 (drop p s) ≡ ok (got [] 0) = rw (drop_of_length-le s {i = p} h) in ap (λ x. x.used) (ok_inj _ _ (sym g.reads ∙ e))

    pub none_over : more (drop p s) ≡ false → g.things.used ≡ 0
    none_over m = ap (λ x. x.used) (ok_inj _ _ (sym g.reads ∙ skip_over more key step g.seen (drop p s) m))

    pub writing_done : length s ≤ p → (k ≡ length whole) × (out ≡ sets out₀ 0 whole)
    unfolding skip
    writing_done h = ended (rw (drop_of_length-le s {i = p} h))

    pub writing_over : more (drop p s) ≡ false → (k ≡ length whole) × (out ≡ sets out₀ 0 whole)
    writing_over m = ended (skip_over more key step g.seen (drop p s) m)

    -- what stands at p
    pub record Next : Type 0 where
      pub it : Got X
      pub read : step g.seen (drop p s) ≡ ok it
      pub after_it : Got (List X)
      pub first : g.things.val ≡ it.val ∷ after_it.val
      pub passes : g.things.used ≡ it.used + after_it.used
      pub goes : 0 < it.used → skip more key step (key it.val ∷ g.seen) 0 (drop it.used (drop p s)) ≡ ok after_it

    pub next_here : p < length s → more (drop p s) ≡ true → Next
    next_here h m =
        let (r, er, qs, eq, eu, go) = skip_here more key step g.seen (drop p s) g.things (rw length-drop (omega arith)) m g.reads in
        record { it = r; read = er; after_it = qs; first = eq; passes = eu; goes = go }

    module _ (n : Next) where
      split : emits σ g.things.val ≡ emit σ n.it.val ++ emits (next σ n.it.val) n.after_it.val
      split = ap (emits σ) n.first ∙ law.more σ n.it.val n.after_it.val

      pub long : length (emits σ g.things.val) ≡ length (emit σ n.it.val) + length (emits (next σ n.it.val) n.after_it.val)
      long = ap length split ∙ length-append (emit σ n.it.val) (emits (next σ n.it.val) n.after_it.val)

      pub next_room : length whole ≤ length out₀ → k + length (emit σ n.it.val) ≤ length out
      next_room h = omega (arith, long, g.sum, g.same)

      -- with how many bytes it has still to read
      pub writing_passes : 0 < n.it.used → p + n.it.used ≤ length s → {out' : List ℕ} → out' ≡ sets out k (emit σ n.it.val)
          → {σ' : S} → σ' ≡ next σ n.it.val → {p' : ℕ} → p' ≡ p + n.it.used → {k' : ℕ} → k' ≡ k + length (emit σ n.it.val)
          → (w : Writing more emits key step whole s out₀ out' σ' p' k') × (w.things.used ≡ n.after_it.used)
      writing_passes u l {out' = out'} eo es ep ek =
          rw (es, ep, ek) (
            record {
              seen = key n.it.val ∷ g.seen;
              things = n.after_it;
              reads = rw drop-drop at (n.goes u);
              to = l;
              same = ap length eo ∙ length-sets out k (emit σ n.it.val) ∙ g.same;
              sum = omega (arith, long, g.sum);
              rest = g.rest ∙ ap (sets out k) split ∙ sets_append out k (emit σ n.it.val) (emits (next σ n.it.val) n.after_it.val)
                  ∙ ap (λ x. sets x (k + length (emit σ n.it.val)) (emits (next σ n.it.val) n.after_it.val)) (sym eo);
            },
            refl,
          )

      pub writing_more : 0 < n.it.used → p + n.it.used ≤ length s → {out' : List ℕ} → out' ≡ sets out k (emit σ n.it.val)
          → {σ' : S} → σ' ≡ next σ n.it.val → {p' : ℕ} → p' ≡ p + n.it.used → {k' : ℕ} → k' ≡ k + length (emit σ n.it.val)
          → Writing more emits key step whole s out₀ out' σ' p' k'
      writing_more u l eo es ep ek = (writing_passes u l eo es ep ek).0
