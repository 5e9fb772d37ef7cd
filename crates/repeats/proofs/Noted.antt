-- Keys noted along a walk: one that has a bit and is not noted stood nowhere before.
use mathlib.Core.Path.{◌≡◌, refl, sym, ap, ◌∙◌}
use Prim.Native.Nat.{ℕ, ◌+◌, ◌/◌, ◌<◌}
use mathlib.Core.Bool.{Bool, true, false, ◌||◌}
use mathlib.Core.List.{List, [], ◌∷◌, ◌++◌}
use lib.ListN.{length, drop}
use lib.Dec.{eqb}
use borrow.Author.Tests.{eqb-true}
use Rattle.format.specs.Answer.{Got, got}
use Rattle.format.specs.Lists.{has}
use Rattle.format.proofs.Words.Answers.{no_bool}
use Rattle.heads.specs.Meet.{Heads, Past}
use Rattle.heads.proofs.Before.{heads_none, has_snoc, heads_more}
use Rattle.repeats.specs.Notes.{noted, Noting}
use Rattle.repeats.proofs.Clears.{heads_same, not_then}

-- of the keys before p those that have a bit are noted
abbrev pub Noted : (List ℕ → Got ℕ) → List ℕ → List ℕ → ℕ → Type 0
Noted look s bits p = (ks : List ℕ) → Heads look s p ks → (k : ℕ) → k / 64 < length bits → has k ks ≡ true → noted bits k ≡ true

pub noted_none : (look : List ℕ → Got ℕ) (s bits : List ℕ) → Noted look s bits 0
unfolding has
noted_none look s bits ks h k z e = no_bool (sym (ap (has k) (heads_none look s 0 refl ks h)) ∙ e)

module _ (look : List ℕ → Got ℕ) (s bits : List ℕ) (p : ℕ) (n : Noted look s bits p) where
  pub noted_new : (k : ℕ) {top low : ℕ} → (k / 64 < length bits) × (noted bits k ≡ false) → (seen : List ℕ) → Past look s p top low seen → false ≡ has k seen
  noted_new k h seen q = sym (not_then (has k seen) (noted bits k) (λ e. n q.keys q.heads k h.0 (sym (q.same k) ∙ e)) h.1)

  -- the key at p, noted too
  pub noted_more : (keys : List ℕ) → Heads look s p keys → (k u : ℕ) → look (drop p s) ≡ got k u → 0 < u → (after : List ℕ) → Noting bits after k → Noted look s after (p + u)
  unfolding has
  noted_more keys h k u e z after m ks g j l i = go (eqb k j) refl (sym (has_snoc j k keys) ∙ sym (ap (has j) all) ∙ i)
    where
      all : ks ≡ keys ++ k ∷ []
      all = heads_same look ks (keys ++ k ∷ []) s (p + u) g (heads_more look keys s p k u h e z)

      fits : j / 64 < length bits
      fits = rw m.long at l

      go : (b : Bool) → eqb k j ≡ b → eqb k j || has j keys ≡ true → noted after j ≡ true
      go true t y = let same : k ≡ j = eqb-true k j t in rw (← same) (m.new (rw (← same) at fits))
      go false t y = m.kept j (n keys h j fits (rw t at y))
