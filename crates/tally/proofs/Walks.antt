-- A walk as its loop goes through it: what was walked so far, with what is still to come, is the whole. For items and packs, of a
-- packet or of a sheet: `look` is what a look back reads, and the run goes on while `more` says so.
use mathlib.Core.Path.{◌≡◌, refl, sym, ap, ◌∙◌}
use Prim.Native.Nat.{ℕ, ◌+◌, ◌≤◌, ◌<◌}
use native.Mathlib.Omega.{arith}
use native.Mathlib.Nat.{add-zero, add_assoc, zero-add}
use mathlib.Core.Bool.{Bool, true, false}
use mathlib.Core.List.{List, [], ◌∷◌}
use lib.ListN.{length, drop, length-drop, drop_of_length-le}
use lib.Seq.{drop-drop}
use lib.Bits.{bit_or, or_zero_r}
use Rattle.format.specs.Answer.{Ans, ok, refused, Got, got, ◌>>=◌, after}
use Rattle.format.specs.Run.{Step, skip, run}
use Rattle.format.proofs.Reading.Runs.{skip_step}
use Rattle.heads.specs.Meet.{Past}
use Rattle.heads.proofs.Before.{past_none}
use Rattle.tally.specs.declared.Sizes.{Sizes}
use Rattle.tally.specs.Pieces.{Walked}
use Rattle.tally.specs.Pieces.{Good, Bad}
use Rattle.tally.specs.Meet.{no_sizes, plus_sizes, total, bits, walked_of, Few}
use Rattle.tally.specs.Going.{resume, Going}
use Rattle.tally.proofs.Bits.{or_assoc}

pub same_sizes : {a b : Sizes} → a.sheet ≡ b.sheet → a.rows ≡ b.rows → a.normal ≡ b.normal → a.inner ≡ b.inner → a ≡ b
same_sizes p q r t i = record { sheet = p i; rows = q i; normal = r i; inner = t i }

pub plus_none : (a : Sizes) → plus_sizes a no_sizes ≡ a
plus_none a = same_sizes (add-zero a.sheet) (add-zero a.rows) (add-zero a.normal) (add-zero a.inner)

none_plus : (a : Sizes) → plus_sizes no_sizes a ≡ a
none_plus a = same_sizes (zero-add a.sheet) (zero-add a.rows) (zero-add a.normal) (zero-add a.inner)

pub plus_assoc : (a b c : Sizes) → plus_sizes a (plus_sizes b c) ≡ plus_sizes (plus_sizes a b) c
plus_assoc a b c =
    same_sizes
    (sym (add_assoc a.sheet b.sheet c.sheet))
    (sym (add_assoc a.rows b.rows c.rows))
    (sym (add_assoc a.normal b.normal c.normal))
    (sym (add_assoc a.inner b.inner c.inner))

pub few_plus : (a b : Sizes) (m n : ℕ) → Few a m → Few b n → Few (plus_sizes a b) (m + n)
few_plus a b m n h k = record {
  sheet = omega (arith, h.sheet, k.sheet);
  rows = omega (arith, h.rows, k.rows);
  normal = omega (arith, h.normal, k.normal);
  inner = omega (arith, h.inner, k.inner);
}

pub few_more : (a : Sizes) (m n : ℕ) → m ≤ n → Few a m → Few a n
few_more a m n l h = record {
  sheet = omega (arith, h.sheet);
  rows = omega (arith, h.rows);
  normal = omega (arith, h.normal);
  inner = omega (arith, h.inner);
}

module _ {X : Type 0} (weight : X → Sizes) (held : X → ℕ) (key : X → ℕ) (step : Step X) where
  -- from the start
  pub resume_start : (r : Ans (Got (List X))) → walked_of weight held r ≡ resume weight held no_sizes 0 0 r
  resume_start (ok rs) = ap (λ a. Good a (bits held rs.val)) (sym (none_plus (total weight rs.val)))
  resume_start (refused n q) = ap (Bad n) (sym (zero-add q))

  -- a thing more
  resume_more : (a : Sizes) (m p u : ℕ) (x : X) (r : Ans (Got (List X)))
      → resume weight held a m p (after u r >>= λ rs. ok (got (x ∷ rs.val) (u + rs.used))) ≡ resume weight held (plus_sizes a (weight x)) (bit_or m (held x)) (p + u) r
  unfolding ◌>>=◌ after total bits
  resume_more a m p u x (ok rs) =
      ap (λ b. Good b (bit_or m (bit_or (held x) (bits held rs.val)))) (plus_assoc a (weight x) (total weight rs.val))
      ∙ ap (Good (plus_sizes (plus_sizes a (weight x)) (total weight rs.val))) (or_assoc m (held x) (bits held rs.val))
  resume_more a m p u x (refused n q) = ap (Bad n) (sym (add_assoc p u q))

  module _ (look : List ℕ → Got ℕ) (more : List ℕ → Bool) (whole : Walked) (s : List ℕ) where
    pub going_start : {low : ℕ} → whole ≡ walked_of weight held (run more key step s) → Going look more weight held key step whole s 0 no_sizes 0 0 low
    unfolding run
    going_start e = record {
      seen = [];
      past = past_none look s;
      rest = e ∙ resume_start (skip more key step [] 0 s);
      few = record { sheet = omega arith; rows = omega arith; normal = omega arith; inner = omega arith };
      to = omega arith;
    }

    module _ (p : ℕ) (a : Sizes) (m top low : ℕ) (g : Going look more weight held key step whole s p a m top low) where
      ended : skip more key step g.seen 0 (drop p s) ≡ ok (got [] 0) → Good a m ≡ whole
      unfolding total bits
      ended e = sym (g.rest ∙ rw e (ap (λ b. Good b (bit_or m 0)) (plus_none a) ∙ ap (Good a) (or_zero_r m)))

      -- the walk's end, at the end of the bytes or where no more of its kind stands
      pub going_done : length s ≤ p → Good a m ≡ whole
      unfolding skip
      going_done h = ended (rw (drop_of_length-le s {i = p} h))

      module _ (h : p < length s) where
        left : 0 < length (drop p s)
        left = rw length-drop (omega arith)

        pub going_over : more (drop p s) ≡ false → Good a m ≡ whole
        going_over n = ended (over (drop p s) n)
          where
            over : (t : List ℕ) → more t ≡ false → skip more key step g.seen 0 t ≡ ok (got [] 0)
            over [] n = unfold skip in refl
            over (b ∷ t) n = unfold skip in (rw (n, skip))

        module _ (n : more (drop p s) ≡ true) where
          -- a fault
          pub going_bad : (k q : ℕ) → step g.seen (drop p s) ≡ refused k q → Bad k (p + q) ≡ whole
          going_bad k q e = sym (g.rest ∙ ap (resume weight held a m p) (stopped (drop p s) left n e))
            where
              stopped : (t : List ℕ) → 0 < length t → more t ≡ true → step g.seen t ≡ refused k q → skip more key step g.seen 0 t ≡ refused k q
              stopped [] l n e = absurd (omega arith)
              stopped (b ∷ t) l n e = unfold skip ◌>>=◌ in (rw (n, e, skip))

          pub going_more : (r : Got X) (top' low' : ℕ) → step g.seen (drop p s) ≡ ok r → 0 < r.used → p + r.used ≤ length s
              → Past look s (p + r.used) top' low' (key r.val ∷ g.seen) → Few (weight r.val) r.used
              → Going look more weight held key step whole s (p + r.used) (plus_sizes a (weight r.val)) (bit_or m (held r.val)) top' low'
          going_more r top' low' e u l q w = record {
            seen = key r.val ∷ g.seen;
            past = q;
            rest = g.rest
                ∙ ap (resume weight held a m p) (skip_step more key step (λ _. []) g.seen (drop p s) r left n e u)
                ∙ resume_more a m p r.used r.val _
                ∙ ap (λ t. resume weight held (plus_sizes a (weight r.val)) (bit_or m (held r.val)) (p + r.used) (skip more key step (key r.val ∷ g.seen) 0 t)) (drop-drop r.used p s);
            few = few_plus a (weight r.val) p r.used g.few w;
            to = l;
          }
