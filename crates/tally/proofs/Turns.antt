-- A turn of a walk's loop, as the code makes it: a fault ends it, a thing that was read moves on by its bytes.
use mathlib.Core.Path.{◌≡◌, refl, sym, ap, ◌∙◌, subst}
use Prim.Native.Nat.{ℕ, ◌+◌, ◌≤◌, ◌<◌}
use native.Mathlib.Omega.{arith}
use mathlib.Core.Bool.{Bool, true, false}
use mathlib.Core.List.{List, ◌∷◌}
use mathlib.Core.Logic.{inl, inr}
use lib.ListN.{length, drop}
use lib.Bits.{bit_or}
use Rattle.format.specs.Answer.{Ans, ok, refused, Got, got}
use Rattle.format.specs.Run.{Step}
use Rattle.format.specs.Lists.{has}
use Rattle.heads.specs.Meet.{Past}
use Rattle.heads.proofs.Before.{heads_none, past_more, past_between}
use Rattle.tally.specs.declared.Sizes.{Sizes}
use Rattle.tally.specs.Pieces.{Walked}
use Rattle.tally.specs.Pieces.{Good, Bad}
use Rattle.tally.specs.Meet.{plus_sizes, Few, Within}
use Rattle.tally.specs.Going.{Going, New, Reached}
use Rattle.tally.proofs.Walks.{few_more, going_bad, going_done, going_over, going_more}

-- what was read in n bytes, and what it adds
pub record Reads {X : Type 0} (weight : X → Sizes) (held : X → ℕ) (key : X → ℕ) (step : Ans (Got X)) (k n : ℕ) (a : Sizes) (m : ℕ) : Type 0 where
  pub it : X
  pub reads : step ≡ ok (got it n)
  pub key_is : key it ≡ k
  pub weighs : weight it ≡ a
  pub holds : held it ≡ m
  pub few : Few a n

pub within_more : (w : Walked) (n m : ℕ) → n ≤ m → Within w n → Within w m
within_more (Good a b) n m l h = few_more a n m l h
within_more (Bad k q) n m l h = omega (arith, h)

pub within_of : {r w : Walked} (n : ℕ) → r ≡ w → Within w n → Within r n
within_of n e h = subst (λ x. Within x n) (sym e) h

pub told_as : {w r whole : Walked} (n : ℕ) → w ≡ r → (r ≡ whole) × Within r n → (w ≡ whole) × Within w n
told_as n e t = (e ∙ t.0, within_of n e t.1)

module _ {X : Type 0} {look : List ℕ → Got ℕ} {more : List ℕ → Bool} {weight : X → Sizes} {held : X → ℕ} {key : X → ℕ} {step : Step X} {whole : Walked} {s : List ℕ} {p : ℕ} {a : Sizes}
    {m top low : ℕ} (g : Going look more weight held key step whole s p a m top low) where
  within : Within (Good a m) (length s)
  within = few_more a p (length s) g.to g.few

  -- bounds may be wider than they need be
  pub going_wide : {top' low' : ℕ} → top ≤ top' → low' ≤ low → Going look more weight held key step whole s p a m top' low'
  going_wide t l =
      let q = g.past in
      record {
        seen = g.seen;
        past = record { keys = q.keys; heads = q.heads; same = q.same; under = λ k h. q.under k (omega arith); over = λ k h. q.over k (omega arith); first = q.first };
        rest = g.rest;
        few = g.few;
        to = g.to;
      }

  -- and once the walk has moved, the lowest is not above the highest
  pub going_between : 0 < p → low ≤ top
  going_between h = past_between g.seen g.past h

  pub turn_done : length s ≤ p → (Good a m ≡ whole) × Within (Good a m) (length s)
  turn_done h = (going_done weight held key step look more whole s p a m top low g h, within)

  module _ (h : p < length s) where
    pub turn_over : more (drop p s) ≡ false → (Good a m ≡ whole) × Within (Good a m) (length s)
    turn_over n = (going_over weight held key step look more whole s p a m top low g h n, within)

    module _ (o : more (drop p s) ≡ true) where
      -- r is what the code answers
      pub turn_bad : {r : Walked} (n q : ℕ) → r ≡ Bad n (p + q) → step g.seen (drop p s) ≡ refused n q → p + q ≤ length s → (r ≡ whole) × Within r (length s)
      turn_bad n q e t l = (e ∙ going_bad weight held key step look more whole s p a m top low g h o n q t, within_of (length s) e l)

      pub turn_more : {k n : ℕ} {b : Sizes} {c : ℕ} → Reads weight held key (step g.seen (drop p s)) k n b c → look (drop p s) ≡ got k n → 0 < n
          → (next : ℕ) → next ≡ p + n → next ≤ length s
          → {a' : Sizes} → a' ≡ plus_sizes a b → {m' : ℕ} → m' ≡ bit_or m c
          → {top' : ℕ} → (top ≤ top') × (k ≤ top') → {low' : ℕ} → (low' ≤ low) × (low' ≤ k)
          → Going look more weight held key step whole s next a' m' top' low'
      turn_more {k = k} {n = n} r v z next en l {a' = a'} ea {m' = m'} em {top' = top'} t {low' = low'} w =
          let past : Past look s (p + n) top' low' (key r.it ∷ g.seen) = rw r.key_is (past_more look s p top low g.seen g.past k n top' low' v z t.0 t.1 w.0 w.1) in
          let goes = going_more weight held key step look more whole s p a m top low g h o (got r.it n) top' low' r.reads z (omega arith) past (rw r.weighs r.few) in
          rw (en, ea, em) (rw (r.weighs, r.holds) at goes)

-- a key that is told to be new stood nowhere before
pub new_key : {look : List ℕ → Got ℕ} {s : List ℕ} {p top low k : ℕ} → New p top low k → (seen : List ℕ) → Past look s p top low seen → false ≡ has k seen
unfolding has
new_key {look = look} {s = s} {p = p} {k = k} (inl e) seen q = sym (q.same k ∙ ap (has k) (heads_none look s p e q.keys q.heads))
new_key {k = k} (inr (inl h)) seen q = sym (q.under k h)
new_key {k = k} (inr (inr h)) seen q = sym (q.over k h)

-- a key that is new, by whatever tells it, and what it and the keys before are not above or below
pub record Fresh (look : List ℕ → Got ℕ) (s : List ℕ) (p top low key top' low' : ℕ) : Type 0 where
  pub new : (seen : List ℕ) → Past look s p top low seen → false ≡ has key seen
  pub over : (top ≤ top') × (key ≤ top')
  pub under : (low' ≤ low) × (low' ≤ key)
  pub between : low' ≤ top'

module _ {look : List ℕ → Got ℕ} {s : List ℕ} {p top low key top' low' : ℕ} where
  pub reached_fresh : Reached p top low key top' low' → Fresh look s p top low key top' low'
  reached_fresh r = record { new = new_key r.new; over = r.over; under = r.under; between = r.between }

  -- one that moves no bound
  pub fresh_within : ((seen : List ℕ) → Past look s p top low seen → false ≡ has key seen) → key ≤ top → low ≤ key → top' ≡ top → low' ≡ low → Fresh look s p top low key top' low'
  fresh_within n h l et el = record { new = n; over = (omega arith, omega arith); under = (omega arith, omega arith); between = omega arith }

-- how the code moves the bounds: by a key above all before, the first and any other, and by one below
module _ (p top low key : ℕ) {top' low' : ℕ} where
  pub reach_first : top < key → key ≤ low → top' ≡ key → low' ≡ key → Reached p top low key top' low'
  reach_first h l et el = record { new = inr (inl h); over = (omega arith, omega arith); under = (omega arith, omega arith); between = omega arith }

  pub reach_over : top < key → low ≤ top → top' ≡ key → low' ≡ low → Reached p top low key top' low'
  reach_over h l et el = record { new = inr (inl h); over = (omega arith, omega arith); under = (omega arith, omega arith); between = omega arith }

  pub reach_under : key ≤ top → key < low → top' ≡ top → low' ≡ key → Reached p top low key top' low'
  reach_under h l et el = record { new = inr (inr l); over = (omega arith, omega arith); under = (omega arith, omega arith); between = omega arith }

-- the only key
pub reach_only : (key low : ℕ) → key ≤ low → Reached 0 0 low key key key
reach_only key low l = record { new = inl refl; over = (omega arith, omega arith); under = (omega arith, omega arith); between = omega arith }
