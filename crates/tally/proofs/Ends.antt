-- Where a pack or a target ends: the code's number says what document 01's rules do.
use mathlib.Core.Path.{◌≡◌, refl, sym, ap, ap₂, ◌∙◌}
use Prim.Native.Nat.{ℕ, ◌<◌}
use native.Mathlib.Omega.{arith}
use mathlib.Core.Bool.{Bool, true, false, not, ◌||◌}
use mathlib.Core.List.{List}
use lib.Dec.{lit<}
use Rattle.format.specs.Answer.{ok, refused, need, ◌>>=◌}
use Rattle.format.specs.Lists.{has}
use Rattle.format.specs.Table.{Form, is_alone, alike, ended}
use Rattle.items.specs.Meet.{form_of}
use Rattle.tally.specs.Meet.{bits, bit_of, is_held, unmet, ended_by}
use Rattle.tally.proofs.Bits.{bits_has}

needed : (b c : Bool) (n : ℕ) → n ≡ unmet b c
    → (n ≡ 0 → (need b 20 >>= λ _. need c 14) ≡ ok tt) × ((n ≡ 0 → ⊥) → (need b 20 >>= λ _. need c 14) ≡ refused n 0)
unfolding need ◌>>=◌
needed true true n e = (λ _. refl, λ z. absurd (z e))
needed true false n e = (λ z. absurd (omega (arith, e, z)), λ _. ap (λ x. refused x 0) (sym e))
needed false c n e = (λ z. absurd (omega (arith, e, z)), λ _. ap (λ x. refused x 0) (sym e))

pub ended_says : (f : Form) (tags : List ℕ) {n held : ℕ} → n ≡ ended_by f held → bits bit_of tags ≡ held → (n ≡ 0 → ended f tags ≡ ok tt) × ((n ≡ 0 → ⊥) → ended f tags ≡ refused n 0)
unfolding ended ended_by
ended_says f tags {n = n} {held = held} e h =
    rw (is 17 (lit< tt), is 19 (lit< tt), is 20 (lit< tt)) (needed (alike (is_held 19 held) (is_held 20 held)) (not (is_alone f) || is_held 17 held) n e)
  where
    is : (k : ℕ) → k < 64 → has k tags ≡ is_held k held
    is k l = sym (bits_has k l tags) ∙ ap (is_held k) h

-- as the code computes it
module _ (alone : Bool) (held : ℕ) {a b p : Bool} (ea : a ≡ is_held 19 held) (eb : b ≡ is_held 20 held) (ep : p ≡ alike a b) where
  pair_is : alike (is_held 19 held) (is_held 20 held) ≡ p
  pair_is = sym (ep ∙ ap₂ alike ea eb)

  pub ended_unlike : p ≡ false → 20 ≡ ended_by (form_of alone) held
  unfolding ended_by
  ended_unlike t = sym (ap (λ x. unmet x (not (is_alone (form_of alone)) || is_held 17 held)) (pair_is ∙ t))

  module _ (t : p ≡ true) {c v : Bool} (ec : c ≡ is_held 17 held) (ev : v ≡ (not alone || c)) where
    located_is : not (is_alone (form_of alone)) || is_held 17 held ≡ v
    located_is = go alone ev
      where
        go : (alone : Bool) → v ≡ (not alone || c) → not (is_alone (form_of alone)) || is_held 17 held ≡ v
        go true e = sym (e ∙ ec)
        go false e = sym e

    pub ended_none : v ≡ true → 0 ≡ ended_by (form_of alone) held
    unfolding ended_by
    ended_none tv = sym (ap₂ unmet (pair_is ∙ t) (located_is ∙ tv))

    pub ended_bare : v ≡ false → 14 ≡ ended_by (form_of alone) held
    unfolding ended_by
    ended_bare tv = sym (ap₂ unmet (pair_is ∙ t) (located_is ∙ tv))
