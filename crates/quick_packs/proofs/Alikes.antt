-- What is laid out as items told at a glance is walked as they are: it has their heads, and its values begin as they may.
use mathlib.Core.Path.{◌≡◌, refl, sym, subst, ◌∙◌}
use mathlib.Core.Logic.{inl, inr, ⊎_elim}
use Prim.Native.Nat.{ℕ, ◌+◌, ◌≤◌, ◌<◌}
use native.Mathlib.Omega.{arith}
use mathlib.Core.Bool.{false}
use mathlib.Core.List.{List}
use lib.ListN.{length, get_or}
use lib.Bits.{bit_or}
use Rattle.format.specs.Coding.{Bytes}
use Rattle.format.specs.Table.{Form, Level}
use Rattle.coding.specs.Alike.{Alike, AlikeTo, ItemMasked}
use Rattle.coding.proofs.Alikes.{alike_same, masked_before, masked_head, masked_value}
use Rattle.items.specs.Meet.{level_of}
use Rattle.items.specs.Quick as items
use Rattle.items.proofs.Glances.{quick_as}
use Rattle.tally.specs.Meet.{bit_of}
use Rattle.tally.specs.Going.{LevelGoing}
use Rattle.quick_items.specs.Items.{told_sizes, ItemGlanced, GlancedTo}
use Rattle.quick_items.proofs.Glances.{glanced_next, glanced_low, glanced_more}

-- a value whose first byte is x, and one whose is y where the mask allows it
pub quick_alike : {l : Level} {f : Form} {tag n held x y : ℕ} → (held ≡ 0 → items.Glanced l f tag n 0) → items.Glanced l f tag n x → Alike held x y → items.Glanced l f tag n y
quick_alike {l = l} {f = f} {tag = tag} {n = n} any q = ⊎_elim (λ e. subst (items.Glanced l f tag n) e q) (λ h. ⊎_elim (λ z. quick_as (inl refl) (any z)) (λ z. quick_as (inr z) q) h.1)

-- an item of a, and what stands at its place in b
module _ {a b m m' : List ℕ} {p v next : ℕ} (i : ItemMasked m m' p 2 v) (room : p + 2 < next) (h : AlikeTo m' a b next) where
  tag_alike : get_or a p 0 ≡ get_or b p 0
  tag_alike = let z : p + 0 ≡ p = omega arith in rw z at (masked_head i room h 0 (omega arith))

  glance_alike : {f : Form} {n top : ℕ} → (v ≡ 0 → items.Glanced (level_of false) f (get_or a p 0) n 0) → length b ≡ length a → ItemGlanced false f a p top n → ItemGlanced false f b p top n
  glance_alike any long g = record {
    quick = rw tag_alike at (quick_alike any g.quick (masked_value i room h));
    small = omega (arith, g.small, tag_alike);
    few = g.few;
    above = omega (arith, g.above, tag_alike);
    size_is = g.size_is ∙ masked_head i room h 1 (omega arith);
    room = omega (arith, g.room, long);
    begins = refl;
  }

-- the items of a up to p, and of whatever is laid out so; past the end nothing is said
pub record Laying (f : Form) (masks a : List ℕ) (p count held top low : ℕ) : Type 0 where
  pub long : length masks ≡ 160
  pub walked : p ≤ length a → (b : List ℕ) → Bytes b → length b ≡ length a → AlikeTo masks a b p → LevelGoing false f b p (told_sizes count p) held top low
  pub lowest : p < length a → top < get_or a p 0 → get_or a p 0 < 128 → low ≤ get_or a p 0

-- the items themselves
pub laying_own : {f : Form} {m a : List ℕ} {p count held top low : ℕ} → Laying f m a p count held top low → p ≤ length a → Bytes a → LevelGoing false f a p (told_sizes count p) held top low
laying_own {m = m} {a = a} {p = p} l h bytes = l.walked h a bytes refl (alike_same m a p)

-- one more, whose tag the code read as x, and its length as n
pub laying_more : {f : Form} {m a : List ℕ} {p count held top low : ℕ} → Laying f m a p count held top low → {next : ℕ} → GlancedTo false f a p top next → length a < 128
    → {m' : List ℕ} {x n v : ℕ} → x ≡ get_or a p 0 → n ≡ get_or a (p + 1) 0 → ItemMasked m m' p 2 v → (v ≡ 0 → items.Glanced (level_of false) f x n 0)
    → {y held' : ℕ} → y ≡ bit_of x → held' ≡ bit_or held y
    → Laying f m' a next (count + 1) held' x low
laying_more {f = f} {a = a} {p = p} {top = top} {low = low} l {next = next} g few {m' = m'} {x = x} {n = n} ex en i any ey em = record {
  long = i.long ∙ l.long;
  walked = λ r b bytes e h.
      let z : GlancedTo false f b p top next = (
        g.0,
        g.1,
        g.2,
        omega (arith, g.3, e),
        λ _. glance_alike i after h (λ v. rw (ex, same r) at (any v)) e (g.4 r),
      ) in
      glanced_more z (omega (arith, r, e)) (l.walked (omega (arith, r, after)) b bytes e (masked_before i after h)) bytes (omega (arith, few, e)) (ex ∙ tag_alike i after h) ey em (least r);
  lowest = λ h k _. omega (arith, least (omega (arith, h)), k);
}
  where
    after : p + 2 < next
    after = (glanced_next g).0

    same : next ≤ length a → n ≡ g.0
    same r = en ∙ sym (g.4 r).size_is

    least : next ≤ length a → low ≤ x
    least r = glanced_low g r l.lowest ex
