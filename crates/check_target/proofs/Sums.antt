-- What a walk over the `TI`s says of them all: what they hold, and how many bytes their items have.
use mathlib.Core.Path.{◌≡◌, refl, sym, ap, ◌∙◌}
use Prim.Native.Nat.{ℕ, ◌≤◌, ◌<◌}
use native.Mathlib.Omega.{arith}
use mathlib.Core.Bool.{Bool, true, false}
use mathlib.Core.List.{List, map}
use lib.ListN.{length}
use lib.Dec.{eqb}
use borrow.Author.Tests.{eq-eqb, ne_eqb, eqb-true, eqb-false}
use Rattle.format.specs.Answer.{ok, refused}
use Rattle.format.specs.Coding.{Bytes}
use Rattle.format.specs.Lists.{flat_all}
use Rattle.format.specs.Table.{Form, pack}
use Rattle.format.specs.Packet.{flat_item}
use Rattle.format.specs.Sheet.{tag_of_val}
use Rattle.format.specs.Calls.{item_of}
use Rattle.items.proofs.Tests.{bind_so, bind_not, need_so, need_not}
use Rattle.tally.specs.declared.Sizes.{Sizes}
use Rattle.tally.specs.Pieces.{Walked}
use Rattle.tally.specs.Pieces.{Good, Bad}
use Rattle.tally.specs.Meet.{bit_of}
use Rattle.tally.proofs.Bits.{bits_map}
use Rattle.tally.proofs.Totals.{vals_normal}
use Rattle.tally_records.specs.Meet.{records_walk}
use Rattle.tally_records.proofs.Runs.{ValsRun, vals_good, vals_bad, vals_used, slim_vals, vals_dense}
use Rattle.check_target.specs.Vals.{Vals}
use Rattle.check_target.specs.Vals as vals
use Rattle.check_target.specs.Meet.{walk_vals, vals_of, held_by, Measures, ValsAs}

-- a size that is exact
measures_same : {n m : ℕ} → n ≡ m → Measures n m
measures_same e = (λ _. e, λ h. omega (arith, h, e))

module _ (f : Form) (s : List ℕ) (b : Bytes s) where
  pub walk_bad : {n p : ℕ} → Bad n p ≡ records_walk pack f s → ValsAs (vals_of f s) (vals.Wrong n)
  walk_bad {n = n} {p = p} e = rw says
    where
      says : vals_of f s ≡ refused n p
      says = unfold vals_of in bind_not _ _ n p (vals_bad f s n p e)

  module _ {a : Sizes} {m : ℕ} (e : Good a m ≡ records_walk pack f s) where
    ran : ValsRun f s a m
    ran = vals_good f s a m e

    took : ran.vs.used ≡ a.sheet
    took = (vals_used f s ran.vs b ran.ran).0 ∙ ap (λ (z : Sizes). z.sheet) ran.weighs

    -- they end before the bytes do
    pub walk_short : (a.sheet ≡ length s → ⊥) → ValsAs (vals_of f s) (vals.Wrong 17)
    walk_short d = rw says
      where
        says : vals_of f s ≡ refused 17 0
        says = unfold vals_of in (bind_so _ _ ran.vs ran.ran ∙ need_not _ _ _ (ne_eqb _ _ (λ q. d (sym took ∙ q))))

    -- all of them were walked
    module _ (l : a.sheet ≡ length s) where
      all : vals_of f s ≡ ok ran.vs.val
      unfolding vals_of
      all = bind_so _ _ ran.vs ran.ran ∙ need_so _ _ _ (eq-eqb _ _ (took ∙ l))

      holds : m ≡ held_by ran.vs.val
      holds = sym (bits_map tag_of_val bit_of ran.vs.val ∙ ran.holds)

      weighs : a.normal ≡ length (flat_all flat_item (map item_of ran.vs.val))
      weighs = sym (vals_normal ran.vs.val ∙ ap (λ (z : Sizes). z.normal) ran.weighs)

      pub walk_fine : length s ≤ 65536 → ValsAs (vals_of f s) (vals.Fine m a.normal)
      walk_fine h = rw all (holds, omega (arith, (slim_vals ran.vs.val).normal, ap (λ (z : Sizes). z.normal) ran.weighs, ap (λ (z : Sizes). z.sheet) ran.weighs, l, h), measures_same weighs)

      -- more than a packet may have, in a packet too
      pub walk_long : 65536 < length s → ValsAs (vals_of f s) (vals.Fine m 65536)
      walk_long h =
          let many : 8192 < length (flat_all flat_item (map item_of ran.vs.val)) = omega (arith, vals_dense ran.vs.val, vals_normal ran.vs.val, ap (λ (z : Sizes). z.sheet) ran.weighs, l, h) in
          rw all (holds, omega arith, (λ q. absurd (omega (arith, q)), λ _. many))

  pub walk_says : length s ≤ 65536 → (w : Walked) → w ≡ records_walk pack f s → {r : Vals} → r ≡ walk_vals w (length s) → ValsAs (vals_of f s) r
  walk_says h (Bad n p) e t = rw t (walk_bad e)
  walk_says h (Good a m) e {r = r} t = go (eqb a.sheet (length s)) refl
    where
      go : (c : Bool) → eqb a.sheet (length s) ≡ c → ValsAs (vals_of f s) r
      go true z = rw (t, z, walk_vals) (walk_fine e (eqb-true _ _ z) h)
      go false z = rw (t, z, walk_vals) (walk_short e (eqb-false _ _ z))
