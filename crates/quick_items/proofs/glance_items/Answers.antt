-- `quick_items::glance_items` meets its contract: each turn is a turn of the item walk. Tags rise, so the first is the lowest.
use mathlib.Core.Path.{refl}
use native.Mathlib.Omega.{arith}
use Rattle.tally.proofs.ItemTurns.{level_start}
use Rattle.quick_items.proofs.Glances.{glanced_next, glanced_low, glanced_more}
use Rattle.quick_items.proofs.glance_items.Goals as goal

pub loop-next-init : goal.loop-next-init
loop-next-init c = (λ _. level_start _ _ _, λ h l m. omega (arith, c.first_tag-low.ensures h m))

pub returns-then-s-p : goal.returns-then-s-p
returns-then-s-p c = rw (c.stage_at.ensures, c.nothing.ensures) (level_start _ _ _, refl)

pub loop-next-preserved : goal.loop-next-preserved
loop-next-preserved c =
    let g = c.in-Some.ensures in
    let i = c.loop-next.invariant in
    let x = c.wide-tag.ensures.0 in (
      λ r.
          glanced_more g r (i.0 (omega (arith, glanced_next g))) (λ k. (c.type_inv.s k).fits) c.requires x c.bit_of-held.ensures refl
          (glanced_low g r i.1 x),
      λ h m _. omega (arith, glanced_low g (omega (arith, h)) i.1 x, m),
    )
