-- `quick_packs::lay` meets its contract: each turn is one of `quick_items::glance_items`, for whatever is laid out so far as the items are.
use mathlib.Core.Path.{refl}
use native.Mathlib.Omega.{arith}
use Rattle.tally.proofs.ItemTurns.{level_start}
use Rattle.quick_packs.proofs.Alikes.{laying_more}
use Rattle.quick_packs.proofs.lay.Goals as goal

pub loop-next-init : goal.loop-next-init
loop-next-init c = record { long = c.told-masks; walked = λ _ b _ _ _. level_start _ _ _; lowest = λ h l m. omega (arith, c.first_tag-low.ensures h m) }

pub loop-next-preserved : goal.loop-next-preserved
loop-next-preserved c =
    laying_more c.loop-next.invariant c.in-Some.ensures c.requires c.wide-tag.ensures.0 c.wide.ensures.0 c.mask_item.ensures c.first_mask-first.ensures c.bit_of-held.ensures refl

pub returns-then-s-p : goal.returns-then-s-p
returns-then-s-p c = rw (c.stage_at.ensures, c.nothing.ensures) (record { walked = λ b _ _ _. level_start _ _ _; sizes_are = refl }, c.loop-next.invariant.long)
