-- `quick_records::targets::lay` meets its contract: each turn is one of `quick::glance_records`, for whatever is laid out so far as the records are.
use Rattle.std.proofs.Common.{refl, arith}
use Rattle.quick_records.proofs.Alikes.{laying_start, laying_more}
use Rattle.quick_records.proofs.targets.lay.Goals as goal
use Rattle.quick_records.proofs.targets.lay.Goals.{then-p-lt128, else-p-lt128}

pub loop-told-init : goal.loop-told-init
loop-told-init c = laying_start c.told-masks

pub loop-told-preserved : goal.loop-told-preserved
loop-told-preserved c =
    laying_more c.loop-told.invariant c.in-Some.ensures (λ i. (c.type_inv.s i).fits) c.requires c.if-p-lt128.array_long
    (elim c.if-p-lt128.branch [
      | then-p-lt128 x ↦ rw x.masks-is (λ _. record { first = _; item = x.mask_item.ensures; any = x.first_mask-first.ensures })
      | else-p-lt128 y ↦ λ h. absurd (omega (arith, h, y.if-p-lt128.false))
    ])
    c.bit_of-held.ensures refl
