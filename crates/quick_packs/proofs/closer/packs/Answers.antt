-- `closer::packs` meets its contract: each turn is a turn of the pack walk.
use mathlib.Core.Path.{refl}
use native.Mathlib.Omega.{arith}
use Rattle.std.proofs.Common.{Ok}
use Rattle.items.specs.Meet.{form_of}
use Rattle.quick_packs.proofs.Models.{ends_well}
use Rattle.quick_packs.proofs.ToldPacks.{PackHere, PackTold, pack_next, told_small, told_sums, told_next}
use Rattle.quick_packs.proofs.closer.packs.Goals as goal
use Rattle.quick_packs.proofs.closer.packs.Goals.{In-Ok, Else-is_err}

-- where a pack's head was read
here : (c : In-Ok) → PackHere (form_of c.args.alone) c.args.s.now c.loop-p.p c.loop-p.sum c.loop-p.top c.loop-p.low c.in-Ok.head
here c = record { going = c.loop-p.invariant; here = c.loop-p-test.true; it = Ok c.in-Ok.head; told = c.in-Ok.ensures; is = refl; bytes = λ i. (c.type_inv.s i).fits; most = c.requires.0 }

-- where its items were found to be told to their end, and to end as a pack may
told : (c : Else-is_err) → PackHere (form_of c.args.alone) c.args.s.now c.loop-p.p c.loop-p.sum c.loop-p.top c.loop-p.low c.in-Ok.head
    → PackTold (form_of c.args.alone) c.args.s.now c.loop-p.p c.loop-p.sum c.loop-p.top c.loop-p.low c.in-Ok.head c.items-told.result
told c h = record { here = h; new = c.is_worth.ensures c.if-not-is_worth.false; items = c.items-told.ensures; all = c.if-told-next.false }

pub overflow_add-from : goal.overflow_add-from
overflow_add-from c = omega (arith, pack_next (here (goal.at.overflow_add-from c).In-Ok))

pub overflow_add-from-in-loop-p : goal.overflow_add-from-in-loop-p
overflow_add-from-in-loop-p c = omega (arith, pack_next (here (goal.at.overflow_add-from-in-loop-p c).In-Ok))

pub overflow_add-next : goal.overflow_add-next
overflow_add-next c = omega (arith, pack_next (here (goal.at.overflow_add-next c).In-Ok))

pub overflow_add-next-in-loop-p : goal.overflow_add-next-in-loop-p
overflow_add-next-in-loop-p c = omega (arith, pack_next (here (goal.at.overflow_add-next-in-loop-p c).In-Ok))

pub slice_bounds-items-count : goal.slice_bounds-items-count
slice_bounds-items-count c = omega (arith, pack_next (here (goal.at.slice_bounds-items-count c).In-Ok))

pub slice_bounds-items-start : goal.slice_bounds-items-start
slice_bounds-items-start c = omega (arith, pack_next (here (goal.at.slice_bounds-items-start c).In-Ok))

pub slice_bounds-items-end : goal.slice_bounds-items-end
slice_bounds-items-end c = omega (arith, pack_next (here (goal.at.slice_bounds-items-end c).In-Ok))

pub overflow_sub-next : goal.overflow_sub-next
overflow_sub-next c = omega (arith, pack_next (here (goal.at.overflow_sub-next c).In-Ok))

pub loop-p-smaller : goal.loop-p-smaller
loop-p-smaller c = omega (arith, pack_next (here (goal.at.loop-p-smaller c).In-Ok))

pub pack_sizes-requires : goal.pack_sizes-requires
pack_sizes-requires c = let a = goal.at.pack_sizes-requires c in told_small (told a.Else-is_err (here a.In-Ok))

pub plus-sum-requires : goal.plus-sum-requires
plus-sum-requires c = let a = goal.at.plus-sum-requires c in told_sums (told a.Else-is_err (here a.In-Ok)) c.pack_sizes.ensures

pub loop-p-preserved : goal.loop-p-preserved
loop-p-preserved c =
    let a = goal.at.loop-p-preserved c in
    told_next (told a.Else-is_err (here a.In-Ok)) c.pack_sizes.ensures c.ended_of.ensures (ends_well _ refl c.if-is_err.ensures.value) c.plus-sum.ensures c.larger-top.ensures.over c.smaller-low.ensures
