-- `find::item_spot` meets its contract: each turn passes one entry that is not the one sought.
use mathlib.Core.Path.{◌∙◌}
use Prim.Native.Nat.{◌+◌, ◌≤◌, ◌<◌}
use native.Mathlib.Omega.{arith}
use lib.ListN.{length}
use Rattle.items.specs.Meet.{level_of}
use Rattle.find.proofs.Entries.{entry_start, entry_done, entry_fault, entry_room, entry_found, entry_more}
use Rattle.find.proofs.item_spot.Goals as goal
use Rattle.find.proofs.item_spot.Goals.{In-Ok}

-- the item at p within the level
room : (c : In-Ok) → let h = c.in-Ok.head in (c.loop-p.p + h.used + h.width + h.size ≤ length c.args.s.now) × (0 < h.used) × (length c.args.s.now ≤ 8192)
room c = entry_room (c.loop-p.invariant _ c.requires.1.1) c.loop-p-test.true c.in-Ok.head c.in-Ok.ensures

pub loop-p-init : goal.loop-p-init
loop-p-init c = λ f r. entry_start (level_of c.args.set) f _ _ (λ i. (c.type_inv.s i).fits) (c.requires.0, r)

pub returns-in_default : goal.returns-in_default
returns-in_default c = λ f r. entry_fault (c.loop-p.invariant f r) c.loop-p-test.true _ c.in_default.ensures

pub overflow_add-from : goal.overflow_add-from
overflow_add-from c = omega (arith, room (goal.at.overflow_add-from c).In-Ok)

pub overflow_add-from-in-loop-p : goal.overflow_add-from-in-loop-p
overflow_add-from-in-loop-p c = omega (arith, room (goal.at.overflow_add-from-in-loop-p c).In-Ok)

pub overflow_add-next : goal.overflow_add-next
overflow_add-next c = omega (arith, room (goal.at.overflow_add-next c).In-Ok)

pub returns-then-head-tag : goal.returns-then-head-tag
returns-then-head-tag c = λ f r. entry_found (c.loop-p.invariant f r) c.loop-p-test.true c.in-Ok.head c.in-Ok.ensures c.if-head-tag.true

pub loop-p-smaller : goal.loop-p-smaller
loop-p-smaller c = omega (arith, room (goal.at.loop-p-smaller c).In-Ok)

pub loop-p-preserved : goal.loop-p-preserved
loop-p-preserved c = λ f r. entry_more (c.loop-p.invariant f r) c.loop-p-test.true c.in-Ok.head c.in-Ok.ensures c.if-head-tag.false

pub returns : goal.returns
returns c = λ f r. c.no_spot-2.ensures ∙ entry_done (c.loop-p.invariant f r) c.loop-p-test.false
