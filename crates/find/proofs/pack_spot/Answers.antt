-- `find::pack_spot` meets its contract: each turn passes one pack that is not the one sought.
use mathlib.Core.Path.{◌∙◌}
use Prim.Native.Nat.{◌+◌, ◌≤◌, ◌<◌}
use native.Mathlib.Omega.{arith}
use lib.ListN.{length}
use Rattle.find.specs.Spots.{has_id}
use Rattle.find.proofs.Packs.{pack_start, pack_done, pack_fault, pack_room, pack_found, pack_more}
use Rattle.find.proofs.pack_spot.Goals as goal
use Rattle.find.proofs.pack_spot.Goals.{In-Ok}

-- the pack at p within the series
room : (c : In-Ok) → let h = c.in-Ok.head in (c.loop-p.p + h.width + h.size ≤ length c.args.s.now) × (h.used ≤ h.size) × (0 < h.width) × (length c.args.s.now ≤ 8192)
room c = pack_room (c.loop-p.invariant _ c.requires.1.1) c.loop-p-test.true c.in-Ok.head c.in-Ok.ensures

pub loop-p-init : goal.loop-p-init
loop-p-init c = λ f r. pack_start f (has_id c.args.id) _ (λ i. (c.type_inv.s i).fits) (c.requires.0, r)

pub returns-in_default : goal.returns-in_default
returns-in_default c = λ f r. pack_fault (c.loop-p.invariant f r) c.loop-p-test.true _ c.in_default.ensures

pub overflow_add-body : goal.overflow_add-body
overflow_add-body c = omega (arith, room (goal.at.overflow_add-body c).In-Ok)

pub overflow_add-next : goal.overflow_add-next
overflow_add-next c = omega (arith, room (goal.at.overflow_add-next c).In-Ok)

pub overflow_add-result : goal.overflow_add-result
overflow_add-result c = omega (arith, room (goal.at.overflow_add-result c).In-Ok)

pub returns-then-head-id : goal.returns-then-head-id
returns-then-head-id c = λ f r. pack_found _ (c.loop-p.invariant f r) c.loop-p-test.true c.in-Ok.head c.in-Ok.ensures c.if-head-id.true

pub loop-p-smaller : goal.loop-p-smaller
loop-p-smaller c = omega (arith, room (goal.at.loop-p-smaller c).In-Ok)

pub loop-p-preserved : goal.loop-p-preserved
loop-p-preserved c = λ f r. pack_more _ (c.loop-p.invariant f r) c.loop-p-test.true c.in-Ok.head c.in-Ok.ensures c.if-head-id.false

pub returns : goal.returns
returns c = λ f r. c.no_spot-2.ensures ∙ pack_done _ (c.loop-p.invariant f r) c.loop-p-test.false
