-- `find::around::packs_of` meets its contract: each turn passes one pack, and those like it.
use Prim.Native.Nat.{ℕ, ◌+◌, ◌≤◌, ◌<◌}
use native.Mathlib.Omega.{arith}
use lib.ListN.{length}
use Rattle.format.specs.Table.{Form}
use Rattle.tally.specs.Runs.{Ran, series_run}
use Rattle.find.specs.Series.{PassedOn}
use Rattle.find.proofs.Packs.{pack_fault, pack_room}
use Rattle.find.proofs.Passes.{PackPass, pass_start, pass_as, pass_count, pass_done, pass_found, pass_missed, pass_kept}
use Rattle.find.proofs.Alikes.{pack_low, packs_to, pass_within, join_behind, join_missed, join_kept}
use Rattle.find.proofs.around.packs_of.Goals as goal
use Rattle.find.proofs.around.packs_of.Goals.{In-Ok, Joined-at-next, Joined-at-next-2}
use Rattle.find.proofs.around.packs_of.Goals.{then-at-next+then-head-id, then-at-next+else-head-id, else-at-next, then-at-next-2, else-at-next-2}

-- the pack at p within the series
room : (c : In-Ok) → let h = c.in-Ok.head in (c.loop-p.p + h.width + h.size ≤ length c.args.s.now) × (h.used ≤ h.size) × (0 < h.width) × (length c.args.s.now ≤ 8192)
room c = pack_room (c.loop-p.invariant _ c.requires.1.1).turn c.loop-p-test.true c.in-Ok.head c.in-Ok.ensures

-- past it
past : (c : Joined-at-next) (f : Form) → Ran (series_run f c.args.s.now)
    → let h = c.in-Ok.head in PackPass f c.args.id c.args.s.now (c.loop-p.p + h.width + h.size) c.if-at-next.at c.if-at-next.next (c.loop-p.count + 1)
past c f r =
    let i = c.loop-p.invariant f r in
    let h = c.in-Ok.head in
    let e = c.in-Ok.ensures in
    elim c.if-at-next.branch [
      | then-at-next+then-head-id w ↦ pass_as (pass_found i c.loop-p-test.true h e w.if-at-next.true w.if-head-id.true) w.at-is w.next-is
      | then-at-next+else-head-id w ↦ pass_as (pass_missed i c.loop-p-test.true h e w.if-at-next.true w.if-head-id.false) w.at-is w.next-is
      | else-at-next w ↦ pass_as (pass_kept i c.loop-p-test.true h e w.if-at-next.false) w.at-is w.next-is
    ]

-- and past those like it
module _ (c : Joined-at-next-2) (f : Form) (r : Ran (series_run f c.args.s.now)) where
  abbrev end : ℕ
  end = c.loop-p.p + c.in-Ok.head.width + c.in-Ok.head.size

  module _ (i : PackPass f c.args.id c.args.s.now end c.if-at-next.at c.if-at-next.next (c.loop-p.count + 1)) where
    passed : PassedOn f c.args.s.now c.lead_of-lead.result i.turn.going.before c.alike-run.result.at c.alike-run.result.count
    passed = c.alike-run.ensures f _ r (packs_to i)

    all_past : PackPass f c.args.id c.args.s.now c.alike-run.result.at c.if-at-next-2.at c.if-at-next-2.next (c.loop-p.count + 1 + c.alike-run.result.count)
    all_past = elim c.if-at-next-2.branch [
      | then-at-next-2 w ↦ pass_as (join_missed i passed c.lead_of-lead.ensures w.if-at-next-2.true) w.at-is w.next-is
      | else-at-next-2 w ↦ pass_as (join_kept i passed w.if-at-next-2.false) w.at-is w.next-is
    ]

    few : (c.loop-p.count + 1 + c.alike-run.result.count ≤ 8192) × (end ≤ c.alike-run.result.at) × (c.alike-run.result.at ≤ length c.args.s.now)
    few = (omega (arith, pass_count all_past, pass_within all_past, c.requires.0), join_behind i passed, pass_within all_past)

pub loop-p-init : goal.loop-p-init
loop-p-init c = λ f r. pass_start f _ _ (λ i. (c.type_inv.s i).fits) (c.requires.0, r)

pub returns-in_default : goal.returns-in_default
returns-in_default c = λ f r. pack_fault (c.loop-p.invariant f r).turn c.loop-p-test.true _ c.in_default.ensures

pub overflow_add-end : goal.overflow_add-end
overflow_add-end c = omega (arith, room (goal.at.overflow_add-end c).In-Ok)

pub overflow_add-end-in-loop-p : goal.overflow_add-end-in-loop-p
overflow_add-end-in-loop-p c = omega (arith, room (goal.at.overflow_add-end-in-loop-p c).In-Ok)

pub alike-run-requires : goal.alike-run-requires
alike-run-requires c =
    let (short, (form, ran)) = c.requires in
    let i = past c form ran in
    let low = pack_low (c.loop-p.invariant form ran).turn c.in-Ok.head c.in-Ok.ensures in
    (low, record { short = short; within = pass_within i; form = form; before = i.turn.going.before; ran = ran; to = packs_to i })

pub overflow_add-count : goal.overflow_add-count
overflow_add-count c =
    let at = goal.at.overflow_add-count c in
    omega (arith, (few at.Joined-at-next-2 _ c.requires.1.1 (past at.Joined-at-next _ c.requires.1.1)).0)

pub overflow_add-count-in-loop-p : goal.overflow_add-count-in-loop-p
overflow_add-count-in-loop-p c =
    let at = goal.at.overflow_add-count-in-loop-p c in
    omega (arith, (few at.Joined-at-next-2 _ c.requires.1.1 (past at.Joined-at-next _ c.requires.1.1)).0)

pub loop-p-smaller : goal.loop-p-smaller
loop-p-smaller c =
    let at = goal.at.loop-p-smaller c in
    omega (arith, few at.Joined-at-next-2 _ c.requires.1.1 (past at.Joined-at-next _ c.requires.1.1), room at.In-Ok)

pub loop-p-preserved : goal.loop-p-preserved
loop-p-preserved c = λ f r. let at = goal.at.loop-p-preserved c in all_past at.Joined-at-next-2 f r (past at.Joined-at-next f r)

pub returns : goal.returns
returns c = λ f r. pass_done (c.loop-p.invariant f r) c.loop-p-test.false
