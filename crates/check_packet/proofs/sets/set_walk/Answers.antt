-- `sets::set_walk` meets its contract: what was walked is all, or the rest follows.
use Rattle.std.proofs.Common.{refl, true, length, arith}
use Rattle.coding.proofs.Rooms.{tail_part}
use Rattle.items.specs.Meet.{form_of}
use Rattle.tally.specs.Going.{LevelTo}
use Rattle.tally.proofs.Turns.{turn_done, told_as}
use Rattle.tally.proofs.Tried.{walked_err, later_so, later_says, short_walked}
use Rattle.check_packet.proofs.SetTurns.{series_here, series_room, packs_long, refusal_asks, series_refused, series_asks, series_goes}
use Rattle.check_packet.proofs.sets.set_walk.Goals as goal
use Rattle.check_packet.proofs.sets.set_walk.Goals.{in-None, in-Some+then-one-packs+then-d-packs+in_ok-series-in-Some, in-Some+then-one-packs+else-d-packs, in-Some+else-one-packs}

pub slice_bounds-packs-count : goal.slice_bounds-packs-count
slice_bounds-packs-count c = omega (arith, series_room (series_here c.glance_items-q.ensures.0 c.in-Some.ensures (λ i. (c.type_inv.s i).fits) c.requires))

pub slice_bounds-packs-start : goal.slice_bounds-packs-start
slice_bounds-packs-start c = omega (arith, series_room (series_here c.glance_items-q.ensures.0 c.in-Some.ensures (λ i. (c.type_inv.s i).fits) c.requires))

pub slice_bounds-packs-end : goal.slice_bounds-packs-end
slice_bounds-packs-end c = omega (arith, series_room (series_here c.glance_items-q.ensures.0 c.in-Some.ensures (λ i. (c.type_inv.s i).fits) c.requires))

pub lone-one-requires : goal.lone-one-requires
lone-one-requires c =
    let i = series_here c.glance_items-q.ensures.0 c.in-Some.ensures (λ i. (c.type_inv.s i).fits) c.requires in
    omega (arith, packs_long i, series_room i, i.most)

pub packs-d-requires : goal.packs-d-requires
packs-d-requires c =
    let i = series_here c.glance_items-q.ensures.0 c.in-Some.ensures (λ i. (c.type_inv.s i).fits) c.requires in
    omega (arith, packs_long i, series_room i, i.most)

pub packs_rest-requires : goal.packs_rest-requires
packs_rest-requires c =
    let i = series_here c.glance_items-q.ensures.0 c.in-Some.ensures (λ i. (c.type_inv.s i).fits) c.requires in
    (omega (arith, packs_long i, series_room i, i.most), c.packs-d.ensures)

pub later-requires : goal.later-requires
later-requires c =
    let w = refusal_asks (series_here c.glance_items-q.ensures.0 c.in-Some.ensures (λ i. (c.type_inv.s i).fits) c.requires) c.packs_rest.ensures in
    short_walked _ 65536 _ w.0 (omega arith) w.1

pub returns-in_err-series-in-Some : goal.returns-in_err-series-in-Some
returns-in_err-series-in-Some c =
    let (_, _, bad, e) = later_says _ _ c.later.ensures c.in_err-series-in-Some.was (walked_err _ _ c.from_residual.ensures) in
    series_refused (series_here c.glance_items-q.ensures.0 c.in-Some.ensures (λ i. (c.type_inv.s i).fits) c.requires) c.packs_rest.ensures bad e

pub after_series-requires : goal.after_series-requires
after_series-requires c =
    series_asks (series_here c.glance_items-q.ensures.0 c.in-Some.ensures (λ i. (c.type_inv.s i).fits) c.requires) c.packs_rest.ensures (later_so _ _ c.later.ensures c.in_ok-series-in-Some.was)

pub after_series-requires-else-d-packs : goal.after_series-requires-else-d-packs
after_series-requires-else-d-packs c =
    series_asks (series_here c.glance_items-q.ensures.0 c.in-Some.ensures (λ i. (c.type_inv.s i).fits) c.requires) (turn_done c.packs-d.ensures (omega (arith, c.if-d-packs.false))) refl

pub after_series-requires-else-one-packs : goal.after_series-requires-else-one-packs
after_series-requires-else-one-packs c =
    series_asks (series_here c.glance_items-q.ensures.0 c.in-Some.ensures (λ i. (c.type_inv.s i).fits) c.requires) (turn_done c.lone-one.ensures (omega (arith, c.if-one-packs.false))) refl

pub returns-then-r-s : goal.returns-then-r-s
returns-then-r-s c =
    let going : LevelTo true (form_of c.args.alone) c.args.s.now c.match-series_at.r = elim c.match-series_at.branch [
      | in-None x ↦ rw x.r-is c.glance_items-q.ensures.0
      | in-Some+then-one-packs+then-d-packs+in_ok-series-in-Some x ↦
          rw x.r-is (series_goes (series_here c.glance_items-q.ensures.0 x.in-Some.ensures (λ i. (c.type_inv.s i).fits) c.requires) x.packs_rest.ensures (later_so _ _ x.later.ensures x.in_ok-series-in-Some.was) x.after_series.ensures)
      | in-Some+then-one-packs+else-d-packs x ↦
          rw x.r-is (series_goes (series_here c.glance_items-q.ensures.0 x.in-Some.ensures (λ i. (c.type_inv.s i).fits) c.requires) (turn_done x.packs-d.ensures (omega (arith, x.if-d-packs.false))) refl x.after_series-else-d-packs.ensures)
      | in-Some+else-one-packs x ↦
          rw x.r-is (series_goes (series_here c.glance_items-q.ensures.0 x.in-Some.ensures (λ i. (c.type_inv.s i).fits) c.requires) (turn_done x.lone-one.ensures (omega (arith, x.if-one-packs.false))) refl x.after_series-else-one-packs.ensures)
    ] in
    told_as (length c.args.s.now) c.walked.ensures (turn_done going (omega (arith, c.if-r-s.true)))

pub set_rest-requires : goal.set_rest-requires
set_rest-requires c =
    let going : LevelTo true (form_of c.args.alone) c.args.s.now c.match-series_at.r = elim c.match-series_at.branch [
      | in-None x ↦ rw x.r-is c.glance_items-q.ensures.0
      | in-Some+then-one-packs+then-d-packs+in_ok-series-in-Some x ↦
          rw x.r-is (series_goes (series_here c.glance_items-q.ensures.0 x.in-Some.ensures (λ i. (c.type_inv.s i).fits) c.requires) x.packs_rest.ensures (later_so _ _ x.later.ensures x.in_ok-series-in-Some.was) x.after_series.ensures)
      | in-Some+then-one-packs+else-d-packs x ↦
          rw x.r-is (series_goes (series_here c.glance_items-q.ensures.0 x.in-Some.ensures (λ i. (c.type_inv.s i).fits) c.requires) (turn_done x.packs-d.ensures (omega (arith, x.if-d-packs.false))) refl x.after_series-else-d-packs.ensures)
      | in-Some+else-one-packs x ↦
          rw x.r-is (series_goes (series_here c.glance_items-q.ensures.0 x.in-Some.ensures (λ i. (c.type_inv.s i).fits) c.requires) (turn_done x.lone-one.ensures (omega (arith, x.if-one-packs.false))) refl x.after_series-else-one-packs.ensures)
    ] in
    (rw tail_part c.requires, rw tail_part going)

pub returns : goal.returns
returns c = rw tail_part at c.set_rest.ensures
