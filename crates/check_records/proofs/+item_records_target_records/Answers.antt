-- `check_records::item_records` and `check_records::target_records` meet their contracts: each turn moves one part or target from what is to come to what was
-- walked.
use Rattle.std.proofs.Common.{◌≡◌, length, sym, refl, ap, ◌∙◌}
use Rattle.format.specs.Table.{pack}
use Rattle.coding.specs.Refusals.{number}
use Rattle.tally.specs.Pieces.{Bad}
use Rattle.tally.specs.Meet.{walk_of, unended, Within}
use Rattle.tally_records.specs.Meet.{records_walk}
use Rattle.tally.proofs.Turns.{told_as, turn_done}
use Rattle.tally.proofs.Tried.{walked_err, placed_so, placed_says, later_so, later_says, unended_not}
use Rattle.tally_records.proofs.PartTurns.{PartTold, item_small, item_told, lent_small, lent_opens, series_told, part_bad, part_asks, part_less, part_more}
use Rattle.tally_records.proofs.TargetTurns.{records_over, target_room, lent, vals_fault, not_ended, target_asks, target_more}
use Rattle.check_records.proofs.Turns.{part_stop, part_here, target_over, target_stop, target_here}
use Rattle.check_records.proofs.+item_records_target_records.Goals as goal
use Rattle.check_records.proofs.+item_records_target_records.Goals.{item_records-then-is_series+in_ok-part, item_records-else-is_series, target_records-then-goes_on+in_ok-vals, target_records-else-goes_on}

-- ---- the records of a level

pub item_records-returns-in_err-piece : goal.item_records-returns-in_err-piece
item_records-returns-in_err-piece t c =
    part_stop _ _ c.loop-q.invariant.0 c.loop-q-test.true c.goes_on.ensures c.if-not-goes_on.false _ c.part_at-read.ensures c.placed.ensures c.in_err-piece.was (walked_err _ _ c.from_residual.ensures)

pub item_records-rising-told-requires : goal.item_records-rising-told-requires
item_records-rising-told-requires t c =
    let i = part_here _ _ c.loop-q.invariant.0 c.loop-q-test.true c.goes_on.ensures c.if-not-goes_on.false _ c.part_at-read.ensures c.placed.ensures c.in_ok-piece.was (λ i. (c.type_inv.s i).fits) c.requires.0 in
    (lent_small i c.is_series.ensures c.if-is_series.true, lent_opens i c.is_series.ensures c.if-is_series.true)

pub item_records-one_item-part-requires : goal.item_records-one_item-part-requires
item_records-one_item-part-requires t c =
    let i = part_here _ _ c.loop-q.invariant.0 c.loop-q-test.true c.goes_on.ensures c.if-not-goes_on.false _ c.part_at-read.ensures c.placed.ensures c.in_ok-piece.was (λ i. (c.type_inv.s i).fits) c.requires.0 in
    item_small i c.is_series.ensures c.if-is_series.false

pub item_records-returns-in_err-part : goal.item_records-returns-in_err-part
item_records-returns-in_err-part t c =
    let i = part_here _ _ c.loop-q.invariant.0 c.loop-q-test.true c.goes_on.ensures c.if-not-goes_on.false _ c.part_at-read.ensures c.placed.ensures c.in_ok-piece.was (λ i. (c.type_inv.s i).fits) c.requires.0 in
    let (_, _, bad, e) = later_says _ _ c.later.ensures c.in_err-part.was (walked_err _ _ c.from_residual-in_err-part.ensures) in
    part_bad i (series_told i c.is_series.ensures c.if-is_series.true c.target_records-series.ensures c.series_of.ensures) bad e

pub item_records-after-q-requires : goal.item_records-after-q-requires
item_records-after-q-requires t c =
    let i = part_here _ _ c.loop-q.invariant.0 c.loop-q-test.true c.goes_on.ensures c.if-not-goes_on.false _ c.part_at-read.ensures c.placed.ensures c.in_ok-piece.was (λ i. (c.type_inv.s i).fits) c.requires.0 in
    let told : PartTold i (walk_of c.if-is_series.part) = elim c.if-is_series.branch [
      | item_records-then-is_series+in_ok-part x ↦ series_told i c.is_series.ensures x.if-is_series.true x.target_records-series.ensures (ap walk_of x.part-is ∙ sym (later_so _ _ x.later.ensures x.in_ok-part.was) ∙ x.series_of.ensures)
      | item_records-else-is_series x ↦ item_told i c.is_series.ensures x.if-is_series.false (ap walk_of x.part-is ∙ x.one_item-part.ensures)
    ] in
    part_asks i told refl

pub item_records-loop-q-smaller : goal.item_records-loop-q-smaller
item_records-loop-q-smaller t c =
    let i = part_here _ _ c.loop-q.invariant.0 c.loop-q-test.true c.goes_on.ensures c.if-not-goes_on.false _ c.part_at-read.ensures c.placed.ensures c.in_ok-piece.was (λ i. (c.type_inv.s i).fits) c.requires.0 in
    let told : PartTold i (walk_of c.if-is_series.part) = elim c.if-is_series.branch [
      | item_records-then-is_series+in_ok-part x ↦ series_told i c.is_series.ensures x.if-is_series.true x.target_records-series.ensures (ap walk_of x.part-is ∙ sym (later_so _ _ x.later.ensures x.in_ok-part.was) ∙ x.series_of.ensures)
      | item_records-else-is_series x ↦ item_told i c.is_series.ensures x.if-is_series.false (ap walk_of x.part-is ∙ x.one_item-part.ensures)
    ] in
    part_less i told refl c.after-q.ensures.0

pub item_records-loop-q-preserved : goal.item_records-loop-q-preserved
item_records-loop-q-preserved t c =
    let i = part_here _ _ c.loop-q.invariant.0 c.loop-q-test.true c.goes_on.ensures c.if-not-goes_on.false _ c.part_at-read.ensures c.placed.ensures c.in_ok-piece.was (λ i. (c.type_inv.s i).fits) c.requires.0 in
    let told : PartTold i (walk_of c.if-is_series.part) = elim c.if-is_series.branch [
      | item_records-then-is_series+in_ok-part x ↦ series_told i c.is_series.ensures x.if-is_series.true x.target_records-series.ensures (ap walk_of x.part-is ∙ sym (later_so _ _ x.later.ensures x.in_ok-part.was) ∙ x.series_of.ensures)
      | item_records-else-is_series x ↦ item_told i c.is_series.ensures x.if-is_series.false (ap walk_of x.part-is ∙ x.one_item-part.ensures)
    ] in
    (part_more i told refl c.after-q.ensures.0, c.after-clear.ensures)

pub item_records-returns : goal.item_records-returns
item_records-returns t c = told_as _ c.walked-2.ensures (turn_done c.loop-q.invariant.0 c.loop-q-test.false)

-- ---- the targets of the series

pub target_records-returns-then-not-is_mark : goal.target_records-returns-then-not-is_mark
target_records-returns-then-not-is_mark t c = told_as _ c.walked.ensures (target_over _ c.loop-q.invariant.0 c.loop-q-test.true c.is_mark.ensures c.if-not-is_mark.true)

pub target_records-returns-in_err-target : goal.target_records-returns-in_err-target
target_records-returns-in_err-target t c =
    target_stop _ c.loop-q.invariant.0 c.loop-q-test.true c.is_mark.ensures c.if-not-is_mark.false _ c.target_at.ensures c.placed.ensures c.in_err-target.was (walked_err _ _ c.from_residual.ensures)

pub target_records-slice_bounds-items-count : goal.target_records-slice_bounds-items-count
target_records-slice_bounds-items-count t c =
    let i = target_here _ c.loop-q.invariant.0 c.loop-q-test.true c.is_mark.ensures c.if-not-is_mark.false _ c.target_at.ensures c.placed.ensures c.in_ok-target.was (λ i. (c.type_inv.s i).fits) c.requires.0 in
    (target_room i).0

pub target_records-slice_bounds-items-start : goal.target_records-slice_bounds-items-start
target_records-slice_bounds-items-start t c =
    let i = target_here _ c.loop-q.invariant.0 c.loop-q-test.true c.is_mark.ensures c.if-not-is_mark.false _ c.target_at.ensures c.placed.ensures c.in_ok-target.was (λ i. (c.type_inv.s i).fits) c.requires.0 in
    (target_room i).0

pub target_records-returns-in_err-vals : goal.target_records-returns-in_err-vals
target_records-returns-in_err-vals t c =
    let i = target_here _ c.loop-q.invariant.0 c.loop-q-test.true c.is_mark.ensures c.if-not-is_mark.false _ c.target_at.ensures c.placed.ensures c.in_ok-target.was (λ i. (c.type_inv.s i).fits) c.requires.0 in
    let (_, _, bad, e) = later_says _ _ c.later.ensures c.in_err-vals.was (walked_err _ _ c.from_residual-in_err-vals.ensures) in
    vals_fault i c.item_records-walk.ensures bad e

pub target_records-returns-in_err-placed : goal.target_records-returns-in_err-placed
target_records-returns-in_err-placed t c =
    let i = target_here _ c.loop-q.invariant.0 c.loop-q-test.true c.is_mark.ensures c.if-not-is_mark.false _ c.target_at.ensures c.placed.ensures c.in_ok-target.was (λ i. (c.type_inv.s i).fits) c.requires.0 in
    let told : (walk_of c.if-goes_on.vals ≡ records_walk pack _ (lent i)) × Within (walk_of c.if-goes_on.vals) (length (lent i)) = elim c.if-goes_on.branch [
      | target_records-then-goes_on+in_ok-vals x ↦ told_as _ (ap walk_of x.vals-is ∙ sym (later_so _ _ x.later.ensures x.in_ok-vals.was)) x.item_records-walk.ensures
      | target_records-else-goes_on x ↦ told_as _ (ap walk_of x.vals-is ∙ x.walked-vals.ensures) (records_over c.glance_records-told.ensures.0 (sym c.goes_on.ensures ∙ x.if-goes_on.false))
    ] in
    let (_, a, e) = placed_says _ _ c.placed-in-loop-q.ensures c.in_err-placed.was (walked_err _ _ c.from_residual-in_err-placed.ensures) in
    let (number, not) = unended_not a in
    not_ended i told refl c.ended_of.ensures not (e ∙ ap (λ n. Bad n c.loop-q.q.at) (sym number))

pub target_records-oid_width-requires : goal.target_records-oid_width-requires
target_records-oid_width-requires t c =
    let i = target_here _ c.loop-q.invariant.0 c.loop-q-test.true c.is_mark.ensures c.if-not-is_mark.false _ c.target_at.ensures c.placed.ensures c.in_ok-target.was (λ i. (c.type_inv.s i).fits) c.requires.0 in
    (target_room i).1

pub target_records-after-q-requires : goal.target_records-after-q-requires
target_records-after-q-requires t c =
    let i = target_here _ c.loop-q.invariant.0 c.loop-q-test.true c.is_mark.ensures c.if-not-is_mark.false _ c.target_at.ensures c.placed.ensures c.in_ok-target.was (λ i. (c.type_inv.s i).fits) c.requires.0 in
    let told : (walk_of c.if-goes_on.vals ≡ records_walk pack _ (lent i)) × Within (walk_of c.if-goes_on.vals) (length (lent i)) = elim c.if-goes_on.branch [
      | target_records-then-goes_on+in_ok-vals x ↦ told_as _ (ap walk_of x.vals-is ∙ sym (later_so _ _ x.later.ensures x.in_ok-vals.was)) x.item_records-walk.ensures
      | target_records-else-goes_on x ↦ told_as _ (ap walk_of x.vals-is ∙ x.walked-vals.ensures) (records_over c.glance_records-told.ensures.0 (sym c.goes_on.ensures ∙ x.if-goes_on.false))
    ] in
    target_asks i told refl c.oid_width.ensures c.pack_sizes-sum.ensures

pub target_records-loop-q-preserved : goal.target_records-loop-q-preserved
target_records-loop-q-preserved t c =
    let i = target_here _ c.loop-q.invariant.0 c.loop-q-test.true c.is_mark.ensures c.if-not-is_mark.false _ c.target_at.ensures c.placed.ensures c.in_ok-target.was (λ i. (c.type_inv.s i).fits) c.requires.0 in
    let told : (walk_of c.if-goes_on.vals ≡ records_walk pack _ (lent i)) × Within (walk_of c.if-goes_on.vals) (length (lent i)) = elim c.if-goes_on.branch [
      | target_records-then-goes_on+in_ok-vals x ↦ told_as _ (ap walk_of x.vals-is ∙ sym (later_so _ _ x.later.ensures x.in_ok-vals.was)) x.item_records-walk.ensures
      | target_records-else-goes_on x ↦ told_as _ (ap walk_of x.vals-is ∙ x.walked-vals.ensures) (records_over c.glance_records-told.ensures.0 (sym c.goes_on.ensures ∙ x.if-goes_on.false))
    ] in
    let ended = ap unended (placed_so _ _ c.placed-in-loop-q.ensures c.in_ok-placed.was) in
    let (after, top) = c.after-q.ensures in
    (target_more i told refl c.oid_width.ensures c.pack_sizes-sum.ensures c.ended_of.ensures ended after, c.after-clear.ensures, top.below _ c.loop-q.invariant.2 (target_room i).1)

pub target_records-returns : goal.target_records-returns
target_records-returns t c = told_as _ c.walked-2.ensures (turn_done c.loop-q.invariant.0 c.loop-q-test.false)
