-- `check_packet::check` meets its contract: each way out is a case of `parse`.
use Rattle.std.proofs.Common.{ap, ◌∙◌, arith}
use Rattle.coding.specs.declared.refusals.Fault.{Fault}
use Rattle.coding.specs.Refusals.{number}
use Rattle.tally.proofs.Tried.{placed_so, later_so, short_walked}
use Rattle.check_packet.specs.Checks.{Checked, Wrong}
use Rattle.check_packet.proofs.Packets.{set_within, good_within, check_long, check_shut, check_room, check_bad, check_good}
use Rattle.check_packet.proofs.Tried.{placed_wrong, later_wrong, checked_err}
use Rattle.check_packet.proofs.check.Goals as goal

abbrev wrong : Fault → Checked
wrong e = Wrong (number e.refusal) e.place

pub returns-then-s-gt8192 : goal.returns-then-s-gt8192
returns-then-s-gt8192 c = ap wrong c.at.ensures ∙ check_long _ _ c.if-s-gt8192.true

pub returns-in_err-width : goal.returns-in_err-width
returns-in_err-width c =
    let (_, a, e) = placed_wrong _ _ c.placed.ensures c.in_err-width.was (checked_err _ _ c.from_residual.ensures) in
    check_shut _ _ c.if-s-gt8192.false c.opening_of.ensures a e

pub start_of-from-requires : goal.start_of-from-requires
start_of-from-requires c = omega (arith, c.if-s-gt8192.false, (check_room _ _ c.if-s-gt8192.false c.opening_of.ensures (placed_so _ _ c.placed.ensures c.in_ok-width.was)).0)

pub slice_bounds-set_walk-count : goal.slice_bounds-set_walk-count
slice_bounds-set_walk-count c = omega (arith, c.start_of-from.ensures, (check_room _ _ c.if-s-gt8192.false c.opening_of.ensures (placed_so _ _ c.placed.ensures c.in_ok-width.was)).1)

pub slice_bounds-set_walk-start : goal.slice_bounds-set_walk-start
slice_bounds-set_walk-start c = omega (arith, c.start_of-from.ensures, (check_room _ _ c.if-s-gt8192.false c.opening_of.ensures (placed_so _ _ c.placed.ensures c.in_ok-width.was)).1)

pub set_walk-requires : goal.set_walk-requires
set_walk-requires c = omega arith

pub later-requires : goal.later-requires
later-requires c =
    let l = c.if-s-gt8192.false in
    short_walked _ 8192 _ (set_within c.args.s.now c.start_of-from.result l _ c.set_walk.ensures.1) (omega arith)
    (omega (arith, l, c.start_of-from.ensures, (check_room _ _ c.if-s-gt8192.false c.opening_of.ensures (placed_so _ _ c.placed.ensures c.in_ok-width.was)).1))

pub returns-in_err-set : goal.returns-in_err-set
returns-in_err-set c =
    let (_, _, bad, e) = later_wrong _ _ c.later.ensures c.in_err-set.was (checked_err _ _ c.from_residual-in_err-set.ensures) in
    check_bad _ _ c.if-s-gt8192.false c.opening_of.ensures (placed_so _ _ c.placed.ensures c.in_ok-width.was) c.start_of-from.ensures c.set_walk.ensures.0 bad e

pub closing_of-requires : goal.closing_of-requires
closing_of-requires c =
    let l = c.if-s-gt8192.false in
    ((check_room _ _ c.if-s-gt8192.false c.opening_of.ensures (placed_so _ _ c.placed.ensures c.in_ok-width.was)).2, l, good_within c.args.s.now c.start_of-from.result l _ c.set_walk.ensures.1 (later_so _ _ c.later.ensures c.in_ok-set.was))

pub returns : goal.returns
returns c =
    check_good _ _ c.if-s-gt8192.false c.opening_of.ensures (placed_so _ _ c.placed.ensures c.in_ok-width.was) c.start_of-from.ensures c.set_walk.ensures.0 (λ i. (c.type_inv.s i).fits)
    (later_so _ _ c.later.ensures c.in_ok-set.was) c.closing_of.ensures
