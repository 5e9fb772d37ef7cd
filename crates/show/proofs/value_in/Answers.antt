-- `show::value_in` meets its contract.
use Rattle.std.proofs.Common.{None, refl, arith}
use Rattle.check_packet.proofs.Opened.{set_room}
use Rattle.find.proofs.Callers.{set_is}
use Rattle.show.proofs.Showing.{none_found, value_sums, value_there, value_absent}
use Rattle.show.proofs.value_in.Goals as goal

pub slice_bounds-place_of-count : goal.slice_bounds-place_of-count
slice_bounds-place_of-count c = set_room _ _ refl (λ n. (c.type_inv.packet n).fits) c.requires.1.1

pub slice_bounds-place_of-start : goal.slice_bounds-place_of-start
slice_bounds-place_of-start c = set_room _ _ refl (λ n. (c.type_inv.packet n).fits) c.requires.1.1

pub place_of-requires : goal.place_of-requires
place_of-requires c = set_is _ _ refl (λ n. (c.type_inv.packet n).fits) c.requires.1.1

pub returns-in_err-place : goal.returns-in_err-place
returns-in_err-place c =
    rw c.from_residual.ensures (none_found _ _ (λ n. (c.type_inv.packet n).fits) c.requires.1.1 _ _ {x = None} c.in_err-place.ensures refl)

pub returns-then-place : goal.returns-then-place
returns-then-place c =
    value_absent _ _ (λ n. (c.type_inv.packet n).fits) c.requires.1.1 _ _ c.in_ok-place.ensures refl c.requires.0 c.if-place.true

pub overflow_add-result : goal.overflow_add-result
overflow_add-result c =
    omega (arith, value_sums _ _ (λ n. (c.type_inv.packet n).fits) c.requires.1.1 _ c.args.tag c.in_ok-place.ensures refl)

pub overflow_sub-result : goal.overflow_sub-result
overflow_sub-result c =
    omega (arith, value_sums _ _ (λ n. (c.type_inv.packet n).fits) c.requires.1.1 _ c.args.tag c.in_ok-place.ensures refl)

pub returns : goal.returns
returns c =
    value_there _ _ (λ n. (c.type_inv.packet n).fits) c.requires.1.1 _ _ c.in_ok-place.ensures refl c.requires.0 c.if-place.false
