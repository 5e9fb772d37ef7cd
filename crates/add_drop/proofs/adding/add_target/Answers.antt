-- `add_drop::adding::add_target` meets its contract.
use Rattle.std.proofs.Common.{sym, ap, ◌∙◌, refl}
use Rattle.format.specs.Room.{leaves}
use Rattle.check_packet.proofs.Opened.{set_room}
use Rattle.find.proofs.Callers.{set_is}
use Rattle.answers.proofs.Results.{passed_on}
use Rattle.add_drop.proofs.Setting.{told_then}
use Rattle.add_drop.proofs.Calling.{add_unread, add_is, records_wrong, records_fine}
use Rattle.add_drop.proofs.adding.add_target.Goals as goal

pub returns-in_err-checked : goal.returns-in_err-checked
returns-in_err-checked c = add_unread _ _ c.in_err-checked.ensures _ refl (passed_on _ _ c.from_residual.ensures) _

pub returns-in_err-target : goal.returns-in_err-target
returns-in_err-target c =
    records_wrong _ _ c.in_ok-checked.ensures (λ i. (c.type_inv.packet i).fits) refl _ _ c.check-2.ensures c.in_err-target.ensures _
    (passed_on _ _ c.from_residual-in_err-target.ensures)

pub slice_bounds-add_told-count : goal.slice_bounds-add_told-count
slice_bounds-add_told-count c = set_room _ _ c.in_ok-checked.ensures (λ i. (c.type_inv.packet i).fits) refl

pub slice_bounds-add_told-start : goal.slice_bounds-add_told-start
slice_bounds-add_told-start c = set_room _ _ c.in_ok-checked.ensures (λ i. (c.type_inv.packet i).fits) refl

pub add_told-requires : goal.add_told-requires
add_told-requires c = (
  set_is _ _ c.in_ok-checked.ensures (λ i. (c.type_inv.packet i).fits) refl,
  records_fine _ _ c.in_ok-checked.ensures (λ i. (c.type_inv.packet i).fits) refl _ _ c.check-2.ensures c.in_ok-target.ensures,
)

pub returns : goal.returns
returns c =
    told_then _ _ (records_fine _ _ c.in_ok-checked.ensures (λ i. (c.type_inv.packet i).fits) refl _ _ c.check-2.ensures c.in_ok-target.ensures) λ t e.
    c.add_told.ensures t e ∙ ap (leaves _) (sym (add_is _ _ c.in_ok-checked.ensures (λ i. (c.type_inv.packet i).fits) refl _ t e))
