-- `edit::edit` meets its contract.
use mathlib.Core.Path.{refl, sym, ap, ◌∙◌}
use Rattle.format.specs.Room.{leaves}
use Rattle.check_packet.proofs.Opened.{set_room}
use Rattle.find.proofs.Callers.{set_is}
use Rattle.edit_rules.proofs.Rules.{err_is}
use Rattle.edit_rules.proofs.Callers.{edit_is, sheet_is}
use Rattle.edit.proofs.Editing.{edit_unread}
use Rattle.edit.proofs.edit.Goals as goal

pub returns-in_err-checked : goal.returns-in_err-checked
returns-in_err-checked c = rw (err_is _ _ c.from_residual.ensures) (edit_unread _ _ _ _ c.in_err-checked.ensures _ refl refl)

pub slice_bounds-edit_set-count : goal.slice_bounds-edit_set-count
slice_bounds-edit_set-count c = set_room _ _ c.in_ok-checked.ensures (λ i. (c.type_inv.packet i).fits) refl

pub slice_bounds-edit_set-start : goal.slice_bounds-edit_set-start
slice_bounds-edit_set-start c = set_room _ _ c.in_ok-checked.ensures (λ i. (c.type_inv.packet i).fits) refl

pub edit_set-requires : goal.edit_set-requires
edit_set-requires c = (
  set_is _ _ c.in_ok-checked.ensures (λ i. (c.type_inv.packet i).fits) refl,
  sheet_is _ _ c.in_ok-checked.ensures (λ i. (c.type_inv.packet i).fits) refl,
)

pub returns : goal.returns
returns c = c.edit_set.ensures ∙ ap (leaves _) (sym (edit_is _ _ c.in_ok-checked.ensures (λ i. (c.type_inv.packet i).fits) refl _ _))
