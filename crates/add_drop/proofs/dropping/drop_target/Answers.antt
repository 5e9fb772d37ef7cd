-- `add_drop::dropping::drop_target` meets its contract.
use Rattle.std.proofs.Common.{sym, ap, ◌∙◌, refl}
use Rattle.format.specs.Room.{leaves}
use Rattle.check_packet.proofs.Opened.{set_room}
use Rattle.find.proofs.Callers.{set_is}
use Rattle.answers.proofs.Results.{passed_on}
use Rattle.add_drop.proofs.Calling.{drop_unread, drop_is}
use Rattle.add_drop.proofs.dropping.drop_target.Goals as goal

pub returns-in_err-checked : goal.returns-in_err-checked
returns-in_err-checked c = drop_unread _ _ c.in_err-checked.ensures _ refl (passed_on _ _ c.from_residual.ensures) _

pub slice_bounds-drop_from-count : goal.slice_bounds-drop_from-count
slice_bounds-drop_from-count c = set_room _ _ c.in_ok-checked.ensures (λ i. (c.type_inv.packet i).fits) refl

pub slice_bounds-drop_from-start : goal.slice_bounds-drop_from-start
slice_bounds-drop_from-start c = set_room _ _ c.in_ok-checked.ensures (λ i. (c.type_inv.packet i).fits) refl

pub drop_from-requires : goal.drop_from-requires
drop_from-requires c = set_is _ _ c.in_ok-checked.ensures (λ i. (c.type_inv.packet i).fits) refl

pub returns : goal.returns
returns c = c.drop_from.ensures ∙ ap (leaves _) (sym (drop_is _ _ c.in_ok-checked.ensures (λ i. (c.type_inv.packet i).fits) refl _))
