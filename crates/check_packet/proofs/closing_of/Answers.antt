-- `check_packet::closing_of` meets its contract: each way out is a case of `closing_by`.
use Rattle.std.proofs.Common.{sym, ap, ◌∙◌, arith}
use Rattle.coding.specs.declared.refusals.Fault.{Fault}
use Rattle.coding.specs.Refusals.{number}
use Rattle.check_packet.specs.Checks.{Checked, Wrong}
use Rattle.check_packet.proofs.Closings.{alone_room, closed_embedded, closed_14, closed_15, closed_fine}
use Rattle.check_packet.proofs.closing_of.Goals as goal
use Rattle.check_packet.proofs.closing_of.Goals.{then-alone+else-not-is_held+else-not-is_sealed, else-alone}

abbrev wrong : Fault → Checked
wrong e = Wrong (number e.refusal) e.place

pub returns-then-not-is_held : goal.returns-then-not-is_held
returns-then-not-is_held c = ap wrong c.at.ensures ∙ closed_14 _ _ _ c.if-alone.true (sym c.is_held.ensures ∙ c.if-not-is_held.true)

pub is_sealed-requires : goal.is_sealed-requires
is_sealed-requires c = (omega (arith, alone_room c.if-alone.true c.requires.0), c.requires.1)

pub overflow_sub-s : goal.overflow_sub-s
overflow_sub-s c = omega (arith, alone_room c.if-alone.true c.requires.0)

pub returns-then-not-is_sealed : goal.returns-then-not-is_sealed
returns-then-not-is_sealed c =
    ap wrong c.at-then-not-is_sealed.ensures
    ∙ closed_15 _ _ _ c.if-alone.true (sym c.is_held.ensures ∙ c.if-not-is_held.false) c.is_sealed.ensures c.if-not-is_sealed.true

pub returns : goal.returns
returns c =
    elim c.if-alone.branch [
      | then-alone+else-not-is_held+else-not-is_sealed x ↦
          closed_fine _ _ _ x.if-alone.true (sym x.is_held.ensures ∙ x.if-not-is_held.false) x.is_sealed.ensures x.if-not-is_sealed.false c.fine.ensures
      | else-alone x ↦ closed_embedded _ _ _ _ x.if-alone.false c.fine.ensures
    ]
