-- `coding::alike::mask_item` meets its contract: after i turns, i bytes of the head are masked.
use Rattle.std.proofs.Common.{◌≤◌}
use Rattle.coding.proofs.Alikes.{HeadMasked}
use Rattle.coding.proofs.alike.mask_item.Given as goal

abbrev pub invariant-loop-i : goal.invariant-loop-i
invariant-loop-i l = HeadMasked l.initial.masks l.masks l.p l.i × (l.i ≤ l.k)
