-- `write_packet::item_packet` meets its contract: each turn stores what one part is in the packet.
use Prim.Native.Nat.{◌-◌}
use mathlib.Core.Bool.{true}
use lib.ListN.{length}
use Rattle.write_packet.proofs.Turns.{RecordsGoing}
use Rattle.write_packet.proofs.item_packet.Given as goal

abbrev pub invariant-loop-p : goal.invariant-loop-p
invariant-loop-p l = RecordsGoing l.inner true l.s l.initial.out l.out l.p l.k

abbrev pub decreases-loop-p : goal.decreases-loop-p
decreases-loop-p l = length l.s - l.p
