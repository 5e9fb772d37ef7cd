-- `write_packet::target_packet` meets its contract: each turn stores what one target is in the packet.
use Prim.Native.Nat.{◌-◌}
use lib.ListN.{length}
use Rattle.write_packet.proofs.TargetTurns.{TargetsGoing}
use Rattle.write_packet.proofs.target_packet.Given as goal

abbrev pub invariant-loop-id : goal.invariant-loop-id
invariant-loop-id l = TargetsGoing l.s l.initial.out l.out l.p l.k

abbrev pub decreases-loop-id : goal.decreases-loop-id
decreases-loop-id l = length l.s - l.p
