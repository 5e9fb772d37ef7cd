-- `write_packet::rest_vals` meets its contract: each turn stores what one record of a target is in the packet.
use Prim.Native.Nat.{◌-◌}
use lib.ListN.{length}
use Rattle.write_packet.proofs.Turns.{RestGoing}
use Rattle.write_packet.proofs.rest_vals.Given as goal

abbrev pub invariant-loop-tag : goal.invariant-loop-tag
invariant-loop-tag l = RestGoing l.s l.initial.out l.from l.at l.out l.p l.k

abbrev pub decreases-loop-tag : goal.decreases-loop-tag
decreases-loop-tag l = length l.s - l.p
