-- `write_packet::put_vals` meets its contract: each turn stores what one record of a target is in the packet.
use Prim.Native.Nat.{◌-◌}
use mathlib.Core.Bool.{false}
use lib.ListN.{length}
use Rattle.write_packet.proofs.Turns.{RecordsGoing}
use Rattle.write_packet.proofs.put_vals.Given as goal

abbrev pub invariant-loop-out : goal.invariant-loop-out
invariant-loop-out l = RecordsGoing 0 false l.s l.initial.out l.out l.p l.k

abbrev pub decreases-loop-out : goal.decreases-loop-out
decreases-loop-out l = length l.s - l.p
