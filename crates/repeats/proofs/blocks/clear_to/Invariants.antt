-- `blocks::clear_to` meets its contract: each turn adds a block, of which none stood before.
use Prim.Native.Nat.{◌-◌}
use lib.ListN.{length}
use Rattle.heads.specs.Meet.{peek_by}
use Rattle.repeats.proofs.Gathers.{Told}
use Rattle.repeats.proofs.blocks.clear_to.Given as goal

abbrev pub invariant-loop-from : goal.invariant-loop-from
invariant-loop-from l = Told (peek_by l.look) l.s l.from

abbrev pub decreases-loop-from : goal.decreases-loop-from
decreases-loop-from l = length l.s - l.from
