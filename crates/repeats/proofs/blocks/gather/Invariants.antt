-- `blocks::gather` meets its contract: the loop puts one key after the other into the block, as none is among it.
use Rattle.heads.specs.Meet.{peek_by}
use Rattle.repeats.specs.Blocks.{FirstOf}
use Rattle.repeats.proofs.blocks.gather.Given as goal

abbrev pub invariant-loop-i : goal.invariant-loop-i
invariant-loop-i l = FirstOf (peek_by l.look) l.s l.from l.block l.q l.i
