-- `blocks::is_among` meets its contract: after i of the block, the key is among it where it was found or is among the rest.
use Rattle.repeats.proofs.Gathers.{AmongLeft}
use Rattle.repeats.proofs.blocks.is_among.Given as goal

abbrev pub invariant-loop-k : goal.invariant-loop-k
invariant-loop-k l = AmongLeft l.block l.key l.found l.k-index
