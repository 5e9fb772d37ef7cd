-- `coding::number_of` meets its contract: after some of the k bytes, n is what they spell, in 8 bits for each.
use Rattle.std.proofs.Common.{◌≡◌, ◌*◌, ◌^◌, ◌<◌, take}
use Rattle.format.specs.Coding.{bytes_number}
use Rattle.coding.proofs.number_of.Given as goal

abbrev pub invariant-loop-b : goal.invariant-loop-b
invariant-loop-b l = (l.n ≡ bytes_number (take l.b-index (take l.k l.s))) × (l.n < 2 ^ (8 * l.b-index))
