-- `check_packet::opening_of` meets its contract: an embedded packet opens with nothing.
use Rattle.format.specs.Read.{opening}
use Rattle.check_packet.proofs.opening_of.Goals as goal

pub returns-then-alone : goal.returns-then-alone
returns-then-alone c = rw c.if-alone.true c.outer_of.ensures

pub returns : goal.returns
returns c = unfold opening in (rw c.if-alone.false)
