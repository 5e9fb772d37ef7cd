-- `check_packet::is_sealed` meets its contract: the last two bytes are a number.
use Rattle.check_packet.proofs.Closings.{sealed_is}
use Rattle.check_packet.proofs.is_sealed.Goals as goal

pub returns : goal.returns
returns c = sealed_is c.args.s.now c.sum_of.ensures c.requires.0 c.number_of.ensures
