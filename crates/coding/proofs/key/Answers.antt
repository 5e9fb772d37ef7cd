-- `coding::key` meets its contract: the bytes are those of `the_key`.
use Rattle.std.proofs.Common.{refl}
use Rattle.format.specs.Packet.{the_key}
use Rattle.coding.proofs.key.Goals as goal

pub returns : goal.returns
unfolding the_key
returns c = refl
