-- `sets::packs_rest` meets its contract: the pack walk goes on.
use Rattle.coding.proofs.Rooms.{tail_part}
use Rattle.check_packet.proofs.sets.packs_rest.Goals as goal

pub pack_walk-requires : goal.pack_walk-requires
pack_walk-requires c = (rw tail_part c.requires.0, rw tail_part c.requires.1)

pub returns : goal.returns
returns c = rw tail_part at c.pack_walk.ensures
