-- `find::item_in` meets its contract: the pack is within the series, and that within the set.
use native.Mathlib.Omega.{arith}
use Rattle.find.proofs.Entries.{tag_room}
use Rattle.find.proofs.Packs.{id_pack}
use Rattle.find.proofs.Finds.{stop_asked, items_asked, sums, in_place}
use Rattle.find.proofs.item_in.Goals as goal

pub slice_bounds-packs-count : goal.slice_bounds-packs-count
slice_bounds-packs-count c = (tag_room c.requires.1.within.found).0

pub slice_bounds-packs-start : goal.slice_bounds-packs-start
slice_bounds-packs-start c = omega (arith, tag_room c.requires.1.within.found)

pub slice_bounds-packs-end : goal.slice_bounds-packs-end
slice_bounds-packs-end c = (tag_room c.requires.1.within.found).1

pub slice_bounds-item_spot-count : goal.slice_bounds-item_spot-count
slice_bounds-item_spot-count c = (id_pack c.requires.1.found).room.0

pub slice_bounds-item_spot-start : goal.slice_bounds-item_spot-start
slice_bounds-item_spot-start c = omega (arith, (id_pack c.requires.1.found).room)

pub slice_bounds-item_spot-end : goal.slice_bounds-item_spot-end
slice_bounds-item_spot-end c = (id_pack c.requires.1.found).room.1

pub item_spot-item-requires : goal.item_spot-item-requires
item_spot-item-requires c = let (short, ran) = items_asked c.requires.1 in (short, (_, ran))

pub stop_of-requires : goal.stop_of-requires
stop_of-requires c = stop_asked c.requires.1.within

pub place_under-requires : goal.place_under-requires
place_under-requires c = sums c.requires.1 _ (c.item_spot-item.ensures _)

pub returns : goal.returns
returns c id w = in_place w _ (c.item_spot-item.ensures _) c.stop_of.ensures c.place_under.ensures
