-- `edit_bytes::put_head` meets its contract: what stands before the pack is put, then its length.
use mathlib.Core.Path.{ap}
use Rattle.items.specs.Meet.{level_of}
use Rattle.edit_rules.proofs.Storing.{head_none, to_pack_asked, len_asked, head_stored}
use Rattle.edit_bytes.proofs.put_head.Goals as goal

pub returns-then-set : goal.returns-then-set
returns-then-set c = let i = c.args in head_none i.s.now i.p i.n i.out.now (ap level_of c.if-set.true)

pub put_to_pack-at-requires : goal.put_to_pack-at-requires
put_to_pack-at-requires c = let i = c.args in to_pack_asked i.s.now i.p i.n i.out.now (ap level_of c.if-set.false) c.requires c.packs_size.ensures

pub put_len-requires : goal.put_len-requires
put_len-requires c = let i = c.args in len_asked i.s.now i.p i.n i.out.now (ap level_of c.if-set.false) c.requires c.packs_size.ensures c.put_to_pack-at.ensures

pub returns : goal.returns
returns c =
    let i = c.args in
    head_stored i.s.now i.p i.n i.out.now (ap level_of c.if-set.false) c.requires c.packs_size.ensures c.put_to_pack-at.ensures c.put_len.ensures
