-- `edit_bytes::put_to_pack` meets its contract.
use borrow.Author.Rules.{rules}
use Rattle.edit_rules.proofs.Storing.{start_asked, series_asked, packs_asked, to_pack_stored}
use Rattle.edit_bytes.proofs.put_to_pack.Goals as goal

pub copy_all-at-requires : goal.copy_all-at-requires
copy_all-at-requires c = let i = c.args in start_asked i.s.now i.p i.n i.out.now c.requires.2

pub put_series-at-requires : goal.put_series-at-requires
put_series-at-requires c = let i = c.args in (c.requires.1, series_asked i.s.now i.p i.n i.out.now c.requires.2 c.copy_all-at.ensures)

pub put_part-requires : goal.put_part-requires
put_part-requires c =
    let i = c.args in
    (c.requires.0.to_pack, search rules, packs_asked i.s.now i.p i.n i.out.now c.requires.2 c.copy_all-at.ensures c.put_series-at.ensures)

pub returns : goal.returns
returns c = let i = c.args in to_pack_stored i.s.now i.p i.n i.out.now c.requires.2 c.copy_all-at.ensures c.put_series-at.ensures c.put_part.ensures
