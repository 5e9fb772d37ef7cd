-- `target_bytes::put_entries` meets its contract.
use Rattle.target_bytes.proofs.Storing.{start_asked, series_asked, end_asked, entries_stored, entries_room}
use Rattle.target_bytes.proofs.put_entries.Goals as goal

pub put_counted-packs-requires : goal.put_counted-packs-requires
put_counted-packs-requires c = start_asked c.requires.1 _ c.requires.2

pub put_series-rest-requires : goal.put_series-rest-requires
put_series-rest-requires c = (c.requires.0, _, c.requires.1, series_asked c.requires.1 _ c.requires.2 c.put_counted-packs.ensures)

pub put_counted-requires : goal.put_counted-requires
put_counted-requires c =
    end_asked c.requires.1 _ c.requires.2 c.put_counted-packs.ensures (c.put_series-rest.ensures c.requires.0 _ c.requires.1)

pub returns : goal.returns
returns c = λ f q.
    entries_stored q _ (entries_room c.requires.1 q c.requires.2) c.put_counted-packs.ensures (c.put_series-rest.ensures f _ q) c.put_counted.ensures
