-- `target_bytes::put_series` meets its contract: no packs, and the series put part by part, a new pack last.
use Rattle.std.proofs.Common.{arith}
use Rattle.target_bytes.proofs.Storing.{none_stored, front_asked, before_asked, later_asked, unadded, new_behind, new_asked, series_end, series_stored, series_room}
use Rattle.target_bytes.proofs.put_series.Goals as goal

pub returns-then-inner-eq0 : goal.returns-then-inner-eq0
returns-then-inner-eq0 c = λ f n q. none_stored q c.if-inner-eq0.true _ _

pub put_series-packs-requires : goal.put_series-packs-requires
put_series-packs-requires c = front_asked c.requires.2 c.if-inner-eq0.false _ _ c.requires.3

pub put_part-later-requires : goal.put_part-later-requires
put_part-later-requires c = before_asked c.requires.2 c.if-inner-eq0.false _ _ c.requires.3 c.put_series-packs.ensures

pub put_part-new-requires : goal.put_part-new-requires
put_part-new-requires c =
    later_asked c.requires.2 c.if-inner-eq0.false _ _ c.requires.3 c.put_series-packs.ensures c.put_part-later.ensures

pub returns-then-records-eq0 : goal.returns-then-records-eq0
returns-then-records-eq0 c = λ f n q.
    unadded q c.if-inner-eq0.false _ _ (series_room c.requires.2 q _ c.requires.3) c.put_series-packs.ensures c.put_part-later.ensures c.put_part-new.ensures
    c.if-records-eq0.true

pub slice_bounds-target_packet-count : goal.slice_bounds-target_packet-count
slice_bounds-target_packet-count c =
    new_behind c.requires.2 c.if-inner-eq0.false _ _ c.requires.3 c.put_series-packs.ensures c.put_part-later.ensures c.put_part-new.ensures

pub slice_bounds-target_packet-start : goal.slice_bounds-target_packet-start
slice_bounds-target_packet-start c =
    new_behind c.requires.2 c.if-inner-eq0.false _ _ c.requires.3 c.put_series-packs.ensures c.put_part-later.ensures c.put_part-new.ensures

pub target_packet-pack-requires : goal.target_packet-pack-requires
target_packet-pack-requires c = (
  c.requires.0,
  new_asked c.requires.2 c.if-inner-eq0.false _ _ c.requires.3 c.put_series-packs.ensures c.put_part-later.ensures c.put_part-new.ensures,
)

pub overflow_add-result : goal.overflow_add-result
overflow_add-result c =
    omega (
      arith,
      series_end c.requires.2 c.if-inner-eq0.false _ _ c.requires.3 c.put_series-packs.ensures c.put_part-later.ensures c.put_part-new.ensures
          c.target_packet-pack.ensures,
    )

pub returns : goal.returns
returns c = λ f n q.
    series_stored q c.if-inner-eq0.false _ _ (series_room c.requires.2 q _ c.requires.3) c.put_series-packs.ensures c.put_part-later.ensures
    c.put_part-new.ensures c.target_packet-pack.ensures
