-- `find::pack_in` meets its contract: the series is found in the set, then the pack in it.
use native.Mathlib.Omega.{arith}
use Rattle.format.specs.Table.{Form}
use Rattle.find.specs.Places.{SetOf, SeriesFound}
use Rattle.find.proofs.Entries.{tag_room}
use Rattle.find.proofs.Finds.{none_series, series_found, packs_asked, none_pack, pack_found}
use Rattle.find.proofs.pack_in.Goals as goal
use Rattle.find.proofs.pack_in.Goals.{Else-series}

found : (c : Else-series) (f : Form) → SetOf f c.args.s.now → SeriesFound f c.args.s.now c.item_spot-series.result
found c f k = series_found (λ n. (c.type_inv.s n).fits) k (c.item_spot-series.ensures _) c.if-series.false

pub returns-then-series : goal.returns-then-series
returns-then-series c f k = none_series (λ n. (c.type_inv.s n).fits) k (c.item_spot-series.ensures _) c.args.id (omega (arith, c.if-series.true))

pub slice_bounds-pack_spot-count : goal.slice_bounds-pack_spot-count
slice_bounds-pack_spot-count c = (tag_room (found (goal.at.slice_bounds-pack_spot-count c).Else-series _ c.requires.1).found).0

pub slice_bounds-pack_spot-start : goal.slice_bounds-pack_spot-start
slice_bounds-pack_spot-start c = omega (arith, tag_room (found (goal.at.slice_bounds-pack_spot-start c).Else-series _ c.requires.1).found)

pub slice_bounds-pack_spot-end : goal.slice_bounds-pack_spot-end
slice_bounds-pack_spot-end c = (tag_room (found (goal.at.slice_bounds-pack_spot-end c).Else-series _ c.requires.1).found).1

pub pack_spot-pack-requires : goal.pack_spot-pack-requires
pack_spot-pack-requires c = let (short, ran) = packs_asked (found (goal.at.pack_spot-pack-requires c).Else-series _ c.requires.1) in (short, (_, ran))

pub returns-then-pack : goal.returns-then-pack
returns-then-pack c f k = none_pack (found (goal.at.returns-then-pack c).Else-series f k) _ (c.pack_spot-pack.ensures f) (omega (arith, c.if-pack.true))

pub returns : goal.returns
returns c f k = pack_found (found (goal.at.returns c).Else-series f k) _ (c.pack_spot-pack.ensures f) c.if-pack.false
