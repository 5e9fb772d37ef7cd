-- `find::around::series_of` meets its contract: where the entries end, tag 6, the series, and the pack in it.
use mathlib.Core.Path.{◌≡◌, refl, ◌∙◌}
use Prim.Native.Nat.{◌≤◌}
use native.Mathlib.Omega.{arith}
use mathlib.Core.List.{List}
use lib.ListN.{length}
use Rattle.format.specs.Coding.{Bytes}
use Rattle.format.specs.Lists.{flat_all}
use Rattle.format.specs.Packet.{Entry, flat_entry}
use Rattle.items.specs.Meet.{form_of}
use Rattle.find.specs.Places.{kept_of}
use Rattle.find.specs.Series.{tag_spot}
use Rattle.find.proofs.Sets.{seal_room, set_stop}
use Rattle.find.proofs.Arounds.{kept_spot, series_room, lent_asked, walked, walked_room, all_places}
use Rattle.find.proofs.around.series_of.Goals as goal
use Rattle.find.proofs.around.series_of.Goals.{After-within-series}

module _ (c : After-within-series) where
  bytes : Bytes c.args.s.now
  bytes = λ n. (c.type_inv.s n).fits

  abbrev entries : List Entry
  entries = kept_of (form_of c.args.alone) c.args.s.now

  stop_is : c.stop_of-stop.result ≡ length (flat_all flat_entry entries)
  stop_is = set_stop _ _ bytes c.requires c.stop_of-stop.ensures

  series_is : c.within-series.result ≡ tag_spot 101 entries
  series_is = c.within-series.ensures ∙ kept_spot _ _ bytes c.requires 101 refl _ (c.item_spot-2.ensures _ c.requires.ran) stop_is

  six_is : c.within-six.result ≡ tag_spot 6 entries
  six_is = c.within-six.ensures ∙ kept_spot _ _ bytes c.requires 6 refl _ (c.item_spot.ensures _ c.requires.ran) stop_is

  room : let a = c.within-series.result in (a.at ≤ a.from) × (a.from ≤ a.next) × (a.next ≤ length c.args.s.now)
  room = series_room _ _ bytes c.requires series_is

pub stop_of-stop-requires : goal.stop_of-stop-requires
stop_of-stop-requires c = seal_room (form_of c.args.alone) _ (λ n. (c.type_inv.s n).fits) c.requires

pub slice_bounds-packs_of-count : goal.slice_bounds-packs_of-count
slice_bounds-packs_of-count c = (room (goal.at.slice_bounds-packs_of-count c).After-within-series).1

pub slice_bounds-packs_of-start : goal.slice_bounds-packs_of-start
slice_bounds-packs_of-start c = omega (arith, room (goal.at.slice_bounds-packs_of-start c).After-within-series)

pub slice_bounds-packs_of-end : goal.slice_bounds-packs_of-end
slice_bounds-packs_of-end c = (room (goal.at.slice_bounds-packs_of-end c).After-within-series).2

pub packs_of-packs-requires : goal.packs_of-packs-requires
packs_of-packs-requires c =
    let at = (goal.at.packs_of-packs-requires c).After-within-series in
    lent_asked _ _ (bytes at) c.requires (series_is at)

pub overflow_add-result : goal.overflow_add-result
overflow_add-result c =
    let at = (goal.at.overflow_add-result c).After-within-series in
    omega (arith, walked_room _ _ (bytes at) c.requires (series_is at) c.args.id (c.packs_of-packs.ensures _))

pub overflow_add-result-2 : goal.overflow_add-result-2
overflow_add-result-2 c =
    let at = (goal.at.overflow_add-result-2 c).After-within-series in
    omega (arith, walked_room _ _ (bytes at) c.requires (series_is at) c.args.id (c.packs_of-packs.ensures _))

pub returns : goal.returns
returns c =
    let at = (goal.at.returns c).After-within-series in
    all_places c.args.id (entries at) (series_is at) (walked _ _ (bytes at) c.requires (series_is at) c.args.id (c.packs_of-packs.ensures _)) (six_is at) (stop_is at)
