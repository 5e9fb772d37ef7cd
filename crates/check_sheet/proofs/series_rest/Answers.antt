-- `check_sheet::series_rest` meets its contract: the turn over the series is a turn of the walk over the set.
use Rattle.tally.proofs.Tried.{walked_err, later_so, later_says}
use Rattle.tally_records.proofs.PartTurns.{part_bad, part_asks, part_more}
use Rattle.check_sheet.proofs.SetTurns.{series_part, series_is}
use Rattle.check_sheet.proofs.series_rest.Goals as goal

pub returns-in_err-series : goal.returns-in_err-series
returns-in_err-series c =
    let told = series_is c.requires.0 c.requires.1 (λ i. (c.type_inv.s i).fits) c.target_records-packs.ensures c.series_of.ensures in
    let (_, _, bad, e) = later_says _ _ c.later.ensures c.in_err-series.was (walked_err _ _ c.from_residual.ensures) in
    part_bad (series_part c.requires.0 c.requires.1 (λ i. (c.type_inv.s i).fits)) told bad e

pub after-after-requires : goal.after-after-requires
after-after-requires c =
    let told = series_is c.requires.0 c.requires.1 (λ i. (c.type_inv.s i).fits) c.target_records-packs.ensures c.series_of.ensures in
    part_asks (series_part c.requires.0 c.requires.1 (λ i. (c.type_inv.s i).fits)) told (later_so _ _ c.later.ensures c.in_ok-series.was)

pub item_records-requires : goal.item_records-requires
item_records-requires c =
    let told = series_is c.requires.0 c.requires.1 (λ i. (c.type_inv.s i).fits) c.target_records-packs.ensures c.series_of.ensures in
    let so = later_so _ _ c.later.ensures c.in_ok-series.was in
    (c.requires.0.most, part_more (series_part c.requires.0 c.requires.1 (λ i. (c.type_inv.s i).fits)) told so c.after-after.ensures.0)
