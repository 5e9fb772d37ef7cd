-- `add_drop::dropping::drop_from` meets its contract.
use Rattle.std.proofs.Common.{refl, arith}
use Rattle.answers.proofs.Results.{refuses}
use Rattle.add_drop.proofs.Setting.{rules_left, drop_absent, drop_some, drop_asked, drop_left}
use Rattle.add_drop.proofs.dropping.drop_from.Goals as goal

pub returns-then-series : goal.returns-then-series
returns-then-series c =
    rules_left _ _ _ _ (drop_absent _ _ (λ i. (c.type_inv.s i).fits) c.requires _ c.series_of-series.ensures c.if-series.true) (refuses c.at.ensures)

pub overflow_sub-series : goal.overflow_sub-series
overflow_sub-series c = omega (arith, drop_some _ _ (λ i. (c.type_inv.s i).fits) c.requires _ c.series_of-series.ensures c.if-series.false)

pub put_changed-requires : goal.put_changed-requires
put_changed-requires c = drop_asked _ _ (λ i. (c.type_inv.s i).fits) c.requires _ c.series_of-series.ensures c.if-series.false refl

pub returns : goal.returns
returns c =
    drop_left _ _ (λ i. (c.type_inv.s i).fits) c.requires _ c.series_of-series.ensures c.if-series.false refl _ _ c.put_changed.ensures
