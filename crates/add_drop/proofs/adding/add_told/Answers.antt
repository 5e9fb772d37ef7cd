-- `add_drop::adding::add_told` meets its contract; t is the target that the records are.
use Rattle.std.proofs.Common.{◌∙◌, arith}
use Rattle.find.proofs.Arounds.{count_few}
use Rattle.answers.proofs.Results.{refuses, passed_on}
use Rattle.add_drop.proofs.Setting.{rules_left, told_then, asking, ended_not, ended_so, add_stands, add_unended, add_over, add_asked, add_left}
use Rattle.add_drop.proofs.adding.add_told.Goals as goal

pub returns-then-series : goal.returns-then-series
returns-then-series c = λ t e.
    rules_left _ _ _ _ (add_stands (asking _ (λ i. (c.type_inv.s i).fits) c.requires c.series_of-series.ensures e) c.if-series.true) (refuses c.at.ensures)

pub returns-in_err-placed : goal.returns-in_err-placed
returns-in_err-placed c = λ t e.
    let (n, z) = ended_not _ c.in_err-placed.ensures in
    rules_left _ _ _ _
    (add_unended (asking _ (λ i. (c.type_inv.s i).fits) c.requires c.series_of-series.ensures e) c.if-series.false c.ended_of.ensures z)
    (passed_on _ _ c.from_residual.ensures ∙ n)

pub returns-then-target-gt8192 : goal.returns-then-target-gt8192
returns-then-target-gt8192 c = λ t e.
    add_over (asking _ (λ i. (c.type_inv.s i).fits) c.requires c.series_of-series.ensures e) c.if-series.false c.ended_of.ensures
    (ended_so _ c.in_ok-placed.ensures) c.if-target-gt8192.true _ (refuses c.at-then-target-gt8192.ensures)

pub overflow_add-series : goal.overflow_add-series
overflow_add-series c = omega (arith, count_few _ _ (λ i. (c.type_inv.s i).fits) c.requires.0 _ c.series_of-series.ensures)

pub put_changed-requires : goal.put_changed-requires
put_changed-requires c =
    told_then _ _ c.requires.1 λ t e.
    add_asked (asking _ (λ i. (c.type_inv.s i).fits) c.requires c.series_of-series.ensures e) c.if-series.false c.ended_of.ensures
    (ended_so _ c.in_ok-placed.ensures) (λ i. (c.type_inv.records i).fits) c.if-target-gt8192.false

pub returns : goal.returns
returns c = λ t e.
    add_left (asking _ (λ i. (c.type_inv.s i).fits) c.requires c.series_of-series.ensures e) c.if-series.false c.ended_of.ensures
    (ended_so _ c.in_ok-placed.ensures) (λ i. (c.type_inv.records i).fits) c.if-target-gt8192.false _ _ c.put_changed.ensures
