-- `find::place_of` meets its contract.
use Rattle.find.proofs.Finds.{of_set, of_target}
use Rattle.find.proofs.place_of.Goals as goal

pub returns-then-set : goal.returns-then-set
returns-then-set c = of_set _ c.args.id _ _ _ c.if-set.true c.set_place.ensures

pub returns : goal.returns
returns c = of_target _ c.args.id _ _ c.target_place.result c.if-set.false c.target_place.ensures
