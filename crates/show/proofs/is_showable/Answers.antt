-- `show::is_showable` meets its contract.
use Rattle.show.proofs.Showing.{zero_unnamed, set_named, target_named}
use Rattle.show.proofs.is_showable.Goals as goal

pub returns-then-tag-eq0 : goal.returns-then-tag-eq0
returns-then-tag-eq0 c = λ id. zero_unnamed c.args.set id c.if-tag-eq0.true

pub returns-then-set : goal.returns-then-set
returns-then-set c = λ id. set_named id c.if-tag-eq0.false c.if-set.true

pub returns : goal.returns
returns c = λ id. target_named id c.if-tag-eq0.false c.if-set.false
