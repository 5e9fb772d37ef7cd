-- `items::valued_of` meets its contract.
use Rattle.std.proofs.Common.{ap}
use Rattle.items.specs.Meet.{kind_number}
use Rattle.items.proofs.Tests.{valued_11, valued_12, valued_some, valued_0, pixel_alone}
use Rattle.items.proofs.valued_of.Goals as goal

pub returns-then-not-sized_of : goal.returns-then-not-sized_of
returns-then-not-sized_of c = valued_11 c.args.rule c.args.v.now c.if-not-sized_of.ensures

pub returns-then-leading-v : goal.returns-then-leading-v
returns-then-leading-v c =
    valued_12 c.args.rule c.args.v.now c.if-not-sized_of.ensures (ap kind_number c.in-Pixel.is) _ c.leading.ensures c.if-leading-v.true

pub returns-else-leading-v : goal.returns-else-leading-v
returns-else-leading-v c =
    valued_some c.args.rule c.args.v.now c.if-not-sized_of.ensures (ap kind_number c.in-Pixel.is) _ c.leading.ensures c.if-leading-v.false

pub returns-in_default : goal.returns-in_default
returns-in_default c = valued_0 c.args.rule c.args.v.now c.if-not-sized_of.ensures (λ e. c.in_default.not-Pixel (pixel_alone _ e))
