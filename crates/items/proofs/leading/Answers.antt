-- `items::leading` meets its contract.
use Rattle.std.proofs.Common.{◌≡◌, ◌∙◌, length, arith}
use Rattle.items.proofs.Tests.{zero_found, zero_more, zero_done}
use Rattle.items.proofs.leading.Goals as goal

pub loop-i-init : goal.loop-i-init
loop-i-init c = (omega arith, omega arith)

pub returns-then-b-ne0 : goal.returns-then-b-ne0
returns-then-b-ne0 c = zero_found _ _ c.loop-i.invariant (omega arith) c.if-b-ne0.true

pub loop-i-preserved : goal.loop-i-preserved
loop-i-preserved c = zero_more _ _ c.loop-i.invariant (omega arith) c.if-b-ne0.false

pub returns : goal.returns
returns c =
    let e : length c.args.v.now ≡ c.loop-i.i = omega arith in
    e ∙ zero_done _ _ c.loop-i.invariant (omega arith)
