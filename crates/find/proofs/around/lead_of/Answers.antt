-- `find::around::lead_of` meets its contract.
use native.Mathlib.Omega.{arith}
use Rattle.find.proofs.Leads.{lead_low, lead_start, lead_more, lead_done}
use Rattle.find.proofs.around.lead_of.Goals as goal

pub returns-then-id-lt128 : goal.returns-then-id-lt128
returns-then-id-lt128 c = λ _. lead_low _ c.if-id-lt128.true

pub loop-m-init : goal.loop-m-init
loop-m-init c = (omega (arith, c.above7-m.ensures, c.if-id-lt128.false), λ l. lead_start _ l c.above7-m.ensures)

pub loop-m-smaller : goal.loop-m-smaller
loop-m-smaller c = omega (arith, c.above7-m-in-loop-m.ensures, c.loop-m.invariant.0)

pub loop-m-preserved : goal.loop-m-preserved
loop-m-preserved c =
    let i = c.loop-m.invariant in
    (omega (arith, c.above7-m-in-loop-m.ensures, c.loop-m-test.true), λ l. lead_more i.0 (i.1 l) c.above7-m-in-loop-m.ensures)

pub overflow_add-result : goal.overflow_add-result
overflow_add-result c = omega (arith, c.loop-m-test.false)

pub overflow_cast-result-2 : goal.overflow_cast-result-2
overflow_cast-result-2 c = omega (arith, c.loop-m-test.false)

pub returns : goal.returns
returns c = λ l. let i = c.loop-m.invariant in lead_done i.0 (i.1 l) c.loop-m-test.false
