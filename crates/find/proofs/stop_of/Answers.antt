-- `find::stop_of` meets its contract.
use mathlib.Core.Path.{ap}
use native.Mathlib.Omega.{arith}
use Rattle.items.specs.Meet.{form_of}
use Rattle.find.specs.Places.{seal_size}
use Rattle.find.proofs.stop_of.Goals as goal

pub overflow_sub-result : goal.overflow_sub-result
overflow_sub-result c = omega (arith, c.requires, ap (λ x. seal_size (form_of x)) c.if-alone.true)

pub returns-then-alone : goal.returns-then-alone
returns-then-alone c = omega (arith, c.requires, ap (λ x. seal_size (form_of x)) c.if-alone.true)

pub returns : goal.returns
returns c = omega (arith, ap (λ x. seal_size (form_of x)) c.if-alone.false)
