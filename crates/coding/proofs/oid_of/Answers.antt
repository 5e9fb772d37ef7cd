-- `coding::oid_of` meets its contract: what `oid_bytes` answers, unless the first byte is 80.
use Rattle.std.proofs.Common.{sym, ap, ◌∙◌}
use Rattle.std.proofs.lemmas.Result.{err_from_is_err_and}
use Rattle.coding.specs.Code.{num_of}
use Rattle.coding.proofs.Oid.{oid_refused, oid_80, oid_good, oid_there}
use Rattle.coding.proofs.oid_of.Goals as goal

pub returns-in_err-oid : goal.returns-in_err-oid
returns-in_err-oid c =
    let p = err_from_is_err_and c.from_residual.result c.from_residual.ensures.1 in
    let e = sym (ap num_of c.in_err-oid.was) ∙ c.oid_bytes.ensures in
    rw (p.1, p.2) (oid_refused _ _ _ _ e)

pub bounds-s-0 : goal.bounds-s-0
bounds-s-0 c =
    let e = sym (ap num_of c.in_ok-oid.was) ∙ c.oid_bytes.ensures in
    oid_there _ _ _ _ _ e

pub returns-then-s : goal.returns-then-s
returns-then-s c =
    let e = sym (ap num_of c.in_ok-oid.was) ∙ c.oid_bytes.ensures in
    oid_80 _ _ _ _ _ e c.if-s.true

pub returns : goal.returns
returns c =
    let e = sym (ap num_of c.in_ok-oid.was) ∙ c.oid_bytes.ensures in
    oid_good _ _ _ _ _ e c.if-s.false
