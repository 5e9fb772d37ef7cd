-- `coding::tag_of` meets its contract: what `oid_of` answers, unless the value is 0.
use Rattle.std.proofs.Common.{sym, ap, ◌∙◌, arith}
use Rattle.std.proofs.lemmas.Result.{err_from_is_err_and}
use Rattle.coding.specs.Code.{num_of}
use Rattle.coding.proofs.Oid.{tag_refused, tag_zero, tag_good}
use Rattle.coding.proofs.tag_of.Goals as goal

pub returns-in_err-tag : goal.returns-in_err-tag
returns-in_err-tag c =
    let p = err_from_is_err_and c.from_residual.result c.from_residual.ensures.1 in
    let e = sym (ap num_of c.in_err-tag.was) ∙ c.oid_of.ensures in
    rw (p.1, p.2) (tag_refused _ _ e)

pub returns-then-tag-eq0 : goal.returns-then-tag-eq0
returns-then-tag-eq0 c =
    let e = sym (ap num_of c.in_ok-tag.was) ∙ c.oid_of.ensures in
    tag_zero _ _ _ e c.if-tag-eq0.true

pub returns : goal.returns
returns c =
    let e = sym (ap num_of c.in_ok-tag.was) ∙ c.oid_of.ensures in
    tag_good _ _ _ e (omega arith)
