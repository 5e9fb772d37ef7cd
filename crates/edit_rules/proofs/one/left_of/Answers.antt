-- `edit_rules::one::left_of` meets its contract.
use mathlib.Core.Path.{refl}
use Rattle.std.specs.Prelude.{Ok, Err}
use Rattle.items.specs.Meet.{form_of, level_of}
use Rattle.edit_rules.proofs.Rules.{err_is}
use Rattle.edit_rules.proofs.Ends.{ends_by}
use Rattle.edit_rules.proofs.one.left_of.Goals as goal

pub returns-in_err-ending_fault : goal.returns-in_err-ending_fault
returns-in_err-ending_fault c =
    rw (err_is _ _ c.from_residual.ensures)
    (Err _, ends_by (form_of c.args.alone) (level_of c.args.a.set) (Err _) c.cut_of-cut.ensures c.no_cut.ensures c.in_err-ending_fault.ensures, refl)

pub returns : goal.returns
returns c = (Ok tt, ends_by (form_of c.args.alone) (level_of c.args.a.set) (Ok tt) c.cut_of-cut.ensures c.no_cut.ensures c.in_ok-ending_fault.ensures, refl)
