-- `edit::edit_cuts` meets its contract.
use Rattle.items.specs.Meet.{form_of}
use Rattle.edit_rules.proofs.Callers.{cuts_put}
use Rattle.answers.proofs.Results.{refuses}
use Rattle.edit.proofs.Editing.{low_over, high_over}
use Rattle.edit.proofs.edit_cuts.Goals as goal
use Rattle.edit.proofs.edit_cuts.Goals.{then-k-gt-LIMIT-via-then-k-gt-LIMIT, then-k-gt-LIMIT-via-else-k-gt-LIMIT+then-k-gt-LIMIT-2}

pub returns-then-k-gt-LIMIT : goal.returns-then-k-gt-LIMIT
returns-then-k-gt-LIMIT c = let f = form_of c.args.alone in elim c.then-k-gt-LIMIT.branch [
  | then-k-gt-LIMIT-via-then-k-gt-LIMIT w ↦ low_over f _ _ _ _ _ c.requires.1 w.if-k-gt-LIMIT.true _ (refuses c.at.ensures)
  | then-k-gt-LIMIT-via-else-k-gt-LIMIT+then-k-gt-LIMIT-2 w ↦ high_over f _ _ _ _ _ c.requires.1 w.if-k-gt-LIMIT-2.true _ (refuses c.at.ensures)
]

pub edit_at-requires : goal.edit_at-requires
edit_at-requires c = (cuts_put _ _ c.args.k _ _ c.requires.1 c.requires.0 c.if-k-gt-LIMIT.false c.if-k-gt-LIMIT-2.false, c.requires.2)

pub returns : goal.returns
returns c = c.edit_at.ensures
