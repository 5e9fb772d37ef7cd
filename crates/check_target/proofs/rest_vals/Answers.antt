-- `check_target::rest_vals` meets its contract.
use Rattle.check_target.proofs.Sums.{walk_says}
use Rattle.check_target.proofs.rest_vals.Goals as goal

pub returns : goal.returns
returns c = walk_says _ c.args.s.now (λ i. (c.type_inv.s i).fits) c.requires.0 _ c.item_records-all.ensures.0 c.walked_vals.ensures
