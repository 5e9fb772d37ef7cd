-- `tally_records::after` meets its contract.
use mathlib.Core.Path.{refl}
use Rattle.tally_records.proofs.after.Goals as goal

pub returns : goal.returns
returns c =
    let over = c.larger.ensures in
    rw c.stage_at.ensures (
      record {
        at_is = refl;
        sizes_are = c.plus-sum.ensures;
        held_is = refl;
        over = over.over;
        under = c.smaller.ensures;
      },
      over,
    )
