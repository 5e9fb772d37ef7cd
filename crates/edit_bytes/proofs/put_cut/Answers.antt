-- `edit_bytes::put_cut` meets its contract: the last bytes of the value are put.
use native.Mathlib.Omega.{arith}
use Rattle.edit_rules.proofs.Items.{last_long}
use Rattle.edit_rules.proofs.Storing.{none_stored, put_room, put_stored}
use Rattle.edit_bytes.proofs.put_cut.Goals as goal

pub returns-then-c : goal.returns-then-c
returns-then-c c = let i = c.args in none_stored i.c i.v.now c.if-c.true i.out.now i.at

pub put_short-requires : goal.put_short-requires
put_short-requires c =
    let l = c.if-c.false in (
      c.requires.0.0,
      omega (arith, last_long c.args.v.now c.args.c.size c.requires.1, c.requires.0),
      put_room c.args.c c.args.v.now l c.requires.1 c.args.at c.requires.2,
    )

pub returns : goal.returns
returns c =
    put_stored c.args.c c.args.v.now c.if-c.false c.requires.1 c.args.out.now c.args.at c.put_short.ensures
