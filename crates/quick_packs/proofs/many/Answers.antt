-- `quick_packs::many` meets its contract: each turn is a turn of the pack walk.
use Rattle.tally.proofs.Turns.{going_wide}
use Rattle.quick_packs.proofs.Passings.{ShortHere, passing_none, here_asks, passing_more}
use Rattle.quick_packs.proofs.many.Goals as goal
use Rattle.quick_packs.proofs.many.Goals.{In-Some, else-loop-p-test, then-loop-p-test+in_default, then-loop-p-test+in-Some+in_default-reach, then-loop-p-test+in-Some+in-Some-reach+in_default-choose}

-- where a pack's head was read
here : (c : In-Some) → ShortHere c.args.alone c.args.s.now c.loop-p.bits c.loop-p.masks c.loop-p.p c.loop-p.rows c.loop-p.more c.loop-p.b c.loop-p.c c.in-Some.head
here c = record { passing = c.loop-p.invariant; here = c.loop-p-test.true; head = c.in-Some.ensures; bytes = λ i. (c.type_inv.s i).fits; most = c.requires }

pub loop-p-init : goal.loop-p-init
loop-p-init c = rw c.none-b.ensures (passing_none _ _ _ _)

pub choose-requires : goal.choose-requires
choose-requires c = here_asks (here (goal.at.choose-requires c).In-Some)

pub loop-p-preserved : goal.loop-p-preserved
loop-p-preserved c = passing_more (here (goal.at.loop-p-preserved c).In-Some) c.in-Some-reach.ensures.told c.in-Some-choose.ensures

pub returns : goal.returns
returns c =
    let i = c.loop-p.invariant.going in
    rw c.passed.ensures
    (elim c.loop-p-test.branch [
      | else-loop-p-test w ↦ rw w.b-is i
      | then-loop-p-test+in_default w ↦ rw w.b-is i
      | then-loop-p-test+in-Some+in_default-reach w ↦ rw w.b-is i
      | then-loop-p-test+in-Some+in-Some-reach+in_default-choose w ↦ let n = w.in-Some-reach.ensures.told in rw w.b-is (going_wide i n.over.0 n.under.0)
    ])
