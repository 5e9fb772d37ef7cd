-- `quick_packs::lone` meets its contract: it is a turn of the pack walk, from its start.
use Rattle.quick_packs.proofs.Models.{FirstHere, first_asks, first_more}
use Rattle.quick_packs.proofs.lone.Goals as goal
use Rattle.quick_packs.proofs.lone.Goals.{In-Some}

-- where the pack's head was read
here : (c : In-Some) → FirstHere c.args.s.now c.in-Some.head
here c = record { here = c.is_lone.ensures c.if-not-is_lone.false; head = c.in-Some.ensures; bytes = λ i. (c.type_inv.s i).fits; most = c.requires }

pub unmodelled-requires : goal.unmodelled-requires
unmodelled-requires c = first_asks (here (goal.at.unmodelled-requires c).In-Some)

pub returns : goal.returns
returns c = rw c.passed.ensures (first_more (here (goal.at.returns c).In-Some) c.in-Some-unmodelled.ensures)
