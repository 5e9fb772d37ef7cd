-- `sets::seal` meets its contract: the turn over the checksum is a turn of the item walk.
use Rattle.std.proofs.Common.{ap}
use borrow.Author.Tests.{eqb-true}
use Rattle.format.specs.Table.{is_alone}
use Rattle.items.specs.Meet.{form_of}
use Rattle.check_packet.proofs.SetTurns.{head_here, seal_sums, seal_more}
use Rattle.check_packet.proofs.sets.seal.Goals as goal

pub returns-in_default : goal.returns-in_default
returns-in_default c = c.requires.1

pub returns-then-not-is_seal_next : goal.returns-then-not-is_seal_next
returns-then-not-is_seal_next c = c.requires.1

pub plus-sum-requires : goal.plus-sum-requires
plus-sum-requires c =
    let here = head_here c.requires.1 c.in-Some.ensures (λ i. (c.type_inv.s i).fits) c.requires.0 in
    let t = c.is_seal_next.ensures c.if-not-is_seal_next.false in
    seal_sums here (ap (λ x. is_alone (form_of x)) t.0) (t.1, t.2, t.3, t.4) (eqb-true _ _ t.5) c.plain_sizes.ensures

pub returns : goal.returns
returns c =
    let here = head_here c.requires.1 c.in-Some.ensures (λ i. (c.type_inv.s i).fits) c.requires.0 in
    let t = c.is_seal_next.ensures c.if-not-is_seal_next.false in
    rw c.stage_at.ensures
    (seal_more here (ap (λ x. is_alone (form_of x)) t.0) (t.1, t.2, t.3, t.4) (eqb-true _ _ t.5) c.plain_sizes.ensures c.plus-sum.ensures
    c.bit_of.ensures c.larger.ensures.over)
