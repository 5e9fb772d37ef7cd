-- `coding::oid_bytes` meets its contract: after i bytes, `oid_go` from the start is `oid_go` from here.
use Rattle.std.proofs.Common.{arith}
use Rattle.coding.proofs.Oid.{oid_start, oid_room, oid_cut, oid_last, oid_more, oid_none}
use Rattle.coding.proofs.oid_bytes.Goals as goal

pub loop-i-init : goal.loop-i-init
loop-i-init c = oid_start _ _ _

pub returns-then-s-i : goal.returns-then-s-i
returns-then-s-i c = oid_cut _ _ _ _ _ c.loop-i.invariant (omega arith) (omega arith)

pub push7-v-requires : goal.push7-v-requires
push7-v-requires c = oid_room _ _ _ _ _ c.loop-i.invariant (omega arith) (omega arith)

pub returns-then-b-lt128 : goal.returns-then-b-lt128
returns-then-b-lt128 c =
    let l = c.loop-i.invariant in
    let b = c.wide-b in
    oid_last _ _ _ _ _ l b.result _ (omega arith) (omega arith) b.ensures.0 c.push7-v.ensures (omega arith)

pub loop-i-preserved : goal.loop-i-preserved
loop-i-preserved c =
    let l = c.loop-i.invariant in
    let b = c.wide-b in
    oid_more _ _ _ _ _ l b.result _ (omega arith) (omega arith) b.ensures.0 c.push7-v.ensures (omega arith) b.ensures.1

pub returns : goal.returns
returns c = oid_none _ _ _ _ _ c.loop-i.invariant (omega arith)
