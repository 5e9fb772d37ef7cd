-- `heads::short_pack_head` meets its contract.
use Rattle.std.proofs.Common.{refl, arith}
use Rattle.heads.proofs.Heads.{pack_head_two}
use Rattle.heads.proofs.short_pack_head.Goals as goal

pub returns : goal.returns
returns c =
    rw c.two7.ensures (
      pack_head_two _ _ c.wide-size.ensures.0 (omega arith) (omega arith) _ _ c.wide-a.ensures.0 c.wide-b.ensures.0 (omega (arith, c.if-a-eq128.false)) c.wide-a.ensures.1 (omega arith)
          (omega (arith, c.if-size-eq1.false, c.if-size-eq0.false)),
      refl,
      omega arith,
      omega arith,
    )
