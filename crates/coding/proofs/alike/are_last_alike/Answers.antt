-- `coding::alike::are_last_alike` meets its contract.
use Rattle.std.proofs.Common.{arith}
use Rattle.format.proofs.Words.Answers.{no_bool}
use Rattle.coding.proofs.Rooms.{tail_part}
use Rattle.coding.proofs.alike.are_last_alike.Goals as goal

pub returns-then-n-lt32 : goal.returns-then-n-lt32
returns-then-n-lt32 c = λ e. no_bool e

pub returns-then-b-n : goal.returns-then-b-n
returns-then-b-n c = λ e. no_bool e

pub returns : goal.returns
returns c =
    let x = c.args in
    λ e. record {
      some = omega (arith, c.if-n-lt32.false);
      room = omega (arith, c.if-b-n.false);
      alike = rw (tail_part _ x.masks.now, tail_part _ x.a.now, tail_part _ x.b.now) at (c.some_alike.ensures e);
    }
