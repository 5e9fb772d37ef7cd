-- `coding::alike::are_alike` meets its contract: the first i bytes are alike, a block more at each turn.
use Rattle.std.proofs.Common.{◌-◌, arith}
use borrow.Author.Tests.{not-false}
use Rattle.format.proofs.Words.Answers.{no_bool}
use Rattle.coding.proofs.Rooms.{tail_part}
use Rattle.coding.proofs.Alikes.{alike_none, alike_on, alike_less}
use Rattle.coding.proofs.alike.are_alike.Goals as goal

pub loop-i-init : goal.loop-i-init
loop-i-init c = (omega arith, omega arith, alike_none _ _ _)

pub returns-then-b-i-lt32 : goal.returns-then-b-i-lt32
returns-then-b-i-lt32 c =
    let n = c.args.n in
    let so_far = c.loop-i.invariant.2 in
    λ e. let l = c.are_last_alike.ensures e in
    (alike_less (alike_on so_far (n - 32) (omega (arith, c.if-b-i-lt32.true, l.room)) l.alike) (omega (arith, l.some)), l.room)

pub returns-then-not-some_alike : goal.returns-then-not-some_alike
returns-then-not-some_alike c = λ e. no_bool e

pub loop-i-preserved : goal.loop-i-preserved
loop-i-preserved c =
    let x = c.args in
    let m = x.masks.now in
    let a = x.a.now in
    let b = x.b.now in
    (omega arith, omega arith, alike_on c.loop-i.invariant.2 _ (omega arith) (rw (tail_part _ m, tail_part _ a, tail_part _ b) at (c.some_alike.ensures (not-false _ c.if-not-some_alike.false-raw))))

pub returns : goal.returns
returns c = λ _. (alike_less c.loop-i.invariant.2 (omega arith), omega (arith, c.loop-i.invariant.0))
