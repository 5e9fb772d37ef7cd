-- `coding::number_of` meets its contract: after some of the k bytes, n is what they spell, in 8 bits for each.
use Rattle.std.proofs.Common.{◌≡◌, length, take, refl, arith, lit<, length-take-le}
use Rattle.std.proofs.lemmas.List.{take_all}
use Rattle.format.specs.Coding.{number}
use Rattle.coding.proofs.Rooms.{bits_room, bits_more}
use Rattle.coding.proofs.Lens.{number_more}
use Rattle.coding.proofs.number_of.Goals as goal

pub loop-b-init : goal.loop-b-init
unfolding number
loop-b-init c = (refl, lit< tt)

pub overflow_mul-n : goal.overflow_mul-n
overflow_mul-n c =
    let l = c.loop-b in
    let all : length (take c.args.k c.args.s.now) ≡ c.args.k = length-take-le c.args.k c.args.s.now (omega arith) in
    omega (arith, bits_room 8 l.b-index 56 l.n l.invariant.1 (omega arith))

pub overflow_add-n : goal.overflow_add-n
overflow_add-n c =
    let l = c.loop-b in
    let all : length (take c.args.k c.args.s.now) ≡ c.args.k = length-take-le c.args.k c.args.s.now (omega arith) in
    omega (arith, bits_room 8 l.b-index 56 l.n l.invariant.1 (omega arith), c.wide.ensures.1)

pub loop-b-preserved : goal.loop-b-preserved
loop-b-preserved c =
    let l = c.loop-b in (
      rw (l.invariant.0, c.wide.ensures.0) (number_more (take c.args.k c.args.s.now) l.b-index (omega arith)),
      bits_more 8 l.b-index l.n c.wide.result l.invariant.1 c.wide.ensures.1,
    )

pub returns : goal.returns
returns c =
    let all = take_all c.loop-b.b-index (take c.args.k c.args.s.now) c.loop-b-test.false in
    rw all at c.loop-b.invariant.0
