-- `coding::eight_of` meets its contract: the high half is below 2 ^ 32, and the two together spell what eight bytes do.
use Rattle.std.proofs.Common.{arith}
use Rattle.coding.proofs.Rooms.{bytes_room}
use Rattle.coding.proofs.Lens.{number_halves}
use Rattle.coding.proofs.eight_of.Goals as goal

pub overflow_mul-result : goal.overflow_mul-result
overflow_mul-result c =
    let k = c.before.before in
    omega (arith, c.number_of.ensures, bytes_room 4 k.args.s.now (λ i. (k.shared_slice_known-1.given i).fits) (omega arith))

pub returns : goal.returns
returns c = number_halves c.args.s.now (omega arith) c.number_of.ensures c.number_of-2.ensures

pub overflow_add-result : goal.overflow_add-result
overflow_add-result c =
    let k = c.before.before.before.before in
    omega (arith, returns c, bytes_room 8 k.args.s.now (λ i. (k.shared_slice_known-1.given i).fits) (omega arith))
