-- `find::around::alike_in` meets its contract: each turn passes one pack.
use Prim.Native.Nat.{◌+◌, ◌≤◌}
use native.Mathlib.Omega.{arith}
use lib.ListN.{length}
use Rattle.format.specs.Coding.{Bytes}
use Rattle.find.proofs.Alikes.{passed_few, passed_room, passed_more}
use Rattle.find.proofs.around.alike_in.Given.{Over}
use Rattle.find.proofs.around.alike_in.Goals as goal
use Rattle.find.proofs.around.alike_in.Goals.{Then-s-p}

bytes : (g : Over) (c : Then-s-p g) → Bytes c.args.s.now
bytes g c = λ i. (c.type_inv.s i).fits

-- the pack at p within the series
room : (g : Over) (c : Then-s-p g) → c.loop-p.p + g.row.WIDTH + c.args.size ≤ length c.args.s.now
room g c =
    let q = c.requires.1 in
    passed_room (bytes g c) q.ran (c.loop-p.invariant.1 q.form q.before q.ran q.to) (omega arith) (c.is_length.ensures c.if-is_length.true)

pub overflow_add-p-in-loop-p-2 : goal.overflow_add-p-in-loop-p-2
overflow_add-p-in-loop-p-2 g c = omega (arith, room g c, c.requires.1.short)

pub overflow_add-count : goal.overflow_add-count
overflow_add-count g c =
    let q = c.requires.1 in
    omega (arith, passed_few (bytes g c) q.ran (c.loop-p.invariant.1 q.form q.before q.ran q.to), q.short)

pub loop-p-preserved : goal.loop-p-preserved
loop-p-preserved g c = (
  room g c,
  λ f before r t. passed_more (bytes g c) r (c.loop-p.invariant.1 f before r t) (omega arith) (c.is_length.ensures c.if-is_length.true) c.if-s-p.true,
)
