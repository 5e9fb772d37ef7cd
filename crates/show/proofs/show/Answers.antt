-- `show::show` meets its contract: the part that `shown` names.
use native.Mathlib.Omega.{arith}
use Rattle.show.proofs.Showing.{part_fits, part_ends, part_bytes, part_place}
use Rattle.show.proofs.show.Goals as goal

pub overflow_add-to : goal.overflow_add-to
overflow_add-to c =
    let i = c.args in
    omega (arith, part_fits i.reviewer.now i.detector.now c.shown-part.result.detectors 18446744073709551615 c.shown-part.ensures.1 (omega arith) (omega arith))

pub slice_bounds-result-end : goal.slice_bounds-result-end
slice_bounds-result-end c = omega (arith, part_ends c.shown-part.result c.if-part.true c.args.reviewer.now c.args.detector.now c.shown-part.ensures.1)

pub returns-then-part : goal.returns-then-part
returns-then-part c =
    let i = c.args in (
      part_bytes c.shown-part.result c.if-part.true c.shown-part.ensures.0 i.reviewer.now i.detector.now,
      part_place c.shown-part.result c.if-part.true c.shown-part.ensures.0 i.reviewer.ref_ptr i.detector.ref_ptr,
    )

pub slice_bounds-result-end-2 : goal.slice_bounds-result-end-2
slice_bounds-result-end-2 c = omega (arith, part_ends c.shown-part.result c.if-part.false c.args.reviewer.now c.args.detector.now c.shown-part.ensures.1)

pub returns : goal.returns
returns c =
    let i = c.args in (
      part_bytes c.shown-part.result c.if-part.false c.shown-part.ensures.0 i.reviewer.now i.detector.now,
      part_place c.shown-part.result c.if-part.false c.shown-part.ensures.0 i.reviewer.ref_ptr i.detector.ref_ptr,
    )
