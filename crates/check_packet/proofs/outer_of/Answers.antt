-- `check_packet::outer_of` meets its contract: each way out is a case of `opening`.
use Rattle.std.proofs.Common.{◌∙◌, arith}
use Rattle.heads.proofs.Passed.{told_err}
use Rattle.check_packet.proofs.Openings.{outer_key, outer_from, outer_len, outer_room, outer_whole, outer_size}
use Rattle.check_packet.proofs.outer_of.Goals as goal

pub returns-then-not-has_key : goal.returns-then-not-has_key
returns-then-not-has_key c = outer_key _ c.has_key.ensures c.if-not-has_key.true

pub slice_bounds-len_of-count : goal.slice_bounds-len_of-count
slice_bounds-len_of-count c = outer_from c.args.s.now c.has_key.ensures c.if-not-has_key.false

pub slice_bounds-len_of-start : goal.slice_bounds-len_of-start
slice_bounds-len_of-start c = outer_from c.args.s.now c.has_key.ensures c.if-not-has_key.false

pub returns-in_err-length : goal.returns-in_err-length
returns-in_err-length c = told_err _ _ _ c.from_residual.ensures ∙ outer_len _ c.has_key.ensures c.if-not-has_key.false c.in_err-length.ensures

pub overflow_add-from : goal.overflow_add-from
overflow_add-from c = omega (arith, outer_room c.args.s.now c.has_key.ensures c.if-not-has_key.false c.in_ok-length.ensures (λ i. (c.type_inv.s i).fits))

pub overflow_sub-s : goal.overflow_sub-s
overflow_sub-s c = omega (arith, outer_room c.args.s.now c.has_key.ensures c.if-not-has_key.false c.in_ok-length.ensures (λ i. (c.type_inv.s i).fits))

pub returns-then-s-from : goal.returns-then-s-from
returns-then-s-from c =
    let room = outer_room c.args.s.now c.has_key.ensures c.if-not-has_key.false c.in_ok-length.ensures (λ i. (c.type_inv.s i).fits) in
    outer_size _ c.has_key.ensures c.if-not-has_key.false c.in_ok-length.ensures room c.if-s-from.true

pub returns : goal.returns
returns c =
    let room = outer_room c.args.s.now c.has_key.ensures c.if-not-has_key.false c.in_ok-length.ensures (λ i. (c.type_inv.s i).fits) in
    outer_whole _ c.has_key.ensures c.if-not-has_key.false c.in_ok-length.ensures room c.if-s-from.false
