-- `check_items::item_at` meets its contract: each way out is a case of `item`.
use Rattle.std.proofs.Common.{sym, ◌∙◌, arith, rules}
use Rattle.heads.proofs.Before.{item_key}
use Rattle.tally.proofs.Tried.{pieced_err}
use Rattle.tally.proofs.Pieces.{piece_tail, piece_head, piece_within, piece_empty, piece_standing, piece_valued, piece_whole}
use Rattle.check_items.proofs.item_at.Goals as goal

pub returns-in_err-head : goal.returns-in_err-head
returns-in_err-head c = λ seen q.
    piece_tail q _ _ (pieced_err _ _ c.from_residual.ensures ∙ piece_head _ _ c.item_head.ensures _ seen c.in_err-head.was)

pub returns-then-head-eq0 : goal.returns-then-head-eq0
returns-then-head-eq0 c = λ seen q. piece_tail q _ _ (piece_empty _ _ c.item_head.ensures c.in_ok-head.was _ seen c.if-head-eq0.true)

pub overflow_add-from : goal.overflow_add-from
overflow_add-from c = omega (arith, piece_within _ _ c.item_head.ensures c.in_ok-head.was)

pub overflow_add-end : goal.overflow_add-end
overflow_add-end c = omega (arith, piece_within _ _ c.item_head.ensures c.in_ok-head.was)

pub is_seen-dup-requires : goal.is_seen-dup-requires
is_seen-dup-requires c = (search rules, c.requires.1, item_key _ c.args.s.now c.args.p _ c.in_ok-head.ensures)

pub returns-in_err-standing_of : goal.returns-in_err-standing_of
returns-in_err-standing_of c = λ seen q.
    let stood = c.standing_of.ensures seen (c.is_seen-dup.ensures seen q) (sym q.first) in
    piece_tail q _ _
    (pieced_err _ _ c.from_residual-in_err-standing_of.ensures
    ∙ piece_standing _ _ c.item_head.ensures c.in_ok-head.was _ seen c.if-head-eq0.false stood c.in_err-standing_of.was)

pub slice_bounds-v-end : goal.slice_bounds-v-end
slice_bounds-v-end c = piece_within _ _ c.item_head.ensures c.in_ok-head.was

pub returns-in_err-valued_of : goal.returns-in_err-valued_of
returns-in_err-valued_of c = λ seen q.
    let stood = c.standing_of.ensures seen (c.is_seen-dup.ensures seen q) (sym q.first) in
    piece_tail q _ _
    (pieced_err _ _ c.from_residual-in_err-valued_of.ensures
    ∙ piece_valued _ _ c.item_head.ensures c.in_ok-head.was _ seen c.if-head-eq0.false stood c.in_ok-standing_of.was c.rule_of-rule.ensures c.valued_of.ensures c.in_err-valued_of.was)

pub returns : goal.returns
returns c = λ seen q.
    let stood = c.standing_of.ensures seen (c.is_seen-dup.ensures seen q) (sym q.first) in
    piece_tail q _ _
    (piece_whole _ _ c.item_head.ensures c.in_ok-head.was _ seen c.if-head-eq0.false stood c.in_ok-standing_of.was c.rule_of-rule.ensures c.valued_of.ensures c.in_ok-valued_of.was
    c.short_size.ensures)
