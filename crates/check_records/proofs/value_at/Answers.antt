-- `check_records::value_at` meets its contract: each way out is a case of `value_at`.
use Rattle.std.proofs.Common.{◌-◌, length, take, drop, sym, ◌∙◌, arith}
use Rattle.tally.proofs.Tried.{pieced_err}
use Rattle.tally_records.proofs.Opens.{value_key}
use Rattle.tally_records.proofs.Values.{value_tail, value_cut, value_within, value_empty, value_standing, value_valued, value_long, value_whole_lem}
use Rattle.check_records.proofs.value_at.Goals as goal

pub returns-in_err-field : goal.returns-in_err-field
returns-in_err-field c = λ seen q. pieced_err _ _ c.from_residual.ensures ∙ value_tail q _ _ (value_cut _ _ c.field_of.ensures _ seen c.in_err-field.was)

pub returns-then-field-eq0 : goal.returns-then-field-eq0
returns-then-field-eq0 c = λ seen q. value_tail q _ _ (value_empty _ _ c.field_of.ensures c.in_ok-field.was _ seen c.if-field-eq0.true)

pub is_seen-dup-requires : goal.is_seen-dup-requires
is_seen-dup-requires c = (c.requires.within, c.requires.cleared, value_key _ c.args.s.now c.args.p c.field_of.ensures c.in_ok-field.was c.requires.marked)

pub returns-in_err-standing_of : goal.returns-in_err-standing_of
returns-in_err-standing_of c =
    λ seen q. pieced_err _ _ c.from_residual-in_err-standing_of.ensures ∙ value_tail q _ _ (value_standing _ _ c.field_of.ensures c.in_ok-field.was _ seen c.if-field-eq0.false
    (c.standing_of.ensures seen (c.is_seen-dup.ensures seen q) (sym q.first)) c.in_err-standing_of.was)

pub slice_bounds-v-end : goal.slice_bounds-v-end
slice_bounds-v-end c = value_within (take (length c.args.s.now - c.args.p) (drop c.args.p c.args.s.now)) _ c.field_of.ensures c.in_ok-field.was

pub overflow_add-v : goal.overflow_add-v
overflow_add-v c = omega (arith, slice_bounds-v-end c)

pub returns-in_err-valued_of : goal.returns-in_err-valued_of
returns-in_err-valued_of c =
    λ seen q. pieced_err _ _ c.from_residual-in_err-valued_of.ensures ∙ value_tail q _ _ (value_valued _ _ c.field_of.ensures c.in_ok-field.was _ seen c.if-field-eq0.false
    (c.standing_of.ensures seen (c.is_seen-dup.ensures seen q) (sym q.first)) c.in_ok-standing_of.was c.rule_of-rule.ensures c.valued_of.ensures c.in_err-valued_of.was)

pub returns-then-short-field : goal.returns-then-short-field
returns-then-short-field c =
    λ seen q. value_tail q _ _ (value_long _ _ c.field_of.ensures c.in_ok-field.was _ seen c.if-field-eq0.false
    (c.standing_of.ensures seen (c.is_seen-dup.ensures seen q) (sym q.first)) c.in_ok-standing_of.was c.rule_of-rule.ensures c.valued_of.ensures c.in_ok-valued_of.was
    c.short_size-short.ensures c.if-short-field.true)

pub returns : goal.returns
returns c =
    λ seen q. value_tail q _ _ (value_whole_lem _ _ c.field_of.ensures c.in_ok-field.was _ seen c.if-field-eq0.false
    (c.standing_of.ensures seen (c.is_seen-dup.ensures seen q) (sym q.first)) c.in_ok-standing_of.was c.rule_of-rule.ensures c.valued_of.ensures c.in_ok-valued_of.was
    c.short_size-short.ensures c.if-short-field.false)
