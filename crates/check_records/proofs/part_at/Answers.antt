-- `check_records::part_at` meets its contract: told at a glance, or by the mark.
use Rattle.std.proofs.Common.{refl, sym, ◌∙◌}
use Rattle.tally_records.proofs.Opens.{value_next_lem, part_next, no_value, clear_set, past_set, part_series, part_unknown}
use Rattle.quick_records.proofs.Glances.{glance_piece}
use Rattle.check_records.proofs.part_at.Goals as goal

pub returns-in-Some : goal.returns-in-Some
returns-in-Some c = λ seen q. glance_piece c.in-Some.ensures.0 c.in-Some.ensures.1 seen q

pub value_at-requires : goal.value_at-requires
value_at-requires c = record { within = c.requires.within; cleared = c.requires.cleared; marked = value_next_lem c.args.set _ c.is_value.ensures c.if-is_value.true }

pub returns-then-is_value : goal.returns-then-is_value
returns-then-is_value c = λ seen q. part_next c.args.set _ seen _ c.is_value.ensures c.if-is_value.true (c.value_at.ensures seen q)

pub series_at-requires : goal.series_at-requires
series_at-requires c =
    let (in-set, _) = no_value c.args.set _ c.is_value.ensures c.if-is_value.false in
    (c.requires.within, clear_set in-set c.requires.cleared, sym c.is_mark.ensures ∙ c.if-is_mark.true)

pub returns-then-is_mark : goal.returns-then-is_mark
returns-then-is_mark c =
    let (in-set, no_item) = no_value c.args.set _ c.is_value.ensures c.if-is_value.false in
    λ seen q. part_series _ seen _ in-set refl no_item c.is_mark.ensures c.if-is_mark.true (c.series_at.ensures seen (past_set in-set q))

pub returns : goal.returns
returns c =
    let (in-set, no_item) = no_value c.args.set _ c.is_value.ensures c.if-is_value.false in
    λ seen q. part_unknown _ seen _ in-set refl no_item c.is_mark.ensures c.if-is_mark.false
