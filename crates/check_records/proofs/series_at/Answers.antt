-- `check_records::series_at` meets its contract: each way out is a case of `series_opens`.
use Rattle.std.proofs.Common.{sym, ◌∙◌}
use Rattle.tally.proofs.Tried.{pieced_err}
use Rattle.tally_records.proofs.Opens.{series_key, series_alone, series_standing, series_whole_lem}
use Rattle.check_records.proofs.series_at.Goals as goal

pub returns-then-not-is_mark : goal.returns-then-not-is_mark
returns-then-not-is_mark c = λ seen q. series_alone _ c.args.s.now c.args.p c.is_mark.ensures seen c.if-not-is_mark.true

pub is_seen-dup-requires : goal.is_seen-dup-requires
is_seen-dup-requires c = (c.requires.0, c.requires.1, series_key _ c.requires.2)

pub returns-in_err-standing_of : goal.returns-in_err-standing_of
returns-in_err-standing_of c =
    λ seen q. pieced_err _ _ c.from_residual.ensures ∙ series_standing _ c.args.s.now c.args.p c.is_mark.ensures seen c.if-not-is_mark.false
    (c.standing_of.ensures seen (c.is_seen-dup.ensures seen q) (sym q.first)) c.in_err-standing_of.was

pub returns : goal.returns
returns c =
    λ seen q. series_whole_lem _ c.args.s.now c.args.p c.is_mark.ensures seen c.if-not-is_mark.false
    (c.standing_of.ensures seen (c.is_seen-dup.ensures seen q) (sym q.first)) c.in_ok-standing_of.was
