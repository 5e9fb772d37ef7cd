-- `check_records::target_at` meets its contract: each way out is a case of `target_opens`.
use Rattle.std.proofs.Common.{[], arith}
use Rattle.tally_records.proofs.Opens.{target_key, target_cut, target_high, target_again, target_whole_lem}
use Rattle.check_records.proofs.target_at.Goals as goal

pub returns-then-s-p-lt10 : goal.returns-then-s-p-lt10
returns-then-s-p-lt10 c = λ seen q. target_cut c.args.s.now c.args.p seen c.if-s-p-lt10.true

pub returns-then-larger-gt9223372036854775807 : goal.returns-then-larger-gt9223372036854775807
returns-then-larger-gt9223372036854775807 c =
    λ seen q. target_high c.args.s.now c.args.p seen c.if-s-p-lt10.false c.eight_of-id.ensures (c.larger.ensures.below _ c.requires.2) c.if-larger-gt9223372036854775807.true

pub is_seen-requires : goal.is_seen-requires
is_seen-requires c = (c.requires.0, c.requires.1, target_key c.args.s.now c.args.p [] c.if-s-p-lt10.false c.eight_of-id.ensures)

pub returns-then-is_seen : goal.returns-then-is_seen
returns-then-is_seen c =
    λ seen q. target_again c.args.s.now c.args.p seen c.if-s-p-lt10.false c.eight_of-id.ensures
    (omega (arith, c.larger.ensures.over.1, c.if-larger-gt9223372036854775807.false)) (c.is_seen.ensures seen q) c.if-is_seen.true

pub returns : goal.returns
returns c =
    λ seen q. target_whole_lem c.args.s.now c.args.p seen c.if-s-p-lt10.false c.eight_of-id.ensures
    (omega (arith, c.larger.ensures.over.1, c.if-larger-gt9223372036854775807.false)) (c.is_seen.ensures seen q) c.if-is_seen.false
