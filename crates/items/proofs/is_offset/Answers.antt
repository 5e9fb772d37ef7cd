-- `items::is_offset` meets its contract.
use Rattle.items.proofs.Tests.{offset_under, offset_over, offset_some}
use Rattle.items.proofs.is_offset.Goals as goal

pub returns-then-tag-lt10 : goal.returns-then-tag-lt10
returns-then-tag-lt10 c = offset_under _ c.if-tag-lt10.true

pub returns-then-tag-gt16 : goal.returns-then-tag-gt16
returns-then-tag-gt16 c = offset_over _ c.if-tag-gt16.true

pub returns : goal.returns
returns c = offset_some _ c.if-tag-lt10.false c.if-tag-gt16.false
