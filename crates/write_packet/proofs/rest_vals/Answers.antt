-- `write_packet::rest_vals` meets its contract: each turn stores what one record of a target is in the packet.
use Rattle.write_packet.proofs.Turns.{rest_begin, rest_asked, rest_over}
use Rattle.write_packet.proofs.rest_vals.Goals as goal

pub loop-tag-init : goal.loop-tag-init
loop-tag-init c = rest_begin _ _ c.requires.2

pub put_short-k-requires : goal.put_short-k-requires
put_short-k-requires c = rest_asked c.loop-tag.invariant c.is_mark.ensures c.loop-tag-test.true c.two_at-tag.ensures c.two_at-n.ensures

pub returns : goal.returns
returns c = rest_over c.loop-tag.invariant c.is_mark.ensures c.loop-tag-test.false
