-- `check_packet::start_of` meets its contract, by the form.
use Rattle.check_packet.proofs.start_of.Goals as goal

pub returns-then-alone : goal.returns-then-alone
returns-then-alone c = rw c.if-alone.true
