-- `quick_records::quick::glance_rising` meets its contract: each turn is a turn of the walk.
use Rattle.quick_records.proofs.Glances.{rising_more}
use Rattle.quick_records.proofs.quick.glance_rising.Goals as goal

pub loop-told-preserved : goal.loop-told-preserved
loop-told-preserved c = rising_more _ _ _ _ _ _ _ c.loop-told.invariant _ _ c.in-Some.ensures c.requires.1 (λ i. (c.type_inv.s i).fits) c.requires.0 c.bit_of-held.ensures
