-- `edit_rules::ending_fault` meets its contract.
use Rattle.items.specs.Meet.{form_of}
use Rattle.edit_rules.proofs.Ends.{set_end, pack_parts, pack_stays}
use Rattle.edit_rules.proofs.ending_fault.Goals as goal

pub returns-then-set : goal.returns-then-set
returns-then-set c = let i = c.args in set_end (form_of i.alone) i.a i.b c.if-set.true c.lost_fault.result c.lost_fault.ensures

pub returns-then-parted : goal.returns-then-parted
returns-then-parted c = let i = c.args in pack_parts (form_of i.alone) i.a i.b c.if-set.false c.parted.ensures c.if-parted.true

pub returns : goal.returns
returns c =
    let i = c.args in
    pack_stays (form_of i.alone) i.a i.b c.if-set.false c.parted.ensures c.if-parted.false c.lost_fault-2.result c.lost_fault-2.ensures
