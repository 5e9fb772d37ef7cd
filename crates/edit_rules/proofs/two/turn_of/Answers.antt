-- `edit_rules::two::turn_of` meets its contract.
use Rattle.format.specs.Table.{pack}
use Rattle.items.specs.Meet.{form_of}
use Rattle.edit_rules.proofs.Rules.{removed, absent, put_turned}
use Rattle.edit_rules.proofs.two.turn_of.Goals as goal

pub returns-then-stands : goal.returns-then-stands
returns-then-stands c = let i = c.args in removed (form_of i.alone) pack i.c i.v.now c.if-c.true c.if-stands.true

pub returns-then-c : goal.returns-then-c
returns-then-c c = let i = c.args in absent (form_of i.alone) pack i.c i.v.now c.if-c.true c.if-stands.false

pub returns : goal.returns
returns c = let i = c.args in put_turned (form_of i.alone) pack i.c i.v.now c.if-c.false i.stands c.put_size.result c.put_size.ensures
