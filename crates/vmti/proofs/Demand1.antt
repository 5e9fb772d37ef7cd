-- Demand 1 of the calls, from their contracts and the numbers and places of the definitions.
use mathlib.Core.List.{[]}
use lib.ListN.{length}
use Rattle.format.specs.Table.{embedded}
use Rattle.format.specs.Calls.{read, write, normalise}
use Rattle.format.specs.Edit.{the_set, edit}
use Rattle.format.specs.Targets.{add_target, drop_target}
use Rattle.format.proofs.Demands.Demand1.{numbered}
use Rattle.vmti.specs.Demand1.{Demand1}
use Rattle.answers.proofs.Given.{answered}

pub demand_1 : Demand1
demand_1 = record {
  reads = λ f packet lent a left e. answered lent left a (length packet) (read f packet) (numbered f packet the_set []).read_answers e;
  writes = λ sheet lent a left e. answered lent left a (length sheet) (write sheet) (numbered embedded sheet the_set []).write_answers e;
  normalises = λ f packet lent a left e. answered lent left a (length packet) (normalise f packet) (numbered f packet the_set []).normalise_answers e;
  edits = λ f h cs packet lent a left e. answered lent left a (length packet) (edit f h cs packet) (numbered f packet h cs).edit_answers e;
  adds = λ f packet records lent a left e. answered lent left a (length packet) (add_target f packet records) ((numbered f packet the_set []).add_answers records) e;
  drops = λ f packet id lent a left e. answered lent left a (length packet) (drop_target f packet id) ((numbered f packet the_set []).drop_answers id) e;
}
