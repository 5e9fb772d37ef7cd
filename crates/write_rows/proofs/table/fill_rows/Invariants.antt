-- `write_rows::table::fill_rows` meets its contract: the first k rows are stored, and the others are as they were.
use Rattle.std.proofs.Common.{◌≡◌, take, drop}
use Rattle.write_rows.specs.Meet.{table_of}
use Rattle.write_rows.proofs.table.fill_rows.Given as goal

abbrev pub invariant-loop-k : goal.invariant-loop-k
invariant-loop-k l = (take l.k l.rows ≡ table_of l.k l.numbers) × (drop l.k l.rows ≡ drop l.k l.initial.rows)
