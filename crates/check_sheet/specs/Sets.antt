-- What is known of a sheet's set where its walks go on.
use Rattle.std.specs.Prelude.{◌≡◌, ℕ, ◌+◌, ◌≤◌, ◌<◌, true, List, length, drop}
use Rattle.format.specs.Table.{Form}
use Rattle.format.specs.Sheet.{TS, TG, is}
use Rattle.tally.specs.declared.stages.Stage.{Stage}
use Rattle.tally_records.specs.Going.{RecordsFrom}

pub record SetAsked (f : Form) (s : List ℕ) (q : Stage) : Type 0 where
  pub most : length s ≤ 65536
  pub going : RecordsFrom true f s q

-- a `TS` stands next, and a target in it; it is told to be new
pub record SeriesNext (s : List ℕ) (q : Stage) : Type 0 where
  pub later : 0 < q.at
  pub above : q.top < 101
  pub marked : is TS (drop q.at s) ≡ true
  pub opens : is TG (drop (q.at + 2) s) ≡ true

-- its targets, and whatever follows them
abbrev pub targets_after : List ℕ → Stage → List ℕ
targets_after s q = drop (q.at + 2) s
