-- The walks over a level's records and over the series' targets while they go.
use Rattle.std.specs.Prelude.{◌≡◌, Bool, true, false, ℕ, ◌+◌, ◌≤◌, List}
use Rattle.std.specs.Int.Bits.{bit_or}
use Rattle.format.specs.Table.{Form}
use Rattle.format.specs.Sheet.{tag_of_part, id_of_target, TG, is, target_at}
use Rattle.items.specs.Meet.{level_of}
use Rattle.heads.specs.Meet.{peek}
use Rattle.tally.specs.declared.Sizes.{Sizes}
use Rattle.tally.specs.declared.stages.Stage.{Stage}
use Rattle.tally.specs.Meet.{plus_sizes, bit_of, weight_of_target}
use Rattle.tally.specs.Going.{Going}
use Rattle.tally_records.specs.Meet.{more_at, part_step, weight_at, records_walk, targets_walk}

abbrev pub RecordsGoing : Bool → Form → List ℕ → ℕ → Sizes → ℕ → ℕ → ℕ → Type 0
RecordsGoing b f s p a m top low =
    Going (peek true false b) (more_at (level_of b)) (weight_at (level_of b)) (λ x. bit_of (tag_of_part x)) tag_of_part (part_step (level_of b) f) (records_walk (level_of b) f s) s p a m top low

abbrev pub TargetsGoing : Form → List ℕ → ℕ → Sizes → ℕ → ℕ → ℕ → Type 0
TargetsGoing f s p a m top low = Going (peek true true false) (is TG) weight_of_target (λ t. 0) id_of_target (target_at f) (targets_walk f s) s p a m top low

-- the same from a stage on
abbrev pub RecordsFrom : Bool → Form → List ℕ → Stage → Type 0
RecordsFrom b f s q = RecordsGoing b f s q.at q.sizes q.held q.top q.low

abbrev pub TargetsFrom : Form → List ℕ → Stage → Type 0
TargetsFrom f s q = TargetsGoing f s q.at q.sizes q.held q.top q.low

-- a stage, and that after one more with this key, of these sizes
pub record After (q : Stage) (key : ℕ) (a : Sizes) (m : ℕ) (r : Stage) : Type 0 where
  pub at_is : r.at ≡ q.at + a.sheet
  pub sizes_are : r.sizes ≡ plus_sizes q.sizes a
  pub held_is : r.held ≡ bit_or q.held m
  pub over : (q.top ≤ r.top) × (key ≤ r.top)
  pub under : (r.low ≤ q.low) × (r.low ≤ key)
