-- A turn of the two walks as the code makes it, by the record, or the target, that it has read.
use Rattle.std.proofs.Common.{◌≡◌, ℕ, ◌+◌, ◌<◌, ◌≤◌, ◌^◌, Bool, true, false, ◌&&◌, eqb, List, Result, Ok, Err, length, drop, sym, ap, ◌∙◌}
use Rattle.format.specs.Coding.{Bytes}
use Rattle.format.specs.Sheet.{TG, is}
use Rattle.format.specs.Table.{Form}
use Rattle.coding.specs.declared.refusals.Fault.{Fault}
use Rattle.coding.specs.declared.refusals.Refusal.{Refusal}
use Rattle.coding.specs.Refusals.{number, placed}
use Rattle.items.specs.Meet.{level_of}
use Rattle.tally.specs.declared.Piece.{Piece}
use Rattle.tally.specs.declared.stages.Stage.{Stage}
use Rattle.tally.specs.Pieces.{Good, Bad}
use Rattle.tally.specs.Pieces as spec
use Rattle.tally.specs.Meet.{pieced, Within}
use Rattle.tally.proofs.Tried.{placed_so, placed_says}
use Rattle.tally.proofs.Turns.{turn_over}
use Rattle.tally_records.specs.Meet.{IsPart, IsTarget, more_at, records_walk, targets_walk}
use Rattle.tally_records.specs.Going.{RecordsFrom, TargetsFrom}
use Rattle.tally_records.proofs.PartTurns.{PartAt, piece_fault, series_room}
use Rattle.tally_records.proofs.TargetTurns.{TargetAt, head_fault, target_room}

-- ---- a record of a level; x: the level goes on

module _ (b : Bool) (f : Form) {s : List ℕ} {q : Stage} (g : RecordsFrom b f s q) (h : q.at < length s) {x : Bool} (ex : x ≡ more_at (level_of b) (drop q.at s)) where
  pub part_over : x ≡ false → (Good q.sizes q.held ≡ records_walk (level_of b) f s) × Within (Good q.sizes q.held) (length s)
  part_over tx = turn_over g h (sym ex ∙ tx)

  module _ (tx : x ≡ true) (r : Result Piece Refusal) (er : IsPart b f s q.at q.top q.low (pieced r)) {e : Result Piece Fault} (ee : e ≡ placed q.at r) where
    pub part_stop : {d : Fault} → e ≡ Err d → {w : spec.Walked} → w ≡ Bad (number d.refusal) d.place → (w ≡ records_walk (level_of b) f s) × Within w (length s)
    part_stop t ew = let (_, a, z) = placed_says q.at r ee t ew in piece_fault b f g h (sym ex ∙ tx) er (ap pieced a) z

    module _ {a : Piece} (te : e ≡ Ok a) (bytes : Bytes s) (most : length s ≤ 65536) where
      pub part_here : PartAt b f s q a.tag a.from a.size a.short
      part_here = record { going = g; here = h; more = sym ex ∙ tx; told = λ seen past. sym (ap pieced (placed_so q.at r ee te)) ∙ er seen past; bytes = bytes; most = most }

      -- y: it is the series
      pub part_room : {y : Bool} → y ≡ (b && eqb a.tag 101) → y ≡ true → q.at + 2 ≤ length s
      part_room ey ty = series_room part_here ey ty

-- ---- a target of the series; x: another stands next

module _ (f : Form) {s : List ℕ} {q : Stage} (g : TargetsFrom f s q) (h : q.at < length s) {x : Bool} (ex : x ≡ is TG (drop q.at s)) where
  pub target_over : x ≡ false → (Good q.sizes q.held ≡ targets_walk f s) × Within (Good q.sizes q.held) (length s)
  target_over tx = turn_over g h (sym ex ∙ tx)

  module _ (tx : x ≡ true) (r : Result Piece Refusal) (er : IsTarget s q.at q.top q.low (pieced r)) {e : Result Piece Fault} (ee : e ≡ placed q.at r) where
    pub target_stop : {d : Fault} → e ≡ Err d → {w : spec.Walked} → w ≡ Bad (number d.refusal) d.place → (w ≡ targets_walk f s) × Within w (length s)
    target_stop t ew = let (_, a, z) = placed_says q.at r ee t ew in head_fault f g h (sym ex ∙ tx) er (ap pieced a) z

    module _ {a : Piece} (te : e ≡ Ok a) (bytes : Bytes s) (most : length s ≤ 65536) where
      pub target_here : TargetAt f s q a.tag a.from a.size a.short
      target_here = record { going = g; here = h; more = sym ex ∙ tx; told = λ seen past. sym (ap pieced (placed_so q.at r ee te)) ∙ er seen past; bytes = bytes; most = most }

      pub target_ten : q.at + 10 ≤ length s
      target_ten = (target_room target_here).0

      pub target_low : a.tag < 2 ^ 63
      target_low = (target_room target_here).1

pub ruleset turns = (part_over, part_room, target_over, target_ten, target_low)
