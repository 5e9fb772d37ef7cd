-- The turn over the series that stands next in the set: it is read as the walk over the set's records reads it.
use mathlib.Core.Path.{◌≡◌, refl, sym, ap, ◌∙◌}
use Prim.Native.Nat.{ℕ, ◌+◌, ◌≤◌}
use native.Mathlib.Omega.{arith}
use mathlib.Core.Bool.{true}
use Rattle.std.proofs.Common.{Ok}
use mathlib.Core.List.{List}
use lib.ListN.{length, drop, length-drop}
use lib.Dec.{eqb}
use lib.Bits.{or_zero_r}
use Rattle.format.specs.Coding.{Bytes}
use Rattle.format.specs.Table.{Form, set, may_stand}
use Rattle.format.specs.Sheet.{IT, TS, TG, is}
use Rattle.format.proofs.Sheets.Values.{mark_says}
use Rattle.coding.proofs.Rooms.{tail_part}
use Rattle.items.proofs.Tests.{standing_0}
use Rattle.tally.specs.Pieces as piece
use Rattle.tally.specs.declared.stages.Stage.{Stage}
use Rattle.tally.specs.Pieces.{Walked}
use Rattle.tally.specs.Pieces.{Good}
use Rattle.tally.specs.Meet.{plus_sizes, series_sizes, series_from, Small, Within}
use Rattle.tally.specs.Going.{stage_at}
use Rattle.tally.proofs.Walks.{few_more}
use Rattle.tally.proofs.Turns.{told_as, going_between, turn_done}
use Rattle.tally.proofs.Begins.{begun_later}
use Rattle.tally_records.specs.Meet.{IsPart, records_walk, targets_walk}
use Rattle.tally_records.specs.Going.{After}
use Rattle.tally_records.proofs.Opens.{series_whole_lem, part_series}
use Rattle.tally_records.proofs.PartTurns.{ts_room, targets_at, PartAt, PartTold, series_told, part_asks, part_more}
use Rattle.quick_records.specs.Going.{TargetsPassed}
use Rattle.check_sheet.specs.Sets.{SetAsked, SeriesNext}

module _ {f : Form} {s : List ℕ} {q : Stage} (k : SetAsked f s q) (n : SeriesNext s q) (bytes : Bytes s) where
  pub room : q.at + 2 ≤ length s
  room = ts_room s q.at n.marked

  targets_long : length (targets_at s q.at) + (q.at + 2) ≡ length s
  targets_long = omega (arith, ap length (tail_part (q.at + 2) s), length-drop (q.at + 2) s, room)

  pub targets_small : length (targets_at s q.at) ≤ 65536
  targets_small = omega (arith, targets_long, k.most)

  pub targets_open : is TG (targets_at s q.at) ≡ true
  targets_open = ap (is TG) (tail_part (q.at + 2) s) ∙ n.opens

  series_piece_lem : IsPart true f s q.at q.top q.low (piece.Whole 101 2 0 0)
  unfolding may_stand
  series_piece_lem seen past =
      part_series f seen (drop q.at s) {b = true} refl {x = is IT (drop q.at s)} refl (ap (is IT) (mark_says TS (drop q.at s) n.marked)) {y = is TS (drop q.at s)} refl n.marked
      (series_whole_lem f s q.at {x = is TG (drop (q.at + 2) s)} refl seen n.opens {k = Ok tt}
      (standing_0 set f seen 101 true (sym (past.under 101 n.above)) refl (eqb q.at 0) (sym past.first) (sym (begun_later true f q.at 101 n.later))) refl)

  pub series_part : PartAt true f s q 101 2 0 0
  series_part = record {
    going = k.going;
    here = omega (arith, room);
    more = refl;
    told = series_piece_lem;
    bytes = bytes;
    most = k.most;
  }

  -- y is the answer on its targets, w on it
  pub series_is : {y : Walked} → (y ≡ targets_walk f (targets_at s q.at)) × Within y (length (targets_at s q.at)) → {w : Walked} → w ≡ series_from 2 y → PartTold series_part w
  series_is ey ew = series_told series_part {x = true} refl refl ey ew

  -- all its targets are told at a glance, to the set's end
  module _ {d : Stage} (t : TargetsPassed f (targets_at s q.at) d) (all : d.at ≡ length (targets_at s q.at)) where
    told : PartTold series_part (Good (series_sizes d.sizes) 0)
    told = series_is (turn_done t.0 (omega (arith, all))) refl

    all_small : Small d.sizes
    all_small = few_more d.sizes d.at 65536 (omega (arith, all, targets_small)) t.0.few

    pub all_asks : Small d.sizes × Small q.sizes × Small (series_sizes d.sizes)
    all_asks = let (a, b, _) = part_asks series_part told refl in (all_small, a, b)

    after_all : {r : Stage} → r ≡ stage_at (length s) (plus_sizes q.sizes (series_sizes d.sizes)) q.held 101 q.low → After q 101 (series_sizes d.sizes) 0 r
    after_all e = rw e (record {
      at_is = omega (arith, t.2, all, targets_long);
      sizes_are = refl;
      held_is = sym (or_zero_r q.held);
      over = (omega (arith, n.above), omega arith);
      under = (omega arith, omega (arith, going_between k.going n.later, n.above));
    })

    pub all_walked : {r : Stage} → r ≡ stage_at (length s) (plus_sizes q.sizes (series_sizes d.sizes)) q.held 101 q.low → {v : Walked} → v ≡ Good r.sizes r.held
        → (v ≡ records_walk set f s) × Within v (length s)
    all_walked e ev = let a = after_all e in told_as (length s) ev (turn_done (part_more series_part told refl a) (omega (arith, a.at_is, t.2, all, targets_long)))
