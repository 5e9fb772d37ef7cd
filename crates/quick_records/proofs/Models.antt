-- A target's records as a model: what is laid out as they are is walked as they are, and a target that holds such records is walked.
use Rattle.std.proofs.Common.{◌≡◌, ℕ, ◌+◌, ◌-◌, ◌*◌, ◌<◌, ◌≤◌, Bool, true, false, ltb, List, length, take, drop, sym, refl, arith, length-drop, ltb-false, ltb-true}
use Rattle.format.specs.Answer.{got}
use Rattle.format.specs.Coding.{Bytes, oid_bytes}
use Rattle.format.specs.Sheet.{TG, is}
use Rattle.format.specs.Table.{pack}
use Rattle.format.proofs.Words.Bytes.{bytes_drop}
use Rattle.coding.proofs.Rooms.{tail_part}
use Rattle.items.specs.Meet.{form_of}
use Rattle.heads.specs.Meet.{peek}
use Rattle.tally.specs.declared.stages.Stage.{Stage}
use Rattle.quick_packs.specs.declared.Model.{Model}
use Rattle.tally.specs.Pieces.{Good}
use Rattle.tally.specs.declared.Sizes.{Sizes}
use Rattle.tally.specs.Meet.{sizes, pack_sizes, ended_by, Within}
use Rattle.tally.specs.Going.{stage_at}
use Rattle.quick_packs.specs.Packs.{As}
use Rattle.tally.proofs.Turns.{turn_done}
use Rattle.tally_records.specs.Meet.{records_walk}
use Rattle.tally_records.specs.Going.{RecordsGoing, TargetsGoing, After}
use Rattle.quick_records.specs.Targets.{Laid, Held, Over, Modelled, ModelAt}
use Rattle.quick_records.proofs.Glances.{passed_plus}
use Rattle.tally_records.proofs.TargetTurns.{TargetAt, records_over, lent, lent_long, lent_over, target_looks, target_more}

-- how large what it is a model of can be
pub model_room : {alone : Bool} {masks s : List ℕ} {from : ℕ} {m : Model} → ModelAt alone masks s from m → (4 * m.rows ≤ m.size + 4) × (from + m.size ≤ length s)
model_room a = (omega (arith, a.held.rows_are, a.held.few), a.over.within)

-- records from one place on
module _ (alone : Bool) (s : List ℕ) (from : ℕ) {masks : List ℕ} {q : Stage} (l : Laid (form_of alone) masks (drop from s) q) (ends : ended_by (form_of alone) q.held ≡ 0) where
  holds : (b : List ℕ) → RecordsGoing false (form_of alone) b q.at q.sizes q.held q.top q.low → Held alone b q.at (1 + q.sizes.rows)
  holds b g = record { count = q.sizes.rows; held = q.held; top = q.top; low = q.low; going = rw (← l.sizes_are) g; few = l.few; rows_are = refl; ends = ends }

  pub records_held : Held alone (drop from s) q.at (1 + q.sizes.rows)
  records_held = holds (drop from s) l.own

  pub records_model : length masks ≡ 160 → from ≤ length s → Modelled alone masks s (record { from = from; size = q.at; rows = 1 + q.sizes.rows })
  records_model long within = record { long = long; within = within; held = λ r b bytes most to h. holds b (l.walked r b bytes most to h) }

-- as the code has them, where a target is over at their end
pub laid_model : {alone : Bool} {s masks : List ℕ} {from : ℕ} {q : Stage} → Laid (form_of alone) masks (take (length s - from) (drop from s)) q → 0 ≡ ended_by (form_of alone) q.held → length masks ≡ 160 → from ≤ length s
    → (from + q.at < length s → is TG (drop (from + q.at) s) ≡ true) → ModelAt alone masks s from (record { from = from; size = q.at; rows = 1 + q.sizes.rows })
laid_model {alone} {s} {masks} {from} {q} e ends long within over =
    let l : Laid (form_of alone) masks (drop from s) q = rw tail_part at e in
    record {
      modelled = records_model alone s from l (sym ends) long within;
      before = omega arith;
      held = records_held alone s from l (sym ends);
      over = record { within = omega (arith, l.own.to, length-drop from s); next = over };
    }

-- records laid out as the model's
pub as_held : {alone : Bool} {masks s : List ℕ} {m : Model} → Modelled alone masks s m → (from : ℕ) → Bytes s → length s ≤ 65536 → As masks s m from → Held alone (drop from s) m.size m.rows
as_held {s = s} l from bytes most a = l.held a.small (drop from s) (bytes_drop from s bytes) (omega (arith, length-drop from s, most)) (omega (arith, length-drop from s, a.within)) a.alike

pub as_model : {alone : Bool} {masks s : List ℕ} {m : Model} {from : ℕ} → Modelled alone masks s m × (m.from ≤ from) → Bytes s → length s ≤ 65536 → As masks s m from × Over s (from + m.size) → ModelAt alone masks s from m
as_model {from = from} l bytes most a = record { modelled = l.0; before = l.1; held = as_held l.0 from bytes most a.0; over = a.1 }

-- a target that holds such, in the series; id takes w bytes in a packet
module _ {alone : Bool} {s : List ℕ} {p rows normal top low id a b c : ℕ} (i : TargetAt (form_of alone) s (stage_at p (sizes p rows normal 0) 0 top low) id a b c) {size r : ℕ}
    (h : Held alone (drop (p + 10) s) size r) (over : Over s (p + 10 + size)) where
  abbrev inner : Sizes
  inner = sizes size h.count (size - 4 * h.count) 0

  walked : (Good inner h.held ≡ records_walk pack (form_of alone) (lent i)) × Within (Good inner h.held) (length (lent i))
  walked = go (ltb (p + 10 + size) (length s)) refl
    where
      going : RecordsGoing false (form_of alone) (lent i) size inner h.held h.top h.low
      going = rw tail_part h.going

      go : (x : Bool) → ltb (p + 10 + size) (length s) ≡ x → (Good inner h.held ≡ records_walk pack (form_of alone) (lent i)) × Within (Good inner h.held) (length (lent i))
      go true e = records_over going (lent_over i size (over.next (ltb-true (p + 10 + size) (length s) e)))
      go false e = turn_done going (omega (arith, lent_long i, ltb-false (p + 10 + size) (length s) e))

  pub held_looks : peek true true false (drop p s) ≡ got id (10 + size)
  held_looks = target_looks i walked refl (sym h.ends) refl

  pub held_more : {w : ℕ} → (w ≡ length (oid_bytes id)) × (w ≤ 9) → {body : ℕ} → body ≡ w + (size + 4 - 4 * r) → body ≤ 127 → {top' low' : ℕ} → (top ≤ top') × (id ≤ top') → (low' ≤ low) × (low' ≤ id)
      → TargetsGoing (form_of alone) s (p + 10 + size) (sizes (p + 10 + size) (rows + r) (normal + 1 + body) 0) 0 top' low'
  held_more {w = w} ew {body = body} eb few {top' = top'} {low' = low'} over_top Under-low =
      let x : rows + r ≡ rows + 1 + h.count = omega (arith, h.rows_are) in
      let y : body ≡ w + (size - 4 * h.count) = omega (arith, h.rows_are, h.few, eb) in
      let after : After (stage_at p (sizes p rows normal 0) 0 top low) id (pack_sizes w inner) 0 (stage_at (p + 10 + size) (sizes (p + 10 + size) (rows + r) (normal + 1 + body) 0) 0 top' low')
      = record {
        at_is = omega arith;
        sizes_are = rw (x, y) (passed_plus p rows normal w inner (omega (arith, y, few)));
        held_is = refl;
        over = over_top;
        under = Under-low;
      } in
      target_more i walked refl ew refl (sym h.ends) refl after
