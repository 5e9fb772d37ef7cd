-- A pack's items as a model: what is laid out as they are is told as they are, and a pack whose items are told is walked.
use mathlib.Core.Path.{◌≡◌, refl, sym, ap, subst, ◌∙◌}
use Prim.Native.Nat.{ℕ, ◌+◌, ◌-◌, ◌≤◌, ◌<◌}
use native.Mathlib.Omega.{arith}
use Rattle.std.proofs.Common.{Some, Result, Ok, Err}
use Rattle.std.specs.Result.{is_err}
use mathlib.Core.Bool.{Bool, true, false}
use mathlib.Core.List.{List}
use lib.ListN.{length, take, drop, length-drop}
use lib.Seq.{get_or-take, length-take-le}
use Rattle.format.specs.Coding.{Bytes, len_width}
use Rattle.format.specs.Read.{pack_head}
use Rattle.format.specs.Table.{Form, embedded}
use Rattle.format.proofs.Words.Answers.{no_bool}
use Rattle.format.proofs.Words.Bytes.{bytes_drop, bytes_take}
use Rattle.coding.specs.Alike.{AlikeTo}
use Rattle.coding.proofs.Alikes.{alike_same, alike_as}
use Rattle.coding.proofs.Counts.{len_one}
use Rattle.coding.proofs.Rooms.{tail_part}
use Rattle.coding.specs.declared.refusals.Refusal.{Refusal}
use Rattle.items.specs.Meet.{form_of}
use Rattle.heads.specs.declared.Head.{Head}
use Rattle.heads.specs.Meet.{peek, PackHeadIf}
use Rattle.tally.specs.declared.Sizes.{Sizes}
use Rattle.tally.specs.declared.stages.Stage.{Stage}
use Rattle.quick_packs.specs.declared.Model.{Model}
use Rattle.tally.specs.Going.{SeriesGoing, Reached}
use Rattle.tally.specs.Meet.{pack_sizes, plus_sizes, ended_by, unended}
use Rattle.quick_packs.specs.Packs.{Laid, Told, As, Modelled, packed_sizes, ItemsAsked, ItemsTold, Chosen}
use Rattle.quick_items.specs.Items.{told_sizes}
use Rattle.tally.proofs.Walks.{same_sizes}
use Rattle.tally.proofs.Turns.{turn_done, Fresh, reached_fresh, reach_only}
use Rattle.tally.proofs.PackTurns.{PackAt, series_start, head_stood, head_room, lent_long, pack_more}

module _ (alone : Bool) {m a : List ℕ} {q : Stage} (l : Laid (form_of alone) m a q) (all : q.at ≡ length a) (ends : ended_by (form_of alone) q.held ≡ 0) where
  pub laid_told : (b : List ℕ) → Bytes b → length b ≡ length a → AlikeTo m a b (length a) → Told alone b (1 + q.sizes.rows)
  laid_told b bytes e h = record {
    count = q.sizes.rows;
    held = q.held;
    top = q.top;
    low = q.low;
    going =
        let z : length b ≡ q.at = e ∙ sym all in
        rw (z, ← l.sizes_are) (l.walked b bytes e (rw (← all) at h));
    rows_are = refl;
    ends = ends;
  }

-- the items from one place of s to another
pub part_long : (s : List ℕ) (from next : ℕ) → from ≤ next → next ≤ length s → length (take (next - from) (drop from s)) ≡ next - from
part_long s from next ordered room = length-take-le (next - from) (drop from s) (rw length-drop (omega arith))

module _ (alone : Bool) (s : List ℕ) (from next : ℕ) {masks : List ℕ} {q : Stage} (l : Laid (form_of alone) masks (take (next - from) (drop from s)) q) (asked : ItemsAsked s from next)
    (all : q.at ≡ next - from) (ends : ended_by (form_of alone) q.held ≡ 0) where
  abbrev part : List ℕ
  part = take (next - from) (drop from s)

  long : length part ≡ next - from
  long = part_long s from next asked.ordered asked.room

  pub items_told : ItemsTold alone s from next (1 + q.sizes.rows)
  items_told = laid_told alone l (all ∙ sym long) ends part (bytes_take (next - from) (drop from s) (bytes_drop from s asked.bytes)) refl (alike_same _ _ _)

  pub items_chosen : Chosen alone masks s from next (record { from = from; size = q.at; rows = 1 + q.sizes.rows })
  items_chosen = record {
    modelled = record {
      within = omega (arith, asked.ordered, asked.room);
      told = λ b bytes e h.
          laid_told alone l (all ∙ sym long) ends b bytes (e ∙ all ∙ sym long)
          (subst (AlikeTo masks part b) (all ∙ sym long) (alike_as part b (λ i g. sym (get_or-take (next - from) (drop from s) i 0 (omega (arith, g, all)))) (λ i g. refl) h));
    };
    earlier = omega arith;
    told = items_told;
  }

-- items laid out as the model's are
pub as_model : {alone : Bool} {masks s : List ℕ} {m : Model} → Modelled alone masks s m → (from next : ℕ) → ItemsAsked s from next → m.from ≤ from → (m.size ≡ next - from) × As masks s m from
    → Chosen alone masks s from next m
as_model {masks = masks} {s = s} {m = m} l from next asked h (e, a) = record {
  modelled = l;
  earlier = h;
  told =
      l.told (take (next - from) (drop from s)) (bytes_take (next - from) (drop from s) (bytes_drop from s asked.bytes)) (part_long s from next asked.ordered asked.room ∙ sym e)
      (alike_as (drop m.from s) (take (next - from) (drop from s)) (λ i g. refl) (λ i g. sym (get_or-take (next - from) (drop from s) i 0 (omega (arith, g, e)))) a.alike);
}

-- the items of a pack whose head was read, with a byte for its length
pub items_asked : {f : Form} {s : List ℕ} {p : ℕ} {sum : Sizes} {top low k u w n : ℕ} → PackAt f s p sum top low k u w n → (w ≡ 1) × (n < 128) × (u ≤ 2) → ItemsAsked s (p + w + u) (p + w + n)
items_asked i short = record { ordered = omega (arith, (head_stood i).body); room = head_room i; few = omega (arith, short); bytes = i.bytes }

-- the sizes of one more such pack: w and n are its length's bytes and its length, u its id's bytes
packed_plus : (p rows more w n : ℕ) {u at : ℕ} {z : Sizes} → (w ≡ 1) × (n < 128) × (u ≤ 2) → u ≤ n → at ≡ n - u → z ≡ told_sizes z.rows at
    → packed_sizes (p + w + n) (rows + 1 + z.rows) (more + 5 - u) ≡ plus_sizes (packed_sizes p rows more) (pack_sizes u z)
packed_plus p rows more w n {u = u} {z = z} (ew, few, id) l e ez =
    let es = ap (λ a. a.sheet) ez in
    let en = ap (λ a. a.normal) ez in
    let one : 1 ≡ len_width (u + z.normal) = len_one (u + z.normal) (omega arith) in
    same_sizes (omega arith) (omega arith) (omega arith) refl

-- a pack whose items are told, in the series
pub told_more : {alone : Bool} {s : List ℕ} {p rows : ℕ} (more : ℕ) {top low k u w n : ℕ} → PackAt (form_of alone) s p (packed_sizes p rows more) top low k u w n → (w ≡ 1) × (n < 128) × (u ≤ 2) → {top' low' : ℕ}
    → Fresh (peek false true false) s p top low k top' low' → {r : ℕ} → Told alone (take (p + w + n - (p + w + u)) (drop (p + w + u) s)) r
    → SeriesGoing (form_of alone) s (p + w + n) (packed_sizes (p + w + n) (rows + r) (more + 5 - u)) top' low'
told_more {alone = alone} {p = p} {rows = rows} more {w = w} {n = n} i short b {r = r} t =
    let e : rows + r ≡ rows + 1 + t.count = omega (arith, t.rows_are) in
    rw e (pack_more i b.new refl (turn_done t.going (omega arith)) refl (sym t.ends) refl (packed_plus p rows more w n short (head_stood i).body (lent_long i b.new refl) refl) b.over b.under)

-- the first, whose head the code has read
pub record FirstHere (s : List ℕ) (h : Head) : Type 0 where
  pub here : 0 < length s
  pub head : PackHeadIf (Some h) s
  pub bytes : Bytes s
  pub most : length s ≤ 8192

module _ {s : List ℕ} {h : Head} (i : FirstHere s h) where
  at : (f : Form) → PackAt f s 0 (packed_sizes 0 0 0) 0 18446744073709551615 h.key h.used h.width h.size
  at f = record { going = series_start f s; here = i.here; it = Ok h; told = i.head.0 ∙ ap pack_head (sym (tail_part 0 s)); is = refl; bytes = i.bytes; most = i.most }

  short : (h.width ≡ 1) × (h.size < 128) × (h.used ≤ 2)
  short = (i.head.1, i.head.2, i.head.3)

  first : 0 + h.width ≡ h.width
  first = omega arith

  pub first_asks : ItemsAsked s (h.width + h.used) (h.width + h.size)
  first_asks = rw first at (items_asked (at embedded) short)

  module _ {alone : Bool} {r : ℕ} (t : ItemsTold alone s (h.width + h.used) (h.width + h.size) r) where
    reached : Reached 0 0 18446744073709551615 h.key h.key h.key
    reached = reach_only _ _ (omega (arith, (head_stood (at (form_of alone))).id_range))

    pub first_more : SeriesGoing (form_of alone) s (h.width + h.size) (packed_sizes (h.width + h.size) r (5 - h.used)) h.key h.key
    first_more =
        let z : 0 + r ≡ r = omega arith in
        let y : 0 + 5 - h.used ≡ 5 - h.used = omega arith in
        rw (z, y, first) at (told_more 0 (at (form_of alone)) short (reached_fresh reached) {r = r} (rw first t))

-- a pack that ends as it must
pub ends_well : (r : Result (Unit {0}) Refusal) {n : ℕ} → unended r ≡ n → false ≡ is_err r → n ≡ 0
ends_well (Ok u) e h = sym e
ends_well (Err x) e h = no_bool h
