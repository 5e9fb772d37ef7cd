-- The quick way's turns over the series and the checksum of the set: each is read as the item walk reads it.
use mathlib.Core.Path.{◌≡◌, refl, sym, ap, ◌∙◌, subst}
use Prim.Native.Nat.{ℕ, ◌+◌, ◌-◌, ◌≤◌, ◌<◌}
use native.Mathlib.Omega.{arith}
use mathlib.Core.Bool.{true, ◌&&◌}
use mathlib.Core.List.{List}
use mathlib.Core.Logic.{inl, inr}
use lib.ListN.{length, drop, take, length-drop}
use lib.Seq.{length-take-le}
use lib.Dec.{eqb}
use lib.Bits.{bit_or, or_zero_r}
use borrow.Author.Tests.{eq-eqb}
use Rattle.format.specs.Answer.{ok}
use Rattle.format.specs.Coding.{Bytes}
use Rattle.format.specs.Table.{Form, set, is_alone, B, unlisted, rules, find, rule_of, may_stand, sized, valued, short}
use Rattle.format.specs.Read.{head_of}
use Rattle.coding.proofs.Rooms.{tail_part}
use Rattle.items.proofs.Glances.{plainly, any_size}
use Rattle.heads.specs.declared.Head.{Head}
use Rattle.heads.specs.Meet.{head, item_head}
use Rattle.heads.proofs.Heads.{item_within}
use Rattle.tally.specs.declared.Sizes.{Sizes}
use Rattle.tally.specs.Pieces.{Walked}
use Rattle.tally.specs.declared.stages.Stage.{Stage}
use Rattle.tally.specs.Pieces.{Good, Bad}
use Rattle.tally.specs.Meet.{item_sizes, series_sizes, plus_sizes, bit_of, level_walk, series_walk, series_from, later_by, Small, Within}
use Rattle.tally.specs.Going.{LevelGoing, LevelTo, stage_at}
use Rattle.tally.proofs.Turns.{within_more, going_between}
use Rattle.tally.proofs.ItemTurns.{ItemAt, EntryTold, item_told, series_told, good_small, entry_bad, entry_more}
use Rattle.tally.proofs.Begins.{begun_later}
use Rattle.quick_items.proofs.Glances.{Headed, value_size, met_item}
use Rattle.check_packet.specs.Meet.{HeadRead}
use Rattle.check_packet.specs.Sets.{SeriesNext}

-- ---- their values

series_value : (v : List ℕ) → 0 < length v → (valued (rule_of set 101) v ≡ ok tt) × (short (rule_of set 101) v ≡ v)
unfolding rule_of rules find
series_value v h = plainly unlisted v h (any_size (length v) h) refl

seal_value : (v : List ℕ) → length v ≡ 2 → (valued (rule_of set 1) v ≡ ok tt) × (short (rule_of set 1) v ≡ v)
unfolding rule_of rules find sized
seal_value v e = plainly (B 2) v (omega (arith, e)) (rw e) refl

-- ---- an item of the set whose head the code has read at p

pub head_read : (s : List ℕ) (p : ℕ) (h : Head) → p < length s → ok (item_head h) ≡ head_of set (take (length s - p) (drop p s)) → HeadRead s p h
head_read s p h here e =
    let e' = rw tail_part at e in
    (here, e', omega (arith, length-drop p s, item_within (drop p s) h set e'))

pub record HeadAt (f : Form) (s : List ℕ) (p : ℕ) (sum : Sizes) (held top low tag u w n : ℕ) : Type 0 where
  pub going : LevelGoing true f s p sum held top low
  pub told : HeadRead s p (head tag u w n)
  pub bytes : Bytes s
  pub most : length s ≤ 8192

-- as the code has it at a stage
pub head_here : {f : Form} {s : List ℕ} {q : Stage} → LevelTo true f s q → {h : Head} → HeadRead s q.at h → Bytes s → length s ≤ 8192
    → HeadAt f s q.at q.sizes q.held q.top q.low h.key h.used h.width h.size
head_here g told bytes most = record { going = g; told = told; bytes = bytes; most = most }

module _ {f : Form} {s : List ℕ} {p : ℕ} {sum : Sizes} {held top low tag u w n : ℕ} (i : HeadAt f s p sum held top low tag u w n) where
  pub head_room : p + u + w + n ≤ length s
  head_room = i.told.2

  -- as the head of tag k of m bytes
  head_as : (k m : ℕ) → tag ≡ k → n ≡ m → ok (item_head (head k u w m)) ≡ head_of set (drop p s)
  head_as k m et en = rw (← et, ← en) i.told.1

  -- ---- it is the checksum, and ends the set

  module _ (alone : is_alone f ≡ true) (next : (0 < p) × (1 < low) × (tag ≡ 1) × (n ≡ 2)) (end : p + u + w + n ≡ length s) where
    seal_head : Headed true s p 1 u w 2
    seal_head = record { told = head_as 1 2 next.2 next.3 }

    seal_item : ItemAt true f s p sum held top low 1 (u + w) 2 2
    unfolding may_stand
    seal_item = met_item (record {
      going = i.going;
      here = i.told.0;
      meets = record {
        head = seal_head;
        some = omega arith;
        stands = rw (alone, eq-eqb (u + w + 2) (length (drop p s)) (omega (arith, length-drop p s, end, next.3)));
        allowed = (seal_value _ (value_size seal_head)).0;
        shortest = ap length (seal_value _ (value_size seal_head)).1 ∙ value_size seal_head;
        begins = begun_later true f p 1 next.0;
      };
      new = inr (inr next.1);
      bytes = i.bytes;
      most = i.most;
    })

    seal_told : EntryTold seal_item (Good (item_sizes set 1 2) (bit_of 1))
    seal_told = item_told seal_item {x = true && eqb 1 101} refl refl refl

    module _ {z : Sizes} (ez : z ≡ item_sizes set 1 2) where
      pub seal_sums : Small sum × Small z
      seal_sums = rw ez (good_small seal_item seal_told refl)

      pub seal_more : {sum' : Sizes} → sum' ≡ plus_sizes sum z → {m : ℕ} → m ≡ bit_of 1 → {top' : ℕ} → (top ≤ top') × (1 ≤ top') → LevelGoing true f s (p + u + w + n) sum' (bit_or held m) top' 1
      seal_more es em et =
          let e : p + u + w + n ≡ p + (u + w) + 2 = omega (arith, next.3) in
          rw e (entry_more seal_item seal_told refl (es ∙ ap (plus_sizes sum) ez) (ap (bit_or held) em) et (omega (arith, next.1), omega arith))

-- ---- the series after the items that were walked to q

-- as the code finds it
pub series_next : (s : List ℕ) (p top tag u w n : ℕ) → HeadRead s p (head tag u w n) → (0 < p) × (top < 101) × (0 < n) × (tag ≡ 101) → SeriesNext s p top (p + u + w) (p + u + w + n)
series_next s p top tag u w n h (later, new, some, is) = record {
  used = u;
  width = w;
  size = n;
  here = h.0;
  head = rw (← is) h.1;
  later = later;
  new = new;
  some = some;
  from_is = refl;
  next_is = refl;
}

pub record SeriesAt (f : Form) (s : List ℕ) (q : Stage) (from next : ℕ) : Type 0 where
  pub going : LevelTo true f s q
  pub series : SeriesNext s q.at q.top from next
  pub bytes : Bytes s
  pub most : length s ≤ 8192

-- as the code has it
pub series_here : {f : Form} {s : List ℕ} {q : Stage} {from next : ℕ} → LevelTo true f s q → SeriesNext s q.at q.top from next → Bytes s → length s ≤ 8192 → SeriesAt f s q from next
series_here g j bytes most = record { going = g; series = j; bytes = bytes; most = most }

module _ {f : Form} {s : List ℕ} {q : Stage} {from next : ℕ} (i : SeriesAt f s q from next) where
  pub series_room : (from ≤ next) × (next ≤ length s)
  series_room =
      let j = i.series in
      let l = item_within (drop q.at s) (head 101 j.used j.width j.size) set j.head in
      (omega (arith, j.next_is), omega (arith, l, length-drop q.at s, j.here, j.from_is, j.next_is))

  series_head : Headed true s q.at 101 i.series.used i.series.width i.series.size
  series_head = record { told = i.series.head }

  series_item : ItemAt true f s q.at q.sizes q.held q.top q.low 101 (i.series.used + i.series.width) i.series.size i.series.size
  unfolding may_stand
  series_item =
      let j = i.series in
      met_item (record {
        going = i.going;
        here = j.here;
        meets = record {
          head = series_head;
          some = j.some;
          stands = refl;
          allowed = (series_value _ (omega (arith, value_size series_head, j.some))).0;
          shortest = ap length (series_value _ (omega (arith, value_size series_head, j.some))).1 ∙ value_size series_head;
          begins = begun_later true f q.at 101 j.later;
        };
        new = inr (inl j.new);
        bytes = i.bytes;
        most = i.most;
      })

  abbrev packs : List ℕ
  packs = take (next - from) (drop from s)

  pub packs_long : length packs ≡ next - from
  packs_long = length-take-le (next - from) (drop from s) (rw length-drop (omega (arith, series_room)))

  -- y is what was walked of its packs
  module _ {y : Walked} (ey : (y ≡ series_walk f packs) × Within y (length packs)) where
    walked : (y ≡ series_walk f (take (q.at + (i.series.used + i.series.width) + i.series.size - (q.at + (i.series.used + i.series.width))) (drop (q.at + (i.series.used + i.series.width)) s)))
        × Within y (length (take (q.at + (i.series.used + i.series.width) + i.series.size - (q.at + (i.series.used + i.series.width))) (drop (q.at + (i.series.used + i.series.width)) s)))
    walked =
        let j = i.series in
        let e : from ≡ q.at + (j.used + j.width) = omega (arith, j.from_is) in
        let n : next ≡ q.at + (j.used + j.width) + j.size = omega (arith, j.from_is, j.next_is) in
        rw (n, e) at ey

    entry_told : EntryTold series_item (series_from (i.series.used + i.series.width) y)
    entry_told = series_told series_item {x = true} refl refl walked refl

    within : Within y 65536
    within = within_more y (length packs) 65536 (omega (arith, packs_long, series_room, i.most)) ey.1

    -- it was refused: what `later` asks for, and what it hands back
    pub refusal_asks : Within y 65536 × (from ≤ 65536)
    refusal_asks = (within, omega (arith, series_room, i.most))

    pub series_refused : {n p : ℕ} → y ≡ Bad n p → {r : Walked} → r ≡ later_by from y → (r ≡ level_walk set f s) × Within r (length s)
    series_refused {n = n} {p = p} bad {r = r} e =
        let j = i.series in
        let o : from + p ≡ q.at + (j.used + j.width + p) = omega (arith, j.from_is) in
        entry_bad series_item entry_told (ap (series_from (j.used + j.width)) bad)
        (e ∙ ap (later_by from) bad ∙ ap (Bad n) o ∙ sym (ap (λ x. later_by q.at (series_from (j.used + j.width) x)) bad))

    module _ {a : Sizes} {m : ℕ} (good : y ≡ Good a m) where
      told_so : EntryTold series_item (Good (series_sizes a) 0)
      told_so = series_told series_item {x = true} refl refl walked (ap (series_from (i.series.used + i.series.width)) (sym good))

      sums : Small q.sizes × Small (series_sizes a)
      sums = good_small series_item told_so refl

      -- what `after_series` asks for, and what it hands back
      pub series_asks : Small a × Small q.sizes × Small (series_sizes a)
      series_asks = (subst (λ x. Within x 65536) good within, sums.0, sums.1)

      pub series_goes : {r : Stage} → r ≡ stage_at next (plus_sizes q.sizes (series_sizes a)) q.held 101 q.low → LevelTo true f s r
      series_goes e =
          let j = i.series in
          let n_is : next ≡ q.at + (j.used + j.width) + j.size = omega (arith, j.from_is, j.next_is) in
          rw (e, n_is) (entry_more series_item told_so refl refl (sym (or_zero_r q.held)) (omega (arith, j.new), omega arith) (omega arith, omega (arith, going_between i.going j.later, j.new)))
