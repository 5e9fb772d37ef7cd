-- The turns over a level's records: what the code's answers on one part say.
use mathlib.Core.Path.{◌≡◌, refl, sym, ap, ◌∙◌, subst}
use Prim.Native.Nat.{ℕ, ◌+◌, ◌-◌, ◌≤◌, ◌<◌}
use native.Mathlib.Omega.{arith}
use native.Mathlib.Nat.{add-zero}
use mathlib.Core.Bool.{Bool, true, false, ◌&&◌}
use mathlib.Core.List.{List}
use lib.ListN.{length, take, drop, length-drop}
use lib.Seq.{drop-drop}
use lib.Dec.{eqb}
use Rattle.format.specs.Answer.{ok, refused, got}
use Rattle.format.specs.Coding.{Bytes, oid_bytes}
use Rattle.format.specs.Table.{Form, Level, is_set}
use Rattle.format.specs.Run.{run}
use Rattle.format.specs.Sheet.{one, targets, tag_of_part, id_of_target, TS, TG, is, target_at}
use Rattle.format.proofs.Words.Answers.{after_ok}
use Rattle.format.proofs.Words.Bytes.{bytes_drop}
use Rattle.coding.proofs.Rooms.{tail_part}
use Rattle.coding.proofs.Counts.{len_most, oid_most}
use Rattle.items.specs.Meet.{level_of}
use Rattle.items.proofs.Tests.{bind_so, bind_not}
use Rattle.heads.specs.Meet.{peek}
use Rattle.heads.proofs.Spans.{is_room}
use Rattle.heads.proofs.SheetRuns.{series_peek}
use Rattle.tally.specs.Pieces.{Piece}
use Rattle.tally.specs.Pieces as piece
use Rattle.tally.specs.declared.Sizes.{Sizes}
use Rattle.tally.specs.declared.stages.Stage.{Stage}
use Rattle.tally.specs.Pieces.{Walked}
use Rattle.tally.specs.Pieces.{Good, Bad}
use Rattle.tally.specs.Meet.{sizes, no_sizes, lengthened, item_sizes, series_sizes, weight_of_target, bit_of, series_from, later_by, Few, Small, Within}
use Rattle.tally.proofs.Walks.{few_more, going_start}
use Rattle.tally.proofs.Series.{after_not}
use Rattle.tally.proofs.ItemTurns.{level_is}
use Rattle.tally.proofs.Turns.{Reads, within_of, turn_bad, turn_more}
use Rattle.tally_records.specs.Meet.{part_piece, IsPart, more_at, part_step, weight_at, records_walk, targets_walk}
use Rattle.tally_records.specs.Going.{RecordsGoing, RecordsFrom, After}
use Rattle.tally_records.proofs.Parts.{part_fault, ValueStood, value_stood, SeriesStood, series_stood}
use Rattle.tally.proofs.Maps.{walked_good, walked_bad}
use Rattle.tally_records.proofs.Runs.{targets_used, slim_targets, slim_series}

pub records_start : (b : Bool) (f : Form) (s : List ℕ) {low : ℕ} → RecordsGoing b f s 0 no_sizes 0 0 low
unfolding records_walk
records_start b f s = going_start _ _ _ _ _ _ _ s refl

-- ---- what one part says

-- it was read at u, and takes as many bytes as it adds to the sheet
pub record PartReads (b : Bool) (f : Form) (seen u : List ℕ) (tag : ℕ) (a : Sizes) (m : ℕ) : Type 0 where
  pub reads : Reads (weight_at (level_of b)) (λ x. bit_of (tag_of_part x)) tag_of_part (part_step (level_of b) f seen u) tag a.sheet a m
  pub peeks : peek true false b u ≡ got tag a.sheet
  pub some : 0 < a.sheet
  pub room : a.sheet ≤ length u

-- w is the code's answer on it
pub record Told (b : Bool) (f : Form) (seen u : List ℕ) (tag : ℕ) (w : Walked) : Type 0 where
  pub bad : (k q : ℕ) → w ≡ Bad k q → (part_step (level_of b) f seen u ≡ refused k q) × (q ≤ length u)
  pub good : (a : Sizes) (m : ℕ) → w ≡ Good a m → PartReads b f seen u tag a m

told_good : {b : Bool} {f : Form} {seen u : List ℕ} {tag : ℕ} {a : Sizes} {m : ℕ} → PartReads b f seen u tag a m → Told b f seen u tag (Good a m)
told_good {b} {f} {seen} {u} {tag} {a} {m} r = record {
  bad = λ n q e. absurd (let y : ◌≡◌ {A = ℕ} 0 1 = cc in omega arith);
  good = λ c n e. let ea : a ≡ c = cc in let em : m ≡ n = cc in subst (λ x. PartReads b f seen u tag x n) ea (subst (PartReads b f seen u tag a) em r);
}

told_bad : {b : Bool} {f : Form} {seen u : List ℕ} {tag n q : ℕ} → part_step (level_of b) f seen u ≡ refused n q → q ≤ length u → Told b f seen u tag (Bad n q)
told_bad {n = n} {q = q} e l = record {
  bad = λ j r z. let en : n ≡ j = cc in let eq : q ≡ r = cc in (e ∙ rw (en, eq), omega (arith, l, eq));
  good = λ a m e. absurd (let y : ◌≡◌ {A = ℕ} 0 1 = cc in omega arith);
}

-- an item: no sheet has a checksum
pub item_is_lem : (l : Level) (tag n : ℕ) → is_set l && eqb tag 1 ≡ false → item_sizes l tag n ≡ sizes (6 + n) 1 (length (oid_bytes tag) + lengthened n) 0
unfolding item_sizes
item_is_lem l tag n z = rw (z, item_sizes)

pub told_item : (b : Bool) (f : Form) (seen u : List ℕ) (tag size : ℕ) → ValueStood b f seen u tag size → Told b f seen u tag (Good (item_sizes (level_of b) tag size) (bit_of tag))
told_item b f seen u tag size k =
    let e = item_is_lem (level_of b) tag size (rw (level_is b) k.no_seal) in
    subst (λ a. Told b f seen u tag (Good a (bit_of tag))) (sym e)
    (told_good (record {
      reads = record {
        it = one k.it;
        reads = k.step;
        key_is = k.tag_is;
        weighs = ap (λ t. item_sizes (level_of b) t (length k.it.value)) k.tag_is ∙ ap (item_sizes (level_of b) tag) k.size_is ∙ e;
        holds = ap bit_of k.tag_is;
        few = record { sheet = omega arith; rows = omega arith; normal = omega (arith, oid_most tag, len_most size); inner = omega arith };
      };
      peeks = k.peeks;
      some = omega arith;
      room = k.room;
    }))

-- the series, by the answer on its targets
told_series : (f : Form) (seen u : List ℕ) → SeriesStood f seen u → Bytes u → (x : Walked) → x ≡ targets_walk f (drop 2 u) → Within x (length (drop 2 u)) → Told true f seen u 101 (series_from 2 x)
unfolding targets_walk peek bit_of
told_series f seen u k b (Bad n q) e h =
    let r = walked_bad weight_of_target (λ t. 0) (run (is TG) id_of_target (target_at f) (drop 2 u)) n q e in
    told_bad (k.step ∙ k.rest ∙ bind_not _ _ n (2 + q) (after_not 2 _ n q r)) (omega (arith, h, length-drop 2 u, is_room _ u k.mark))
told_series f seen u k b (Good a c) e h =
    let w = walked_good weight_of_target (λ t. 0) (run (is TG) id_of_target (target_at f) (drop 2 u)) a c e in
    let (used, within) = targets_used f (drop 2 u) w.rs (bytes_drop 2 u b) w.ran in
    let took : w.rs.used ≡ a.sheet = used ∙ ap (λ (z : Sizes). z.sheet) w.weighs in
    let at = k.rest ∙ bind_so _ _ w.rs (after_ok 2 _ w.rs w.ran) ∙ ap (λ n. ok (got (targets w.rs.val) (2 + n))) took in
    told_good (record {
      reads = record {
        it = targets w.rs.val;
        reads = k.step ∙ at;
        key_is = refl;
        weighs = ap series_sizes w.weighs;
        holds = refl;
        few = slim_series a (subst (λ z. Few z z.sheet) w.weighs (slim_targets w.rs.val));
      };
      peeks = series_peek f seen u _ k.mark at;
      some = omega arith;
      room = omega (arith, within, took, length-drop 2 u, is_room _ u k.mark);
    })

-- ---- the turn

module _ (b : Bool) (f : Form) {s : List ℕ} {q : Stage} (g : RecordsFrom b f s q) (h : q.at < length s) (o : more_at (level_of b) (drop q.at s) ≡ true) {a : Piece}
    (ea : IsPart b f s q.at q.top q.low a) where
  pub piece_fault : {n : ℕ} {r : Walked} → a ≡ piece.Fault n → r ≡ Bad n q.at → (r ≡ records_walk (level_of b) f s) × Within r (length s)
  piece_fault {n = n} t e =
      turn_bad g h o n 0 (e ∙ ap (Bad n) (sym (add-zero q.at))) (part_fault f g.seen (drop q.at s) n b (sym t ∙ ea g.seen g.past)) (omega arith)

-- a `TS` at p, and its targets as the code lends them
pub ts_room : (s : List ℕ) (p : ℕ) → is TS (drop p s) ≡ true → p + 2 ≤ length s
ts_room s p m = omega (arith, is_room _ (drop p s) m, length-drop p s)

abbrev pub targets_at : List ℕ → ℕ → List ℕ
targets_at s p = take (length s - (p + 2)) (drop (p + 2) s)

-- a record that the code has read where the walk goes on, in a level of no more bytes than a sheet's
pub record PartAt (b : Bool) (f : Form) (s : List ℕ) (q : Stage) (tag from size small : ℕ) : Type 0 where
  pub going : RecordsFrom b f s q
  pub here : q.at < length s
  pub more : more_at (level_of b) (drop q.at s) ≡ true
  pub told : IsPart b f s q.at q.top q.low (piece.Whole tag from size small)
  pub bytes : Bytes s
  pub most : length s ≤ 65536

module _ {b : Bool} {f : Form} {s : List ℕ} {q : Stage} {tag from size small : ℕ} (i : PartAt b f s q tag from size small) where
  abbrev here : List ℕ
  here = drop q.at s

  is_piece : piece.Whole tag from size small ≡ part_piece (level_of b) f i.going.seen here
  is_piece = i.told i.going.seen i.going.past

  -- w is the code's answer on the part
  abbrev pub PartTold : Walked → Type 0
  PartTold w = Told b f i.going.seen here tag w

  -- x: it is the series
  module _ {x : Bool} (ex : x ≡ (b && eqb tag 101)) where
    module _ (tx : x ≡ false) where
      item_stood : ValueStood b f i.going.seen here tag size
      item_stood = value_stood b f i.going.seen here tag from size small i.more is_piece (sym ex ∙ tx)

      pub item_small : (tag ≤ 16383) × (size ≤ 65536)
      item_small = (item_stood.tag_small, omega (arith, item_stood.room, length-drop q.at s, i.most))

      pub item_told : {w : Walked} → w ≡ Good (item_sizes (level_of b) tag size) (bit_of tag) → PartTold w
      item_told ew = subst PartTold (sym ew) (told_item b f i.going.seen here tag size item_stood)

    module _ (tx : x ≡ true) where
      ts_stood : (b ≡ true) × (tag ≡ 101) × SeriesStood f i.going.seen here
      ts_stood = series_stood b f i.going.seen here tag from size small is_piece (sym ex ∙ tx)

      pub series_room : q.at + 2 ≤ length s
      series_room = ts_room s q.at ts_stood.2.mark

      -- its targets, as document 01 has them
      lent_is : targets_at s q.at ≡ drop 2 here
      lent_is = tail_part (q.at + 2) s ∙ sym (drop-drop 2 q.at s)

      pub lent_opens : is TG (targets_at s q.at) ≡ true
      lent_opens = ap (is TG) lent_is ∙ ts_stood.2.opens

      pub lent_small : length (targets_at s q.at) ≤ 65536
      lent_small = omega (arith, ap length lent_is, length-drop 2 here, length-drop q.at s, i.most)

      pub series_told : {y : Walked} → (y ≡ targets_walk f (targets_at s q.at)) × Within y (length (targets_at s q.at)) → {w : Walked} → w ≡ series_from 2 y → PartTold w
      series_told {y = y} ey ew =
          let told = told_series f i.going.seen here ts_stood.2 (bytes_drop q.at s i.bytes) y (rw lent_is at ey.0) (rw lent_is at ey.1) in
          subst PartTold (sym ew)
          (subst (λ c. Told c f i.going.seen here tag (series_from 2 y)) (sym ts_stood.0)
          (subst (λ t. Told true f i.going.seen here t (series_from 2 y)) (sym ts_stood.1) told))

  module _ {w : Walked} (k : PartTold w) where
    pub part_bad : {n j : ℕ} {r : Walked} → w ≡ Bad n j → r ≡ later_by q.at w → (r ≡ records_walk (level_of b) f s) × Within r (length s)
    part_bad {n = n} {j = j} t e =
        let (x, l) = k.bad n j t in
        turn_bad i.going i.here i.more n j (e ∙ ap (later_by q.at) t) x (omega (arith, l, length-drop q.at s, i.here))

    pub bad_within : {n j : ℕ} → w ≡ Bad n j → Within w 65536 × (q.at ≤ 65536)
    bad_within {n = n} {j = j} t = (within_of 65536 t (omega (arith, (k.bad n j t).1, length-drop q.at s, i.most)), omega (arith, i.here, i.most))

    module _ {z : Sizes} {m : ℕ} (t : w ≡ Good z m) where
      read : PartReads b f i.going.seen here tag z m
      read = k.good z m t

      room : q.at + z.sheet ≤ length s
      room = omega (arith, read.room, length-drop q.at s, i.here)

      -- what `after` asks for, and what it hands back
      pub part_asks : Small q.sizes × Small z × (q.at + z.sheet ≤ 65536)
      part_asks = (
        few_more q.sizes q.at 65536 (omega (arith, i.here, i.most)) i.going.few,
        few_more z z.sheet 65536 (omega (arith, room, i.most)) read.reads.few,
        omega (arith, room, i.most),
      )

      pub part_less : {r : Stage} → After q tag z m r → length s - r.at < length s - q.at
      part_less a = omega (arith, a.at_is, room, read.some)

      pub part_more : {r : Stage} → After q tag z m r → RecordsFrom b f s r
      part_more a = rw a.at_is (turn_more i.going i.here i.more read.reads read.peeks read.some (q.at + z.sheet) refl room a.sizes_are a.held_is a.over a.under)
