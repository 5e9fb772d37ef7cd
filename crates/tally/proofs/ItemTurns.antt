-- The item walk's turns: what the code's answers on one item say.
use mathlib.Core.Path.{◌≡◌, refl, sym, ap, ◌∙◌, subst}
use Prim.Native.Nat.{ℕ, ◌+◌, ◌-◌, ◌≤◌, ◌<◌}
use native.Mathlib.Omega.{arith}
use native.Mathlib.Nat.{add-zero, add_assoc}
use mathlib.Core.Bool.{Bool, true, false, ◌&&◌}
use mathlib.Core.List.{List}
use lib.ListN.{length, take, drop, length-drop}
use lib.Seq.{drop-drop, length-take-le}
use lib.Dec.{eqb}
use lib.Bits.{bit_or}
use borrow.Author.Tests.{eqb-true}
use Rattle.format.specs.Answer.{ok, refused, got}
use Rattle.format.specs.Coding.{Bytes}
use Rattle.format.specs.Table.{Form, Level, set, is_set}
use Rattle.format.specs.Packet.{plain, series, tag_of_entry}
use Rattle.format.specs.Read.{item}
use Rattle.format.proofs.Words.Answers.{no_bool}
use Rattle.format.proofs.Words.Bytes.{bytes_drop}
use Rattle.items.specs.Meet.{level_of}
use Rattle.coding.proofs.Counts.{len_most}
use Rattle.heads.proofs.Heads.{mid_part}
use Rattle.tally.specs.Pieces.{Piece}
use Rattle.tally.specs.Pieces as piece
use Rattle.tally.specs.declared.Sizes.{Sizes}
use Rattle.tally.specs.Pieces.{Walked}
use Rattle.tally.specs.Pieces.{Good, Bad}
use Rattle.tally.specs.Meet.{piece_of, no_sizes, item_sizes, series_sizes, plus_sizes, weight_of_entry, step_at, bit_of, level_walk, series_walk, series_from, later_by, Few, Small, Within}
use Rattle.tally.specs.Going.{LevelGoing, ItemRead}
use Rattle.tally.proofs.Walks.{few_more, going_start}
use Rattle.tally.proofs.Levels.{Stood, stood, step_fault, read_peek, plain_step, plain_weight, plain_few, series_bad, series_good}
use Rattle.tally.proofs.Turns.{Reads, within_of, within_more, turn_bad, turn_more}

pub level_start : (b : Bool) (f : Form) (s : List ℕ) {low : ℕ} → LevelGoing b f s 0 no_sizes 0 0 low
unfolding level_walk
level_start b f s = going_start _ _ _ _ _ _ _ s refl

-- ---- what one entry says

abbrev EntryReads : Level → Form → List ℕ → List ℕ → ℕ → ℕ → Sizes → ℕ → Type 0
EntryReads l f seen u tag n a m = Reads (weight_of_entry l) (λ e. bit_of (tag_of_entry e)) tag_of_entry (step_at l f seen u) tag n a m

-- w is the code's answer on an entry of n bytes
pub record Told (l : Level) (f : Form) (seen u : List ℕ) (tag n : ℕ) (w : Walked) : Type 0 where
  pub bad : (k q : ℕ) → w ≡ Bad k q → (step_at l f seen u ≡ refused k q) × (q ≤ n)
  pub good : (a : Sizes) (m : ℕ) → w ≡ Good a m → EntryReads l f seen u tag n a m

told_plain : (l : Level) (f : Form) (seen u : List ℕ) (tag from size small : ℕ) → Stood l f seen u tag from size small → is_set l && eqb tag 101 ≡ false
    → Told l f seen u tag (from + size) (Good (item_sizes l tag small) (bit_of tag))
told_plain l f seen u tag from size small k z = record {
  bad = λ n q e. absurd (let y : ◌≡◌ {A = ℕ} 0 1 = cc in omega arith);
  good = λ a m e.
      let ea : item_sizes l tag small ≡ a = cc in
      let em : bit_of tag ≡ m = cc in
      record {
        it = plain k.it.val;
        reads = plain_step l f seen u tag from size small k z ∙ rw k.used_is;
        key_is = k.tag_is;
        weighs = plain_weight l f seen u tag from size small k z ∙ ea;
        holds = ap bit_of k.tag_is ∙ em;
        few = subst (λ x. Few x (from + size)) ea (plain_few l f seen u tag from size small k);
      };
}

told_set : (f : Form) (seen u : List ℕ) (from size small : ℕ) → Stood set f seen u 101 from size small → (x : Walked) → x ≡ series_walk f (take size (drop from u)) → Within x size
    → Told set f seen u 101 (from + size) (series_from from x)
unfolding bit_of
told_set f seen u from size small k (Good b c) e h =
    let t = series_good f seen u from size small k b c e in
    record {
      bad = λ n q e. absurd (let y : ◌≡◌ {A = ℕ} 0 1 = cc in omega arith);
      good = λ a m e.
          let ea : series_sizes b ≡ a = cc in
          let em : 0 ≡ m = cc in
          record {
            it = series k.it.val.width t.packs;
            reads = t.step ∙ ap (λ n. ok (got (series k.it.val.width t.packs) n)) k.used_is;
            key_is = refl;
            weighs = ap series_sizes t.weight ∙ ea;
            holds = em;
            few = subst (λ x. Few x (from + size)) ea (record {
              sheet = omega (arith, h.sheet, k.head);
              rows = omega (arith, h.rows, k.head);
              normal = omega (arith, h.normal, k.head, len_most b.normal);
              inner = omega (arith, h.normal, k.head);
            });
          };
    }
told_set f seen u from size small k (Bad n q) e h = record {
  bad = λ j r z.
      let en : n ≡ j = cc in
      let eq : from + q ≡ r = cc in
      (series_bad f seen u from size small k n q e ∙ rw (en, eq), omega (arith, h, eq));
  good = λ a m e. absurd (let y : ◌≡◌ {A = ℕ} 0 1 = cc in omega arith);
}

told_series : (b : Bool) (f : Form) (seen u : List ℕ) (tag from size small : ℕ) → Stood (level_of b) f seen u tag from size small → b && eqb tag 101 ≡ true
    → (x : Walked) → x ≡ series_walk f (take size (drop from u)) → Within x size → Told (level_of b) f seen u tag (from + size) (series_from from x)
told_series false f seen u tag from size small k z x e h = absurd (no_bool z)
told_series true f seen u tag from size small k z x e h =
    let t : tag ≡ 101 = eqb-true tag 101 z in
    subst (λ t. Told set f seen u t (from + size) (series_from from x)) (sym t) (told_set f seen u from size small (subst (λ t. Stood set f seen u t from size small) t k) x e h)

pub level_is : (b : Bool) → is_set (level_of b) ≡ b
level_is true = refl
level_is false = refl

-- how deep the walks below a level go
abbrev pub depth : Bool → ℕ
depth true = 2
depth false = 0

pub series_deep : (b : Bool) (tag : ℕ) {x : Bool} → x ≡ (b && eqb tag 101) → x ≡ true → 1 < depth b
series_deep true tag e t = omega arith
series_deep false tag e t = no_bool (sym e ∙ t)

-- ---- the turn

module _ (b : Bool) (f : Form) {s : List ℕ} {p : ℕ} {sum : Sizes} {held top low : ℕ} (g : LevelGoing b f s p sum held top low) (h : p < length s)
    {a : Piece} (ea : ItemRead b f s p top low a) where
  here : a ≡ piece_of (level_of b) (item (level_of b) f g.seen (drop p s))
  here = ea g.seen g.past

  pub item_fault : {n : ℕ} {r : Walked} → a ≡ piece.Fault n → r ≡ Bad n p → (r ≡ level_walk (level_of b) f s) × Within r (length s)
  item_fault {n = n} t e =
      turn_bad g h refl n 0 (e ∙ ap (Bad n) (sym (add-zero p))) (step_fault (level_of b) f g.seen (drop p s) n (sym t ∙ here)) (omega arith)

-- an item that the code has read at p, in a level of no more bytes than a packet's
pub record ItemAt (b : Bool) (f : Form) (s : List ℕ) (p : ℕ) (sum : Sizes) (held top low tag from size small : ℕ) : Type 0 where
  pub going : LevelGoing b f s p sum held top low
  pub here : p < length s
  pub it : Piece
  pub told : ItemRead b f s p top low it
  pub whole : it ≡ piece.Whole tag from size small
  pub bytes : Bytes s
  pub most : length s ≤ 8192

module _ {b : Bool} {f : Form} {s : List ℕ} {p : ℕ} {sum : Sizes} {held top low tag from size small : ℕ} (i : ItemAt b f s p sum held top low tag from size small) where
  pub piece_stood : Stood (level_of b) f i.going.seen (drop p s) tag from size small
  piece_stood = stood (level_of b) f i.going.seen (drop p s) tag from size small (bytes_drop p s i.bytes) (sym i.whole ∙ i.told i.going.seen i.going.past)

  pub piece_room : p + from + size ≤ length s
  piece_room = omega (arith, piece_stood.room, length-drop p s)

  -- w is the code's answer on the entry
  abbrev pub EntryTold : Walked → Type 0
  EntryTold w = Told (level_of b) f i.going.seen (drop p s) tag (from + size) w

  pub item_told : {x : Bool} → x ≡ (b && eqb tag 101) → x ≡ false → {w : Walked} → w ≡ Good (item_sizes (level_of b) tag small) (bit_of tag) → EntryTold w
  item_told ex tx ew = subst EntryTold (sym ew) (told_plain (level_of b) f i.going.seen (drop p s) tag from size small piece_stood (rw (level_is b) (sym ex ∙ tx)))

  pub value_long : length (take (p + from + size - (p + from)) (drop (p + from) s)) ≡ size
  value_long = length-take-le (p + from + size - (p + from)) (drop (p + from) s) (rw length-drop (omega (arith, piece_room))) ∙ omega arith

  pub series_within : (y : Walked) → Within y (length (take (p + from + size - (p + from)) (drop (p + from) s))) → Within y 65536 × (from ≤ 65536)
  series_within y h = (within_more y _ 65536 (omega (arith, value_long, piece_room, i.most)) h, omega (arith, piece_room, i.most))

  pub series_told : {x : Bool} → x ≡ (b && eqb tag 101) → x ≡ true → {y : Walked}
      → (y ≡ series_walk f (take (p + from + size - (p + from)) (drop (p + from) s))) × Within y (length (take (p + from + size - (p + from)) (drop (p + from) s)))
      → {w : Walked} → w ≡ series_from from y → EntryTold w
  series_told ex tx {y = y} ey ew =
      let part : take (p + from + size - (p + from)) (drop (p + from) s) ≡ take size (drop from (drop p s)) = mid_part (p + from) size s ∙ ap (take size) (sym (drop-drop from p s)) in
      let long : length (take size (drop from (drop p s))) ≡ size = length-take-le size _ (rw length-drop (omega (arith, piece_stood.room))) in
      subst EntryTold (sym ew) (told_series b f i.going.seen (drop p s) tag from size small piece_stood (sym ex ∙ tx) y (rw part at ey.0) (rw (part, long) at ey.1))

  module _ {w : Walked} (k : EntryTold w) where
    pub entry_bad : {n q : ℕ} {r : Walked} → w ≡ Bad n q → r ≡ later_by p w → (r ≡ level_walk (level_of b) f s) × Within r (length s)
    entry_bad {n = n} {q = q} t e =
        let (j, l) = k.bad n q t in
        turn_bad i.going i.here refl n q (e ∙ ap (later_by p) t) j (omega (arith, l, piece_room))

    pub bad_within : {n q : ℕ} → w ≡ Bad n q → Within w 65536 × (p ≤ 65536)
    bad_within {n = n} {q = q} t = (within_of 65536 t (omega (arith, (k.bad n q t).1, piece_room, i.most)), omega (arith, i.here, i.most))

    pub good_small : {z : Sizes} {m : ℕ} → w ≡ Good z m → Small sum × Small z
    good_small {z = z} {m = m} t =
        let y = (k.good z m t).few in
        (few_more sum p 65536 (omega (arith, i.here, i.most)) i.going.few, few_more z (from + size) 65536 (omega (arith, piece_room, i.most)) y)

    pub entry_more : {z : Sizes} {m : ℕ} → w ≡ Good z m → {sum' : Sizes} → sum' ≡ plus_sizes sum z → {held' : ℕ} → held' ≡ bit_or held m
        → {top' : ℕ} → (top ≤ top') × (tag ≤ top') → {low' : ℕ} → (low' ≤ low) × (low' ≤ tag)
        → LevelGoing b f s (p + from + size) sum' held' top' low'
    entry_more {z = z} {m = m} t ea em et el =
        let j = piece_stood in
        turn_more i.going i.here refl (k.good z m t) (read_peek b f i.going.seen (drop p s) j.it j.read ∙ rw (j.tag_is, j.used_is)) (omega (arith, j.some)) (p + from + size) (add_assoc p from size) piece_room ea em et el
