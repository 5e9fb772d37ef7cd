-- The pack walk's turns: what the code's answers on one pack say.
use mathlib.Core.Path.{◌≡◌, refl, sym, ap, ◌∙◌, subst}
use Prim.Native.Nat.{ℕ, zero, suc, ◌+◌, ◌-◌, ◌≤◌, ◌<◌}
use native.Mathlib.Omega.{arith}
use native.Mathlib.Nat.{add-zero, add_assoc}
use mathlib.Core.Bool.{Bool, true, false}
use mathlib.Core.List.{List, [], ◌∷◌}
use lib.ListN.{length, take, drop, length-drop}
use lib.Seq.{drop-drop, length-take-le, take-nil}
use Rattle.format.specs.Coding.{Bytes}
use Rattle.format.specs.Lists.{has}
use Rattle.format.specs.Table.{Form, pack}
use Rattle.format.specs.Packet.{id_of_pack}
use Rattle.format.specs.Read.{pack_head, one_pack}
use Rattle.format.proofs.Words.Bytes.{bytes_drop}
use Rattle.coding.proofs.Rooms.{tail_part}
use Rattle.coding.proofs.Counts.{len_most}
use Rattle.std.proofs.Common.{Result, Ok, Err}
use Rattle.coding.specs.declared.refusals.Refusal.{Refusal}
use Rattle.coding.specs.Refusals.{number}
use Rattle.heads.specs.declared.Head.{Head}
use Rattle.heads.specs.Meet.{head, pack_head_of, peek, Past}
use Rattle.heads.proofs.Before.{pack_peek}
use Rattle.tally.specs.declared.Sizes.{Sizes}
use Rattle.tally.specs.Pieces.{Walked}
use Rattle.tally.specs.Pieces.{Good, Bad}
use Rattle.tally.specs.Meet.{ended_by, no_sizes, pack_sizes, plus_sizes, total, weight_of_item, weight_of_pack, level_walk, series_walk, later_by, Few, Small, Within}
use Rattle.tally.specs.Going.{SeriesGoing}
use Rattle.tally.proofs.Walks.{few_more, going_start}
use Rattle.tally.proofs.Series.{items_good, items_bad, pack_fault, PackStood, pack_stood, pack_10, pack_inside, pack_refused, pack_good}
use Rattle.tally.proofs.Ends.{ended_says}
use Rattle.tally.proofs.Turns.{Reads, within_more, turn_bad, turn_more}

pub drop_take : (u n : ℕ) (s : List ℕ) → drop u (take n s) ≡ take (n - u) (drop u s)
drop_take zero n s = let z : n - 0 ≡ n = omega arith in rw z
drop_take (suc u) zero s = let z : 0 - suc u ≡ 0 = omega arith in rw z
drop_take (suc u) (suc n) [] = sym (take-nil (suc n - suc u))
drop_take (suc u) (suc n) (b ∷ s) = let z : suc n - suc u ≡ n - u = omega arith in rw z (drop_take u n s)

pub series_start : (f : Form) (s : List ℕ) → SeriesGoing f s 0 no_sizes 0 18446744073709551615
unfolding series_walk
series_start f s = going_start _ _ _ _ _ _ _ s refl

module _ (f : Form) {s : List ℕ} {p : ℕ} {sum : Sizes} {top low : ℕ} (g : SeriesGoing f s p sum top low) (h : p < length s) where
  pub head_fault : (a : Result Head Refusal) → pack_head_of a ≡ pack_head (take (length s - p) (drop p s)) → {x : Refusal} {r : Walked} → a ≡ Err x → r ≡ Bad (number x) p
      → (r ≡ series_walk f s) × Within r (length s)
  head_fault a ea {x = x} t e =
      turn_bad g h refl (number x) 0
      (e ∙ ap (Bad (number x)) (sym (add-zero p)))
      (pack_fault f g.seen (drop p s) (number x) (sym (ap pack_head_of t) ∙ rw tail_part at ea))
      (omega arith)

-- a pack whose head the code has read at p, in a series of no more bytes than a packet's
pub record PackAt (f : Form) (s : List ℕ) (p : ℕ) (sum : Sizes) (top low k u w n : ℕ) : Type 0 where
  pub going : SeriesGoing f s p sum top low
  pub here : p < length s
  pub it : Result Head Refusal
  pub told : pack_head_of it ≡ pack_head (take (length s - p) (drop p s))
  pub is : it ≡ Ok (head k u w n)
  pub bytes : Bytes s
  pub most : length s ≤ 8192

module _ {f : Form} {s : List ℕ} {p : ℕ} {sum : Sizes} {top low k u w n : ℕ} (i : PackAt f s p sum top low k u w n) where
  pub whole : pack_head_of (Ok (head k u w n)) ≡ pack_head (drop p s)
  whole = sym (ap pack_head_of i.is) ∙ rw tail_part at i.told

  pub head_stood : PackStood f i.going.seen (drop p s) k u w n whole
  head_stood = pack_stood f i.going.seen (drop p s) k u w n whole (bytes_drop p s i.bytes)

  pub head_room : p + w + n ≤ length s
  head_room = omega (arith, head_stood.room, length-drop p s)

  -- x: a pack before it has this id
  module _ {x : Bool} (ex : (seen : List ℕ) → Past (peek false true false) s p top low seen → x ≡ has k seen) where
    pub id_again : {r : Walked} → x ≡ true → r ≡ Bad 10 p → (r ≡ series_walk f s) × Within r (length s)
    id_again t e =
        turn_bad i.going i.here refl 10 0 (e ∙ ap (Bad 10) (sym (add-zero p))) (pack_10 f i.going.seen (drop p s) k u w n whole (sym t ∙ ex i.going.seen i.going.past)) (omega arith)

    module _ (tx : x ≡ false) where
      first : false ≡ has k i.going.seen
      first = sym tx ∙ ex i.going.seen i.going.past

      -- the pack's items, as the code lends them and as document 01 has them
      abbrev pub lent : List ℕ
      lent = take (p + w + n - (p + w + u)) (drop (p + w + u) s)

      lent_is : lent ≡ drop u (take n (drop w (drop p s)))
      lent_is =
          let z : p + w + n - (p + w + u) ≡ n - u = omega arith in
          rw (z, drop_take u n (drop w (drop p s)), drop-drop u w (drop p s), drop-drop (w + u) p s, ← add_assoc p w u)

      pub lent_long : length lent ≡ n - u
      lent_long = length-take-le (p + w + n - (p + w + u)) (drop (p + w + u) s) (rw length-drop (omega (arith, head_room))) ∙ omega (arith, head_stood.body)

      module _ {y : Walked} (ey : (y ≡ level_walk pack f lent) × Within y (length lent)) where
        pub items_within : Within y 65536 × (p + w + u ≤ 65536)
        items_within = (within_more y _ 65536 (omega (arith, lent_long, head_room, i.most)) ey.1, omega (arith, head_room, head_stood.body, i.most))

        pub items_fault : {m q : ℕ} {r : Walked} → y ≡ Bad m q → r ≡ later_by (p + w + u) y → (r ≡ series_walk f s) × Within r (length s)
        items_fault {m = m} {q = q} t e =
            let j : Bad m q ≡ level_walk pack f (drop u (take n (drop w (drop p s)))) = rw lent_is at (sym t ∙ ey.0) in
            let l : q ≤ length lent = subst (λ v. Within v (length lent)) t ey.1 in
            let o : p + w + u + q ≡ p + (w + u + q) = omega arith in
            turn_bad i.going i.here refl m (w + u + q) (e ∙ ap (later_by (p + w + u)) t ∙ ap (Bad m) o) (pack_inside f i.going.seen (drop p s) k u w n whole first m q (items_bad f _ m q j))
            (omega (arith, l, lent_long, head_room, head_stood.body))

        module _ {z : Sizes} {m : ℕ} (ty : y ≡ Good z m) where
          few : Few z (n - u)
          few = rw lent_long at (subst (λ v. Within v (length lent)) ty ey.1)

          good : Good z m ≡ level_walk pack f (drop u (take n (drop w (drop p s))))
          good = rw lent_is at (sym ty ∙ ey.0)

          pub items_small : Small z
          items_small = few_more z (n - u) 65536 (omega (arith, head_room, i.most)) few

          weighs : Few (pack_sizes u z) (w + n)
          weighs =
              let j = head_stood in
              record {
                sheet = omega (arith, few.sheet, j.len, j.key, j.body);
                rows = omega (arith, few.rows, j.len, j.key, j.body);
                normal = omega (arith, few.normal, j.len, j.key, j.body, len_most (u + z.normal));
                inner = omega arith;
              }

          pub pack_small : {y : Sizes} → y ≡ pack_sizes u z → Small sum × Small y
          pack_small e = (few_more sum p 65536 (omega (arith, i.here, i.most)) i.going.few, rw e (few_more (pack_sizes u z) (w + n) 65536 (omega (arith, head_room, i.most)) weighs))

          -- number: with what it is refused at its end, if not 0
          module _ {number : ℕ} (says : number ≡ ended_by f m) where
            pub not_ended : {r : Walked} → (number ≡ 0 → ⊥) → r ≡ Bad number p → (r ≡ series_walk f s) × Within r (length s)
            not_ended tx e =
                items_good f _ z m good λ is ei ez em.
                let b = pack_refused f i.going.seen (drop p s) k u w n whole first is ei ((ended_says f _ says em).1 tx) in
                turn_bad i.going i.here refl number 0 (e ∙ ap (Bad number) (sym (add-zero p))) b (omega arith)

            pub pack_more : number ≡ 0 → {sum' : Sizes} → sum' ≡ plus_sizes sum (pack_sizes u z) → {top' : ℕ} → (top ≤ top') × (k ≤ top') → {low' : ℕ} → (low' ≤ low) × (low' ≤ k)
                → SeriesGoing f s (p + w + n) sum' top' low'
            pack_more tx es et el =
                items_good f _ z m good λ is ei ez em.
                let j = head_stood in
                let read : Reads weight_of_pack (λ p. 0) id_of_pack (one_pack f i.going.seen (drop p s)) k (w + n) (pack_sizes u z) 0 = record {
                  it = record { width = w; id = k; items = is.val };
                  reads = pack_good f i.going.seen (drop p s) k u w n whole first is ei ((ended_says f _ says em).0 tx);
                  key_is = refl;
                  weighs = ap (λ v. pack_sizes v (total (weight_of_item pack) is.val)) j.id_long ∙ ap (pack_sizes u) ez;
                  holds = refl;
                  few = weighs;
                } in
                turn_more i.going i.here refl read (pack_peek false (drop p s) _ (sym whole)) (omega (arith, j.len)) (p + w + n) (add_assoc p w n) (head_room) es refl et el
