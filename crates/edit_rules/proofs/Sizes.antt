-- How many bytes the entries take with two cuts: by the sizes within each other, as the code counts them, and as the bytes are.
use mathlib.Core.Path.{◌≡◌, refl, ap, ◌∙◌}
use Prim.Native.Nat.{ℕ, ◌+◌, ◌-◌, ◌≤◌}
use native.Mathlib.Omega.{arith}
use mathlib.Core.Bool.{Bool, true, false}
use mathlib.Core.List.{List}
use lib.ListN.{length, drop, length-append, length-drop}
use lib.Seq.{length-take-le}
use Rattle.format.specs.Coding.{len_width}
use Rattle.format.specs.Table.{Level, set, pack}
use Rattle.format.proofs.Coding.Lengths.{length_len}
use Rattle.coding.proofs.Counts.{len_most}
use Rattle.items.specs.Meet.{level_of}
use Rattle.find.specs.declared.Place.{Place}
use Rattle.find.specs.Places.{Ordered}
use Rattle.store_coded.proofs.Fronts.{series_long}
use Rattle.edit_rules.specs.declared.Cut.{Cut}
use Rattle.edit_rules.specs.declared.Cuts.{Cuts}
use Rattle.edit_rules.specs.Cuts.{cut_put, cut_size, part, body_size, packs_size, to_pack, head_of, with_two, with_size, Spans, Small, Putting, put_size, cut_bytes}
use Rattle.edit_rules.proofs.Items.{put_long, size_most}

-- ---- as the code counts them

pub ordered_more : (n m : ℕ) (p : Place) → Ordered n p → n ≤ m → Ordered m p
ordered_more n m p h l = record {
  to_packs = h.to_packs;
  to_pack = h.to_pack;
  to_body = h.to_body;
  to_at = h.to_at;
  to_next = h.to_next;
  to_last = h.to_last;
  to_tail = h.to_tail;
  to_stop = h.to_stop;
  to_end = omega (arith, h.to_end);
}

pub spans_more : {l : Level} (n m : ℕ) (k : Cuts) → Spans l n k → n ≤ m → Spans l m k
spans_more n m k h l = record {
  ordered = ordered_more n m k.place h.ordered l;
  to_low = h.to_low;
  low = h.low;
  to_high = h.to_high;
  high = h.high;
  to_last = h.to_last;
  whole = h.whole;
}

-- by the sizes within each other
module _ {b : Bool} (p : Place) (n : ℕ) where
  pub size_set : b ≡ true → n ≡ with_size (level_of b) p n
  unfolding with_size
  size_set e = rw e

  pub size_pack : b ≡ false → {m : ℕ} → m ≡ packs_size p n → {w : ℕ} → w ≡ len_width m → p.series + 1 + w + m + (p.stop - p.tail) ≡ with_size (level_of b) p n
  unfolding with_size
  size_pack e em ew = rw (ew, em, e)

pub cut_few : (c : Cut) → Small c → cut_size c ≤ 16384
cut_few c h = size_most c.removal c.tag c.size h.1

few_bytes : (l : Level) (p : Place) (n : ℕ) → Ordered 8192 p → n ≤ 40960 → with_size l p n ≤ 57344
unfolding with_size
few_bytes set p n h l = omega (arith, l)
few_bytes pack p n h l = omega (arith, h, l, len_most (packs_size p n), len_most n)

module _ {l : Level} (k : Cuts) (h : Spans l 8192 k) (a : Small k.lo) (b : Small k.hi) where
  pub body_few : body_size k (cut_size k.lo) (cut_size k.hi) ≤ 40960
  body_few = omega (arith, h, cut_few k.lo a, cut_few k.hi b)

  pub put_most : put_size l k ≤ 57344
  put_most = few_bytes l k.place _ h.ordered body_few

-- ---- as the bytes are

-- from the higher cut's end on
steps : (a b c d : ℕ) → a ≤ b → b ≤ c → c ≤ d → d - a ≡ (b - a) + (c - b) + (d - c)
steps a b c d h k l = omega arith

regroup : (a w p v l i m j x y z : ℕ) → a + (1 + w + (p + v)) + (l + (i + (m + (j + (x + y + z))))) ≡ a + 1 + w + (p + (v + (l + i + m + j + x)) + y) + z
regroup a w p v l i m j x y z = omega arith

module _ (s : List ℕ) where
  pub part_long : (a b : ℕ) → a ≤ b → b ≤ length s → length (part s a b) ≡ b - a
  part_long a b l m = length-take-le (b - a) (drop a s) (rw length-drop (omega arith))

  head_long : (p : Place) → Ordered (length s) p → (n : ℕ) → length (head_of pack s p n) ≡ p.series + (1 + len_width (packs_size p n) + ((p.pack - p.packs) + len_width n))
  unfolding head_of to_pack
  head_long p h n =
      let a = part_long 0 p.series (omega arith) (omega (arith, h)) in
      let b = part_long p.packs p.pack h.to_pack (omega (arith, h)) in
      simp (length-append, series_long, length_len, a, b) (omega arith)

  module _ {l : Level} (k : Cuts) (h : Spans l (length s) k) (i j : List ℕ) where
    abbrev head : List ℕ
    head = head_of l s k.place (body_size k (length i) (length j))

    parts_long : length (with_two l s k i j) ≡ length head + ((k.lo.at - k.place.body) + (length i + ((k.hi.at - k.lo.next) + (length j + (k.place.stop - k.hi.next)))))
    unfolding with_two
    parts_long =
        let a = part_long k.place.body k.lo.at h.to_low (omega (arith, h)) in
        let b = part_long k.lo.next k.hi.at h.to_high (omega (arith, h)) in
        let c = part_long k.hi.next k.place.stop (omega (arith, h)) h.ordered.to_end in
        rw (length-append, length-append, length-append, length-append, length-append, a, b, c)

  pub with_long : {l : Level} (k : Cuts) → Spans l (length s) k → (i j : List ℕ) → length (with_two l s k i j) ≡ with_size l k.place (body_size k (length i) (length j))
  unfolding head_of with_size
  with_long {l = set} k h i j = parts_long k h i j ∙ omega (arith, h, h.whole refl)
  with_long {l = pack} k h i j =
      let a = head_long k.place h.ordered (body_size k (length i) (length j)) in
      let b = steps k.hi.next k.place.last k.place.tail k.place.stop h.to_last h.ordered.to_tail h.ordered.to_stop in
      rw (parts_long k h i j, a, b) (regroup _ _ _ _ _ (length i) _ (length j) _ _ _)

module _ {l : Level} {s v w : List ℕ} {k : Cuts} (q : Putting l s k v w) where
  pub low_long : length (cut_put k.lo v) ≡ cut_size k.lo
  low_long = put_long k.lo.removal k.lo.tag v k.lo.size q.low_some

  pub high_long : length (cut_put k.hi w) ≡ cut_size k.hi
  high_long = put_long k.hi.removal k.hi.tag w k.hi.size q.high_some

  pub sizes_are : body_size k (length (cut_put k.lo v)) (length (cut_put k.hi w)) ≡ body_size k (cut_size k.lo) (cut_size k.hi)
  sizes_are = ap (λ x. body_size k x (length (cut_put k.hi w))) low_long ∙ ap (body_size k (cut_size k.lo)) high_long

  pub bytes_long : length (cut_bytes l s k v w) ≡ put_size l k
  bytes_long = with_long s k q.spans (cut_put k.lo v) (cut_put k.hi w) ∙ ap (with_size l k.place) sizes_are
