-- The set's bytes with two cuts, as they are stored: what stands before the level's own bytes, their first part, what the lower cut puts,
-- what stands between them, what the higher puts, and what follows, one after another.
use mathlib.Core.Path.{◌≡◌, refl, sym, ap, ◌∙◌}
use Prim.Native.Nat.{ℕ, ◌+◌, ◌-◌, ◌^◌, ◌≤◌, ◌<◌}
use native.Mathlib.Omega.{arith}
use mathlib.Core.Bool.{true, false}
use mathlib.Core.List.{List, ◌++◌}
use lib.ListN.{length, length-append}
use lib.Seq.{sets, length-sets}
use Rattle.format.specs.Coding.{len_width, len_bytes}
use Rattle.format.specs.Table.{Level, set, pack}
use Rattle.format.specs.Packet.{flat_item}
use Rattle.format.specs.Calls.{item_of}
use Rattle.format.proofs.Coding.Lengths.{length_len}
use Rattle.coding.proofs.Counts.{len_most}
use Rattle.find.specs.declared.Place.{Place}
use Rattle.find.specs.Places.{Ordered}
use Rattle.stores.proofs.Puts.{Puts, puts_then, puts_sized}
use Rattle.store_coded.specs.Fronts.{series_front}
use Rattle.edit_rules.specs.declared.Cut.{Cut}
use Rattle.edit_rules.specs.declared.Cuts.{Cuts}
use Rattle.edit_rules.specs.Cuts.{last_of, cut_put, cut_size, part, body_size, packs_size, to_pack, head_of, with_two, Small, Putting, put_size, cut_bytes, StoredAt}
use Rattle.edit_rules.proofs.Items.{put_long}
use Rattle.edit_rules.proofs.Sizes.{spans_more, body_few, low_long, high_long, sizes_are, bytes_long}

-- ---- the item, and a part

module _ (c : Cut) (v : List ℕ) where
  pub none_stored : c.removal ≡ true → (o : List ℕ) (at : ℕ) → StoredAt o at (cut_put c v) at o
  none_stored e o at = rw e (omega arith, refl)

  module _ (e : c.removal ≡ false) (h : c.size ≤ length v) where
    pub put_room : (at : ℕ) {k : ℕ} → at + cut_size c ≤ k → at + length (flat_item (item_of (record { tag = c.tag; value = last_of v c.size }))) ≤ k
    put_room at l = omega (arith, rw e at l, put_long false c.tag v c.size h)

    pub put_stored : (o : List ℕ) (at : ℕ) {o' : List ℕ} {k : ℕ} → Puts o at (flat_item (item_of (record { tag = c.tag; value = last_of v c.size }))) k o' → StoredAt o at (cut_put c v) k o'
    put_stored o at p = rw e p

-- of no bytes
pub part_none : (s : List ℕ) (a b : ℕ) → b ≤ a → (o : List ℕ) (at : ℕ) → StoredAt o at (part s a b) at o
part_none s a b h o at =
    let z : b - a ≡ 0 = omega arith in
    rw z (omega arith, refl)

pub kept : (o : List ℕ) (a : ℕ) (xs : List ℕ) {o' : List ℕ} → o' ≡ sets o a xs → length o' ≡ length o
kept o a xs e = ap length e ∙ length-sets o a xs

-- ---- what is stored

-- what the call asks, where the level has n bytes; and for what stands before them
abbrev pub Entering : Level → List ℕ → Cuts → List ℕ → List ℕ → ℕ → List ℕ → Type 0
Entering l s k v w n o = Putting l s k v w × (put_size l k ≤ length o) × (n ≡ body_size k (cut_size k.lo) (cut_size k.hi))

abbrev pub Heading : Level → List ℕ → Place → ℕ → List ℕ → Type 0
Heading l s p n o = (length s ≤ 8192) × Ordered (length s) p × (n ≤ 40960) × (length (head_of l s p n) ≤ length o)

-- what each step asks, and what all leave
module _ {l : Level} {s v w : List ℕ} {k : Cuts} {n : ℕ} (o : List ℕ) (g : Entering l s k v w n o) where
  abbrev q : Putting l s k v w
  q = g.0

  abbrev i : List ℕ
  i = cut_put k.lo v

  abbrev j : List ℕ
  j = cut_put k.hi w

  abbrev head : List ℕ
  head = head_of l s k.place n

  abbrev first : List ℕ
  first = part s k.place.body k.lo.at

  abbrev mid : List ℕ
  mid = part s k.lo.next k.hi.at

  abbrev rest : List ℕ
  rest = part s k.hi.next k.place.stop

  head_as : head_of l s k.place (body_size k (length i) (length j)) ≡ head
  head_as = ap (head_of l s k.place) (sizes_are q ∙ sym g.2)

  parts_fit : length head + (length first + (length i + (length mid + (length j + length rest)))) ≤ length o
  unfolding with_two
  parts_fit =
      let e : length (cut_bytes l s k v w) ≡ length head + (length first + (length i + (length mid + (length j + length rest)))) = rw head_as (simp length-append) in
      omega (arith, g.1, bytes_long q, e)

  pub head_asked : Heading l s k.place n o
  head_asked =
      let m = body_few k (spans_more _ 8192 k q.spans q.short) q.low_small q.high_small in
      (q.short, q.spans.ordered, omega (arith, g.2, m), omega (arith, parts_fit))

  module _ {a : ℕ} {o₁ : List ℕ} (e₁ : Puts o 0 (head_of l s k.place n) a o₁) where
    long₁ : length o₁ ≡ length o
    long₁ = kept o 0 head e₁.1

    pub first_asked : a + length (part s k.place.body k.lo.at) ≤ length o₁
    first_asked = omega (arith, parts_fit, e₁.0, long₁)

    module _ {b : ℕ} {o₂ : List ℕ} (e₂ : Puts o₁ a (part s k.place.body k.lo.at) b o₂) where
      long₂ : length o₂ ≡ length o
      long₂ = kept o₁ a first e₂.1 ∙ long₁

      pub low_asked : Small k.lo × (k.lo.size ≤ length v) × (b + cut_size k.lo ≤ length o₂)
      low_asked = (q.low_small, q.low_some, omega (arith, parts_fit, low_long q, e₁.0, e₂.0, long₂))

      module _ {c : ℕ} {o₃ : List ℕ} (e₃ : Puts o₂ b (cut_put k.lo v) c o₃) where
        long₃ : length o₃ ≡ length o
        long₃ = kept o₂ b i e₃.1 ∙ long₂

        pub mid_asked : (k.lo.next ≤ k.hi.at) × (k.hi.at ≤ length s) × (c + length (part s k.lo.next k.hi.at) ≤ length o₃)
        mid_asked = (q.spans.to_high, omega (arith, q.spans), omega (arith, parts_fit, e₁.0, e₂.0, e₃.0, long₃))

        module _ {d : ℕ} {o₄ : List ℕ} (e₄ : Puts o₃ c (part s k.lo.next k.hi.at) d o₄) where
          long₄ : length o₄ ≡ length o
          long₄ = kept o₃ c mid e₄.1 ∙ long₃

          pub high_asked : Small k.hi × (k.hi.size ≤ length w) × (d + cut_size k.hi ≤ length o₄)
          high_asked = (q.high_small, q.high_some, omega (arith, parts_fit, high_long q, e₁.0, e₂.0, e₃.0, e₄.0, long₄))

          module _ {e : ℕ} {o₅ : List ℕ} (e₅ : Puts o₄ d (cut_put k.hi w) e o₅) where
            pub rest_asked : (k.hi.next ≤ k.place.stop) × (k.place.stop ≤ length s) × (e + length (part s k.hi.next k.place.stop) ≤ length o₅)
            rest_asked = (omega (arith, q.spans), q.spans.ordered.to_end, omega (arith, parts_fit, e₁.0, e₂.0, e₃.0, e₄.0, e₅.0, kept o₄ d j e₅.1, long₄))

            pub all_stored : {r : ℕ} {o₆ : List ℕ} → Puts o₅ e (part s k.hi.next k.place.stop) r o₆ → StoredAt o 0 (cut_bytes l s k v w) r o₆
            unfolding with_two
            all_stored e₆ =
                rw head_as
                (puts_then o 0 head (first ++ (i ++ (mid ++ (j ++ rest)))) e₁
                (puts_then o₁ a first (i ++ (mid ++ (j ++ rest))) e₂
                (puts_then o₂ b i (mid ++ (j ++ rest)) e₃ (puts_then o₃ c mid (j ++ rest) e₄ (puts_then o₄ d j rest e₅ e₆)))))

-- ---- what stands before the level's own bytes

-- m is the size of the series
module _ (s : List ℕ) (p : Place) (m : ℕ) (o : List ℕ) (room : length (to_pack s p m) ≤ length o) where
  abbrev start : List ℕ
  start = part s 0 p.series

  abbrev packs : List ℕ
  packs = part s p.packs p.pack

  total : length start + (length (series_front m) + length packs) ≤ length o
  unfolding to_pack
  total = omega (arith, simp length-append at room)

  pub start_asked : 0 + length (part s 0 p.series) ≤ length o
  start_asked = omega (arith, total)

  module _ {a : ℕ} {o₁ : List ℕ} (e₁ : Puts o 0 (part s 0 p.series) a o₁) where
    pub series_asked : a + length (series_front m) ≤ length o₁
    series_asked = omega (arith, total, e₁.0, kept o 0 start e₁.1)

    module _ {b : ℕ} {o₂ : List ℕ} (e₂ : Puts o₁ a (series_front m) b o₂) where
      pub packs_asked : b + length (part s p.packs p.pack) ≤ length o₂
      packs_asked = omega (arith, total, e₁.0, e₂.0, kept o 0 start e₁.1, kept o₁ a (series_front m) e₂.1)

      pub to_pack_stored : {r : ℕ} {o₃ : List ℕ} → Puts o₂ b (part s p.packs p.pack) r o₃ → StoredAt o 0 (to_pack s p m) r o₃
      unfolding to_pack
      to_pack_stored e₃ = puts_then o 0 start (series_front m ++ packs) e₁ (puts_then o₁ a (series_front m) packs e₂ e₃)

module _ {l : Level} (s : List ℕ) (p : Place) (n : ℕ) (o : List ℕ) where
  pub head_none : l ≡ set → StoredAt o 0 (head_of l s p n) 0 o
  unfolding head_of
  head_none e = rw e (refl, refl)

  -- m is the size of the series, with a pack of n
  module _ (e : l ≡ pack) (g : Heading l s p n o) {m : ℕ} (em : m ≡ packs_size p n) where
    abbrev len : List ℕ
    len = len_bytes (len_width n) n

    head_fits : length (to_pack s p m) + len_width n ≤ length o
    unfolding head_of
    head_fits = rw em (omega (arith, simp (length-append, length_len) at (rw e at g.3)))

    pub to_pack_asked : Ordered (length s) p × (m ≤ 65536) × (length (to_pack s p m) ≤ length o)
    to_pack_asked = (g.1, omega (arith, em, len_most n, g), omega (arith, head_fits))

    module _ {a : ℕ} {o₁ : List ℕ} (e₁ : Puts o 0 (to_pack s p m) a o₁) where
      pub len_asked : (n < 2 ^ 32) × (a + len_width n ≤ length o₁)
      len_asked = (omega (arith, g), omega (arith, head_fits, e₁.0, kept o 0 (to_pack s p m) e₁.1))

      pub head_stored : {r : ℕ} {o₂ : List ℕ} → (r ≡ a + len_width n) × (o₂ ≡ sets o₁ a (len_bytes (len_width n) n)) → StoredAt o 0 (head_of l s p n) r o₂
      unfolding head_of
      head_stored e₂ =
          let z = puts_then o 0 (to_pack s p m) len e₁ (puts_sized o₁ a len (length_len (len_width n) n) e₂) in
          rw (e, ← em) z
