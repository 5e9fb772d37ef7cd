-- The packet with what the cuts put, as it is written: its sizes. For one change and for two.
use mathlib.Core.Path.{◌≡◌, sym, ap, ◌∙◌}
use Prim.Native.Nat.{ℕ, ◌≤◌}
use native.Mathlib.Omega.{arith}
use mathlib.Core.List.{List}
use lib.ListN.{length}
use Rattle.format.specs.Table.{Form, Level}
use Rattle.frames.specs.Meet.{frame_size}
use Rattle.find.specs.Places.{Ordered}
use Rattle.edit_rules.specs.declared.Cuts.{Cuts}
use Rattle.edit_rules.specs.Cuts.{cut_size, body_size, with_size, Spans, Small, Putting, put_size, cut_bytes}
use Rattle.edit_rules.proofs.Sizes.{spans_more, body_few, put_most, bytes_long}
use Rattle.answers.proofs.Entries.{Sized}
use Rattle.edit.specs.Meet.{Entered}

module _ {l : Level} {s v w : List ℕ} {k : Cuts} (q : Putting l s k v w) where
  pub spans_are : Spans l 8192 k
  spans_are = spans_more (length s) 8192 k q.spans q.short

  -- the cuts small, and in order within the level
  pub body_asked : Small k.lo × Small k.hi × (k.place.body ≤ k.lo.at) × (k.lo.at ≤ k.lo.next) × (k.lo.next ≤ k.hi.at) × (k.hi.at ≤ k.hi.next)
      × (k.hi.next ≤ k.place.last) × (k.place.last ≤ 8192)
  body_asked = let o = spans_are in (q.low_small, q.high_small, o.to_low, o.low, o.to_high, o.high, o.to_last, omega (arith, o.ordered.to_tail, o.ordered.to_stop, o.ordered.to_end))

  -- room for the bytes is room for so many
  pub cut_room : {m : ℕ} → length (cut_bytes l s k v w) ≤ m → put_size l k ≤ m
  cut_room h = omega (arith, h, bytes_long q)

  -- of the level, of the entries, of the packet
  module _ {body : ℕ} (eb : body ≡ body_size k (cut_size k.lo) (cut_size k.hi)) where
    pub size_asked : Ordered 8192 k.place × (body ≤ 40960)
    size_asked = (spans_are.ordered, omega (arith, eb, body_few k spans_are q.low_small q.high_small))

    module _ {n : ℕ} (en : n ≡ with_size l k.place body) where
      put_is : n ≡ put_size l k
      put_is = en ∙ ap (with_size l k.place) eb

      pub frame_asked : n ≤ 1048576
      frame_asked = omega (arith, put_is, put_most k spans_are q.low_small q.high_small)

      pub sized : (f : Form) → Entered l s k v w → {size : ℕ} → size ≡ frame_size f n → Sized f (cut_bytes l s k v w) n size
      sized f e es = record { entered = e; entries = put_is ∙ sym (bytes_long q); frame = es }
