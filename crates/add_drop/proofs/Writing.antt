-- The sizes of a packet with a target added or dropped, where it is written.
use mathlib.Core.Path.{◌≡◌, sym, ap, ◌∙◌, subst}
use Prim.Native.Nat.{ℕ, ◌≤◌}
use native.Mathlib.Omega.{arith}
use mathlib.Core.List.{List}
use lib.ListN.{length}
use Rattle.format.specs.Table.{Form}
use Rattle.find.specs.declared.around.Series.{Series}
use Rattle.find.specs.Series.{InOrder}
use Rattle.write_packet.specs.Meet.{targets_normal}
use Rattle.target_bytes.specs.Meet.{packs_size, entries_put, entries_size, PuttingIn}
use Rattle.target_bytes.proofs.Sizes.{entries_long, entries_few}
use Rattle.frames.specs.Meet.{frame_size}
use Rattle.answers.proofs.Entries.{Sized, Roomy}
use Rattle.add_drop.specs.Meet.{Changing}

order_more : {n m : ℕ} {r : Series} → InOrder n r → n ≤ m → InOrder m r
order_more h l = record {
  to_packs = h.to_packs;
  to_pack = h.to_pack;
  to_last = h.to_last;
  to_tail = h.to_tail;
  to_stop = h.to_stop;
  to_end = omega (arith, h.to_end, l);
  apart = h.apart;
  six = h.six;
  after = h.after;
}

module _ {f : Form} {s : List ℕ} {r : Series} {n k : ℕ} {records : List ℕ} (q : Changing f s r n k records) where
  -- what is written
  abbrev pub bytes : List ℕ
  bytes = entries_put s r n (targets_normal f records)

  ordered : InOrder 8192 r
  ordered = order_more q.putting.ordered q.putting.short

  pub packs_asked : InOrder 8192 r × (k ≤ 8192)
  packs_asked = (ordered, omega (arith, q.size, q.putting.small))

  -- m bytes of packs
  module _ {m : ℕ} (em : m ≡ packs_size r k) where
    few : m ≤ 65536
    few = omega (arith, em, packs_asked.1, ordered)

    pub size_asked : InOrder 8192 r × (n ≤ 65535) × (m ≤ 65536)
    size_asked = (ordered, q.putting.few, few)

    pub putting_asked : PuttingIn f s r n m records
    putting_asked = subst (λ x. PuttingIn f s r n x records) (sym em) q.putting

    -- of the entries, and of the packet
    module _ {body : ℕ} (eb : body ≡ entries_size r n m) where
      pub frame_asked : body ≤ 1048576
      frame_asked = omega (arith, eb, entries_few r n m (omega (arith, ordered)) q.putting.few few)

      body_is : body ≡ length bytes
      body_is = eb ∙ ap (λ x. entries_size r n x) (em ∙ ap (packs_size r) q.size) ∙ sym (entries_long s r q.putting.ordered n (targets_normal f records))

      pub sized : {size : ℕ} → size ≡ frame_size f body → Sized f bytes body size
      sized es = record { entered = q.entered; entries = body_is; frame = es }

      pub roomy : {size : ℕ} → size ≡ frame_size f body → (lent : List ℕ) → size ≤ 8192 → size ≤ length lent → Roomy f bytes body size lent
      roomy es lent small room = record { sizes = sized es; small = small; room = room }
