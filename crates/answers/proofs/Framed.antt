-- A packet that a call writes: what opens it, its entries into the rest of the output, and what closes it. For every call that
-- writes a packet; n is the bytes of the entries, and size those of the packet.
use mathlib.Core.Path.{◌≡◌, sym, ap, ◌∙◌}
use Prim.Native.Nat.{ℕ, ◌+◌, ◌-◌, ◌≤◌}
use native.Mathlib.Omega.{arith}
use mathlib.Core.List.{List, []}
use lib.ListN.{length, take, drop}
use lib.Seq.{sets, length-sets}
use borrow.Rule.Slice.PartMut.{put_mid}
use Rattle.format.specs.Lists.{flat_all}
use Rattle.format.specs.Table.{Form}
use Rattle.format.specs.Packet.{Entry, flat_entry, flat, closed}
use Rattle.stores.proofs.Stores.{tail_length, tail_stored}
use Rattle.stores.proofs.Puts.{Puts}
use Rattle.frames.specs.Meet.{frame_size, open_bytes, seal_bytes}
use Rattle.frames.proofs.Framing.{frame_parts, frame_long, framed_puts}

-- there is room for it
pub record Fits (f : Form) (es : List Entry) (lent : List ℕ) (n size : ℕ) : Type 0 where
  pub entries : length (flat_all flat_entry es) ≡ n
  pub frame : size ≡ frame_size f n
  pub room : size ≤ length lent
  pub small : size ≤ 8192

module _ {f : Form} {es : List Entry} {lent : List ℕ} {n size : ℕ} (w : Fits f es lent n size) where
  pub size_is : length (flat (closed f es)) ≡ size
  size_is = frame_long f es ∙ ap (frame_size f) w.entries ∙ sym w.frame

  parts : size ≡ length (open_bytes f n) + (n + length (seal_bytes f []))
  parts = w.frame ∙ frame_parts f n []

  pub open_asked : (n ≤ 1048576) × (length (open_bytes f n) ≤ length lent)
  open_asked = (omega (arith, parts, w.small), omega (arith, parts, w.room))

  -- a is where the entries begin, out what the output is then
  module _ {a : ℕ} {out : List ℕ} (eo : (a ≡ length (open_bytes f n)) × (out ≡ sets lent 0 (open_bytes f n))) where
    as_long : length out ≡ length lent
    as_long = ap length eo.1 ∙ length-sets lent 0 (open_bytes f n)

    pub rest_from : a ≤ length out
    rest_from = omega (arith, eo.0, as_long, parts, w.room)

    -- what the writer of the entries writes, and the rest of the output as it came back, with k bytes stored
    module _ {written : List ℕ} (ew : written ≡ flat_all flat_entry es) where
      pub rest_room : length written ≤ length (take (length out - a) (drop a out))
      rest_room = omega (arith, tail_length out a, ap length ew, w.entries, eo.0, as_long, parts, w.room)

      module _ {k : ℕ} {e : List ℕ} (put : (k ≡ length written) × (e ≡ sets (take (length out - a) (drop a out)) 0 written)) where
        abbrev pub back : List ℕ
        back = put_mid a (length out - a) out e

        stored : back ≡ sets out a written
        stored = tail_stored out a e written put.1

        pub entries_end : a + k ≤ 8192
        entries_end = omega (arith, put.0, ap length ew, w.entries, eo.0, parts, w.small)

        pub close_asked : (a + k + length (seal_bytes f []) ≤ length back) × (a + k + length (seal_bytes f []) ≤ 8192)
        close_asked = (
          omega (arith, ap length stored, length-sets out a written, put.0, ap length ew, w.entries, eo.0, as_long, parts, w.room),
          omega (arith, put.0, ap length ew, w.entries, eo.0, parts, w.small),
        )

        pub all_written : {r : ℕ} {last : List ℕ} → Puts back (a + k) (seal_bytes f (take (a + k) back)) r last → last ≡ sets lent 0 (flat (closed f es))
        all_written s =
            (framed_puts f es lent (omega (arith, size_is, w.room))
            (rw w.entries (omega (arith, eo.0), eo.1))
            (omega (arith, put.0, ap length ew), stored ∙ ap (sets out a) ew)
            s).1
