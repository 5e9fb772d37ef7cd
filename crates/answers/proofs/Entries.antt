-- A packet of entries that lie flat as given bytes, as it is written: its sizes, what opens it, its entries, and what closes it. For an edit, and for a
-- target added or dropped.
use mathlib.Core.Path.{◌≡◌, refl, sym, ap, ◌∙◌}
use Prim.Native.Nat.{ℕ, ◌+◌, ◌-◌, ◌≤◌, ◌<◌}
use native.Mathlib.Omega.{arith}
use mathlib.Core.List.{List, []}
use lib.ListN.{length, take, drop}
use lib.Seq.{sets}
use borrow.Rule.Slice.PartMut.{put_mid}
use Rattle.format.specs.Lists.{flat_all}
use Rattle.format.specs.Table.{Form}
use Rattle.format.specs.Packet.{Entry, flat_entry, closed}
use Rattle.format.specs.Calls.{packed}
use Rattle.format.proofs.Sheets.Normal.{entries_less}
use Rattle.stores.specs.Puts.{Puts}
use Rattle.frames.specs.Meet.{frame_size, open_bytes, seal_bytes}
use Rattle.answers.specs.Meet.{Answer, answer_of, Entered, EntriesPacked}
use Rattle.answers.proofs.Framed.{Fits, open_asked, rest_from, rest_room, entries_end, close_asked, all_written}
use Rattle.answers.proofs.Packing.{Packs, size_is, packs_long, packs_short, packs_fit, packs_done}

-- n is how many bytes the entries take, size the packet
entries_packs : (f : Form) (es : List Entry) {n size : ℕ} → n ≡ length (flat_all flat_entry es) → size ≡ frame_size f n → Packs (packed (closed f es)) f es n size
entries_packs f es en ez = record { packet = closed f es; answers = refl; closes = refl; entries = sym en; frame = ez }

-- more bytes than a packet may have
pub entries_over : (f : Form) (bytes : List ℕ) → 8192 < length bytes → (lent : List ℕ) {r : Answer} → r ≡ answer_of 1 0 → EntriesPacked f bytes lent r lent
entries_over f bytes g lent e es ee =
    let p = entries_packs f es refl refl in
    packs_long p lent (omega (arith, g, ap length ee, size_is p, entries_less f es)) e

pub record Sized (f : Form) (bytes : List ℕ) (n size : ℕ) : Type 0 where
  pub entered : Entered bytes
  pub entries : n ≡ length bytes
  pub frame : size ≡ frame_size f n

module _ {f : Form} {bytes : List ℕ} {n size : ℕ} (z : Sized f bytes n size) where
  packs : (es : List Entry) → flat_all flat_entry es ≡ bytes → Packs (packed (closed f es)) f es n size
  packs es e = entries_packs f es (z.entries ∙ sym (ap length e)) z.frame

  pub sized_long : (lent : List ℕ) → 8192 < size → {r : Answer} → r ≡ answer_of 1 0 → EntriesPacked f bytes lent r lent
  sized_long lent h er es e = packs_long (packs es e) lent h er

  pub sized_short : (lent : List ℕ) → size ≤ 8192 → length lent < size → {r : Answer} → r ≡ answer_of 16 size → EntriesPacked f bytes lent r lent
  sized_short lent small h er es e = packs_short (packs es e) lent small h er

-- ---- there is room

pub record Roomy (f : Form) (bytes : List ℕ) (n size : ℕ) (lent : List ℕ) : Type 0 where
  pub sizes : Sized f bytes n size
  pub small : size ≤ 8192
  pub room : size ≤ length lent

module _ {f : Form} {bytes : List ℕ} {n size : ℕ} {lent : List ℕ} (z : Roomy f bytes n size lent) where
  fits : (es : List Entry) → flat_all flat_entry es ≡ bytes → Fits f es lent n size
  fits es e = packs_fit (packs z.sizes es e) lent z.small z.room

  -- entries that do
  some : Fits f z.sizes.entered.0 lent n size
  some = fits z.sizes.entered.0 z.sizes.entered.1

  pub opening : (n ≤ 1048576) × (length (open_bytes f n) ≤ length lent)
  opening = open_asked some

  module _ {a : ℕ} {out : List ℕ} (eo : (a ≡ length (open_bytes f n)) × (out ≡ sets lent 0 (open_bytes f n))) where
    pub entries_from : a ≤ length out
    entries_from = rest_from some eo

    pub entries_room : length bytes ≤ length (take (length out - a) (drop a out))
    entries_room = rest_room some eo (sym z.sizes.entered.1)

    module _ {m : ℕ} {e : List ℕ} (put : Puts (take (length out - a) (drop a out)) 0 bytes m e) where
      stored : (m ≡ length bytes) × (e ≡ sets (take (length out - a) (drop a out)) 0 bytes)
      stored = (omega (arith, put.0), put.1)

      pub entries_to : a + m ≤ 8192
      entries_to = entries_end some eo (sym z.sizes.entered.1) stored

      pub closing : (a + m + length (seal_bytes f []) ≤ length (put_mid a (length out - a) out e)) × (a + m + length (seal_bytes f []) ≤ 8192)
      closing = close_asked some eo (sym z.sizes.entered.1) stored

      pub written : {j : ℕ} {last : List ℕ} → Puts (put_mid a (length out - a) out e) (a + m) (seal_bytes f (take (a + m) (put_mid a (length out - a) out e))) j last
          → {r : Answer} → r ≡ answer_of 0 size → EntriesPacked f bytes lent r last
      written p er es e' = packs_done (packs z.sizes es e') lent z.small z.room (all_written (fits es e') eo (sym e') stored p) er
