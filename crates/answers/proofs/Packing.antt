-- A call that answers with a packet's bytes if they are within the limit: over it, too little room, and all written.
use mathlib.Core.Path.{◌≡◌, sym, ap, ◌∙◌}
use Prim.Native.Nat.{ℕ, ◌≤◌, ◌<◌}
use native.Mathlib.Omega.{arith}
use mathlib.Core.List.{List}
use lib.ListN.{length}
use lib.Seq.{sets}
use borrow.Author.Tests.{le-leb, lt-leb}
use Rattle.format.specs.Answer.{Ans, ok}
use Rattle.format.specs.Lists.{flat_all}
use Rattle.format.specs.Table.{Form}
use Rattle.format.specs.Packet.{Entry, Packet, flat_entry, flat, closed}
use Rattle.format.specs.Read.{limit}
use Rattle.format.specs.Calls.{packed}
use Rattle.format.specs.Room.{leaves}
use Rattle.format.proofs.Sheets.Normal.{entries_less}
use Rattle.items.proofs.Tests.{need_so, need_not}
use Rattle.frames.specs.Meet.{frame_size}
use Rattle.frames.proofs.Framing.{frame_long}
use Rattle.answers.specs.Meet.{Answer, left_of, answer_of}
use Rattle.answers.proofs.Leaving.{left_refused, left_short, left_whole}
use Rattle.answers.proofs.Framed.{Fits}

-- x is what the call should answer: the packet of the entries es, n bytes, and size is that of the packet
pub record Packs (x : Ans (List ℕ)) (f : Form) (es : List Entry) (n size : ℕ) : Type 0 where
  pub packet : Packet
  pub answers : x ≡ packed packet
  pub closes : flat packet ≡ flat (closed f es)
  pub entries : length (flat_all flat_entry es) ≡ n
  pub frame : size ≡ frame_size f n

module _ {x : Ans (List ℕ)} {f : Form} {es : List Entry} {n size : ℕ} (k : Packs x f es n size) where
  pub size_is : length (flat (closed f es)) ≡ size
  size_is = frame_long f es ∙ ap (frame_size f) k.entries ∙ sym k.frame

  long : length (flat k.packet) ≡ size
  long = ap length k.closes ∙ size_is

  module _ (lent : List ℕ) where
    pub packs_long : 8192 < size → {r : Answer} → r ≡ answer_of 1 0 → left_of r lent ≡ leaves lent x
    unfolding packed limit
    packs_long h er = left_refused lent (k.answers ∙ need_not _ _ _ (lt-leb (length (flat k.packet)) 8192 (omega (arith, long)))) er

    module _ (small : size ≤ 8192) where
      answered : x ≡ ok (flat (closed f es))
      unfolding packed limit
      answered = k.answers ∙ need_so _ _ _ (le-leb (length (flat k.packet)) 8192 (omega (arith, long))) ∙ ap ok k.closes

      pub packs_short : length lent < size → {r : Answer} → r ≡ answer_of 16 size → left_of r lent ≡ leaves lent x
      packs_short h er = left_short lent answered size_is h er

      pub packs_fit : size ≤ length lent → Fits f es lent n size
      packs_fit h = record { entries = k.entries; frame = k.frame; room = h; small = small }

      pub packs_done : size ≤ length lent → {out : List ℕ} → out ≡ sets lent 0 (flat (closed f es)) → {r : Answer} → r ≡ answer_of 0 size → left_of r out ≡ leaves lent x
      packs_done h eo er = left_whole lent answered size_is h eo er

      pub entries_small : n ≤ 8192
      entries_small = omega (arith, k.entries, entries_less f es, size_is)
