-- What opens and closes a packet: that these bytes around the entries are the packet, how many they are, and how they are stored.
use mathlib.Core.Path.{◌≡◌, refl, sym, ap, ◌∙◌}
use Prim.Native.Nat.{ℕ, ◌+◌, ◌≤◌}
use native.Mathlib.Omega.{arith}
use mathlib.Core.List.{List, [], ◌++◌, append_assoc, append-nil}
use lib.ListN.{length, take, drop, length-append}
use lib.Seq.{sets, take_at}
use Rattle.format.specs.Coding.{len_width, fixed}
use Rattle.format.specs.Lists.{flat_all}
use Rattle.format.specs.Table.{Form, embedded, standalone}
use Rattle.format.specs.Packet.{Entry, flat_entry, the_key, covered, framed, flat, closed}
use Rattle.format.specs.Read.{start}
use Rattle.format.proofs.Coding.Lengths.{length_len}
use Rattle.stores.proofs.Stores.{sets_start}
use Rattle.stores.proofs.Puts.{Puts, puts_then}
use Rattle.frames.specs.Meet.{frame_size, open_bytes, seal_bytes}

-- ---- how many they are

pub open_long : (f : Form) (n : ℕ) → length (open_bytes f n) ≡ start f (len_width (n + 4))
unfolding open_bytes the_key
open_long embedded n = refl
open_long standalone n = rw length_len (omega arith)

-- the checksum's tag, length and two bytes
abbrev pub seal_size : Form → ℕ
seal_size embedded = 0
seal_size standalone = 4

pub seal_long : (f : Form) (s : List ℕ) → length (seal_bytes f s) ≡ seal_size f
unfolding seal_bytes fixed
seal_long embedded s = refl
seal_long standalone s = refl

pub frame_parts : (f : Form) (n : ℕ) (s : List ℕ) → frame_size f n ≡ length (open_bytes f n) + (n + length (seal_bytes f s))
frame_parts f n s = rw (open_long f n, seal_long f s) (go f)
  where
    go : (f : Form) → frame_size f n ≡ start f (len_width (n + 4)) + (n + seal_size f)
    go embedded = omega arith
    go standalone = omega arith

-- ---- around the entries they are the packet

pub frame_bytes : (f : Form) (es : List Entry) → let b = flat_all flat_entry es in let a = open_bytes f (length b) in
    flat (closed f es) ≡ a ++ (b ++ seal_bytes f (a ++ b))
unfolding flat closed framed covered open_bytes seal_bytes
frame_bytes embedded es = sym (append-nil (flat_all flat_entry es))
frame_bytes standalone es = simp append_assoc

pub frame_long : (f : Form) (es : List Entry) → length (flat (closed f es)) ≡ frame_size f (length (flat_all flat_entry es))
frame_long f es =
    let b : List ℕ = flat_all flat_entry es in
    let a : List ℕ = open_bytes f (length b) in
    rw (frame_bytes f es, length-append, length-append) (sym (frame_parts f (length b) (a ++ b)))

-- ---- they are stored

-- a run at the start is what is then there
start_take : (o vs : List ℕ) {k : ℕ} → length vs ≡ k → length vs ≤ length o → take k (sets o 0 vs) ≡ vs
start_take o vs {k = k} e h = rw (sets_start o vs h) (take_at vs (drop (length vs) o) k e)

module _ (f : Form) (es : List Entry) (o : List ℕ) (h : length (flat (closed f es)) ≤ length o) where
  -- as `open`, a writer of the entries, and `close` leave them
  pub framed_puts : {o₁ o₂ o₃ : List ℕ} {a e r : ℕ} → let b = flat_all flat_entry es in
      Puts o 0 (open_bytes f (length b)) a o₁ → Puts o₁ a b e o₂ → Puts o₂ e (seal_bytes f (take e o₂)) r o₃ → Puts o 0 (flat (closed f es)) r o₃
  framed_puts {o₂ = o₂} {e = e} p q s =
      let b : List ℕ = flat_all flat_entry es in
      let a : List ℕ = open_bytes f (length b) in
      let both : Puts o 0 (a ++ b) e o₂ = puts_then o 0 a b p q in
      let size : length (a ++ b) ≡ e = omega (arith, both.0) in
      let room : length (a ++ b) ≤ length o = omega (arith, frame_long f es, frame_parts f (length b) [], length-append a b) in
      let there : take e o₂ ≡ a ++ b = ap (take e) both.1 ∙ start_take o (a ++ b) size room in
      rw (frame_bytes f es, ← append_assoc a b (seal_bytes f (a ++ b))) (puts_then o 0 (a ++ b) (seal_bytes f (a ++ b)) both (rw there at s))

  pub framed_stored : {o₁ o₂ o₃ : List ℕ} → let b = flat_all flat_entry es in let a = open_bytes f (length b) in let k = length a + length b in
      o₁ ≡ sets o 0 a → o₂ ≡ sets o₁ (length a) b → o₃ ≡ sets o₂ k (seal_bytes f (take k o₂)) → o₃ ≡ sets o 0 (flat (closed f es))
  framed_stored p q s = (framed_puts (omega arith, p) (refl, q) (refl, s)).1
