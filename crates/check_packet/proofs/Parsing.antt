-- A packet that `parse` accepts was read so (`Parsed`), and what the answer on the check says of that.
use mathlib.Core.Path.{◌≡◌, refl, sym, ap, ◌∙◌}
use Prim.Native.Nat.{ℕ, ◌+◌, ◌-◌, ◌≤◌}
use mathlib.Core.Bool.{Bool, true, false}
use native.Mathlib.Omega.{arith}
use mathlib.Core.List.{List, [], map}
use lib.ListN.{length, drop, length-drop}
use borrow.Author.Tests.{leb-true}
use Rattle.format.specs.Answer.{Ans, ok, refused, need, after}
use Rattle.format.specs.Coding.{Bytes}
use Rattle.format.specs.Lists.{has}
use Rattle.format.specs.Packet.{Entry, Packet, tag_of_entry}
use Rattle.format.specs.Table.{Form, embedded, standalone}
use Rattle.format.specs.Read.{start, closing, parse, limit, entry}
use Rattle.format.proofs.Words.Answers.{never, bind_then, need_then, after_then, ok_inj}
use Rattle.format.proofs.Words.Bytes.{bytes_drop}
use Rattle.format.proofs.Reading.Seal.{SetRead, split, split_embedded, split_alone}
use Rattle.format.proofs.Reading.Packets.{set_says}
use Rattle.tally.specs.declared.Sizes.{Sizes}
use Rattle.tally.specs.Meet.{step_at, deepen_at}
use Rattle.tally.specs.Runs.{level_run}
use Rattle.tally.proofs.Parsed.{Sealing, Parsed}
use Rattle.check_packet.specs.Checks.{Fine, Wrong}
use Rattle.check_packet.specs.Meet.{checked_of}
use Rattle.check_packet.proofs.Openings.{opening_room}

sealing_of : (f : Form) (s : List ℕ) (es : List Entry) (c : List ℕ) → SetRead f [] es → start f 0 ≤ length s → closing f s es ≡ ok c → Sealing f es c
unfolding closing
sealing_of embedded s es c h l e = split_embedded es (split embedded [] es h)
sealing_of standalone s es c h l e =
    bind_then _ _ _ e λ u eu e₁.
    bind_then _ _ _ e₁ λ _ _ e₂.
    split_alone es (split standalone [] es h) (has_1 (has 1 (map tag_of_entry es)) refl eu) λ d n q.
    (d, n ∙ omega (arith, length-drop (length s - 2) s, ap length (ok_inj _ _ e₂)), q)
  where
    has_1 : (b : Bool) → has 1 (map tag_of_entry es) ≡ b → {u : Unit {0}} → after (length s) (need (has 1 (map tag_of_entry es)) 14) ≡ ok u → has 1 (map tag_of_entry es) ≡ true
    has_1 true z eu = z
    has_1 false z {u = u} eu = never 14 (length s + 0) u (unfold after need in (rw z at eu))

pub parsed : (f : Form) (s : List ℕ) (p : Packet) → Bytes s → parse f s ≡ ok p → Parsed f s p
unfolding parse limit level_run step_at deepen_at
parsed f s p b e =
    need_then _ _ _ _ e λ l e₁.
    bind_then _ _ _ e₁ λ w ew e₂.
    after_then _ _ _ _ e₂ λ es ees e₃.
    bind_then _ _ _ e₃ λ c ec e₄.
    let read = (set_says f (drop (start f w) s) es (bytes_drop (start f w) s b) ees).1 in
    record {
      width = w;
      short = leb-true _ _ l;
      opens = ew;
      from = (opening_room f s w ew).1;
      es = es;
      runs = unfold entry in ees;
      sum = c;
      closes = ec;
      packet_is = sym (ok_inj _ _ e₄);
      no_seal = (split f [] es.val read).no_seal;
      sealing = sealing_of f s es.val c read (opening_room f s w ew).2 ec;
    }

-- ---- by the answer on the check

pub fine_parsed : (f : Form) (s : List ℕ) (a : Sizes) (k : ℕ) → Fine a k ≡ checked_of (parse f s) → (p : Packet) × (parse f s ≡ ok p) × (checked_of (ok p) ≡ Fine a k)
fine_parsed f s a k e = go (parse f s) refl e
  where
    go : (x : Ans Packet) → parse f s ≡ x → Fine a k ≡ checked_of x → (p : Packet) × (parse f s ≡ ok p) × (checked_of (ok p) ≡ Fine a k)
    go (ok p) q e = (p, q, sym e)
    go (refused n j) q e = absurd (let z : ◌≡◌ {A = ℕ} 0 1 = cc in omega arith)

pub wrong_parsed : (f : Form) (s : List ℕ) (n k : ℕ) → Wrong n k ≡ checked_of (parse f s) → parse f s ≡ refused n k
wrong_parsed f s n k e = go (parse f s) refl e
  where
    go : (x : Ans Packet) → parse f s ≡ x → Wrong n k ≡ checked_of x → parse f s ≡ refused n k
    go (ok p) q e = absurd (let z : ◌≡◌ {A = ℕ} 0 1 = cc in omega arith)
    go (refused m j) q e = q ∙ (let a : m ≡ n = cc in let b : j ≡ k = cc in ap (λ x. refused x j) a ∙ ap (refused n) b)
