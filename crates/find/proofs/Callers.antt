-- The set of a packet that was checked, as the search asks for it.
use mathlib.Core.Path.{◌≡◌, sym, ap, subst}
use Prim.Native.Nat.{ℕ, ◌-◌, ◌≤◌}
use native.Mathlib.Omega.{arith}
use mathlib.Core.List.{List}
use lib.ListN.{length, drop, length-drop}
use Rattle.format.specs.Answer.{ok}
use Rattle.format.specs.Coding.{Bytes}
use Rattle.format.specs.Table.{Form, embedded, standalone, set}
use Rattle.format.specs.Packet.{Entry, Packet}
use Rattle.format.specs.Read.{start, closing, parse}
use Rattle.format.proofs.Words.Answers.{bind_then, ok_inj}
use Rattle.tally.specs.declared.Sizes.{Sizes}
use Rattle.tally.specs.Runs.{level_run}
use Rattle.tally.proofs.Parsed.{Sealing, Parsed}
use Rattle.check_packet.specs.Checks.{Checked}
use Rattle.check_packet.specs.Checks.{Fine}
use Rattle.check_packet.specs.Meet.{checked_of}
use Rattle.check_packet.proofs.Opened.{fine, opened, lent_set, lent_is}
use Rattle.find.specs.Spots.{things_of, entries_of}
use Rattle.find.specs.Places.{Closes, SetOf}
use Rattle.find.proofs.Seeks.{ran_ok}

module _ (f : Form) (s : List ℕ) (p : Packet) (k : Parsed f s p) where
  abbrev pub set_at : List ℕ
  set_at = drop (start f k.width) s

  pub entries_are : entries_of set f set_at ≡ k.es.val
  entries_are = ap things_of k.runs

  pub set_of : SetOf f set_at
  set_of = record {
    short = omega (arith, length-drop (start f k.width) s, k.short);
    ran = ran_ok (level_run set f set_at) k.runs;
    closes = subst (Closes f) (sym entries_are) (by f k.width k.es.val k.sum k.from k.closes k.sealing);
  }
    where
      by : (f : Form) (w : ℕ) (es : List Entry) (sum : List ℕ) → start f w ≤ length s → closing f s es ≡ ok sum → Sealing f es sum → Closes f es
      by embedded w es sum l e z = z
      by standalone w es sum l e (c, n, z) =
          unfold closing in
          bind_then _ _ _ e λ _ _ e₁.
          bind_then _ _ _ e₁ λ _ _ e₂.
          (c, omega (arith, n, l, ap length (ok_inj _ _ e₂), length-drop (length s - 2) s), z)

-- as it is lent
pub set_is : (f : Form) (s : List ℕ) {c : Checked} (ec : c ≡ checked_of (parse f s)) (b : Bytes s) {a : Sizes} {k : ℕ} (t : c ≡ Fine a k) → SetOf f (lent_set f s ec b t)
set_is f s ec b t = rw (lent_is f s ec b t) (set_of f s (fine f s ec b t).0 (opened f s ec b t))
