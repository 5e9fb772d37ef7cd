-- What the entries of a packet that was read write: where the checksum writes nothing, they write the same with it and without.
use mathlib.Core.Path.{◌≡◌, sym, ap, ◌∙◌}
use Prim.Native.Nat.{ℕ}
use mathlib.Core.List.{List, [], ◌++◌, append-nil}
use Rattle.format.specs.Lists.{flat_all}
use Rattle.format.specs.Table.{Form, embedded, standalone}
use Rattle.format.specs.Packet.{Entry, plain}
use Rattle.format.specs.Read.{unsealed}
use Rattle.format.specs.Rows.{seal_item}
use Rattle.format.proofs.Words.Flats.{flat_snoc}
use Rattle.tally.proofs.Parsed.{Sealing}

module _ (emit : Entry → List ℕ) (no_seal : (c : List ℕ) → emit (plain (seal_item c)) ≡ []) where
  pub unsealed_same : (f : Form) (es : List Entry) (sum : List ℕ) → Sealing f es sum → flat_all emit (unsealed es) ≡ flat_all emit es
  unsealed_same embedded es sum e = ap (flat_all emit) (sym e)
  unsealed_same standalone es sum (c, n, e) =
      sym (ap (flat_all emit) e ∙ flat_snoc emit (unsealed es) (plain (seal_item c)) ∙ ap (λ x. flat_all emit (unsealed es) ++ x) (no_seal c) ∙ append-nil (flat_all emit (unsealed es)))
