-- Accepted exactly when valid.
use mathlib.Core.Path.{◌≡◌, sym, ap, ◌∙◌}
use mathlib.Core.List.{List}
use Prim.Native.Nat.{ℕ}
use Rattle.format.specs.Answer.{ok, ◌>>=◌}
use Rattle.format.specs.Coding.{Bytes}
use Rattle.format.specs.Table.{Form}
use Rattle.format.specs.Packet.{Packet}
use Rattle.format.specs.Read.{parse}
use Rattle.format.specs.Sheet.{content, sheet_bytes, unsheet}
use Rattle.format.specs.Calls.{read}
use Rattle.format.specs.Valid.{Lies}
use Rattle.format.specs.Demands.Accepted.{AcceptedWhenValid, SheetWhenValid}
use Rattle.format.proofs.Words.Answers.{bind_then, ok_inj}
use Rattle.format.proofs.Reading.Packets.{parse_says, lies_parses}
use Rattle.format.proofs.Sheets.Sheets.{sheet_says, sheet_back}

pub read_is : (f : Form) (s : List ℕ) (p : Packet) → parse f s ≡ ok p → read f s ≡ ok (sheet_bytes (content p))
unfolding read ◌>>=◌
read_is f s p e = rw e

pub read_then : {X : Type 0} (f : Form) (s sheet : List ℕ) → read f s ≡ ok sheet → ((p : Packet) → parse f s ≡ ok p → sheet_bytes (content p) ≡ sheet → X) → X
unfolding read
read_then f s sheet e k = bind_then _ _ _ e λ p ep e₁. k p ep (ok_inj _ _ e₁)

-- the bytes have one tree at most
pub one_tree : (f : Form) (s : List ℕ) (p q : Packet) → Lies f s p → Lies f s q → p ≡ q
one_tree f s p q h g = ok_inj p q (sym (lies_parses f s p h) ∙ lies_parses f s q g)

pub accepted_when_valid : (f : Form) (s : List ℕ) → Bytes s → AcceptedWhenValid f s
accepted_when_valid f s b = record {
  accepted = (λ r. read_then f s r.0 r.1 λ p e _. (p, parse_says f s p b e), λ r. (_, read_is f s r.0 (lies_parses f s r.0 r.1)));
  tree = λ p. (parse_says f s p b, lies_parses f s p);
  only_one = one_tree f s;
}

pub sheet_when_valid : (b : List ℕ) → Bytes b → SheetWhenValid b
sheet_when_valid b h = record { sheet = λ t. (sheet_says b t h, λ g. ap unsheet (sym g.0) ∙ sheet_back t g.1) }
