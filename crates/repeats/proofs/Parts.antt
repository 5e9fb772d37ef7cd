-- A key of a part is noted as any is, modulo 4,096.
use mathlib.Core.Path.{◌≡◌, refl}
use Prim.Native.Nat.{ℕ, ◌%◌}
use native.Mathlib.Omega.{arith}
use mathlib.Core.List.{List}
use lib.ListN.{length}
use Rattle.repeats.specs.Notes.{Noting}
use Rattle.repeats.specs.Parts.{quarter, noted_part, NotedPart}

pub bits_more : (l after : List ℕ) (key part : ℕ) → length l ≡ 64 → Noting l after (key % 4096) → NotedPart l after key part
unfolding noted_part
bits_more l after key part e n = record { long = n.long; new = λ z. n.new (omega (arith, e)); kept = λ k h. n.kept (k % 4096) h }

-- a key of another part
pub bits_same : (l : List ℕ) (key part : ℕ) → (quarter key ≡ part → ⊥) → NotedPart l l key part
bits_same l key part h = record { long = refl; new = λ z. absurd (h z); kept = λ k e. e }
