-- Where the check of a new target's records meets document 02: what its answers mean.
use Rattle.std.specs.Prelude.{◌≡◌, ℕ, Result, Ok, Err, ◌≤◌, ◌<◌, true, false, List, map, length, eqb}
use Rattle.format.specs.Answer.{Ans, ok, refused, need, ◌>>=◌}
use Rattle.format.specs.Lists.{flat_all}
use Rattle.format.specs.Run.{run}
use Rattle.format.specs.Table.{Form, pack}
use Rattle.format.specs.Packet.{flat_item, flat_pack}
use Rattle.format.specs.Sheet.{Val, Target, tag_of_val, TI, is, value_at}
use Rattle.format.specs.Calls.{item_of, pack_of}
use Rattle.coding.specs.declared.refusals.Refusal.{Refusal}
use Rattle.coding.specs.Refusals.{number}
use Rattle.tally.specs.Pieces.{Walked, Good, Bad}
use Rattle.tally.specs.Meet.{bits, bit_of}
use Rattle.check_target.specs.declared.Vals as code
use Rattle.check_target.specs.declared.Told as codes
use Rattle.check_target.specs.Vals.{Vals}
use Rattle.check_target.specs.Vals as vals
use Rattle.check_target.specs.Tolds.{Told}
use Rattle.check_target.specs.Tolds as told

-- as the code has them
abbrev pub vals_told : Result code.Vals Refusal → Vals
vals_told (Ok v) = vals.Fine v.held v.normal
vals_told (Err r) = vals.Wrong (number r)

abbrev pub target_told : Result codes.Told Refusal → Told
target_told (Ok t) = told.Fine t.id t.held t.size
target_told (Err r) = told.Wrong (number r)

-- what a walk over records of so many bytes says of them all
abbrev pub walk_vals : Walked → ℕ → Vals
walk_vals (Good a m) n = elim (eqb a.sheet n) [ true ↦ vals.Fine m a.normal | false ↦ vals.Wrong 17 ]
walk_vals (Bad k p) n = vals.Wrong k

-- the `TI`s, to the end
unfoldable pub vals_of : Form → List ℕ → Ans (List Val)
vals_of f s = do
  vs ← run (is TI) tag_of_val (value_at pack f) s
  _ ← need (eqb vs.used (length s)) 17
  ok vs.val

-- the bits of their tags
abbrev pub held_by : List Val → ℕ
held_by vs = bits (λ v. bit_of (tag_of_val v)) vs

-- a size that is exact if a packet may have so many bytes, and else more than it may have
abbrev pub Measures : ℕ → ℕ → Type 0
Measures size exact = (size ≤ 8192 → size ≡ exact) × (8192 < size → 8192 < exact)

abbrev pub ValsAs : Ans (List Val) → Vals → Type 0
ValsAs (ok vs) (vals.Fine held normal) = (held ≡ held_by vs) × (normal ≤ 196608) × Measures normal (length (flat_all flat_item (map item_of vs)))
ValsAs (ok vs) (vals.Wrong n) = ⊥
ValsAs (refused n p) (vals.Fine held normal) = ⊥
ValsAs (refused n p) (vals.Wrong m) = m ≡ n

abbrev pub ToldAs : Ans Target → Told → Type 0
ToldAs (ok t) (told.Fine id held size) = (id ≡ t.id) × (held ≡ held_by t.vals) × Measures size (length (flat_pack (pack_of t)))
ToldAs (ok t) (told.Wrong n) = ⊥
ToldAs (refused n p) (told.Fine id held size) = ⊥
ToldAs (refused n p) (told.Wrong m) = m ≡ n
