-- What the passes over a level's keys go by: a bit for each key of a quarter, modulo 4,096, and where a pass may stop.
use Rattle.std.specs.Prelude.{◌≡◌, ℕ, ◌/◌, ◌%◌, ◌<◌, Bool, true, false, not, List, length, drop}
use Rattle.format.specs.Answer.{Got}
use Rattle.format.specs.Lists.{has}
use Rattle.format.specs.Sheet.{is, TG, TI}
use Rattle.heads.specs.declared.Look.{Look}
use Rattle.heads.specs.declared.Look.TheVariants.{Packs, Items, Targets, Records}
use Rattle.heads.specs.Meet.{Heads}
use Rattle.repeats.specs.Notes.{noted}

abbrev pub quarter : ℕ → ℕ
quarter k = k / 4096 % 4

unfoldable pub noted_part : List ℕ → ℕ → Bool
noted_part bits k = noted bits (k % 4096)

-- key is noted, if it is of the part, and what was noted
pub record NotedPart (before after : List ℕ) (key part : ℕ) : Type 0 where
  pub long : length after ≡ length before
  pub new : quarter key ≡ part → noted_part after key ≡ true
  pub kept : (k : ℕ) → noted_part before k ≡ true → noted_part after k ≡ true

-- `Clear`, of the keys of the part
abbrev pub ClearIn : ℕ → (List ℕ → Got ℕ) → List ℕ → ℕ → Type 0
ClearIn part look s r = (p : ℕ) → p < r → (ks : List ℕ) → Heads look s p ks → quarter (look (drop p s)).val ≡ part → has (look (drop p s)).val ks ≡ false

-- in a look over targets, no `TG` stands at q of a sheet; over a target's items, no `TI` does; false in other looks
abbrev pub is_other : Look → List ℕ → ℕ → Bool
is_other Targets s q = not (is TG (drop q s))
is_other (Records false) s q = not (is TI (drop q s))
is_other (Records true) s q = false
is_other Packs s q = false
is_other (Items set) s q = false
