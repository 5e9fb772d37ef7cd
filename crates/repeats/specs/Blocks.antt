-- Keys gathered into a block, and those before it that are none of them.
use Rattle.std.specs.Prelude.{◌≡◌, ℕ, ◌-◌, ◌≤◌, true, false, List, length, take, drop}
use Rattle.format.specs.Answer.{Got}
use Rattle.format.specs.Lists.{has}
use Rattle.format.specs.Valid.{Once}
use Rattle.heads.specs.Meet.{Heads}

-- the first n of the block, none of them twice, head the bytes from one place to another; the rest of it may hold anything
pub record FirstOf (look : List ℕ → Got ℕ) (s : List ℕ) (from : ℕ) (block : List ℕ) (to n : ℕ) : Type 0 where
  pub on : from ≤ to
  pub within : to ≤ length s
  pub long : length block ≡ 64
  pub heads : Heads look (drop from s) (to - from) (take n block)
  pub once : Once (take n block)

abbrev pub Gathered : (List ℕ → Got ℕ) → List ℕ → ℕ → List ℕ → ℕ → Type 0
Gathered look s from block to = (n : ℕ) × FirstOf look s from block to n

-- none of the block is a key that heads something in the first p bytes
abbrev pub Missed : (List ℕ → Got ℕ) → List ℕ → ℕ → List ℕ → Type 0
Missed look s p block = (ks : List ℕ) → Heads look s p ks → (k : ℕ) → has k block ≡ true → has k ks ≡ false
