-- The series of a set, where the quick way over the items before it ended.
use Rattle.std.specs.Prelude.{◌≡◌, ℕ, ◌+◌, ◌<◌, List, length, drop}
use Rattle.format.specs.Table.{set}
use Rattle.format.specs.Read.{head_of}
use Rattle.format.specs.Answer.{ok}
use Rattle.heads.specs.Meet.{head, item_head}

-- it stands at p, told to be new, and its packs from one place to another
pub record SeriesNext (s : List ℕ) (p top from next : ℕ) : Type 0 where
  pub used : ℕ
  pub width : ℕ
  pub size : ℕ
  pub here : p < length s
  pub head : ok (item_head (head 101 used width size)) ≡ head_of set (drop p s)
  pub later : 0 < p
  pub new : top < 101
  pub some : 0 < size
  pub from_is : from ≡ p + used + width
  pub next_is : next ≡ from + size
