-- Bytes laid out as others are: what a mask asks of a byte, beside the one that stands at its place there.
use Rattle.std.specs.Prelude.{◌≡◌, ℕ, ◌+◌, ◌-◌, ◌<◌, ◌≤◌, ◌⊎◌, List, length, drop, slice_index, slice_index_or}

-- 2 the same byte, 1 that or any but 0, 0 nothing
abbrev pub Alike : ℕ → ℕ → ℕ → Type 0
Alike mask x y = (x ≡ y) ⊎ ((mask < 2) × ((mask ≡ 0) ⊎ (0 < y)))

-- each of the first n bytes
pub record AlikeTo (masks a b : List ℕ) (n : ℕ) : Type 0 where
  pub at : (i : ℕ) → i < n → Alike (slice_index masks i) (slice_index a i) (slice_index b i)

-- the last 32 of the first n, of which there are so many
pub record LastAlike (masks a b : List ℕ) (n : ℕ) : Type 0 where
  pub some : 32 ≤ n
  pub room : n ≤ length b
  pub alike : AlikeTo (drop (n - 32) masks) (drop (n - 32) a) (drop (n - 32) b) 32

-- the k bytes of a head at p are masked as the same, the one after them as first says, and none before p is masked anew
pub record ItemMasked (before after : List ℕ) (p k first : ℕ) : Type 0 where
  pub long : length after ≡ length before
  pub kept : (i : ℕ) → i < p → slice_index after i ≡ slice_index before i
  pub head : (i : ℕ) → i < k → slice_index after (p + i) ≡ 2
  pub value : slice_index_or after (p + k) 0 ≡ first
