-- What is known where a record at p is read: how far none of the keys before it repeats.
use Rattle.std.specs.Prelude.{◌≡◌, ℕ, ◌≤◌, Bool, true, false, List, length, drop}
use Rattle.heads.specs.Meet.{peek, Clear}
use Rattle.heads.specs.Records.{peek_val}

pub record ValueAsked (s : List ℕ) (p clear : ℕ) (b : Bool) : Type 0 where
  pub within : p ≤ length s
  pub cleared : Clear (peek true false b) s clear
  pub marked : peek true false b (drop p s) ≡ peek_val (drop p s)

pub record PartAsked (s : List ℕ) (p clear : ℕ) (b : Bool) : Type 0 where
  pub most : length s ≤ 65536
  pub within : p ≤ length s
  pub cleared : Clear (peek true false b) s clear
