-- What opens and closes a packet, as the code stores it: one part after another, or nothing.
use mathlib.Core.Path.{◌≡◌}
use Prim.Native.Nat.{ℕ, suc, ◌+◌, ◌≤◌}
use native.Mathlib.Omega.{arith}
use native.Mathlib.Numerals.{add-one}
use mathlib.Core.Bool.{Bool, true, false}
use mathlib.Core.List.{List, [], ◌∷◌, ◌++◌}
use lib.ListN.{length, length-set, take, drop, set, length-append}
use lib.Seq.{sets, length-sets, sets-eq, take_at, length-take-le}
use Rattle.format.specs.Coding.{len_width, len_bytes, fixed}
use Rattle.format.specs.Table.{standalone}
use Rattle.format.specs.Packet.{the_key, checksum}
use Rattle.items.specs.Meet.{form_of}
use Rattle.stores.proofs.Stores.{sets_append}
use Rattle.frames.specs.Meet.{open_bytes, seal_bytes}
use Rattle.frames.proofs.Framing.{open_long, seal_long}

pub key_long : {k : List ℕ} → k ≡ the_key → length k ≡ 16
unfolding the_key
key_long e = rw e

-- ---- a standalone packet

module _ {b : Bool} (e : b ≡ true) where
  pub open_room : (n : ℕ) → length (open_bytes (form_of b) n) ≡ 16 + len_width (n + 4)
  open_room n = rw e (open_long standalone n)

  pub seal_room : (s : List ℕ) → length (seal_bytes (form_of b) s) ≡ 4
  seal_room s = rw e (seal_long standalone s)

  -- the key, and the length
  pub opened : (n : ℕ) (o : List ℕ) → sets o 0 (open_bytes (form_of b) n) ≡ sets (sets o 0 the_key) 16 (len_bytes (len_width (n + 4)) (n + 4))
  unfolding open_bytes the_key
  opened n o = rw e (sets_append o 0 the_key (len_bytes (len_width (n + 4)) (n + 4)))

  -- the checksum's tag and length, and then that of all before it
  module _ (o : List ℕ) (a : ℕ) (h : a + 2 ≤ length o) where
    abbrev headed : List ℕ
    headed = set (set o a 1) (a + 1) 2

    covers : take (a + 2) headed ≡ take a o ++ (1 ∷ 2 ∷ [])
    covers =
        let two : List ℕ = 1 ∷ 2 ∷ [] in
        let size : length (take a o ++ two) ≡ a + 2 = simp (length-append, length-take-le a o (omega arith)) in
        let is : headed ≡ (take a o ++ two) ++ drop (a + 2) o = rw add-one (sets-eq two o a h) in
        rw is (take_at (take a o ++ two) (drop (a + 2) o) (a + 2) size)

    pub sealed : sets o a (seal_bytes (form_of b) (take a o)) ≡ sets headed (a + 2) (fixed 2 (checksum (take (a + 2) headed)))
    unfolding seal_bytes
    sealed =
        let next : a + 2 ≡ suc (suc a) = omega arith in
        rw (e, covers, next, add-one)

-- ---- an embedded packet

module _ {b : Bool} (e : b ≡ false) where
  pub not_opened : (n : ℕ) → open_bytes (form_of b) n ≡ []
  unfolding open_bytes
  not_opened n = rw e

  pub not_sealed : (s : List ℕ) → seal_bytes (form_of b) s ≡ []
  unfolding seal_bytes
  not_sealed s = rw e

-- what the two are proved by
pub ruleset opening = (key_long, open_room, opened, not_opened)

pub ruleset closing = (seal_room, sealed, not_sealed, length-set, length-sets)
