-- What callers need: a part of a slice as a list, how many bits digits fill, and the room of what a reader took.
use Rattle.std.proofs.Common.{◌≡◌, ℕ, zero, suc, ◌+◌, ◌-◌, ◌*◌, ◌^◌, ◌<◌, ◌≤◌, true, List, length, take, drop, sym, ap, lt_of_lt_of_le, arith, length-drop, length-take, length-take-le, take_all, pow_mono, pow-add}
use native.Mathlib.Nat.{pow-le-pow_right}
use lib.Arith.{digits_lt}
use Rattle.format.specs.Answer.{ok, got}
use Rattle.format.specs.Coding.{Bytes, bytes_number, len_of, tag_of, id_of}
use Rattle.format.specs.Lists.{same}
use Rattle.format.specs.Packet.{the_key}
use Rattle.format.specs.Valid.{Holds}
use Rattle.format.proofs.Coding.Digits.{number_below}
use Rattle.format.proofs.Coding.Lengths.{len_says}
use Rattle.format.proofs.Coding.Oids.{tag_says, id_says}
use Rattle.format.proofs.Reading.Packets.{same_eq}
use Rattle.format.proofs.Words.Bytes.{bytes_take}

-- ---- `&s[n..]`, as the borrow checker has it

pub tail_part : (n : ℕ) (s : List ℕ) → take (length s - n) (drop n s) ≡ drop n s
tail_part n s = take_all (length s - n) (drop n s) (simp length-drop (omega arith))

-- ---- a number of i digits of w bits each

pub bits_room : (w i m v : ℕ) → v < 2 ^ (w * i) → w * i ≤ m → v < 2 ^ m
bits_room w i m v h l = lt_of_lt_of_le h (pow_mono {i = w * i} {j = m} l)

pub bits_more : (w i v b : ℕ) → v < 2 ^ (w * i) → b < 2 ^ w → v * 2 ^ w + b < 2 ^ (w * (i + 1))
bits_more w i v b h g =
    let e : w * (i + 1) ≡ w * i + w = omega arith in
    rw (e, pow-add) (digits_lt h g)

-- the number that k bytes spell
pub bytes_room : (k : ℕ) (s : List ℕ) → Bytes s → k ≤ length s → bytes_number (take k s) < 256 ^ k
bytes_room k s g h = number_below k (take k s) (bytes_take k s g) (length-take-le k s h)

-- ---- what a reader took: some bytes, all within s, and a value that is small

holds_small : (w n : ℕ) → Holds w n → n < 2 ^ 32
holds_small zero n h = absurd h
holds_small (suc zero) n h = omega arith
holds_small (suc (suc k)) n h =
    let p : ◌<◌ 0 256 = omega arith in
    lt_of_lt_of_le h.1 (pow-le-pow_right p {i = suc k} {j = 4} h.0)

-- The answer stands first: it says what s is. `Bytes s` is then `λ i. (g i).fits`, with g the slice's `.given`.
module _ (s : List ℕ) (v u : ℕ) where
  pub len_room : ok (got v u) ≡ len_of s → Bytes s → (1 ≤ u) × (u ≤ length s) × (v < 2 ^ 32)
  len_room e h = let (t, w) = len_says s (got v u) h (sym e) in (t.pos, t.room, holds_small u v w)

  pub tag_room : ok (got v u) ≡ tag_of s → Bytes s → (1 ≤ u) × (u ≤ length s) × (0 < v) × (v ≤ 16383)
  tag_room e h = let (t, p, w) = tag_says s (got v u) h (sym e) in (t.pos, t.room, p, w)

  pub id_room : ok (got v u) ≡ id_of s → Bytes s → (1 ≤ u) × (u ≤ length s) × (v < 2 ^ 63)
  id_room e h = let (t, w) = id_says s (got v u) h (sym e) in (t.pos, t.room, w)

-- the key takes 16 bytes
pub key_room : (s : List ℕ) → true ≡ same (take 16 s) the_key → 16 ≤ length s
unfolding the_key
key_room s e = omega (arith, ap length (same_eq (take 16 s) the_key (sym e)), length-take 16 s)
