-- A record whose tag and whose value's length have a byte each, below 128: how it is told, by four bytes tested at once, and how its item is stored.
use mathlib.Core.Path.{◌≡◌, refl, sym, ◌∙◌}
use Prim.Native.Nat.{ℕ, ◌+◌, ◌*◌, ◌/◌, ◌%◌, ◌<◌}
use native.Mathlib.Omega.{arith}
use native.Mathlib.Nat.{mod-eq_of_lt}
use mathlib.Core.List.{List}
use lib.ListN.{length, get_or, set, length-set}
use lib.Seq.{sets, length-sets}
use lib.Bits.{bit_and, and_block, and_mask, and_high}
use Rattle.coding.proofs.Counts.{len_one}
use Rattle.write_packet.specs.Writing.{Small, item_coded}
use Rattle.store_coded.proofs.Codings.{short_length, short_oid, short_total, short_stored}

-- ---- how it is told

-- the last byte of a number, and the others
masked : (x a m k : ℕ) → a < 256 → k < 256 → bit_and (x * 256 + a) (m * 256 + k) ≡ 0 → (bit_and x m ≡ 0) × (bit_and a k ≡ 0)
masked x a m k ha hk e =
    let s : bit_and x m * 256 + bit_and a k ≡ 0 = sym (and_block 8 x m a k ha hk) ∙ e in
    (omega (arith, s), omega (arith, s))

no_byte : (a : ℕ) → a < 256 → bit_and a 255 ≡ 0 → a ≡ 0
no_byte a h e =
    let m : bit_and a 255 ≡ a % 256 = and_mask a 8 in
    omega (arith, m, e, h)

low_byte : (a : ℕ) → a < 256 → bit_and a 128 ≡ 0 → a < 128
low_byte a h e =
    let m : bit_and a 128 ≡ (a / 128 % 2) * 128 = and_high a 1 7 in
    let few : a / 128 % 2 ≡ a / 128 = mod-eq_of_lt (omega (arith, h)) in
    omega (arith, m, e, few)

pub tested : (a b c d : ℕ) → a < 256 → b < 256 → c < 256 → d < 256 → bit_and (a + 256 * b + 65536 * c + 16777216 * d) 2164228351 ≡ 0 → (a ≡ 0) × (b < 128) × (c ≡ 0) × (d < 128)
tested a b c d ha hb hc hd e =
    let n : a + 256 * b + 65536 * c + 16777216 * d ≡ ((d * 256 + c) * 256 + b) * 256 + a = omega arith in
    let first = masked ((d * 256 + c) * 256 + b) a 8454016 255 ha (omega arith) (rw n at e) in
    let second = masked (d * 256 + c) b 33023 128 hb (omega arith) first.0 in
    let third = masked d c 128 255 hc (omega arith) second.0 in
    (no_byte a ha first.1, low_byte b hb second.1, no_byte c hc third.1, low_byte d hd third.0)

-- whose four bytes were tested as one number
pub told_small : (s : List ℕ) (p : ℕ) {a b c d : ℕ} → (a ≡ get_or s (p + 2) 0) × (a < 256) → (b ≡ get_or s (p + 3) 0) × (b < 256)
    → (c ≡ get_or s (p + 4) 0) × (c < 256) → (d ≡ get_or s (p + 5) 0) × (d < 256) → bit_and (a + 256 * b + 65536 * c + 16777216 * d) 2164228351 ≡ 0 → Small s p
told_small s p ea eb ec ed e =
    let t = tested _ _ _ _ ea.1 eb.1 ec.1 ed.1 e in
    record { tag_high = omega (arith, ea.0, t.0); tag_low = omega (arith, eb.0, t.1); size_high = omega (arith, ec.0, t.2); size_low = omega (arith, ed.0, t.3) }

-- ---- how its item is stored: the tag, the length, and the value

module _ (tag : ℕ) (v : List ℕ) where
  pub small_long : tag < 128 → length v < 128 → length (item_coded tag v) ≡ 2 + length v
  small_long ht hv = omega (arith, short_total tag v, (short_oid tag v 0 ht).0, len_one (length v) hv)

  pub small_stored : (o : List ℕ) (a : ℕ) → tag < 128 → length v < 128 → sets o a (item_coded tag v) ≡ sets (set (set o a tag) (a + 1) (length v)) (a + 2) v
  small_stored o a ht hv =
      let (w, l) = short_length (length v) (set o a tag) (a + 1) hv in
      sym (short_stored tag v o a (short_oid tag o a ht) (omega (arith, w), l) (refl, refl)).1

-- what its store is proved by
pub ruleset small_put = (small_long, small_stored, length-set, length-sets)
