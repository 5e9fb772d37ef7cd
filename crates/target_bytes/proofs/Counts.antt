-- Tag 6's item, as the code stores it: tag, length and number as one number; and the bytes from one place to another with it.
use mathlib.Core.Path.{◌≡◌, refl, sym, ap, ◌∙◌}
use mathlib.Core.Logic.{◌⊎◌, inl, inr}
use Prim.Native.Nat.{ℕ, ◌+◌, ◌/◌, ◌%◌, ◌≤◌, ◌<◌}
use native.Mathlib.Omega.{arith}
use mathlib.Core.Bool.{Bool, true, false, and-false}
use mathlib.Core.List.{List, [], ◌∷◌, ◌++◌}
use lib.ListN.{length}
use lib.Dec.{leb, ltb, eqb}
use borrow.Author.Tests.{ltb-true, ltb-false, lt-ltb, le-ltb, le-leb, lt-leb, ne_eqb}
use Rattle.format.specs.Coding.{digits, fixed, oid_bytes, len_width, len_bytes}
use Rattle.format.specs.Table.{rules, find, rule_of, strip, short}
use Rattle.format.specs.Packet.{flat_item}
use Rattle.format.specs.Calls.{item_of}
use Rattle.format.specs.Edit.{val_with}
use Rattle.format.specs.Targets.{count_of}
use Rattle.format.proofs.Coding.Digits.{length_fixed}
use Rattle.find.specs.declared.around.Series.{Series}
use Rattle.edit_rules.specs.Cuts.{part}
use Rattle.target_bytes.specs.Meet.{count_item, counted}

value_of : (n : ℕ) → count_of n ≡ record { tag = 6; value = strip (fixed 3 n) }
unfolding count_of val_with short rule_of rules find
value_of n = refl

item_one : (a : ℕ) → flat_item (item_of (record { tag = 6; value = a ∷ [] })) ≡ 6 ∷ 1 ∷ a ∷ []
unfolding flat_item item_of oid_bytes digits len_width len_bytes
item_one a = refl

item_two : (a b : ℕ) → flat_item (item_of (record { tag = 6; value = a ∷ b ∷ [] })) ≡ 6 ∷ 2 ∷ a ∷ b ∷ []
unfolding flat_item item_of oid_bytes digits len_width len_bytes
item_two a b = refl

three : (n : ℕ) → fixed 3 n ≡ n / 256 / 256 % 256 ∷ n / 256 % 256 ∷ n % 256 ∷ []
unfolding fixed
three n = refl

value_low : (n : ℕ) → n < 256 → strip (fixed 3 n) ≡ n ∷ []
unfolding strip
value_low n h =
    let a : n / 256 / 256 % 256 ≡ 0 = omega arith in
    let b : n / 256 % 256 ≡ 0 = omega arith in
    let c : n % 256 ≡ n = omega arith in
    rw (three, a, b, c) (rw (and-false (eqb n 0), strip))

value_high : (n : ℕ) → 256 ≤ n → n ≤ 65535 → strip (fixed 3 n) ≡ n / 256 ∷ n % 256 ∷ []
unfolding strip
value_high n h k =
    let a : n / 256 / 256 % 256 ≡ 0 = omega arith in
    let b : n / 256 % 256 ≡ n / 256 = omega arith in
    rw (three, a, b) (rw (ne_eqb (n / 256) 0 (λ z. omega arith), strip))

low_number : (n : ℕ) → n < 256 → fixed 3 (0x60100 + n) ≡ 6 ∷ 1 ∷ n ∷ []
unfolding fixed
low_number n h =
    let a : (0x60100 + n) / 256 / 256 % 256 ≡ 6 = omega arith in
    let b : (0x60100 + n) / 256 % 256 ≡ 1 = omega arith in
    let c : (0x60100 + n) % 256 ≡ n = omega arith in
    rw (a, b, c)

high_number : (n : ℕ) → 256 ≤ n → n ≤ 65535 → fixed 4 (0x6020000 + n) ≡ 6 ∷ 2 ∷ n / 256 ∷ n % 256 ∷ []
unfolding fixed
high_number n h k =
    let a : (0x6020000 + n) / 256 / 256 / 256 % 256 ≡ 6 = omega arith in
    let b : (0x6020000 + n) / 256 / 256 % 256 ≡ 2 = omega arith in
    let c : (0x6020000 + n) / 256 % 256 ≡ n / 256 = omega arith in
    let d : (0x6020000 + n) % 256 ≡ n % 256 = omega arith in
    rw (a, b, c, d)

-- ---- the item

module _ (n : ℕ) where
  pub count_low : n < 256 → count_item n ≡ fixed 3 (0x60100 + n)
  count_low h = ap (λ v. flat_item (item_of v)) (value_of n ∙ ap (λ b. record { tag = 6; value = b }) (value_low n h)) ∙ item_one n ∙ sym (low_number n h)

  pub count_high : 256 ≤ n → n ≤ 65535 → count_item n ≡ fixed 4 (0x6020000 + n)
  count_high h k =
      ap (λ v. flat_item (item_of v)) (value_of n ∙ ap (λ b. record { tag = 6; value = b }) (value_high n h k)) ∙ item_two (n / 256) (n % 256) ∙ sym (high_number n h k)

  pub low_long : n < 256 → length (count_item n) ≡ 3
  low_long h = ap length (count_low h) ∙ length_fixed 3 _

  pub high_long : 256 ≤ n → n ≤ 65535 → length (count_item n) ≡ 4
  high_long h k = ap length (count_high h k) ∙ length_fixed 4 _

  pub count_few : n ≤ 65535 → length (count_item n) ≤ 4
  count_few k = go (ltb n 256) refl
    where
      go : (b : Bool) → ltb n 256 ≡ b → length (count_item n) ≤ 4
      go true e = omega (arith, low_long (ltb-true n 256 e))
      go false e = omega (arith, high_long (ltb-false n 256 e) k)

-- ---- the bytes from a to b with it

module _ (s : List ℕ) (r : Series) (n a b : ℕ) where
  pub counted_plain : (r.six < a) ⊎ (b ≤ r.six) → counted s r n a b ≡ part s a b
  unfolding counted
  counted_plain (inl h) = rw (lt-leb a r.six h, counted)
  counted_plain (inr h) = rw (le-ltb r.six b h, and-false (leb a r.six), counted)

  pub counted_six : a ≤ r.six → r.six < b → counted s r n a b ≡ part s a r.six ++ (count_item n ++ part s r.after b)
  unfolding counted
  counted_six h k = rw (le-leb a r.six h, lt-ltb r.six b k, counted)
