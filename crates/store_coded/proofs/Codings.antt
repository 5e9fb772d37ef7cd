-- A length, a tag or an id, and an item, as they are stored: their bytes by cases, and their parts one after another.
use Rattle.std.proofs.Common.{◌≡◌, ℕ, zero, suc, ◌+◌, ◌-◌, ◌/◌, ◌%◌, ◌≤◌, ◌<◌, List, [], ◌∷◌, ◌++◌, length, refl, sym, arith, add-one, length-append}
use native.Mathlib.Nat.{mod-eq_of_lt, div-eq_of_lt}
use Rattle.std.proofs.Math.ListN.{set}
use Rattle.std.proofs.Math.Seq.{length-sets}
use Rattle.std.proofs.lemmas.Grind.{common_steps}
use Rattle.std.proofs.lemmas.List.Edits.{sets}
use Rattle.format.specs.Coding.{digits, fixed, len_width, len_bytes, oid_bytes}
use Rattle.format.specs.Packet.{flat_item}
use Rattle.format.specs.Calls.{item_of}
use Rattle.format.proofs.Coding.Digits.{digits_zero, digits_pos}
use Rattle.format.proofs.Coding.Lengths.{length_len}
use Rattle.format.proofs.Coding.Oids.{oid_some}
use Rattle.coding.proofs.Counts.{len_one, len_above, len_most}
use Rattle.stores.proofs.Stores.{sets_append, sets_snoc, digits_start, digits_step, digits_done}
use Rattle.stores.proofs.Puts.{Puts, puts_then, puts_sized}
use Rattle.store_coded.specs.Fronts.{short_item}

-- ---- a length

-- in one byte
pub one_length : (n : ℕ) → n < 128 → len_bytes (len_width n) n ≡ n ∷ []
unfolding len_bytes
one_length n h = rw (← len_one n h)

pub short_length : (n : ℕ) (o : List ℕ) (a : ℕ) → n < 128 → (a + 1 ≡ a + len_width n) × (set o a n ≡ sets o a (len_bytes (len_width n) n))
short_length n o a h = rw (one_length n h) (rw (← len_one n h) (refl, refl))

pub two_or_more : (n : ℕ) → 128 ≤ n → 2 ≤ len_width n
two_or_more n h = omega (arith, len_above n h 0 (omega arith) (omega arith))

-- a count, and bytes
long_bytes : (w n : ℕ) → 2 ≤ w → len_bytes w n ≡ (128 + (w - 1)) ∷ fixed (w - 1) n
unfolding len_bytes
long_bytes zero n h = absurd (omega arith)
long_bytes (suc zero) n h = absurd (omega arith)
long_bytes (suc (suc k)) n h =
    let e : suc (suc k) - 1 ≡ suc k = omega arith in
    let c : 129 + k ≡ 128 + suc k = omega arith in
    rw (e, c)

pub long_length : (n : ℕ) (o : List ℕ) (a k : ℕ) → 128 ≤ n → k ≡ len_width n - 1 → sets (set o a (128 + k)) (a + 1) (fixed k n) ≡ sets o a (len_bytes (len_width n) n)
long_length n o a k h e = rw (add-one a, e, long_bytes (len_width n) n (two_or_more n h))

-- what `grind` asks for a length
pub ruleset lengths = (common_steps, len_one, len_most, two_or_more, one_length, long_length)

-- ---- a tag or an id

-- the bytes before the last
abbrev pub firsts : ℕ → List ℕ
firsts n = digits 128 128 8 (n / 128)

pub oid_long : (n : ℕ) → length (oid_bytes n) ≡ suc (length (firsts n))
unfolding oid_bytes
oid_long n = simp length-append (omega arith)

-- of one byte,
pub one_byte : (n : ℕ) → n < 128 → oid_bytes n ≡ n ∷ []
unfolding oid_bytes
one_byte n h =
    let z : n / 128 ≡ 0 = div-eq_of_lt h in
    let e : n % 128 ≡ n = mod-eq_of_lt h in
    rw (z, e, digits_zero 128 128 8)

pub short_oid : (n : ℕ) (o : List ℕ) (a : ℕ) → n < 128 → (a + 1 ≡ a + length (oid_bytes n)) × (set o a n ≡ sets o a (oid_bytes n))
short_oid n o a h = rw (one_byte n h) (refl, refl)

-- of two,
pub two_bytes : (n : ℕ) → 128 ≤ n → n < 16384 → oid_bytes n ≡ (n / 128 % 128 + 128) ∷ n % 128 ∷ []
unfolding oid_bytes
two_bytes n h l =
    let z : n / 128 / 128 ≡ 0 = div-eq_of_lt (omega (arith, l)) in
    rw (digits_pos 128 128 7 (n / 128) (omega (arith, h)), z, digits_zero 128 128 7) refl

-- the last byte first, and then those before it
pub long_oid : (n : ℕ) (o : List ℕ) (a k : ℕ) → k ≡ length (firsts n) → sets (set o (a + k) (n % 128)) a (firsts n) ≡ sets o a (oid_bytes n)
unfolding oid_bytes
long_oid n o a k e = sym (sets_snoc o a (firsts n) (n % 128) (sym e))

-- what `grind` asks for a tag or an id
pub ruleset oids = (common_steps, oid_some, oid_long, one_byte, long_oid, digits_start, digits_step, digits_done)

-- ---- an item

abbrev pub length_of : List ℕ → List ℕ
length_of v = len_bytes (len_width (length v)) (length v)

pub short_parts : (tag : ℕ) (v : List ℕ) → short_item tag v ≡ oid_bytes tag ++ (length_of v ++ v)
unfolding flat_item item_of
short_parts tag v = refl

-- as `short_total` says
pub short_total : (tag : ℕ) (v : List ℕ) → length (short_item tag v) ≡ length (oid_bytes tag) + (len_width (length v) + length v)
short_total tag v = rw short_parts (simp (length-append, length_len))

pub short_stored : (tag : ℕ) (v o : List ℕ) (a : ℕ) {o₁ o₂ o₃ : List ℕ} {a₁ a₂ r : ℕ} → Puts o a (oid_bytes tag) a₁ o₁
    → (a₂ ≡ a₁ + len_width (length v)) × (o₂ ≡ sets o₁ a₁ (length_of v)) → Puts o₂ a₂ v r o₃ → Puts o a (short_item tag v) r o₃
short_stored tag v o a {o₁ = o₁} {a₁ = a₁} p q s =
    let second = puts_then o₁ a₁ (length_of v) v (puts_sized o₁ a₁ (length_of v) (length_len (len_width (length v)) (length v)) q) s in
    rw short_parts (puts_then o a (oid_bytes tag) (length_of v ++ v) p second)

-- what `grind` asks for an item
pub ruleset items = (common_steps, sets_append, length-sets, length_len, short_total, short_parts)
