-- What stands in front of a series' packs and of a pack's items: its bytes, and how many they are.
use Rattle.std.proofs.Common.{◌≡◌, ℕ, ◌+◌, ◌∷◌, ◌++◌, length, refl, arith, length-append}
use Rattle.std.proofs.Math.Seq.{length-sets}
use Rattle.std.proofs.lemmas.Grind.{common_steps}
use Rattle.format.specs.Coding.{digits, len_width, len_bytes, oid_bytes}
use Rattle.format.proofs.Coding.Lengths.{length_len}
use Rattle.coding.proofs.Counts.{len_one}
use Rattle.stores.proofs.Stores.{sets_append}
use Rattle.store_coded.specs.Fronts.{series_front, pack_front}
use Rattle.store_coded.proofs.Codings.{one_length, one_byte, two_bytes}

pub series_bytes : (n : ℕ) → series_front n ≡ 101 ∷ len_bytes (len_width n) n
unfolding series_front oid_bytes digits
series_bytes n = refl

pub series_long : (n : ℕ) → length (series_front n) ≡ 1 + len_width n
series_long n = rw (series_bytes n) (grind (arith, length_len))

pub pack_parts : (n id : ℕ) → pack_front n id ≡ len_bytes (len_width n) n ++ oid_bytes id
unfolding pack_front
pack_parts n id = refl

pub pack_long : (n id : ℕ) → length (pack_front n id) ≡ len_width n + length (oid_bytes id)
pack_long n id = rw (pack_parts, length-append, length_len)

-- what `grind` asks where they are stored
pub ruleset series = (common_steps, length_len, series_long, series_bytes)

pub ruleset packs = (common_steps, sets_append, length-sets, length_len, pack_long, pack_parts, len_one, one_length, one_byte, two_bytes)
