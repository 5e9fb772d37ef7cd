-- The sheet's records, as they are stored one field after another.
use mathlib.Core.Path.{◌≡◌, refl, sym, ap, ◌∙◌}
use Prim.Native.Nat.{ℕ, ◌+◌, ◌*◌, ◌/◌, ◌^◌, ◌<◌}
use native.Mathlib.Omega.{arith}
use mathlib.Core.Bool.{Bool, true, false}
use mathlib.Core.List.{List, [], ◌∷◌, ◌++◌}
use lib.ListN.{length, length-append}
use lib.Seq.{sets}
use Rattle.format.specs.Coding.{fixed}
use Rattle.format.specs.Table.{Rule, rule_of, short}
use Rattle.format.specs.Sheet.{val_bytes, mark_number, mark_of, TG}
use Rattle.format.proofs.Coding.Digits.{length_fixed}
use Rattle.items.specs.Meet.{level_of}
use Rattle.stores.proofs.Stores.{sets_append}
use Rattle.store_coded.proofs.Shortest.{last_of, last_is, NoSeal, other_tag, of_pack, short_less}
use Rattle.write_sheet.specs.Meet.{record_of, item_sheet}

-- ---- an item

-- a number of n bytes, and what follows it
stored_then : (o : List ℕ) (a b n v : ℕ) (xs : List ℕ) → a + n ≡ b → sets o a (fixed n v ++ xs) ≡ sets (sets o a (fixed n v)) b xs
stored_then o a b n v xs e = sets_append o a (fixed n v) xs ∙ ap (λ k. sets (sets o a (fixed n v)) k xs) (omega (arith, length_fixed n v))

mark_bytes : (b : Bool) → fixed 2 (mark_number (mark_of (level_of b))) ≡ (mark_of (level_of b)).0 ∷ (mark_of (level_of b)).1 ∷ []
unfolding fixed
mark_bytes true = refl
mark_bytes false = refl

pub item_stored : (b : Bool) (tag : ℕ) (v o : List ℕ) (a : ℕ)
    → sets o a (record_of b tag v) ≡ sets (sets (sets (sets o a (fixed 2 (mark_number (mark_of (level_of b))))) (a + 2) (fixed 2 tag)) (a + 4) (fixed 2 (length v))) (a + 6) v
unfolding val_bytes fixed
item_stored b tag v o a =
    let m = mark_number (mark_of (level_of b)) in
    ap (λ x. sets o a (x ++ fixed 2 tag ++ fixed 2 (length v) ++ v)) (sym (mark_bytes b))
    ∙ stored_then o a (a + 2) 2 m (fixed 2 tag ++ fixed 2 (length v) ++ v) refl
    ∙ stored_then (sets o a (fixed 2 m)) (a + 2) (a + 4) 2 tag (fixed 2 (length v) ++ v) (omega arith)
    ∙ stored_then (sets (sets o a (fixed 2 m)) (a + 2) (fixed 2 tag)) (a + 4) (a + 6) 2 (length v) v (omega arith)

pub record_long : (b : Bool) (tag : ℕ) (v : List ℕ) → length (record_of b tag v) ≡ 6 + length v
unfolding val_bytes
record_long b tag v = simp (length-append, length_fixed) (omega arith)

-- ---- a target

target_mark_lem : fixed 2 (mark_number TG) ≡ TG.0 ∷ TG.1 ∷ []
unfolding fixed
target_mark_lem = refl

pub target_stored : (id : ℕ) (o : List ℕ) (a : ℕ) → sets o a (TG.0 ∷ TG.1 ∷ fixed 8 id) ≡ sets (sets o a (fixed 2 (mark_number TG))) (a + 2) (fixed 8 id)
target_stored id o a = ap (λ x. sets o a (x ++ fixed 8 id)) (sym target_mark_lem) ∙ stored_then o a (a + 2) 2 (mark_number TG) (fixed 8 id) refl

short_target : (id : ℕ) → id < 65536 → fixed 8 (mark_number TG * 2 ^ 48) ++ fixed 2 id ≡ TG.0 ∷ TG.1 ∷ fixed 8 id
unfolding fixed
short_target id h = let e : id / 256 / 256 ≡ 0 = omega arith in rw e

-- an id of two bytes: the zeros before them are stored with the mark
pub short_target_stored : (id : ℕ) (o : List ℕ) (a : ℕ) → id < 65536
    → sets o a (TG.0 ∷ TG.1 ∷ fixed 8 id) ≡ sets (sets o a (fixed 8 (mark_number TG * 2 ^ 48))) (a + 8) (fixed 2 id)
short_target_stored id o a h = ap (sets o a) (sym (short_target id h)) ∙ stored_then o a (a + 8) 8 (mark_number TG * 2 ^ 48) (fixed 2 id) refl

-- ---- an item of a packet

-- the set's checksum has no record
pub seal_none : (b : Bool) (tag : ℕ) (v : List ℕ) → b ≡ true → tag ≡ 1 → item_sheet (level_of b) tag v ≡ []
unfolding item_sheet
seal_none b tag v eb et = rw (eb, et)

pub plain_is : (b : Bool) (tag : ℕ) (v : List ℕ) → NoSeal b tag → (r : Rule) → r ≡ rule_of (level_of b) tag → (n : ℕ) → n ≡ length (short r v)
    → item_sheet (level_of b) tag v ≡ record_of b tag (last_of v n)
unfolding item_sheet
plain_is b tag v h r er n en = rw (h, item_sheet) (ap (record_of b tag) (sym (last_is b tag v er en)))

-- what the store of an item of a packet is proved by
pub ruleset plain_put = (seal_none, other_tag, of_pack, short_less, plain_is)
