-- An item in normal form, as it is stored.
use mathlib.Core.Path.{◌≡◌, sym, ap}
use Prim.Native.Nat.{ℕ}
use mathlib.Core.Bool.{Bool, true}
use mathlib.Core.List.{List, []}
use lib.ListN.{length}
use Rattle.format.specs.Table.{Rule, rule_of, short}
use Rattle.items.specs.Meet.{level_of}
use Rattle.store_coded.specs.Fronts.{short_item}
use Rattle.store_coded.proofs.Shortest.{last_of, last_is, NoSeal, other_tag, of_pack, short_less}
use Rattle.write_normal.specs.Meet.{item_normal}

-- the set's checksum has no place
pub seal_none : (b : Bool) (tag : ℕ) (v : List ℕ) → b ≡ true → tag ≡ 1 → item_normal (level_of b) tag v ≡ []
unfolding item_normal
seal_none b tag v eb et = rw (eb, et)

pub plain_is : (b : Bool) (tag : ℕ) (v : List ℕ) → NoSeal b tag → (r : Rule) → r ≡ rule_of (level_of b) tag → (n : ℕ) → n ≡ length (short r v)
    → item_normal (level_of b) tag v ≡ short_item tag (last_of v n)
unfolding item_normal
plain_is b tag v h r er n en = rw (h, item_normal) (ap (short_item tag) (sym (last_is b tag v er en)))

-- what the store of an item is proved by
pub ruleset item_put = (seal_none, other_tag, of_pack, short_less, plain_is)
