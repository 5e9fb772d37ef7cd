-- The item that is put at a cut: its bytes and how many.
use mathlib.Core.Path.{◌≡◌, refl, sym, ap, ◌∙◌}
use Prim.Native.Nat.{ℕ, ◌+◌, ◌-◌, ◌/◌, ◌≤◌}
use native.Mathlib.Omega.{arith}
use mathlib.Core.Bool.{Bool, true, false}
use mathlib.Core.List.{List}
use lib.ListN.{length, length-append, length-drop}
use Rattle.format.specs.Coding.{len_width, oid_bytes}
use Rattle.format.specs.Table.{Level, set, pack, rule_of, nameable, short}
use Rattle.format.specs.Packet.{flat_item}
use Rattle.format.specs.Calls.{item_of}
use Rattle.format.specs.Edit.{val_with}
use Rattle.format.proofs.Words.Answers.{no_bool}
use Rattle.format.proofs.Table.Tags.{nameable_high}
use Rattle.coding.proofs.Counts.{digits_most, len_most}
use Rattle.coding.proofs.Rooms.{tail_part}
use Rattle.store_coded.proofs.Codings.{short_total}
use Rattle.store_coded.proofs.Shortest.{short_less, last_is}
use Rattle.find.specs.declared.Place.{Place}
use Rattle.edit_rules.specs.declared.Change as told
use Rattle.edit_rules.specs.Meet.{change_of, short_of, item_bytes, cut_of}
use Rattle.edit_rules.specs.Cuts.{last_of, item_put, item_size, no_cut, CutOf}

-- ---- how many bytes

oid_most : (n : ℕ) → length (oid_bytes n) ≤ 9
unfolding oid_bytes
oid_most n = simp length-append (omega (arith, digits_most 128 128 8 (n / 128)))

pub size_most : (b : Bool) (tag m : ℕ) → m ≤ 8192 → item_size b tag m ≤ 16384
size_most true tag m h = omega arith
size_most false tag m h = omega (arith, oid_most tag, len_most m)

pub last_long : (v : List ℕ) (m : ℕ) → m ≤ length v → length (last_of v m) ≡ m
last_long v m h = ap length (tail_part (length v - m) v) ∙ length-drop (length v - m) v ∙ omega arith

pub put_long : (b : Bool) (tag : ℕ) (v : List ℕ) (m : ℕ) → m ≤ length v → length (item_put b tag v m) ≡ item_size b tag m
put_long true tag v m h = refl
put_long false tag v m h = short_total tag (last_of v m) ∙ ap (λ n. length (oid_bytes tag) + (len_width n + n)) (last_long v m h)

pub size_more : (b : Bool) (tag m : ℕ) → b ≡ false → m ≤ item_size b tag m
size_more true tag m e = no_bool (sym e)
size_more false tag m e = omega arith

-- ---- by the change: m is how many bytes of the value are put

last_of_lem : (l : Level) (tag : ℕ) (v : List ℕ) {m : ℕ} → m ≡ length (short (rule_of l tag) v) → last_of v m ≡ short (rule_of l tag) v
last_of_lem set tag v e = last_is true tag v refl e
last_of_lem pack tag v e = last_is false tag v refl e

pub put_is : (l : Level) (tag : ℕ) (v : List ℕ) (b : Bool) → item_put b tag v (short_of l tag (change_of b v)) ≡ item_bytes l tag (change_of b v)
unfolding item_bytes val_with
put_is l tag v true = refl
put_is l tag v false = ap (λ x. flat_item (item_of (record { tag = tag; value = x }))) (last_of_lem l tag v refl)

put_less : (l : Level) (tag : ℕ) (v : List ℕ) (b : Bool) → short_of l tag (change_of b v) ≤ length v
put_less l tag v true = omega arith
put_less l tag v false = short_less (rule_of l tag) v refl

-- ---- the cut

none_put : (l : Level) (tag : ℕ) (v : List ℕ) (b : Bool) → b ≡ true → short_of l tag (change_of b v) ≡ 0
none_put l tag v true e = refl
none_put l tag v false e = no_bool e

pub cut_says : (l : Level) (c : told.Change) (v : List ℕ) (p : Place) → nameable l c.tag ≡ true → CutOf (cut_of c p (short_of l c.tag (change_of c.removal v))) v
cut_says l c v p n = record {
  tag_high = nameable_high l c.tag n;
  some = put_less l c.tag v c.removal;
  none = none_put l c.tag v c.removal;
}

pub no_cut_says : (a : ℕ) (v : List ℕ) → CutOf (no_cut a) v
no_cut_says a v = record { tag_high = omega arith; some = omega arith; none = λ _. refl }
