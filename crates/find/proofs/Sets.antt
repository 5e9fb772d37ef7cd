-- A set with its checksum and without.
use mathlib.Core.Path.{◌≡◌, refl, sym, ap, ◌∙◌}
use Prim.Native.Nat.{ℕ, ◌+◌, ◌-◌, ◌≤◌}
use native.Mathlib.Omega.{arith}
use mathlib.Core.Bool.{false}
use mathlib.Core.List.{List, [], ◌∷◌, ◌++◌, append-nil}
use lib.ListN.{length, length-append}
use Rattle.format.specs.Coding.{Bytes, digits, oid_bytes}
use Rattle.format.specs.Lists.{flat_all}
use Rattle.format.specs.Table.{Form, embedded, standalone, set}
use Rattle.format.specs.Packet.{Entry, plain, tag_of_entry, flat_entry}
use Rattle.format.specs.Rows.{seal_item}
use Rattle.format.specs.Edit.{is_series}
use Rattle.format.specs.Valid.{All}
use Rattle.format.proofs.Words.Flats.{flat_append}
use Rattle.format.proofs.Words.Keys.{all_map}
use Rattle.format.proofs.Reading.Items.{length_item}
use Rattle.format.proofs.Reading.Entries.{plain_flat}
use Rattle.find.specs.Spots.{Missed, entries_of}
use Rattle.find.specs.Places.{seal_size, SetOf, kept_of}
use Rattle.find.proofs.Entries.{entries_flat}

-- ---- the checksum

abbrev pub Seal : Entry → Type 0
Seal e = (tag_of_entry e ≡ 1) × (is_series e ≡ false)

pub record Rest (f : Form) (s : List ℕ) : Type 0 where
  pub rest : List Entry
  pub is : entries_of set f s ≡ kept_of f s ++ rest
  pub seals : All Seal rest
  pub long : length (flat_all flat_entry rest) ≡ seal_size f

seal_long : (c : List ℕ) → length c ≡ 2 → length (flat_entry (plain (seal_item c)) ++ []) ≡ 4
unfolding seal_item oid_bytes digits
seal_long c e = rw (append-nil, plain_flat, length_item) (omega (arith, e))

pub rest_of : (f : Form) (s : List ℕ) → SetOf f s → Rest f s
unfolding flat_all
rest_of embedded s k = record { rest = []; is = k.closes ∙ sym (append-nil (kept_of embedded s)); seals = tt; long = refl }
rest_of standalone s k =
    let (c, n, e) = k.closes in
    record { rest = plain (seal_item c) ∷ []; is = e; seals = ((unfold seal_item in refl, refl), tt); long = seal_long c n }

module _ (f : Form) (s : List ℕ) (b : Bytes s) (k : SetOf f s) where
  abbrev pub the_rest : List Entry
  the_rest = (rest_of f s k).rest

  -- the entries' bytes, and then the checksum's
  pub set_bytes : s ≡ flat_all flat_entry (kept_of f s) ++ flat_all flat_entry the_rest
  set_bytes = sym (entries_flat set f s b k.ran) ∙ ap (flat_all flat_entry) (rest_of f s k).is ∙ flat_append flat_entry (kept_of f s) the_rest

  pub set_long : length s ≡ length (flat_all flat_entry (kept_of f s)) + seal_size f
  set_long = ap length set_bytes ∙ length-append (flat_all flat_entry (kept_of f s)) _ ∙ ap (λ n. length (flat_all flat_entry (kept_of f s)) + n) (rest_of f s k).long

  pub seal_room : seal_size f ≤ length s
  seal_room = omega (arith, set_long)

  pub set_stop : {n : ℕ} → n ≡ length s - seal_size f → n ≡ length (flat_all flat_entry (kept_of f s))
  set_stop e = omega (arith, e, set_long)

  -- the checksum is no series
  pub rest_plain : Missed is_series the_rest
  rest_plain = all_map Seal (λ e. is_series e ≡ false) (λ e h. h.1) the_rest (rest_of f s k).seals
