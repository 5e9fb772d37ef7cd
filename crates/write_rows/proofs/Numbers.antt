-- Rows as numbers, four to a row: how many there are, and what one entry and one pack add to them.
use mathlib.Core.Path.{◌≡◌, refl, ap}
use Prim.Native.Nat.{ℕ, suc, ◌+◌, ◌*◌, ◌≤◌}
use native.Mathlib.Omega.{arith}
use mathlib.Core.List.{List, [], ◌∷◌, ◌++◌, map}
use lib.ListN.{length}
use Rattle.format.specs.Coding.{oid_bytes}
use Rattle.format.specs.Lists.{flat_all}
use Rattle.format.specs.Packet.{Item, Pack, Entry, plain, series, pack_body, flat_pack, flat_entry}
use Rattle.format.specs.Rows.{Row, row, item_row, item_rows, pack_rows, entry_rows}
use Rattle.write_laws.proofs.Writing.{Emits}
use Rattle.write_rows.specs.Meet.{numbers, level_rows}

pub numbers_append : (rs qs : List Row) → numbers (rs ++ qs) ≡ numbers rs ++ numbers qs
unfolding numbers
numbers_append [] qs = refl
numbers_append (r ∷ rs) qs = ap (λ ns. r.target ∷ r.tag ∷ r.offset ∷ r.size ∷ ns) (numbers_append rs qs)

pub numbers_long : (rs : List Row) → length (numbers rs) ≡ 4 * length rs
unfolding numbers
numbers_long [] = refl
numbers_long (r ∷ rs) = omega (arith, numbers_long rs)

-- ---- a level's rows are document 01's, of a pack and of the set

pub level_pack : (k at : ℕ) (is : List Item) → level_rows k at (map plain is) ≡ item_rows k at is
unfolding level_rows item_rows flat_entry
level_pack k at [] = refl
level_pack k at (i ∷ is) = ap (λ rs. item_row k at i ∷ rs) (level_pack k (at + length (flat_entry (plain i))) is)

pub level_set : (at : ℕ) (es : List Entry) → level_rows 0 at es ≡ entry_rows at es
unfolding level_rows entry_rows flat_entry
level_set at [] = refl
level_set at (plain i ∷ es) = ap (λ rs. item_row 0 at i ∷ rs) (level_set (at + length (flat_entry (plain i))) es)
level_set at (series w ps ∷ es) = ap (λ rs. row 0 101 (at + 1 + w) (length (flat_all flat_pack ps)) ∷ pack_rows 1 (at + 1 + w) ps ++ rs) (level_set (at + length (flat_entry (series w ps))) es)

-- ---- what one entry adds

abbrev pub entry_numbers : ℕ → ℕ → Entry → List ℕ
entry_numbers k at (plain i) = k ∷ i.tag ∷ (at + length (oid_bytes i.tag) + i.width) ∷ length i.value ∷ []
entry_numbers k at (series w ps) = k ∷ 101 ∷ (at + 1 + w) ∷ length (flat_all flat_pack ps) ∷ numbers (pack_rows 1 (at + 1 + w) ps)

abbrev pub entry_next : ℕ → Entry → ℕ
entry_next at e = at + length (flat_entry e)

abbrev pub entries_numbers : ℕ → ℕ → List Entry → List ℕ
entries_numbers k at es = numbers (level_rows k at es)

entries_more : (k at : ℕ) (e : Entry) (es : List Entry) → entries_numbers k at (e ∷ es) ≡ entry_numbers k at e ++ entries_numbers k (entry_next at e) es
unfolding level_rows numbers item_row
entries_more k at (plain i) es = refl
entries_more k at (series w ps) es = ap (λ ns. k ∷ 101 ∷ (at + 1 + w) ∷ length (flat_all flat_pack ps) ∷ ns) (numbers_append (pack_rows 1 (at + 1 + w) ps) _)

pub entries_emit : (k : ℕ) → Emits (entry_numbers k) entry_next (entries_numbers k)
unfolding level_rows numbers
entries_emit k = record { none = λ at. refl; more = entries_more k }

pub entry_four : (k at : ℕ) (e : Entry) → 4 ≤ length (entry_numbers k at e)
entry_four k at (plain i) = omega arith
entry_four k at (series w ps) = omega arith

-- ---- what one pack adds; the state is the pack's number and where it stands

abbrev pub pack_numbers : ℕ × ℕ → Pack → List ℕ
pack_numbers σ p =
    σ.0 ∷ 0 ∷ (σ.1 + p.width) ∷ length (pack_body p) ∷ numbers (item_rows σ.0 (σ.1 + p.width + length (oid_bytes p.id)) p.items)

abbrev pub pack_next : ℕ × ℕ → Pack → ℕ × ℕ
pack_next σ p = (suc σ.0, σ.1 + length (flat_pack p))

abbrev pub packs_numbers : ℕ × ℕ → List Pack → List ℕ
packs_numbers σ ps = numbers (pack_rows σ.0 σ.1 ps)

pub packs_emit : Emits pack_numbers pack_next packs_numbers
unfolding pack_rows numbers
packs_emit = record {
  none = λ σ. refl;
  more = λ σ p ps. ap (λ ns. σ.0 ∷ 0 ∷ (σ.1 + p.width) ∷ length (pack_body p) ∷ ns) (numbers_append (item_rows σ.0 (σ.1 + p.width + length (oid_bytes p.id)) p.items) _);
}

-- ---- two rows that are the same, and what follows them

pub same_row : {a b b' c c' d d' : ℕ} {ns ns' : List ℕ} → b ≡ b' → c ≡ c' → d ≡ d' → ns ≡ ns' → a ∷ b ∷ c ∷ d ∷ ns ≡ a ∷ b' ∷ c' ∷ d' ∷ ns'
same_row eb ec ed en = rw (eb, ec, ed, en)
