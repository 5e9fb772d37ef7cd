-- The sizes that a walk adds up are those of the sheet, of the rows and of the normal form.
use mathlib.Core.Path.{◌≡◌, refl, ap, ◌∙◌}
use Prim.Native.Nat.{ℕ, suc, ◌+◌, ◌≤◌}
use native.Mathlib.Omega.{arith}
use mathlib.Core.Bool.{Bool, true, false, ◌&&◌}
use mathlib.Core.List.{List, [], ◌∷◌, ◌++◌, map}
use lib.ListN.{length, length-append}
use lib.Dec.{eqb}
use Rattle.format.specs.Coding.{digits, oid_bytes, len_width}
use Rattle.format.specs.Lists.{flat_all}
use Rattle.format.specs.Table.{Level, set, pack, is_set}
use Rattle.format.specs.Packet.{Item, Pack, Entry, plain, series, tag_of_entry, flat_item, pack_body, flat_pack, flat_entry}
use Rattle.format.specs.Sheet.{Val, Target, Part, one, targets, tag_of_part, val_of, target_of, part_of, val_bytes, target_bytes, part_bytes}
use Rattle.format.specs.Calls.{item_of, pack_with, pack_of, series_with, entry_of}
use Rattle.format.specs.Rows.{item_rows, pack_rows, entry_rows, seal_item}
use Rattle.format.specs.Valid.{All}
use Rattle.format.proofs.Reading.Items.{length_item}
use Rattle.format.proofs.Reading.Packs.{length_pack}
use Rattle.format.proofs.Sheets.Values.{length_val}
use Rattle.format.proofs.Sheets.Targets.{length_target}
use Rattle.format.proofs.Sheets.Normal.{length_series}
use Rattle.tally.specs.Meet.{sizes, plus_sizes, item_sizes, pack_sizes, series_sizes, total, weight_of_val, weight_of_target, weight_of_part, weight_of_item, weight_of_pack, weight_of_entry}
use Rattle.tally.proofs.Maps.{total_map}
use Rattle.tally.proofs.Walks.{plus_assoc}

-- ---- of what a sheet says: its bytes, and those of its packet

val_sheet : (l : Level) (v : Val) → is_set l && eqb v.tag 1 ≡ false → length (val_bytes l v) ≡ (weight_of_val l v).sheet
unfolding item_sizes
val_sheet l v z = rw (length_val, z, item_sizes) (omega arith)

val_normal : (l : Level) (v : Val) → is_set l && eqb v.tag 1 ≡ false → length (flat_item (item_of v)) ≡ (weight_of_val l v).normal
unfolding item_sizes item_of
val_normal l v z = rw (length_item, z, item_sizes) (omega arith)

pub val_inner : (l : Level) (v : Val) → (weight_of_val l v).inner ≡ 0
unfolding item_sizes
val_inner l v = go (is_set l && eqb v.tag 1) refl
  where
    go : (b : Bool) → is_set l && eqb v.tag 1 ≡ b → (weight_of_val l v).inner ≡ 0
    go true z = rw (z, item_sizes)
    go false z = rw (z, item_sizes)

pub vals_sheet : (vs : List Val) → length (flat_all (val_bytes pack) vs) ≡ (total (weight_of_val pack) vs).sheet
unfolding flat_all total
vals_sheet [] = refl
vals_sheet (v ∷ vs) = rw (length-append, val_sheet pack v refl, vals_sheet vs)

pub vals_normal : (vs : List Val) → length (flat_all flat_item (map item_of vs)) ≡ (total (weight_of_val pack) vs).normal
unfolding flat_all total
vals_normal [] = refl
vals_normal (v ∷ vs) = rw (length-append, val_normal pack v refl, vals_normal vs)

pub target_sheet : (t : Target) → length (target_bytes t) ≡ (weight_of_target t).sheet
target_sheet t = rw length_target (omega (arith, vals_sheet t.vals))

-- a pack's body has its size whatever the width of its length
pub body_normal : (t : Target) (w : ℕ) → length (pack_body (record { width = w; id = t.id; items = map item_of t.vals })) ≡ length (oid_bytes t.id) + (total (weight_of_val pack) t.vals).normal
unfolding pack_body
body_normal t w = rw length-append (omega (arith, vals_normal t.vals))

pub target_normal_lem : (t : Target) → length (flat_pack (pack_of t)) ≡ (weight_of_target t).normal
unfolding pack_of pack_with
target_normal_lem t = rw (length_pack, body_normal t 0, body_normal t (len_width (length (oid_bytes t.id) + (total (weight_of_val pack) t.vals).normal)))

pub targets_sheet : (ts : List Target) → length (flat_all target_bytes ts) ≡ (total weight_of_target ts).sheet
unfolding flat_all total
targets_sheet [] = refl
targets_sheet (t ∷ ts) = rw (length-append, target_sheet t, targets_sheet ts)

pub targets_normal_lem : (ts : List Target) → length (flat_all flat_pack (map pack_of ts)) ≡ (total weight_of_target ts).normal
unfolding flat_all total
targets_normal_lem [] = refl
targets_normal_lem (t ∷ ts) = rw (length-append, target_normal_lem t, targets_normal_lem ts)

part_sheet : (p : Part) → eqb (tag_of_part p) 1 ≡ false → length (part_bytes p) ≡ (weight_of_part p).sheet
unfolding part_bytes
part_sheet (one v) z = val_sheet set v z
part_sheet (targets ts) z = omega (arith, targets_sheet ts)

series_tag : length (oid_bytes 101) ≡ 1
unfolding oid_bytes digits
series_tag = refl

part_normal_lem : (p : Part) → eqb (tag_of_part p) 1 ≡ false → length (flat_entry (entry_of p)) ≡ (weight_of_part p).normal
unfolding entry_of series_with
part_normal_lem (one v) z = unfold flat_entry in val_normal set v z
part_normal_lem (targets ts) z = rw (length_series, targets_normal_lem ts) (omega (arith, series_tag))

-- of parts but the checksum, which no sheet has
abbrev pub NoSeal : List Part → Type 0
NoSeal ps = All (λ p. eqb (tag_of_part p) 1 ≡ false) ps

pub parts_sheet : (ps : List Part) → NoSeal ps → length (flat_all part_bytes ps) ≡ (total weight_of_part ps).sheet
unfolding flat_all total
parts_sheet [] h = refl
parts_sheet (p ∷ ps) h = rw (length-append, part_sheet p h.0, parts_sheet ps h.1)

pub parts_normal : (ps : List Part) → NoSeal ps → length (flat_all flat_entry (map entry_of ps)) ≡ (total weight_of_part ps).normal
unfolding flat_all total
parts_normal [] h = refl
parts_normal (p ∷ ps) h = rw (length-append, part_normal_lem p h.0, parts_normal ps h.1)

-- the packs of a series are among the bytes
pub parts_inner : (ps : List Part) → (total weight_of_part ps).inner ≤ (total weight_of_part ps).normal
unfolding total
parts_inner [] = omega arith
parts_inner (one v ∷ ps) = omega (arith, parts_inner ps, val_inner set v)
parts_inner (targets ts ∷ ps) = omega (arith, parts_inner ps)

-- ---- of what a packet holds: what it says weighs the same

pub pack_says : (p : Pack) → weight_of_pack p ≡ weight_of_target (target_of p)
unfolding target_of
pack_says p = ap (pack_sizes (length (oid_bytes p.id))) (total_map (val_of pack) (weight_of_item pack) (weight_of_val pack) (λ i. unfold val_of in refl) p.items)

entry_says : (e : Entry) → weight_of_entry set e ≡ weight_of_part (part_of e)
unfolding part_of val_of
entry_says (plain i) = refl
entry_says (series w ps) = ap series_sizes (total_map target_of weight_of_pack weight_of_target pack_says ps)

pub entries_say : (es : List Entry) → total (weight_of_entry set) es ≡ total weight_of_part (map part_of es)
entries_say es = total_map part_of (weight_of_entry set) weight_of_part entry_says es

pub says_no_seal : (es : List Entry) → All (λ e. eqb (tag_of_entry e) 1 ≡ false) es → NoSeal (map part_of es)
unfolding part_of val_of
says_no_seal [] h = tt
says_no_seal (plain i ∷ es) h = (h.0, says_no_seal es h.1)
says_no_seal (series w ps ∷ es) h = (h.0, says_no_seal es h.1)

-- ---- rows

item_count : (l : Level) (i : Item) → (weight_of_item l i).rows ≡ 1
unfolding item_sizes
item_count l i = go (is_set l && eqb i.tag 1) refl
  where
    go : (b : Bool) → is_set l && eqb i.tag 1 ≡ b → (weight_of_item l i).rows ≡ 1
    go true z = rw (z, item_sizes)
    go false z = rw (z, item_sizes)

items_count : (k at : ℕ) (is : List Item) → length (item_rows k at is) ≡ (total (weight_of_item pack) is).rows
unfolding item_rows total
items_count k at [] = refl
items_count k at (i ∷ is) = omega (arith, item_count pack i, items_count k (at + length (flat_item i)) is)

packs_count : (k at : ℕ) (ps : List Pack) → length (pack_rows k at ps) ≡ (total weight_of_pack ps).rows
unfolding pack_rows total
packs_count k at [] = refl
packs_count k at (p ∷ ps) =
    rw length-append (omega (arith, items_count k (at + p.width + length (oid_bytes p.id)) p.items, packs_count (suc k) (at + length (flat_pack p)) ps))

pub entries_count : (at : ℕ) (es : List Entry) → length (entry_rows at es) ≡ (total (weight_of_entry set) es).rows
unfolding entry_rows total
entries_count at [] = refl
entries_count at (plain i ∷ es) = omega (arith, item_count set i, entries_count (at + length (flat_item i)) es)
entries_count at (series w ps ∷ es) =
    rw length-append (omega (arith, packs_count 1 (at + 1 + w) ps, entries_count (at + length (flat_entry (series w ps))) es))

-- ---- a checksum at the end adds a row alone

pub seal_last : (c : List ℕ) (es : List Entry) → total (weight_of_entry set) (es ++ (plain (seal_item c) ∷ [])) ≡ plus_sizes (total (weight_of_entry set) es) (sizes 0 1 0 0)
unfolding total item_sizes seal_item
seal_last c [] = refl
seal_last c (e ∷ es) = ap (plus_sizes (weight_of_entry set e)) (seal_last c es) ∙ plus_assoc (weight_of_entry set e) (total (weight_of_entry set) es) (sizes 0 1 0 0)
