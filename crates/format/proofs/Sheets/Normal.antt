-- The normal form: a valid sheet's packet is valid, and says that sheet.
use mathlib.Core.Path.{◌≡◌, refl, ap, ◌∙◌, subst}
use Prim.Native.Nat.{ℕ, ◌+◌, ◌≤◌, ◌<◌, ◌^◌}
use native.Mathlib.Omega.{arith}
use mathlib.Core.Bool.{false}
use mathlib.Core.List.{List, map}
use lib.ListN.{length, length-append}
use Rattle.format.specs.Answer.{ok}
use Rattle.format.specs.Coding.{oid_bytes, len_width}
use Rattle.format.specs.Lists.{none?, flat_all}
use Rattle.format.specs.Table.{Form, embedded, standalone, Level, set, pack, ended}
use Rattle.format.specs.Packet.{Item, Pack, Entry, series, tag_of_item, id_of_pack, tag_of_entry, flat_item, pack_body, flat_pack, flat_entry, covered, framed, flat, closed}
use Rattle.format.specs.Sheet.{Val, Target, Part, one, targets, Sheet, tag_of_val, id_of_target, tag_of_part, val_of, target_of, part_of, content}
use Rattle.format.specs.Calls.{item_of, pack_with, series_with, pack_of, entry_of, packet_of}
use Rattle.format.specs.Valid.{Together, Begins, ItemValid, PackValid, EntryValid, Valid, ValValid, TargetValid, PartValid, SheetValid}
use Rattle.format.proofs.Words.Together.{map_keys, none_map, together_made, map_back}
use Rattle.format.proofs.Coding.Lengths.{length_len, width_holds}
use Rattle.format.proofs.Reading.Items.{length_item}
use Rattle.format.proofs.Reading.Packs.{length_pack}
use Rattle.format.proofs.Reading.Entries.{series_item, series_flat, plain_flat}
use Rattle.format.proofs.Reading.Packets.{key_size}
use Rattle.format.proofs.Sheets.Content.{body_less}

-- ---- right entries, closed, are a valid packet

pub closed_form : (f : Form) (es : List Entry) → (closed f es).form ≡ f
unfolding closed
closed_form embedded es = refl
closed_form standalone es = refl

pub closed_entries : (f : Form) (es : List Entry) → (closed f es).entries ≡ es
unfolding closed
closed_entries embedded es = refl
closed_entries standalone es = refl

pub length_covered : (w : ℕ) (b : List ℕ) → length (covered w b) ≡ 16 + w + (length b + 2)
unfolding covered
length_covered w b = simp (length-append, length_len, key_size) (omega arith)

pub closed_valid : (f : Form) (es : List Entry) → Together tag_of_entry (EntryValid f) es → Begins f (map tag_of_entry es) → length (flat (closed f es)) ≤ 8192 → Valid (closed f es)
unfolding closed flat framed
closed_valid embedded es h b l = record { small = l; entries_valid = h; begins = b; framed = (refl, refl) }
closed_valid standalone es h b l =
    let n : ℕ = length (flat_all flat_entry es) in
    let w : ℕ = len_width (n + 4) in
    let e : 16 + w + (n + 2) ≤ 8192 = omega (arith, rw length-append at l, length_covered w (flat_all flat_entry es)) in
    record { small = l; entries_valid = h; begins = b; framed = (width_holds (n + 4) (omega arith), refl) }

-- ---- a valid sheet's entries are valid

item_valid : (l : Level) (f : Form) (v : Val) → ValValid l f v → length v.value ≤ 8192 → ItemValid l f (item_of v)
unfolding item_of
item_valid l f v h n = record { meets = h.meets; coded = width_holds (length v.value) (omega arith) }

pub item_tag : (v : Val) → tag_of_item (item_of v) ≡ tag_of_val v
unfolding item_of
item_tag v = refl

item_value_lem : (v : Val) → (item_of v).value ≡ v.value
unfolding item_of
item_value_lem v = refl

value_less : (v : Val) → length v.value ≤ length (flat_item (item_of v))
value_less v = rw (length_item (item_of v), item_value_lem v) (omega arith)

-- a pack under its shortest length
pub pack_with_valid : (f : Form) (i : ℕ) (is : List Item) → i < 2 ^ 63 → Together tag_of_item (ItemValid pack f) is → ended f (map tag_of_item is) ≡ ok tt
    → length (flat_pack (pack_with i is)) ≤ 8192 → PackValid f (pack_with i is)
unfolding pack_with pack_body
pack_with_valid f i is r h e l = record {
  id_range = r;
  items_valid = h;
  ends = e;
  coded = width_holds (length (pack_body (pack_with i is))) (omega (arith, l, length_pack (pack_with i is)));
}

pub pack_with_id : (i : ℕ) (is : List Item) → id_of_pack (pack_with i is) ≡ i
unfolding pack_with
pack_with_id i is = refl

pub pack_with_items : (i : ℕ) (is : List Item) → (pack_with i is).items ≡ is
unfolding pack_with
pack_with_items i is = refl

pub items_less : (i : ℕ) (is : List Item) → length (flat_all flat_item is) ≤ length (flat_pack (pack_with i is))
unfolding pack_with pack_body
items_less i is = rw (length_pack (pack_with i is), length-append) (omega arith)

pub pack_valid : (f : Form) (t : Target) → TargetValid f t → length (flat_pack (pack_of t)) ≤ 8192 → PackValid f (pack_of t)
unfolding pack_of
pack_valid f t h n =
    let is : List Item = map item_of t.vals in
    let l : length (flat_all flat_item is) ≤ 8192 = omega (arith, items_less t.id is, n) in
    pack_with_valid f t.id is h.id_range
    (together_made item_of (ValValid pack f) (ItemValid pack f) flat_item 8192 (λ v g m. item_valid pack f v g (omega (arith, m, value_less v))) tag_of_val tag_of_item item_tag t.vals l h.vals_valid)
    (rw (map_keys item_of tag_of_val tag_of_item item_tag t.vals) h.ends) n

pub pack_id : (t : Target) → id_of_pack (pack_of t) ≡ id_of_target t
unfolding pack_of
pack_id t = pack_with_id t.id (map item_of t.vals)

pub length_series : (w : ℕ) (ps : List Pack) → length (flat_entry (series w ps)) ≡ length (oid_bytes 101) + w + length (flat_all flat_pack ps)
length_series w ps = ap length (series_flat w ps) ∙ length_item (series_item w ps)

-- a series under its shortest length
pub series_with_valid : (f : Form) (ps : List Pack) → none? ps ≡ false → Together id_of_pack (PackValid f) ps → length (flat_entry (series_with ps)) ≤ 8192 → EntryValid f (series_with ps)
unfolding series_with
series_with_valid f ps s h n =
    let w : ℕ = len_width (length (flat_all flat_pack ps)) in
    record { not_empty = s; packs_valid = h; coded = width_holds (length (flat_all flat_pack ps)) (omega (arith, n, length_series w ps)) }

pub packs_less : (ps : List Pack) → length (flat_all flat_pack ps) ≤ length (flat_entry (series_with ps))
unfolding series_with
packs_less ps = rw (length_series (len_width (length (flat_all flat_pack ps))) ps) (omega arith)

entry_valid : (f : Form) (p : Part) → PartValid f p → length (flat_entry (entry_of p)) ≤ 8192 → EntryValid f (entry_of p)
unfolding entry_of
entry_valid f (one v) h n = item_valid set f v h (omega (arith, value_less v, rw (plain_flat (item_of v)) at n))
entry_valid f (targets ts) h n =
    let ps : List Pack = map pack_of ts in
    series_with_valid f ps (none_map pack_of ts ∙ h.0)
    (together_made pack_of (TargetValid f) (PackValid f) flat_pack 8192 (pack_valid f) id_of_target id_of_pack pack_id ts (omega (arith, n, packs_less ps)) h.1) n

pub entry_tag : (p : Part) → tag_of_entry (entry_of p) ≡ tag_of_part p
unfolding entry_of item_of series_with
entry_tag (one v) = refl
entry_tag (targets ts) = refl

-- ---- the packet of a valid sheet

pub entries_less : (f : Form) (es : List Entry) → length (flat_all flat_entry es) ≤ length (flat (closed f es))
entries_less f es = subst (λ x. length (flat_all flat_entry x) ≤ length (flat (closed f es))) (closed_entries f es) (body_less (closed f es))

pub packet_valid : (t : Sheet) → SheetValid t → length (flat (packet_of t)) ≤ 8192 → Valid (packet_of t)
unfolding packet_of
packet_valid t h n =
    let es : List Entry = map entry_of t.parts in
    let l : length (flat_all flat_entry es) ≤ 8192 = omega (arith, entries_less t.form es, n) in
    closed_valid t.form es
    (together_made entry_of (PartValid t.form) (EntryValid t.form) flat_entry 8192 (entry_valid t.form) tag_of_part tag_of_entry entry_tag t.parts l h.parts_valid)
    (rw (map_keys entry_of tag_of_part tag_of_entry entry_tag t.parts) h.begins) n

-- ---- it says that sheet

val_back : (l : Level) (f : Form) (v : Val) → ValValid l f v → val_of l (item_of v) ≡ v
unfolding val_of item_of
val_back l f v h = rw h.shortest

pub target_back : (f : Form) (t : Target) → TargetValid f t → target_of (pack_of t) ≡ t
unfolding target_of pack_of pack_with
target_back f t h = rw (map_back item_of (val_of pack) (ValValid pack f) (val_back pack f) t.vals h.vals_valid.each)

part_back : (f : Form) (p : Part) → PartValid f p → part_of (entry_of p) ≡ p
unfolding part_of entry_of series_with
part_back f (one v) h = ap one (val_back set f v h)
part_back f (targets ts) h = ap targets (map_back pack_of target_of (TargetValid f) (target_back f) ts h.1.each)

pub sheet_path : (f f' : Form) (ps ps' : List Part) → f ≡ f' → ps ≡ ps' → ◌≡◌ {A = Sheet} (record { form = f; parts = ps }) (record { form = f'; parts = ps' })
sheet_path f f' ps ps' e e' i = record { form = e i; parts = e' i }

pub closed_content : (f : Form) (es : List Entry) → content (closed f es) ≡ record { form = f; parts = map part_of es }
unfolding content
closed_content f es = sheet_path _ _ _ _ (closed_form f es) (ap (map part_of) (closed_entries f es))

pub packet_content : (t : Sheet) → SheetValid t → content (packet_of t) ≡ t
unfolding packet_of
packet_content t h =
    closed_content t.form (map entry_of t.parts)
    ∙ sheet_path _ _ _ _ refl (map_back entry_of part_of (PartValid t.form) (part_back t.form) t.parts h.parts_valid.each)
