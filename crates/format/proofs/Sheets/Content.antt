-- What a valid packet says is a valid sheet; and a valid sheet's packet is valid, and says that sheet.
use mathlib.Core.Path.{◌≡◌, refl}
use Prim.Native.Nat.{ℕ, ◌+◌, ◌*◌, ◌≤◌}
use native.Mathlib.Omega.{arith}
use mathlib.Core.List.{List}
use lib.ListN.{length, length-append}
use Rattle.format.specs.Lists.{flat_all}
use Rattle.format.specs.Table.{Form, embedded, standalone, Level, set, pack, rule_of, short}
use Rattle.format.specs.Packet.{Item, Pack, Entry, plain, series, Packet, tag_of_item, id_of_pack, tag_of_entry, flat_item, flat_pack, flat_entry, covered, framed, flat}
use Rattle.format.specs.Sheet.{tag_of_val, id_of_target, tag_of_part, val_of, target_of, part_of, content, val_bytes, target_bytes, part_bytes, sheet_bytes}
use Rattle.format.specs.Valid.{Meets, ItemValid, PackValid, EntryValid, Valid, ValValid, TargetValid, PartValid, SheetValid}
use Rattle.format.proofs.Words.Together.{map_keys, none_map, together_map, flat_less}
use Rattle.format.proofs.Table.Values.{short_valued, short_size, short_twice}
use Rattle.format.proofs.Reading.Items.{item_size_lem}
use Rattle.format.proofs.Reading.Packs.{pack_size}
use Rattle.format.proofs.Reading.Entries.{series_size_lem}
use Rattle.format.proofs.Sheets.Values.{length_val}
use Rattle.format.proofs.Sheets.Targets.{length_target}

-- ---- from a packet to what it says

pub meets_short : (l : Level) (f : Form) (tag : ℕ) (v : List ℕ) → Meets l f tag v → Meets l f tag (short (rule_of l tag) v)
meets_short l f tag v h = record {
  named = h.named;
  not_empty = (short_size (rule_of l tag) v h.not_empty).0;
  may_stand = h.may_stand;
  valued = short_valued l tag v h.not_empty h.valued;
}

val_valid : (l : Level) (f : Form) (i : Item) → ItemValid l f i → ValValid l f (val_of l i)
unfolding val_of
val_valid l f i h = record { meets = meets_short l f i.tag i.value h.meets; shortest = short_twice (rule_of l i.tag) i.value }

pub val_tag : (l : Level) (i : Item) → tag_of_val (val_of l i) ≡ tag_of_item i
unfolding val_of
val_tag l i = refl

target_valid : (f : Form) (p : Pack) → PackValid f p → TargetValid f (target_of p)
unfolding target_of
target_valid f p h = record {
  id_range = h.id_range;
  vals_valid = together_map (val_of pack) tag_of_item tag_of_val (ItemValid pack f) (ValValid pack f) (val_tag pack) (val_valid pack f) p.items h.items_valid;
  ends = rw (map_keys (val_of pack) tag_of_item tag_of_val (val_tag pack) p.items) h.ends;
}

pub target_id : (p : Pack) → id_of_target (target_of p) ≡ id_of_pack p
unfolding target_of
target_id p = refl

part_valid : (f : Form) (e : Entry) → EntryValid f e → PartValid f (part_of e)
unfolding part_of
part_valid f (plain i) h = val_valid set f i h
part_valid f (series w ps) h =
    (rw (none_map target_of ps) h.not_empty, together_map target_of id_of_pack id_of_target (PackValid f) (TargetValid f) target_id (target_valid f) ps h.packs_valid)

pub part_tag : (e : Entry) → tag_of_part (part_of e) ≡ tag_of_entry e
unfolding part_of val_of
part_tag (plain i) = refl
part_tag (series w ps) = refl

-- ---- sizes: a sheet has at most five times its packet's bytes, and three

val_size : (l : Level) (f : Form) (i : Item) → ItemValid l f i → length (val_bytes l (val_of l i)) ≤ 5 * length (flat_item i)
val_size l f i h =
    rw length_val (omega (arith, item_size_lem l f i h, short_less l i h))
  where
    short_less : (l : Level) (i : Item) → ItemValid l f i → length (val_of l i).value ≤ length i.value
    short_less l i h = unfold val_of in (short_size (rule_of l i.tag) i.value h.meets.not_empty).1

target_size : (f : Form) (p : Pack) → PackValid f p → length (target_bytes (target_of p)) ≤ 5 * length (flat_pack p)
unfolding target_of
target_size f p h =
    rw length_target
    (omega (arith, pack_size p h.coded, flat_less (val_of pack) flat_item (val_bytes pack) 5 (ItemValid pack f) (val_size pack f) p.items h.items_valid.each))

part_size : (f : Form) (e : Entry) → EntryValid f e → length (part_bytes (part_of e)) ≤ 5 * length (flat_entry e)
unfolding part_of part_bytes flat_entry
part_size f (plain i) h = val_size set f i h
part_size f (series w ps) h =
    omega (arith, series_size_lem f w ps h, flat_less target_of flat_pack target_bytes 5 (PackValid f) (target_size f) ps h.packs_valid.each)

flat_more : (f : Form) (w : ℕ) (b c : List ℕ) → length b ≤ length (framed f w b c)
unfolding framed covered
flat_more embedded w b c = omega arith
flat_more standalone w b c = simp length-append (omega arith)

pub body_less : (p : Packet) → length (flat_all flat_entry p.entries) ≤ length (flat p)
unfolding flat
body_less p = flat_more p.form p.width (flat_all flat_entry p.entries) p.sum

pub content_size : (p : Packet) → Valid p → length (sheet_bytes (content p)) ≤ 5 * length (flat p) + 3
unfolding content sheet_bytes
content_size p h =
    omega (arith, body_less p, flat_less part_of flat_entry part_bytes 5 (EntryValid p.form) (part_size p.form) p.entries h.entries_valid.each)

pub content_form : (p : Packet) → (content p).form ≡ p.form
unfolding content
content_form p = refl

pub content_valid : (p : Packet) → Valid p → SheetValid (content p)
unfolding content
content_valid p h = record {
  small = omega (arith, content_size p h, h.small);
  parts_valid = together_map part_of tag_of_entry tag_of_part (EntryValid p.form) (PartValid p.form) part_tag (part_valid p.form) p.entries h.entries_valid;
  begins = rw (map_keys part_of tag_of_entry tag_of_part part_tag p.entries) h.begins;
}
