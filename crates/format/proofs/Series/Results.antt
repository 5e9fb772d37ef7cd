-- The changed packet: valid if it is small enough, it says the changed sheet, and of a normal form it is the changed sheet's packet.
use mathlib.Core.Path.{◌≡◌, refl, sym, ap, ◌∙◌, subst}
use Prim.Native.Nat.{ℕ, ◌≤◌}
use native.Mathlib.Omega.{arith}
use mathlib.Core.Bool.{true, false}
use mathlib.Core.List.{List, [], ◌∷◌, map}
use lib.ListN.{length, length-map}
use Rattle.format.specs.Coding.{fixed}
use Rattle.format.specs.Lists.{none?, flat_all, put_in, take_out}
use Rattle.format.specs.Table.{Form, embedded, standalone, set, rule_of, nameable, sized, rules, find}
use Rattle.format.specs.Packet.{Pack, Entry, plain, series, Packet, id_of_pack, tag_of_entry, flat_pack, flat_entry, flat, closed}
use Rattle.format.specs.Sheet.{Val, Target, Part, one, targets, Sheet, id_of_target, tag_of_part, target_of, part_of, content}
use Rattle.format.specs.Calls.{item_of, series_with, pack_of, entry_of, packet_of}
use Rattle.format.specs.Edit.{Change, put, remove, changed}
use Rattle.format.specs.Targets.{TargetChange, moved, series_now, count_of, recounted, targets_in, change_parts, change_sheet, packs_in, change_entries, change_packet}
use Rattle.format.specs.Valid.{All, Once, Together, Begins, Meets, PackValid, EntryValid, Valid, TargetValid}
use Rattle.format.proofs.Words.Changes.{changed_keys, once_changed}
use Rattle.format.proofs.Coding.Digits.{length_fixed}
use Rattle.format.proofs.Table.Tags.{set_stands}
use Rattle.format.proofs.Reading.Entries.{plain_flat}
use Rattle.format.proofs.Sheets.Content.{target_id, part_tag}
use Rattle.format.proofs.Sheets.Normal.{closed_valid, closed_form, closed_entries, closed_content, pack_valid, pack_id, entry_tag, series_with_valid, packs_less, entries_less, target_back, sheet_path}
use Rattle.format.proofs.Edits.Applied.{Right, right_all, all_right}
use Rattle.format.proofs.Edits.Results.{item_made_lem, val_made, series_key}
use Rattle.format.proofs.Series.Moves.{Of, of_each, of_map, map_moved, map_series, map_recounted, count_tag, once_moved, moved_keys, series_change, series_keys, recounted_keys, all_moved, all_series, all_recounted}
use Rattle.format.proofs.Series.Rules.{Fits, targets_say, ids_in}

-- ---- the pieces

abbrev pub a_plain : Val → Entry
a_plain v = plain (item_of v)

count_meets : (f : Form) (n : ℕ) → Meets set f 6 (fixed 3 n)
unfolding nameable rule_of find rules sized
count_meets f n = record {
  named = refl;
  not_empty = rw length_fixed (omega arith);
  may_stand = set_stands f 6 true refl;
  valued = record { length_allowed = rw length_fixed; pixel_not_0 = refl };
}

count_right : (f : Form) (n : ℕ) → Right flat_entry (EntryValid f) 8192 (a_plain (count_of n))
unfolding count_of
count_right f n b = item_made_lem set f 6 (fixed 3 n) (count_meets f n) (rw plain_flat at b)

pub packs_in_lem : (f : Form) (es : List Entry) → All (EntryValid f) es → Together id_of_pack (PackValid f) (packs_in es)
unfolding packs_in
packs_in_lem f [] h = record { once = tt; each = tt }
packs_in_lem f (plain i ∷ es) h = packs_in_lem f es h.1
packs_in_lem f (series w ps ∷ es) h = h.0.packs_valid

-- ---- valid

-- a standalone set goes on to begin with tag 2
begins_series : (f : Form) (c : Change) (ks : List ℕ) → Begins f ks → Begins f (changed_keys 101 c ks)
unfolding changed put_in take_out
begins_series embedded c ks h = tt
begins_series standalone c [] h = absurd h
begins_series standalone (put v) (k ∷ ks) h = rw (h, put_in) h
begins_series standalone remove (k ∷ ks) h = rw (h, take_out) h

module _ (c : TargetChange) (es : List Entry) where
  abbrev packs_now : List Pack
  packs_now = moved id_of_pack pack_of c (packs_in es)

  changed_tags : map tag_of_entry (change_entries c es) ≡ changed_keys 101 (series_change packs_now) (map tag_of_entry es)
  unfolding change_entries item_of
  changed_tags = recounted_keys tag_of_entry a_plain (length packs_now) (count_tag _) _ ∙ series_keys tag_of_entry series_with series_key packs_now es

  module _ (f : Form) (valid : Together tag_of_entry (EntryValid f) es) (fits : Fits f (map id_of_pack (packs_in es)) c) where
    packs_now_is : length (flat_all flat_pack packs_now) ≤ 8192 → Together id_of_pack (PackValid f) packs_now
    packs_now_is b =
        let old = packs_in_lem f es valid.each in
        let R : Pack → Type 0 = Right flat_pack (PackValid f) 8192 in
        record {
          once = subst Once (sym (moved_keys id_of_pack pack_of pack_id c (packs_in es))) (once_moved c _ fits.1 old.once);
          each = all_right flat_pack (PackValid f) 8192 packs_now b
              (all_moved R id_of_pack pack_of c (of_map (TargetValid f) (λ t. R (pack_of t)) (pack_valid f) c fits.0) (packs_in es)
              (right_all flat_pack (PackValid f) 8192 (packs_in es) old.each));
        }

    series_right : none? packs_now ≡ false → Right flat_entry (EntryValid f) 8192 (series_with packs_now)
    series_right n b = series_with_valid f packs_now n (packs_now_is (omega (arith, b, packs_less packs_now))) b

    entries_now : length (flat_all flat_entry (change_entries c es)) ≤ 8192 → Together tag_of_entry (EntryValid f) (change_entries c es)
    unfolding change_entries
    entries_now b =
        let R : Entry → Type 0 = Right flat_entry (EntryValid f) 8192 in
        record {
          once = subst Once (sym changed_tags) (once_changed 101 (series_change packs_now) (map tag_of_entry es) valid.once);
          each = all_right flat_entry (EntryValid f) 8192 (change_entries c es) b
              (all_recounted R tag_of_entry a_plain (length packs_now) (count_right f _) _
              (all_series R tag_of_entry series_with packs_now series_right es (right_all flat_entry (EntryValid f) 8192 es valid.each)));
        }

pub changed_valid : (c : TargetChange) (p : Packet) → Valid p → Fits p.form (ids_in p) c → length (flat (change_packet c p)) ≤ 8192 → Valid (change_packet c p)
unfolding change_packet
changed_valid c p v fits b =
    let es : List Entry = change_entries c p.entries in
    closed_valid p.form es
    (entries_now c p.entries p.form v.entries_valid fits (omega (arith, b, entries_less p.form es)))
    (rw (changed_tags c p.entries) (begins_series p.form _ _ v.begins)) b

-- ---- what it says

series_says : (ps : List Pack) → part_of (series_with ps) ≡ targets (map target_of ps)
unfolding part_of series_with
series_says ps = refl

count_says : (n : ℕ) → part_of (a_plain (count_of n)) ≡ one (count_of n)
unfolding part_of count_of
count_says n = ap one (val_made set 6 (fixed 3 n))

parts_say : (f : Form) (c : TargetChange) (es : List Entry) → Of (TargetValid f) c → map part_of (change_entries c es) ≡ change_parts c (map part_of es)
unfolding change_entries change_parts
parts_say f c es h =
    let ps : List Pack = moved id_of_pack pack_of c (packs_in es) in
    let ts : List Target = moved id_of_target (λ t. t) c (targets_in (map part_of es)) in
    let z : map target_of ps ≡ ts
    = map_moved target_of id_of_pack id_of_target target_id pack_of (λ t. t) c (of_map (TargetValid f) _ (target_back f) c h) (packs_in es)
    ∙ ap (moved id_of_target (λ t. t) c) (sym (targets_say es)) in
    let n : length ps ≡ length ts = sym (length-map ps target_of) ∙ ap length z in
    map_recounted part_of tag_of_entry tag_of_part part_tag a_plain one (length ps) (count_says _) _
    ∙ ap (recounted tag_of_part one (length ps)) (map_series part_of tag_of_entry tag_of_part part_tag target_of series_with targets series_says ps es)
    ∙ ap (λ x. recounted tag_of_part one (length ps) (series_now tag_of_part targets x (map part_of es))) z
    ∙ ap (λ k. recounted tag_of_part one k (series_now tag_of_part targets ts (map part_of es))) n

-- the sheet of the changed packet is the changed sheet
pub changed_says : (f : Form) (c : TargetChange) (p : Packet) → Of (TargetValid f) c → content (change_packet c p) ≡ change_sheet c (content p)
unfolding change_packet change_sheet content
changed_says f c p h = closed_content p.form (change_entries c p.entries) ∙ sheet_path _ _ _ _ refl (parts_say f c p.entries h)

-- ---- of a normal form: the same, from the sheet's side

packs_of_lem : (ps : List Part) → packs_in (map entry_of ps) ≡ map pack_of (targets_in ps)
unfolding packs_in targets_in entry_of series_with
packs_of_lem [] = refl
packs_of_lem (one v ∷ ps) = packs_of_lem ps
packs_of_lem (targets ts ∷ ps) = refl

series_of : (ts : List Target) → entry_of (targets ts) ≡ series_with (map pack_of ts)
unfolding entry_of
series_of ts = refl

count_of_lem : (n : ℕ) → entry_of (one (count_of n)) ≡ a_plain (count_of n)
unfolding entry_of
count_of_lem n = refl

entries_of_lem : (c : TargetChange) (ps : List Part) → map entry_of (change_parts c ps) ≡ change_entries c (map entry_of ps)
unfolding change_entries change_parts
entries_of_lem c ps =
    let ts : List Target = moved id_of_target (λ t. t) c (targets_in ps) in
    let qs : List Pack = moved id_of_pack pack_of c (packs_in (map entry_of ps)) in
    let z : map pack_of ts ≡ qs
    = map_moved pack_of id_of_target id_of_pack pack_id (λ t. t) pack_of c (of_each (λ t. pack_of t ≡ pack_of t) (λ t. refl) c) (targets_in ps)
    ∙ ap (moved id_of_pack pack_of c) (sym (packs_of_lem ps)) in
    let n : length ts ≡ length qs = sym (length-map ts pack_of) ∙ ap length z in
    map_recounted entry_of tag_of_part tag_of_entry entry_tag one a_plain (length ts) (count_of_lem _) _
    ∙ ap (recounted tag_of_entry a_plain (length ts)) (map_series entry_of tag_of_part tag_of_entry entry_tag pack_of targets series_with series_of ts ps)
    ∙ ap (λ x. recounted tag_of_entry a_plain (length ts) (series_now tag_of_entry series_with x (map entry_of ps))) z
    ∙ ap (λ k. recounted tag_of_entry a_plain k (series_now tag_of_entry series_with qs (map entry_of ps))) n

-- the change of a sheet's packet is the changed sheet's packet
pub changed_normal : (c : TargetChange) (t : Sheet) → change_packet c (packet_of t) ≡ packet_of (change_sheet c t)
unfolding change_packet packet_of change_sheet
changed_normal c t =
    let es : List Entry = map entry_of t.parts in
    ap (λ f. closed f (change_entries c (closed t.form es).entries)) (closed_form t.form es)
    ∙ ap (λ x. closed t.form (change_entries c x)) (closed_entries t.form es)
    ∙ ap (closed t.form) (sym (entries_of_lem c t.parts))
