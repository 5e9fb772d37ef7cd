-- The edited packet: valid if it is small enough, it says the edited sheet, and of a normal form it is the edited sheet's packet.
use mathlib.Core.Path.{◌≡◌, refl, sym, ap, ◌∙◌, subst}
use Prim.Native.Nat.{ℕ, ◌≤◌}
use native.Mathlib.Omega.{arith}
use mathlib.Core.Bool.{Bool, true, false}
use mathlib.Core.List.{List, [], ◌∷◌, ◌++◌, map}
use lib.ListN.{length}
use lib.Dec.{eqb}
use borrow.Author.Tests.{eqb-true}
use Rattle.format.specs.Answer.{ok}
use Rattle.format.specs.Lists.{flat_all, put_in, take_out}
use Rattle.format.specs.Table.{Form, embedded, standalone, Level, set, pack, rule_of, ended, short}
use Rattle.format.specs.Packet.{Item, Pack, Entry, plain, series, Packet, tag_of_item, id_of_pack, tag_of_entry, flat_item, flat_pack, flat_entry, flat, closed}
use Rattle.format.specs.Sheet.{Val, Target, Part, one, targets, Sheet, tag_of_val, tag_of_part, val_of, target_of, part_of, content}
use Rattle.format.specs.Calls.{item_of, pack_with, series_with, pack_of, entry_of, packet_of}
use Rattle.format.specs.Edit.{Holder, the_set, target, put, remove, Changes, level_of, changed, applied, val_with, in_target, is_targets, in_part, edit_parts, edit_sheet, ending, edit_rules, in_pack, is_series, in_entry, edit_entries, edit_packet}
use Rattle.format.specs.Valid.{All, Once, Together, Begins, Meets, ItemValid, PackValid, EntryValid, Valid}
use Rattle.format.specs.Demands.Kept.{PackAt}
use Rattle.format.specs.Demands.Demand3.{Asks}
use Rattle.format.proofs.Words.Answers.{need_last, no_bool, ok_inj}
use Rattle.format.proofs.Words.Changes.{map_on, keys_on, put_key, out_key}
use Rattle.format.proofs.Words.Together.{together_exchanged, none_mid, mid_less}
use Rattle.format.proofs.Coding.Lengths.{width_holds}
use Rattle.format.proofs.Table.Values.{short_twice}
use Rattle.format.proofs.Reading.Items.{length_item}
use Rattle.format.proofs.Reading.Entries.{plain_flat}
use Rattle.format.proofs.Sheets.Content.{meets_short, val_tag, target_id, part_tag}
use Rattle.format.proofs.Sheets.Normal.{closed_valid, closed_form, closed_entries, closed_content, item_tag, pack_id, entry_tag, pack_with_valid, pack_with_id, series_with_valid, packs_less, items_less, entries_less, sheet_path}
use Rattle.format.proofs.Edits.Applied.{map_applied, keys_after, applied_keys, Made, applied_together}
use Rattle.format.proofs.Edits.Rules.{Follows, Turned, rules_then}
use Rattle.format.proofs.Edits.Places.{part_series, tags_in, tags_say, place_then, packs_valid, pack_valid, place_edits}

-- ---- a put item

abbrev pub an_item : Level → ℕ → List ℕ → Item
an_item l tag v = item_of (val_with l tag v)

abbrev pub an_entry : ℕ → List ℕ → Entry
an_entry tag v = plain (an_item set tag v)

pub made_tag : (l : Level) (tag : ℕ) (v : List ℕ) → (an_item l tag v).tag ≡ tag
unfolding item_of val_with
made_tag l tag v = refl

pub item_made_lem : (l : Level) (f : Form) (tag : ℕ) (v : List ℕ) → Meets l f tag v → length (flat_item (an_item l tag v)) ≤ 8192 → ItemValid l f (an_item l tag v)
unfolding item_of val_with
item_made_lem l f tag v h b = record {
  meets = meets_short l f tag v h;
  coded = width_holds (length (short (rule_of l tag) v)) (omega (arith, b, length_item (item_of (val_with l tag v))));
}

items_made : (f : Form) (cs : Changes) → All (Asks f pack) cs → All (Made flat_item (ItemValid pack f) 8192 tag_of_item (an_item pack) (made_tag pack)) cs
items_made f [] h = tt
items_made f ((tag, put v) ∷ cs) h = (item_made_lem pack f tag v h.0, items_made f cs h.1)
items_made f ((tag, remove) ∷ cs) h = (tt, items_made f cs h.1)

entries_made : (f : Form) (cs : Changes) → All (Asks f set) cs → All (Made flat_entry (EntryValid f) 8192 tag_of_entry an_entry (made_tag set)) cs
entries_made f [] h = tt
entries_made f ((tag, put v) ∷ cs) h = ((λ b. item_made_lem set f tag v h.0 (rw plain_flat at b)), entries_made f cs h.1)
entries_made f ((tag, remove) ∷ cs) h = (tt, entries_made f cs h.1)

-- ---- the changed target

abbrev pub changed_items : Changes → List Item → List Item
changed_items cs is = applied tag_of_item (an_item pack) cs is

pack_changed : (f : Form) (cs : Changes) → All (Asks f pack) cs → (p : Pack) → PackValid f p → ended f (keys_after cs (map tag_of_item p.items)) ≡ ok tt
    → length (flat_pack (in_pack cs p)) ≤ 8192 → PackValid f (in_pack cs p)
unfolding in_pack
pack_changed f cs k p h en b =
    let is : List Item = changed_items cs p.items in
    pack_with_valid f p.id is h.id_range
    (applied_together flat_item (ItemValid pack f) 8192 tag_of_item (an_item pack) (made_tag pack) cs p.items (items_made f cs k) (omega (arith, b, items_less p.id is)) h.items_valid)
    (rw (applied_keys tag_of_item (an_item pack) (made_tag pack) cs p.items) en) b

pub pack_key : (cs : Changes) (p : Pack) → id_of_pack (in_pack cs p) ≡ id_of_pack p
unfolding in_pack
pack_key cs p = pack_with_id p.id _

entry_key : (i : ℕ) (cs : Changes) (e : Entry) → tag_of_entry (in_entry i cs e) ≡ tag_of_entry e
unfolding in_entry series_with
entry_key i cs (plain x) = refl
entry_key i cs (series w ps) = refl

pub series_key : (ps : List Pack) → tag_of_entry (series_with ps) ≡ 101
unfolding series_with
series_key ps = refl

module _ (f : Form) (i : ℕ) (cs : Changes) (k : All (Asks f pack) cs) (es : List Entry) (valid : Together tag_of_entry (EntryValid f) es) (p : PackAt i es)
    (en : ended f (keys_after cs (map tag_of_item p.it.items)) ≡ ok tt) where
  abbrev packs_now : List Pack
  packs_now = p.earlier ++ (in_pack cs p.it ∷ p.later)

  series_changed : length (flat_entry (series_with packs_now)) ≤ 8192 → EntryValid f (series_with packs_now)
  series_changed b =
      let l : length (flat_pack (in_pack cs p.it)) ≤ 8192 = omega (arith, b, packs_less packs_now, mid_less flat_pack p.earlier (in_pack cs p.it) p.later) in
      series_with_valid f packs_now (none_mid p.earlier (in_pack cs p.it) p.later)
      (together_exchanged id_of_pack (PackValid f) p.it (in_pack cs p.it) p.later (pack_key cs p.it)
      (pack_changed f cs k p.it (pack_valid f i es valid p) en l) p.earlier
      (subst (Together id_of_pack (PackValid f)) p.pack_at.parts (packs_valid f i es valid p))) b

  target_changed : length (flat_all flat_entry (edit_entries (target i) cs es)) ≤ 8192 → Together tag_of_entry (EntryValid f) (edit_entries (target i) cs es)
  target_changed b =
      let e = place_edits f i es valid p cs in
      let l : length (flat_entry (series_with packs_now)) ≤ 8192 = omega (arith, rw e at b, mid_less flat_entry p.before (series_with packs_now) p.after) in
      rw e (together_exchanged tag_of_entry (EntryValid f) (series p.width p.packs) (series_with packs_now) p.after (series_key packs_now) (series_changed l) p.before
      (subst (Together tag_of_entry (EntryValid f)) p.series_at.parts valid))

-- ---- the changed set

begins_put : (f : Form) (tag : ℕ) (ks : List ℕ) → Begins f ks → Begins f (put_key tag ks)
unfolding put_in
begins_put embedded tag ks h = tt
begins_put standalone tag [] h = absurd h
begins_put standalone tag (k ∷ ks) h = go (eqb k tag) refl
  where
    go : (b : Bool) → eqb k tag ≡ b → Begins standalone (put_key tag (k ∷ ks))
    go true z = rw (z, put_in) (sym (eqb-true k tag z) ∙ h)
    go false z = rw (z, put_in) h

-- tag 2 stood once, and first: where it is left, it was not taken out
begins_out : (f : Form) (tag : ℕ) (ks : List ℕ) → Once ks → ending f set (out_key tag ks) ≡ ok tt → Begins f ks → Begins f (out_key tag ks)
unfolding take_out ending
begins_out embedded tag ks o e h = tt
begins_out standalone tag [] o e h = absurd h
begins_out standalone tag (k ∷ ks) o e h = go (eqb k tag) refl
  where
    go : (b : Bool) → eqb k tag ≡ b → Begins standalone (out_key tag (k ∷ ks))
    go true z = no_bool (sym (rw h at o.0) ∙ need_last _ 14 tt (rw (z, take_out) at e))
    go false z = rw (z, take_out) h

begins_changed : (f : Form) (cs : Changes) (ks : List ℕ) → Follows the_set [] cs → Once ks → ending f set (keys_after cs ks) ≡ ok tt → Begins f ks → Begins f (keys_after cs ks)
unfolding applied changed
begins_changed f [] ks t o e b = b
begins_changed f ((tag, put v) ∷ []) ks t o e b = begins_put f tag ks b
begins_changed f ((tag, remove) ∷ []) ks t o e b = begins_out f tag ks o e b
begins_changed f ((tag, c) ∷ (d ∷ cs)) ks t o e b = no_bool t.1.0

module _ (p : Packet) (v : Valid p) where
  entries_changed : (h : Holder) (cs : Changes) (tags : List ℕ) → tags_in h p.entries ≡ ok tags → Turned p.form h [] cs tags
      → ending p.form (level_of h) (keys_after cs tags) ≡ ok tt → length (flat_all flat_entry (edit_entries h cs p.entries)) ≤ 8192
      → Together tag_of_entry (EntryValid p.form) (edit_entries h cs p.entries) × Begins p.form (map tag_of_entry (edit_entries h cs p.entries))
  unfolding edit_entries tags_in ending
  entries_changed the_set cs tags et t en b =
      let es : List Entry = p.entries in
      let z : map tag_of_entry es ≡ tags = ok_inj _ _ et in (
        applied_together flat_entry (EntryValid p.form) 8192 tag_of_entry an_entry (made_tag set) cs es (entries_made p.form cs t.asked) b v.entries_valid,
        rw (applied_keys tag_of_entry an_entry (made_tag set) cs es)
            (begins_changed p.form cs (map tag_of_entry es) t.follow v.entries_valid.once (unfold ending in (rw (← z) at en)) v.begins),
      )
  entries_changed (target i) cs tags et t en b =
      place_then i p.entries tags et λ at z. (
        target_changed p.form i cs t.asked p.entries v.entries_valid at (rw (← z) at en) b,
        rw (keys_on tag_of_entry is_series (in_entry i cs) (λ e z. entry_key i cs e) p.entries) v.begins,
      )

pub edited_valid : (h : Holder) (cs : Changes) (p : Packet) (u : Unit {0}) → Valid p → edit_rules h cs (content p) ≡ ok u → length (flat (edit_packet h cs p)) ≤ 8192
    → Valid (edit_packet h cs p)
unfolding edit_packet content
edited_valid h cs p u v e b =
    rules_then h cs (content p) u e λ tags et t en.
    let es : List Entry = edit_entries h cs p.entries in
    let (g, n) = entries_changed p v h cs tags (sym (tags_say h p.entries) ∙ et) t en (omega (arith, b, entries_less p.form es)) in
    closed_valid p.form es g n b

-- ---- what it says

pub val_made : (l : Level) (tag : ℕ) (v : List ℕ) → val_of l (an_item l tag v) ≡ val_with l tag v
unfolding val_of item_of val_with
val_made l tag v = rw (short_twice (rule_of l tag) v)

target_says : (cs : Changes) (p : Pack) → target_of (in_pack cs p) ≡ in_target cs (target_of p)
unfolding target_of in_pack in_target pack_with
target_says cs p =
    ap (λ (vs : List Val). record { id = p.id; vals = vs })
    (map_applied (val_of pack) tag_of_item tag_of_val (an_item pack) (val_with pack) (val_tag pack) (val_made pack) cs p.items)

part_says : (i : ℕ) (cs : Changes) (e : Entry) → part_of (in_entry i cs e) ≡ in_part i cs (part_of e)
unfolding part_of in_entry in_part series_with
part_says i cs (plain x) = refl
part_says i cs (series w ps) =
    ap targets (map_on target_of (λ p. eqb p.id i) (λ g. eqb g.id i) (λ p. ap (λ k. eqb k i) (target_id p)) (in_pack cs) (in_target cs) (target_says cs) ps)

parts_say : (h : Holder) (cs : Changes) (es : List Entry) → map part_of (edit_entries h cs es) ≡ edit_parts h cs (map part_of es)
unfolding edit_entries edit_parts
parts_say the_set cs es =
    map_applied part_of tag_of_entry tag_of_part an_entry (λ tag v. one (val_with set tag v)) part_tag (λ tag v. unfold part_of in (ap one (val_made set tag v))) cs es
parts_say (target i) cs es = map_on part_of is_series is_targets part_series (in_entry i cs) (in_part i cs) (part_says i cs) es

-- the sheet of the edited packet is the edited sheet
pub edited_says : (h : Holder) (cs : Changes) (p : Packet) → content (edit_packet h cs p) ≡ edit_sheet h cs (content p)
unfolding edit_packet edit_sheet content
edited_says h cs p = closed_content p.form (edit_entries h cs p.entries) ∙ sheet_path _ _ _ _ refl (parts_say h cs p.entries)

-- ---- of a normal form: the same, from the sheet's side

pack_made_of : (cs : Changes) (g : Target) → pack_of (in_target cs g) ≡ in_pack cs (pack_of g)
unfolding pack_of in_target in_pack pack_with
pack_made_of cs g =
    ap (λ (is : List Item). pack_with g.id is)
    (map_applied item_of tag_of_val tag_of_item (val_with pack) (an_item pack) item_tag (λ tag v. refl) cs g.vals)

entry_made_of : (i : ℕ) (cs : Changes) (p : Part) → entry_of (in_part i cs p) ≡ in_entry i cs (entry_of p)
unfolding entry_of in_part in_entry series_with
entry_made_of i cs (one v) = refl
entry_made_of i cs (targets ts) =
    ap series_with (map_on pack_of (λ g. eqb g.id i) (λ p. eqb p.id i) (λ g. ap (λ k. eqb k i) (pack_id g)) (in_target cs) (in_pack cs) (pack_made_of cs) ts)

entry_series : (p : Part) → is_series (entry_of p) ≡ is_targets p
unfolding entry_of series_with
entry_series (one v) = refl
entry_series (targets ts) = refl

entries_made_of : (h : Holder) (cs : Changes) (ps : List Part) → map entry_of (edit_parts h cs ps) ≡ edit_entries h cs (map entry_of ps)
unfolding edit_entries edit_parts
entries_made_of the_set cs ps =
    map_applied entry_of tag_of_part tag_of_entry (λ tag v. one (val_with set tag v)) an_entry entry_tag (λ tag v. unfold entry_of in refl) cs ps
entries_made_of (target i) cs ps = map_on entry_of is_targets is_series entry_series (in_part i cs) (in_entry i cs) (entry_made_of i cs) ps

-- the edit of a sheet's packet is the edited sheet's packet
pub edited_normal : (h : Holder) (cs : Changes) (t : Sheet) → edit_packet h cs (packet_of t) ≡ packet_of (edit_sheet h cs t)
unfolding edit_packet packet_of edit_sheet
edited_normal h cs t =
    let es : List Entry = map entry_of t.parts in
    ap (λ f. closed f (edit_entries h cs (closed t.form es).entries)) (closed_form t.form es)
    ∙ ap (λ x. closed t.form (edit_entries h cs x)) (closed_entries t.form es)
    ∙ ap (closed t.form) (sym (entries_made_of h cs t.parts))
