-- The numbers of a place: the bytes of the series, of the pack and of its items as they lie, and that the numbers are in order.
use mathlib.Core.Path.{◌≡◌, refl, ap, ◌∙◌}
use Prim.Native.Nat.{ℕ, ◌+◌, ◌≤◌}
use native.Mathlib.Omega.{arith}
use mathlib.Core.Bool.{Bool, true, false}
use mathlib.Core.List.{List, ◌++◌}
use lib.ListN.{length, length-append}
use lib.Dec.{ltb}
use borrow.Author.Tests.{ltb-true, ltb-false}
use Rattle.format.specs.Coding.{Bytes, len_bytes, oid_bytes}
use Rattle.format.specs.Lists.{flat_all}
use Rattle.format.specs.Table.{Form, set}
use Rattle.format.specs.Packet.{Item, Pack, series, under, pack_body, flat_item, flat_pack, flat_entry}
use Rattle.format.specs.Edit.{Holder, the_set, target, is_series}
use Rattle.format.proofs.Coding.Lengths.{length_len}
use Rattle.format.proofs.Reading.Items.{length_item}
use Rattle.find.specs.declared.Place.{Place}
use Rattle.find.specs.Spots.{has_item, has_id, item_lead, entry_spot}
use Rattle.find.specs.Places.{SetOf, kept_of, TargetPlaced, Placed, Ordered}
use Rattle.find.proofs.Splices.{hit_flat, spot_room, spot_from}
use Rattle.find.proofs.Entries.{tag_within}
use Rattle.find.proofs.Sets.{set_long}

was_series : (w : ℕ) (ps : List Pack) → flat_entry (series w ps) ≡ oid_bytes 101 ++ (len_bytes w (length (flat_all flat_pack ps)) ++ flat_all flat_pack ps)
unfolding flat_entry
was_series w ps = refl

was_pack : (w id : ℕ) (is : List Item) → flat_pack (record { width = w; id = id; items = is }) ≡ under w (oid_bytes id ++ flat_all flat_item is)
unfolding flat_pack pack_body
was_pack w id is = refl

pub item_lead_lem : (i : Item) → item_lead i ≤ length (flat_item i)
item_lead_lem i = rw length_item (omega arith)

-- ---- a target's item

module _ (f : Form) (s : List ℕ) (b : Bytes s) (k : SetOf f s) {id tag : ℕ} {p : Place} (t : TargetPlaced f id tag s p) where
  abbrev pub before : List ℕ
  before = flat_all flat_entry t.hit.before

  abbrev pub later : List ℕ
  later = flat_all flat_entry t.hit.later

  abbrev pub packs_before : List ℕ
  packs_before = flat_all flat_pack t.pack_hit.before

  abbrev pub packs_later : List ℕ
  packs_later = flat_all flat_pack t.pack_hit.later

  abbrev pub items_bytes : List ℕ
  items_bytes = flat_all flat_item t.items

  abbrev pub series_len : List ℕ
  series_len = len_bytes t.width (length (flat_all flat_pack t.ps))

  abbrev pub pack_len : List ℕ
  pack_len = len_bytes t.pack_width (length (oid_bytes id ++ items_bytes))

  pub packs_were : flat_all flat_pack t.ps ≡ packs_before ++ ((pack_len ++ (oid_bytes id ++ items_bytes)) ++ packs_later)
  packs_were =
      hit_flat (has_id id) flat_pack t.pack_hit
      ∙ ap (λ r. packs_before ++ (flat_pack r ++ packs_later)) t.pack_is
      ∙ ap (λ r. packs_before ++ (r ++ packs_later)) (was_pack t.pack_width id t.items)

  pub entries_were : flat_all flat_entry (kept_of f s) ≡ before ++ ((oid_bytes 101 ++ (series_len ++ flat_all flat_pack t.ps)) ++ later)
  entries_were =
      hit_flat is_series flat_entry t.hit
      ∙ ap (λ r. before ++ (flat_entry r ++ later)) t.it_is
      ∙ ap (λ r. before ++ (r ++ later)) (was_series t.width t.ps)

  pub packs_long : length (flat_all flat_pack t.ps) ≡ length packs_before + (t.pack_width + (length (oid_bytes id) + length items_bytes) + length packs_later)
  packs_long = ap length packs_were ∙ simp (length-append, length_len)

  pub entries_long : length (flat_all flat_entry (kept_of f s)) ≡ length before + (length (oid_bytes 101) + (t.width + length (flat_all flat_pack t.ps)) + length later)
  entries_long = ap length entries_were ∙ simp (length-append, length_len)

  pub target_ordered : Ordered (length s) p
  target_ordered =
      let room = spot_room (has_item tag) flat_item item_lead item_lead t.items in
      record {
        to_packs = omega (arith, t.packs_at);
        to_pack = omega (arith, t.pack_at);
        to_body = omega (arith, t.body_at);
        to_at = omega (arith, t.item_at);
        to_next = omega (arith, t.item_at, t.next_at, room);
        to_last = omega (arith, t.next_at, t.item_at, t.last_at, room);
        to_tail = omega (arith, t.last_at, t.tail_at, t.body_at, t.pack_at, packs_long);
        to_stop = omega (arith, t.tail_at, t.packs_at, t.series_at, t.stop_at, entries_long);
        to_end = omega (arith, t.stop_at, set_long f s b k);
      }

-- ---- the value

-- it lies within the set
pub value_room : (f : Form) (s : List ℕ) → Bytes s → SetOf f s → (h : Holder) (tag : ℕ) (p : Place) → Placed f h tag s p → (p.from ≤ p.next) × (p.next ≤ length s)
value_room f s b k the_set tag p t =
    let a = entry_spot set f tag s in
    let (q, r, l) = tag_within set f tag s refl b k.ran in
    go q r l (ltb a.at a.next) refl
  where
    go : (entry_spot set f tag s).at ≤ (entry_spot set f tag s).next → (entry_spot set f tag s).from ≤ (entry_spot set f tag s).next → (entry_spot set f tag s).next ≤ length s
        → (x : Bool) → ltb (entry_spot set f tag s).at (entry_spot set f tag s).next ≡ x → (p.from ≤ p.next) × (p.next ≤ length s)
    go q r l true z = rw (t.there (ltb-true _ _ z)) (r, l)
    go q r l false z = rw (t.added (ltb-false _ _ z)) (omega arith, omega (arith, t.stop_is, set_long f s b k))
value_room f s b k (target id) tag p t =
    let o = target_ordered f s b k t in
    (omega (arith, t.value_at, t.next_at, spot_from (has_item tag) flat_item item_lead item_lead item_lead_lem t.items), omega (arith, o))
