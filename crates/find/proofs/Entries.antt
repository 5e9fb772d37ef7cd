-- The entries of a level that was checked: they lie flat as its bytes; the loop that looks for a tag; and what stands at a tag's spot.
use mathlib.Core.Path.{◌≡◌, refl, sym, ap, ◌∙◌}
use Prim.Native.Nat.{ℕ, ◌+◌, ◌-◌, ◌≤◌, ◌<◌}
use native.Mathlib.Omega.{arith}
use mathlib.Core.Bool.{Bool, true, false, ◌&&◌}
use mathlib.Core.List.{List, [], ◌∷◌, ◌++◌, map}
use lib.ListN.{length, take, drop, length-drop}
use lib.Dec.{eqb}
use borrow.Author.Tests.{eqb-true, eq-eqb, ne_eqb}
use Rattle.std.specs.Prelude.{Ok, Err}
use Rattle.format.specs.Answer.{ok, refused, Got, got}
use Rattle.format.specs.Coding.{Bytes, oid_bytes}
use Rattle.format.specs.Lists.{flat_all}
use Rattle.format.specs.Table.{Form, Level, set, pack, is_set}
use Rattle.format.specs.Packet.{Item, Pack, Entry, plain, series, tag_of_entry, flat_item, flat_entry}
use Rattle.format.specs.Run.{always}
use Rattle.format.specs.Read.{head_of, item, entry}
use Rattle.format.specs.Edit.{is_series}
use Rattle.format.proofs.Words.Answers.{no_bool, bind_then, ok_inj, and_both}
use Rattle.format.proofs.Words.Bytes.{took_length, bytes_drop}
use Rattle.format.proofs.Words.Keys.{all_map}
use Rattle.format.proofs.Coding.Oids.{oid_some}
use Rattle.format.proofs.Reading.Runs.{Faithful}
use Rattle.format.proofs.Reading.Items.{item_at, length_item, head_says, item_says}
use Rattle.format.proofs.Reading.Entries.{series_item, series_flat, plain_flat, entry_says}
use Rattle.coding.proofs.Rooms.{tail_part}
use Rattle.coding.specs.declared.refusals.Refusal.{Refusal}
use Rattle.coding.specs.Refusals.{number}
use Rattle.heads.specs.declared.Head.{Head}
use Rattle.heads.specs.Meet.{head, item_head}
use Rattle.tally.specs.Meet.{deepen_at, step_at}
use Rattle.tally.specs.Runs.{Ran, level_run, series_run}
use Rattle.tally.proofs.Steps.{EntryHere, entry_here, no_head_entry}
use Rattle.find.specs.declared.Spot.{Spot}
use Rattle.find.specs.Spots.{spot, no_spot, spot_in, things_of, inside, has_item, has_tag, entries_of, item_lead, entry_lead, item_spot, entry_spot, Missed, Hit}
use Rattle.find.specs.Places.{TagFound}
use Rattle.find.proofs.Splices.{spot_present, spot_absent, spot_room, spot_from}
use Rattle.find.proofs.Seeks.{ran_ok, Stands, ReadAll, read_all, Seeking, seek_start, Next, next_here, seek_done, seek_found, seek_more, Standing, standing, part_at}

-- ---- what a level's run read

step_faithful : (l : Level) (f : Form) → Faithful always tag_of_entry (step_at l f) flat_entry
unfolding step_at deepen_at
step_faithful set f seen s r b _ e = (entry_says f seen s r b (unfold entry in e)).0
step_faithful pack f seen s r b _ e = bind_then _ _ _ e λ i ei e₁. rw (← ok_inj _ _ e₁) (unfold flat_entry in (item_says pack f seen s i b ei).0)

pub entry_some : (e : Entry) → 0 < length (flat_entry e)
entry_some (plain i) = rw (plain_flat i, length_item i) (omega (arith, oid_some i.tag))
entry_some (series w ps) = rw (series_flat w ps, length_item (series_item w ps)) (omega (arith, oid_some 101))

pub entry_lead_lem : (e : Entry) → entry_lead e ≤ length (flat_entry e)
entry_lead_lem (plain i) = rw (plain_flat i, length_item i) (omega arith)
entry_lead_lem (series w ps) = rw (series_flat w ps, length_item (series_item w ps)) (omega arith)

abbrev pub EntriesRead : Level → Form → List ℕ → Type 0
EntriesRead l f s = ReadAll tag_of_entry (step_at l f) flat_entry s (entries_of l f s)

pub entries_read : (l : Level) (f : Form) (s : List ℕ) → Bytes s → Ran (level_run l f s) → EntriesRead l f s
unfolding level_run
entries_read l f s b h = read_all tag_of_entry (step_at l f) flat_entry (step_faithful l f) s b (level_run l f s) refl h

pub entries_flat : (l : Level) (f : Form) (s : List ℕ) → Bytes s → Ran (level_run l f s) → flat_all flat_entry (entries_of l f s) ≡ s
entries_flat l f s b h = sym (entries_read l f s b h).bytes

-- a pack's items, as entries and as items
plain_flats : (is : List Item) → flat_all flat_entry (map plain is) ≡ flat_all flat_item is
unfolding flat_all flat_entry
plain_flats [] = refl
plain_flats (i ∷ is) = ap (λ r. flat_item i ++ r) (plain_flats is)

plain_spot : (tag k : ℕ) (is : List Item) → spot_in (has_tag tag) flat_entry entry_lead entry_lead k (map plain is) ≡ spot_in (has_item tag) flat_item item_lead item_lead k is
unfolding spot_in flat_entry
plain_spot tag k [] = refl
plain_spot tag k (i ∷ is) = go (plain_spot tag (k + length (flat_item i)) is) (eqb i.tag tag) refl
  where
    go : spot_in (has_tag tag) flat_entry entry_lead entry_lead (k + length (flat_item i)) (map plain is) ≡ spot_in (has_item tag) flat_item item_lead item_lead (k + length (flat_item i)) is
        → (b : Bool) → eqb i.tag tag ≡ b → spot_in (has_tag tag) flat_entry entry_lead entry_lead k (plain i ∷ map plain is) ≡ spot_in (has_item tag) flat_item item_lead item_lead k (i ∷ is)
    go ih true z = rw (z, spot_in)
    go ih false z = rw (z, spot_in) ih

module _ (f : Form) (s : List ℕ) (is : List Item) {es : Got (List Entry)} (e : level_run pack f s ≡ ok es) (e' : es.val ≡ map plain is) where
  items_are : entries_of pack f s ≡ map plain is
  items_are = ap things_of e ∙ e'

  pub items_flat : Bytes s → flat_all flat_item is ≡ s
  items_flat b = sym (plain_flats is) ∙ ap (flat_all flat_entry) (sym items_are) ∙ entries_flat pack f s b (ran_ok (level_run pack f s) e)

  pub items_spot : (tag : ℕ) → entry_spot pack f tag s ≡ item_spot tag is
  items_spot tag = ap (spot_in (has_tag tag) flat_entry entry_lead entry_lead 0) items_are ∙ plain_spot tag 0 is

-- ---- an entry that stands at a, and the head that the code read there

abbrev EntryStands : Level → Form → List ℕ → ℕ → Entry → Type 0
EntryStands l f s a x = Stands tag_of_entry (step_at l f) flat_entry s a x

-- its tag, and its bytes before its value
here_keys : (l : Level) (f : Form) (u : List ℕ) (key used width size : ℕ) (r : Got Entry) → EntryHere l f u key used width size r → (tag_of_entry r.val ≡ key) × (entry_lead r.val ≡ used + width)
here_keys l f u key used width size r k = go (is_set l && eqb key 101) refl
  where
    go : (z : Bool) → is_set l && eqb key 101 ≡ z → (tag_of_entry r.val ≡ key) × (entry_lead r.val ≡ used + width)
    go true z =
        let e : 101 ≡ key = sym (eqb-true key 101 (and_both (is_set l) (eqb key 101) z).1) in
        (ap tag_of_entry (k.packs z).1 ∙ e, ap entry_lead (k.packs z).1 ∙ ap (λ n. length (oid_bytes n) + width) e ∙ ap (λ n. n + width) k.oid)
    go false z = (ap tag_of_entry (k.one z), ap entry_lead (k.one z) ∙ ap (λ n. n + width) k.oid)

module _ (l : Level) (f : Form) (s : List ℕ) (a : ℕ) (x : Entry) (w : EntryStands l f s a x) where
  no_head : {X : Type 0} (r : Refusal) → refused (number r) 0 ≡ head_of l (take (length s - a) (drop a s)) → X
  no_head r eh = no_head_entry l f w.seen (drop a s) (got x (length (flat_entry x))) w.read (Err r) (rw tail_part at eh) refl

  head_here : Bytes s → (h : Head) → ok (item_head h) ≡ head_of l (take (length s - a) (drop a s)) → EntryHere l f (drop a s) h.key h.used h.width h.size (got x (length (flat_entry x)))
  head_here b h eh = entry_here l f w.seen (drop a s) (bytes_drop a s b) (got x (length (flat_entry x))) w.read (Ok h) (rw tail_part at eh) refl

-- ---- the loop

abbrev EntrySeeking : Level → Form → ℕ → List ℕ → ℕ → Type 0
EntrySeeking l f tag s p = Seeking tag_of_entry (step_at l f) flat_entry (has_tag tag) (entries_of l f s) p

-- the loop at p, in bytes that were checked
pub record EntryTurn (l : Level) (f : Form) (tag : ℕ) (s : List ℕ) (p : ℕ) : Type 0 where
  pub going : EntrySeeking l f tag s p
  pub bytes : Bytes s
  pub asked : (length s ≤ 8192) × Ran (level_run l f s)

pub entry_start : (l : Level) (f : Form) (tag : ℕ) (s : List ℕ) → Bytes s → (length s ≤ 8192) × Ran (level_run l f s) → EntryTurn l f tag s 0
entry_start l f tag s b h = record { going = seek_start tag_of_entry (step_at l f) flat_entry (has_tag tag) (entries_of l f s); bytes = b; asked = h }

module _ {l : Level} {f : Form} {tag : ℕ} {s : List ℕ} {p : ℕ} (i : EntryTurn l f tag s p) where
  all_read : EntriesRead l f s
  all_read = entries_read l f s i.bytes i.asked.1

  pub entry_done : length s ≤ p → no_spot p ≡ entry_spot l f tag s
  entry_done h = seek_done tag_of_entry (step_at l f) flat_entry (has_tag tag) all_read i.going entry_lead entry_lead h

  -- the code read a refusal at p, which cannot be, or a head
  module _ (here : p < length s) where
    entry_next : Next tag_of_entry (step_at l f) flat_entry (has_tag tag) all_read i.going
    entry_next = next_here tag_of_entry (step_at l f) flat_entry (has_tag tag) all_read i.going here

    pub entry_fault : {X : Type 0} (r : Refusal) → refused (number r) 0 ≡ head_of l (take (length s - p) (drop p s)) → X
    entry_fault r e = no_head l f s p entry_next.it entry_next.here r e

    module _ (h : Head) (e : ok (item_head h) ≡ head_of l (take (length s - p) (drop p s))) where
      stood : EntryHere l f (drop p s) h.key h.used h.width h.size (got entry_next.it (length (flat_entry entry_next.it)))
      stood = head_here l f s p entry_next.it entry_next.here i.bytes h e

      keys : (tag_of_entry entry_next.it ≡ h.key) × (entry_lead entry_next.it ≡ h.used + h.width)
      keys = here_keys l f (drop p s) h.key h.used h.width h.size _ stood

      pub entry_room : (p + h.used + h.width + h.size ≤ length s) × (0 < h.used) × (length s ≤ 8192)
      entry_room = (omega (arith, stood.room, length-drop p s, here), stood.head, i.asked.0)

      next_is : p + h.used + h.width + h.size ≡ p + length (flat_entry entry_next.it)
      next_is = omega (arith, stood.used_is)

      pub entry_found : h.key ≡ tag → spot p (p + h.used + h.width) (p + h.used + h.width) (p + h.used + h.width + h.size) ≡ entry_spot l f tag s
      entry_found t =
          let from : p + h.used + h.width ≡ p + entry_lead entry_next.it = omega (arith, keys.1) in
          seek_found tag_of_entry (step_at l f) flat_entry (has_tag tag) all_read i.going entry_lead entry_lead entry_next (eq-eqb _ _ (keys.0 ∙ t)) from from next_is

      pub entry_more : (h.key ≡ tag → ⊥) → EntryTurn l f tag s (p + h.used + h.width + h.size)
      entry_more n = record {
        going = seek_more tag_of_entry (step_at l f) flat_entry (has_tag tag) all_read i.going entry_next (ne_eqb _ _ (λ t. n (sym keys.0 ∙ t))) next_is;
        bytes = i.bytes;
        asked = i.asked;
      }

-- ---- what stands at a tag's spot

module _ (l : Level) (f : Form) (tag : ℕ) (s : List ℕ) {a : Spot} (e : a ≡ entry_spot l f tag s) where
  pub tag_within : Bytes s → Ran (level_run l f s) → (a.at ≤ a.next) × (a.from ≤ a.next) × (a.next ≤ length s)
  tag_within b r =
      let (p, q) = spot_room (has_tag tag) flat_entry entry_lead entry_lead (entries_of l f s) in
      rw e (p, spot_from (has_tag tag) flat_entry entry_lead entry_lead entry_lead_lem (entries_of l f s), omega (arith, q, ap length (entries_flat l f s b r)))

  pub tag_absent : a.next ≤ a.at → Missed (has_tag tag) (entries_of l f s)
  tag_absent h = spot_absent (has_tag tag) flat_entry entry_lead entry_lead (entries_of l f s) e entry_some h

-- the head of what a step read
record Headed (l : Level) (f : Form) (u : List ℕ) (r : Got Entry) : Type 0 where
  key : ℕ
  used : ℕ
  width : ℕ
  size : ℕ
  here : EntryHere l f u key used width size r

headed : (l : Level) (f : Form) (seen u : List ℕ) → Bytes u → (r : Got Entry) → step_at l f seen u ≡ ok r → Headed l f u r
unfolding step_at item
headed l f seen u b r e =
    bind_then _ _ _ e λ i ei _.
    bind_then _ _ _ ei λ h eh _.
    let k = head_says l u h b eh in
    let z : h.from - h.width + h.width ≡ h.from = omega (arith, took_length _ _ _ k.took, length_item (item_at u h), k.size_is) in
    record {
      key = h.tag;
      used = h.from - h.width;
      width = h.width;
      size = h.size;
      here = entry_here l f seen u b r e (Ok (head h.tag (h.from - h.width) h.width h.size)) (ap (λ n. ok (record { tag = h.tag; width = h.width; from = n; size = h.size })) z ∙ sym eh) refl;
    }

module _ {l : Level} {f : Form} {tag : ℕ} {s : List ℕ} {a : Spot} (i : TagFound l f tag s a) where
  pub tag_hit : Hit (has_tag tag) (entries_of l f s)
  tag_hit = spot_present (has_tag tag) flat_entry entry_lead entry_lead (entries_of l f s) i.spot_is i.some

  there : Standing tag_of_entry (step_at l f) flat_entry (has_tag tag) entry_lead entry_lead s tag_hit a
  there = standing tag_of_entry (step_at l f) flat_entry (has_tag tag) entry_lead entry_lead (entries_read l f s i.bytes i.ran) tag_hit i.spot_is

  pub tag_at : a.at ≡ length (flat_all flat_entry tag_hit.before)
  tag_at = there.at_is

  pub tag_from : a.from ≡ a.at + entry_lead tag_hit.it
  tag_from = there.from_is

  under : Headed l f (drop a.at s) (got tag_hit.it (length (flat_entry tag_hit.it)))
  under = headed l f there.here.seen (drop a.at s) (bytes_drop a.at s i.bytes) _ there.here.read

  keys_at : (tag_of_entry tag_hit.it ≡ under.key) × (entry_lead tag_hit.it ≡ under.used + under.width)
  keys_at = here_keys l f _ under.key under.used under.width under.size _ under.here

  tag_is : under.key ≡ tag
  tag_is = sym keys_at.0 ∙ eqb-true _ _ tag_hit.hits

  next_at : a.next ≡ a.from + under.size
  next_at = omega (arith, there.next_is, tag_from, keys_at.1, under.here.used_is)

  pub tag_room : (a.from ≤ a.next) × (a.next ≤ length s)
  tag_room = (omega (arith, next_at), omega (arith, there.here.room, there.next_is))

  -- its value, as it is lent
  value_at : take under.size (drop (under.used + under.width) (drop a.at s)) ≡ inside s a
  value_at = sym (part_at s a.at (under.used + under.width) under.size (tag_from ∙ ap (λ n. a.at + n) keys_at.1) next_at)

  -- the series
  pub tag_series : is_set l && eqb tag 101 ≡ true → (w : ℕ) × (ps : Got (List Pack)) × (tag_hit.it ≡ series w ps.val) × (series_run f (inside s a) ≡ ok ps)
  tag_series z = let (ps, e, r) = under.here.packs (rw tag_is z) in (under.width, ps, e, ap (series_run f) (sym value_at) ∙ r)

-- ---- the series by its kind and by its tag

pub other_kind : (e : Entry) → has_tag 101 e ≡ false → is_series e ≡ false
other_kind (plain i) z = refl
other_kind (series w ps) z = no_bool (sym z)

-- its `before`, `it` and `later` are those of `tag_hit`
abbrev pub series_hit : {f : Form} {s : List ℕ} {a : Spot} → TagFound set f 101 s a → Hit is_series (entries_of set f s)
series_hit i =
    let k = tag_hit i in
    record {
      before = k.before;
      it = k.it;
      later = k.later;
      list_is = k.list_is;
      missed = all_map (λ e. has_tag 101 e ≡ false) (λ e. is_series e ≡ false) other_kind k.before k.missed;
      hits = ap is_series (tag_series i refl).2;
    }

pub no_series : (f : Form) (s : List ℕ) {a : Spot} → a ≡ entry_spot set f 101 s → a.next ≤ a.at → Missed is_series (entries_of set f s)
no_series f s e h = all_map (λ e. has_tag 101 e ≡ false) (λ e. is_series e ≡ false) other_kind (entries_of set f s) (tag_absent set f 101 s e h)
