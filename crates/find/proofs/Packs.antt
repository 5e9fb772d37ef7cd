-- The packs of a series that was checked: they lie flat as its bytes; the loop that looks for an id; and what stands at an id's spot.
use mathlib.Core.Path.{◌≡◌, refl, sym, ap, ◌∙◌}
use Prim.Native.Nat.{ℕ, ◌+◌, ◌-◌, ◌≤◌, ◌<◌}
use native.Mathlib.Omega.{arith}
use mathlib.Core.Bool.{Bool, false}
use mathlib.Core.List.{List, [], map}
use lib.ListN.{length, take, drop, length-append, length-drop}
use lib.Seq.{drop-drop}
use borrow.Author.Tests.{eqb-true, eq-eqb, ne_eqb}
use Rattle.std.specs.Prelude.{Ok, Err}
use Rattle.format.specs.Answer.{ok, refused, Got, got}
use Rattle.format.specs.Coding.{Bytes, oid_bytes}
use Rattle.format.specs.Lists.{flat_all}
use Rattle.format.specs.Table.{Form, pack}
use Rattle.format.specs.Packet.{Item, Pack, Entry, plain, id_of_pack, pack_body, flat_pack}
use Rattle.format.specs.Read.{pack_head, one_pack}
use Rattle.format.specs.Read as Read
use Rattle.format.proofs.Words.Answers.{bind_then}
use Rattle.format.proofs.Words.Bytes.{bytes_drop}
use Rattle.format.proofs.Coding.Oids.{oid_some}
use Rattle.format.proofs.Reading.Packs.{length_pack, pack_faithful}
use Rattle.coding.proofs.Rooms.{tail_part}
use Rattle.coding.specs.declared.refusals.Refusal.{Refusal}
use Rattle.coding.specs.Refusals.{number}
use Rattle.heads.specs.declared.Head.{Head}
use Rattle.heads.specs.Meet as heads
use Rattle.heads.specs.Meet.{pack_head_from}
use Rattle.tally.specs.Runs.{Ran, level_run, series_run}
use Rattle.tally.proofs.PackTurns.{drop_take}
use Rattle.tally.proofs.Steps.{PackHere, pack_here, no_head_pack}
use Rattle.find.specs.declared.Spot.{Spot}
use Rattle.find.specs.Spots.{spot, no_spot, inside, has_id, packs_of, pack_lead, pack_spot, Missed, Hit}
use Rattle.find.specs.Places.{IdFound}
use Rattle.find.proofs.Splices.{spot_present, spot_absent}
use Rattle.find.proofs.Seeks.{Stands, ReadAll, read_all, Seeking, seek_start, Next, next_here, seek_end, seek_done, seek_found, seek_more, Standing, standing, part_at}

-- ---- what a series' run read

pub pack_some : (p : Pack) → 0 < length (flat_pack p)
unfolding pack_body
pack_some p = rw (length_pack p, length-append) (omega (arith, oid_some p.id))

abbrev pub PacksRead : Form → List ℕ → Type 0
PacksRead f s = ReadAll id_of_pack (one_pack f) flat_pack s (packs_of f s)

pub packs_read : (f : Form) (s : List ℕ) → Bytes s → Ran (series_run f s) → PacksRead f s
unfolding series_run
packs_read f s b h = read_all id_of_pack (one_pack f) flat_pack (pack_faithful f) s b (series_run f s) refl h

pub packs_flat : (f : Form) (s : List ℕ) → Bytes s → Ran (series_run f s) → flat_all flat_pack (packs_of f s) ≡ s
packs_flat f s b h = sym (packs_read f s b h).bytes

-- ---- a pack that stands at a, and the head that the code read there

abbrev PackStands : Form → List ℕ → ℕ → Pack → Type 0
PackStands f s a x = Stands id_of_pack (one_pack f) flat_pack s a x

module _ (f : Form) (s : List ℕ) (a : ℕ) (x : Pack) (w : PackStands f s a x) where
  no_head : {X : Type 0} (r : Refusal) → refused (number r) 0 ≡ pack_head (take (length s - a) (drop a s)) → X
  no_head r eh = no_head_pack f w.seen (drop a s) (got x (length (flat_pack x))) w.read (Err r) (rw tail_part at eh) refl

  head_here : Bytes s → (h : Head) → ok (pack_head_from h) ≡ pack_head (take (length s - a) (drop a s)) → PackHere f (drop a s) h.key h.used h.width h.size (got x (length (flat_pack x)))
  head_here b h eh = pack_here f w.seen (drop a s) (bytes_drop a s b) (got x (length (flat_pack x))) w.read (Ok h) (rw tail_part at eh) refl

-- ---- the loop

abbrev PackSeeking : Form → (Pack → Bool) → List ℕ → ℕ → Type 0
PackSeeking f hit s p = Seeking id_of_pack (one_pack f) flat_pack hit (packs_of f s) p

-- the loop at p, in bytes that were checked, that ends at a hit
pub record PackTurn (f : Form) (hit : Pack → Bool) (s : List ℕ) (p : ℕ) : Type 0 where
  pub going : PackSeeking f hit s p
  pub bytes : Bytes s
  pub asked : (length s ≤ 8192) × Ran (series_run f s)

abbrev pub pack_start : (f : Form) (hit : Pack → Bool) (s : List ℕ) → Bytes s → (length s ≤ 8192) × Ran (series_run f s) → PackTurn f hit s 0
pack_start f hit s b h = record { going = seek_start id_of_pack (one_pack f) flat_pack hit (packs_of f s); bytes = b; asked = h }

module _ {f : Form} {hit : Pack → Bool} {s : List ℕ} {p : ℕ} (i : PackTurn f hit s p) where
  pub all_read : PacksRead f s
  all_read = packs_read f s i.bytes i.asked.1

  -- past them all
  pub pack_end : length s ≤ p → i.going.rest ≡ []
  pack_end h = seek_end id_of_pack (one_pack f) flat_pack hit all_read i.going h

  -- the code read a refusal at p, which cannot be, or a head
  module _ (here : p < length s) where
    pub pack_next : Next id_of_pack (one_pack f) flat_pack hit all_read i.going
    pack_next = next_here id_of_pack (one_pack f) flat_pack hit all_read i.going here

    pub pack_fault : {X : Type 0} (r : Refusal) → refused (number r) 0 ≡ pack_head (take (length s - p) (drop p s)) → X
    pack_fault r e = no_head f s p pack_next.it pack_next.here r e

    module _ (h : Head) (e : ok (pack_head_from h) ≡ pack_head (take (length s - p) (drop p s))) where
      stood : PackHere f (drop p s) h.key h.used h.width h.size (got pack_next.it (length (flat_pack pack_next.it)))
      stood = head_here f s p pack_next.it pack_next.here i.bytes h e

      pub pack_key : id_of_pack pack_next.it ≡ h.key
      pack_key = ap id_of_pack stood.it_is

      pub pack_room : (p + h.width + h.size ≤ length s) × (h.used ≤ h.size) × (0 < h.width) × (length s ≤ 8192)
      pack_room = (omega (arith, stood.room, length-drop p s, here), stood.body, stood.len, i.asked.0)

      pub pack_ends : p + h.width + h.size ≡ p + length (flat_pack pack_next.it)
      pack_ends = omega (arith, stood.used_is)

      abbrev pub pack_past : hit pack_next.it ≡ false → PackTurn f hit s (p + h.width + h.size)
      pack_past z = record {
        going = seek_more id_of_pack (one_pack f) flat_pack hit all_read i.going pack_next z pack_ends;
        bytes = i.bytes;
        asked = i.asked;
      }

-- the loop that ends at an id
module _ {f : Form} (id : ℕ) {s : List ℕ} {p : ℕ} (i : PackTurn f (has_id id) s p) where
  pub pack_done : length s ≤ p → no_spot p ≡ pack_spot f id s
  pack_done h = seek_done id_of_pack (one_pack f) flat_pack (has_id id) (all_read i) i.going (λ q. q.width) pack_lead h

  module _ (here : p < length s) (h : Head) (e : ok (pack_head_from h) ≡ pack_head (take (length s - p) (drop p s))) where
    pub pack_found : h.key ≡ id → spot p (p + h.width) (p + h.width + h.used) (p + h.width + h.size) ≡ pack_spot f id s
    pack_found t =
        let n = pack_next i here in
        let k = stood i here h e in
        let w : n.it.width ≡ h.width = ap (λ q. q.width) k.it_is in
        let oid : length (oid_bytes n.it.id) ≡ h.used = ap (λ n. length (oid_bytes n)) (pack_key i here h e) ∙ k.oid in
        let body : p + h.width ≡ p + n.it.width = omega (arith, w) in
        let from : p + h.width + h.used ≡ p + pack_lead n.it = omega (arith, w, oid) in
        seek_found id_of_pack (one_pack f) flat_pack (has_id id) (all_read i) i.going (λ q. q.width) pack_lead n (eq-eqb _ _ (pack_key i here h e ∙ t)) body from (pack_ends i here h e)

    pub pack_more : (h.key ≡ id → ⊥) → PackTurn f (has_id id) s (p + h.width + h.size)
    pack_more n = pack_past i here h e (ne_eqb _ _ (λ t. n (sym (pack_key i here h e) ∙ t)))

-- ---- what stands at an id's spot

pub id_absent : (f : Form) (id : ℕ) (s : List ℕ) {a : Spot} → a ≡ pack_spot f id s → a.next ≤ a.at → Missed (has_id id) (packs_of f s)
id_absent f id s e h = spot_absent (has_id id) flat_pack (λ q. q.width) pack_lead (packs_of f s) e pack_some h

-- the head of what a step read
pub headed : (f : Form) (seen u : List ℕ) → Bytes u → (r : Got Pack) → one_pack f seen u ≡ ok r
    → (h : Read.PackHead) × PackHere f u h.id h.used h.width h.size r × (pack_head u ≡ ok h)
unfolding one_pack
headed f seen u b r e = bind_then _ _ _ e λ h eh _. (h, pack_here f seen u b r e (Ok (heads.head h.id h.used h.width h.size)) (sym eh) refl, eh)

module _ {f : Form} {id : ℕ} {s : List ℕ} {a : Spot} (i : IdFound f id s a) where
  pub id_hit : Hit (has_id id) (packs_of f s)
  id_hit = spot_present (has_id id) flat_pack (λ q. q.width) pack_lead (packs_of f s) i.spot_is i.some

  there : Standing id_of_pack (one_pack f) flat_pack (has_id id) (λ q. q.width) pack_lead s id_hit a
  there = standing id_of_pack (one_pack f) flat_pack (has_id id) (λ q. q.width) pack_lead (packs_read f s i.bytes i.ran) id_hit i.spot_is

  pub id_at : a.at ≡ length (flat_all flat_pack id_hit.before)
  id_at = there.at_is

  abbrev head : Read.PackHead
  head = (headed f there.here.seen (drop a.at s) (bytes_drop a.at s i.bytes) _ there.here.read).0

  under : PackHere f (drop a.at s) head.id head.used head.width head.size (got id_hit.it (length (flat_pack id_hit.it)))
  under = (headed f there.here.seen (drop a.at s) (bytes_drop a.at s i.bytes) _ there.here.read).1

  id_is : head.id ≡ id
  id_is = sym (ap id_of_pack under.it_is) ∙ eqb-true _ _ id_hit.hits

  -- the pack, where its id and its items begin, and what its items are, as they are lent
  pub record PackIs : Type 0 where
    pub width : ℕ
    pub items : List Item
    pub it_is : id_hit.it ≡ record { width = width; id = id; items = items }
    pub body_at : a.body ≡ a.at + width
    pub from_at : a.from ≡ a.body + length (oid_bytes id)
    pub room : (a.from ≤ a.next) × (a.next ≤ length s)
    pub entries : Got (List Entry)
    pub entries_are : entries.val ≡ map plain items
    pub runs : level_run pack f (inside s a) ≡ ok entries

  pub id_pack : PackIs
  id_pack =
      let k = under in
      let it : id_hit.it ≡ record { width = head.width; id = id; items = k.items } = k.it_is ∙ ap (λ n. record { width = head.width; id = n; items = k.items }) id_is in
      let body : a.body ≡ a.at + head.width = omega (arith, there.body_is, ap (λ q. q.width) it) in
      let from : a.from ≡ a.body + length (oid_bytes id) = omega (arith, there.from_is, body, ap pack_lead it) in
      let used : length (oid_bytes id) ≡ head.used = ap (λ n. length (oid_bytes n)) (sym id_is) ∙ k.oid in
      let next : a.next ≡ a.from + (head.size - head.used) = omega (arith, there.next_is, from, body, used, k.used_is, k.body) in
      let lent : inside s a ≡ drop head.used (take head.size (drop head.width (drop a.at s)))
      = part_at s a.at (head.width + head.used) (head.size - head.used) (omega (arith, from, body, used)) next
      ∙ rw (drop_take head.used head.size (drop head.width (drop a.at s)), drop-drop head.used head.width (drop a.at s)) in
      record {
        width = head.width;
        items = k.items;
        it_is = it;
        body_at = body;
        from_at = from;
        room = (omega (arith, next), omega (arith, there.here.room, there.next_is));
        entries = k.entries;
        entries_are = k.entries_are;
        runs = ap (level_run pack f) lent ∙ k.runs;
      }
