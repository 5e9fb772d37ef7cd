-- Where the series, one of its packs and tag 6 stand among the entries of a set: what the code finds, and what the places say.
use mathlib.Core.Path.{◌≡◌, refl, sym, ap, ◌∙◌}
use mathlib.Core.Logic.{◌⊎◌, inl, inr}
use Prim.Native.Nat.{ℕ, ◌+◌, ◌-◌, ◌≤◌, ◌<◌}
use native.Mathlib.Omega.{arith}
use mathlib.Core.Bool.{true, false}
use mathlib.Core.List.{List, [], map}
use lib.ListN.{length}
use lib.Dec.{eqb}
use borrow.Author.Tests.{lt-ltb, le-ltb, eqb-true}
use Rattle.format.specs.Coding.{Bytes}
use Rattle.format.specs.Lists.{has, flat_all}
use Rattle.format.specs.Table.{Form, set}
use Rattle.format.specs.Packet.{Entry, id_of_pack, tag_of_entry, flat_pack, flat_entry}
use Rattle.format.specs.Run.{run, skip}
use Rattle.format.specs.Edit.{is_series}
use Rattle.format.specs.Targets.{packs_in}
use Rattle.format.proofs.Words.Keys.{all_map}
use Rattle.tally.specs.Runs.{Ran, series_run}
use Rattle.find.specs.declared.Spot.{Spot}
use Rattle.find.specs.declared.around.Packs.{Packs}
use Rattle.find.specs.declared.around.Series.{Series}
use Rattle.find.specs.Spots.{no_spot, inside, Missed, Hit, has_tag, has_id, entries_of, packs_of, entry_lead, pack_lead, entry_spot}
use Rattle.find.specs.Places.{SetOf, kept_of}
use Rattle.find.specs.Series.{tag_spot, id_spot, packs_spot, spot_within, series_in, InOrder}
use Rattle.find.proofs.Splices.{place, hit_spot, missed_spot, spot_present, spot_absent, spot_room, spot_lead, spot_from, has_hit, has_absent, narrowed, absent_too, grown_spot, spots_apart}
use Rattle.find.proofs.Seeks.{inside_long, inside_bytes}
use Rattle.find.proofs.Entries.{entry_some, entry_lead_lem, other_kind}
use Rattle.find.proofs.Packs.{pack_some, packs_flat}
use Rattle.find.proofs.Passes.{few_packs}
use Rattle.find.proofs.Sets.{Seal, rest_of, the_rest, set_long}
use Rattle.find.proofs.Finds.{packs_none, series_found, packs_asked, kept_packs}

-- ---- a spot in the set, within its entries

module _ (a : Spot) (stop : ℕ) where
  pub within_there : a.at < a.next → spot_within a stop ≡ a
  within_there h = rw (lt-ltb a.at a.next h, spot_within)

  pub within_none : a.next ≤ a.at → spot_within a stop ≡ no_spot stop
  within_none h = rw (le-ltb a.at a.next h, spot_within)

module _ (f : Form) (s : List ℕ) (b : Bytes s) (k : SetOf f s) where
  abbrev kept : List Entry
  kept = kept_of f s

  -- the checksum is no other item
  rest_missed : (tag : ℕ) → eqb 1 tag ≡ false → Missed (has_tag tag) (the_rest f s b k)
  rest_missed tag z = all_map Seal (λ e. has_tag tag e ≡ false) (λ e h. ap (λ n. eqb n tag) h.0 ∙ z) (the_rest f s b k) (rest_of f s k).seals

  pub kept_spot : (tag : ℕ) → eqb 1 tag ≡ false → (a : Spot) → a ≡ entry_spot set f tag s → {stop : ℕ} → stop ≡ length (flat_all flat_entry kept) → spot_within a stop ≡ tag_spot tag kept
  kept_spot tag z a ea {stop = stop} es = go (place (has_tag tag) (entries_of set f s))
    where
      go : Hit (has_tag tag) (entries_of set f s) ⊎ Missed (has_tag tag) (entries_of set f s) → spot_within a stop ≡ tag_spot tag kept
      go (inl h) =
          let y = ea ∙ hit_spot (has_tag tag) flat_entry entry_lead entry_lead h in
          within_there a stop (omega (arith, ap (λ x. x.at) y, ap (λ x. x.next) y, entry_some h.it))
          ∙ ea ∙ sym (narrowed (has_tag tag) kept (the_rest f s b k) (rest_of f s k).is (rest_missed tag z) flat_entry entry_lead entry_lead h).2
      go (inr m) =
          let y = ea ∙ missed_spot (has_tag tag) flat_entry entry_lead entry_lead (entries_of set f s) m in
          within_none a stop (omega (arith, ap (λ x. x.at) y, ap (λ x. x.next) y))
          ∙ ap no_spot es ∙ sym (missed_spot (has_tag tag) flat_entry entry_lead entry_lead kept (absent_too (has_tag tag) kept (the_rest f s b k) (rest_of f s k).is m))

-- ---- the packs of the series, as they are lent

none_inside : (s : List ℕ) (n : ℕ) → inside s (no_spot n) ≡ []
none_inside s n = let z : n - n ≡ 0 = omega arith in rw z

none_run : (f : Form) {u : List ℕ} → u ≡ [] → Ran (series_run f u) × (packs_of f u ≡ [])
unfolding series_run run skip
none_run f e = rw e (tt, refl)

-- the series stands at a, or is the entries' end
module _ (f : Form) (s : List ℕ) (b : Bytes s) (k : SetOf f s) {a : Spot} (ea : a ≡ tag_spot 101 (kept_of f s)) where
  pub series_room : (a.at ≤ a.from) × (a.from ≤ a.next) × (a.next ≤ length s)
  series_room =
      rw ea (
        spot_lead (has_tag 101) flat_entry entry_lead entry_lead (kept_of f s),
        spot_from (has_tag 101) flat_entry entry_lead entry_lead entry_lead_lem (kept_of f s),
        omega (arith, spot_room (has_tag 101) flat_entry entry_lead entry_lead (kept_of f s), set_long f s b k),
      )

  pub packs_lent : Ran (series_run f (inside s a)) × (packs_of f (inside s a) ≡ packs_in (kept_of f s))
  packs_lent = go (place (has_tag 101) (kept_of f s))
    where
      go : Hit (has_tag 101) (kept_of f s) ⊎ Missed (has_tag 101) (kept_of f s) → Ran (series_run f (inside s a)) × (packs_of f (inside s a) ≡ packs_in (kept_of f s))
      go (inl h) =
          let y = ea ∙ hit_spot (has_tag 101) flat_entry entry_lead entry_lead h in
          let z = ea ∙ sym (grown_spot (has_tag 101) (kept_of f s) (the_rest f s b k) (rest_of f s k).is flat_entry entry_lead entry_lead h) in
          let w = series_found b k (λ _. z) (λ e. absurd (omega (arith, e, ap (λ x. x.at) y, ap (λ x. x.next) y, entry_some h.it))) in
          ((packs_asked w).1, sym (kept_packs w))
      go (inr m) =
          let y = ea ∙ missed_spot (has_tag 101) flat_entry entry_lead entry_lead (kept_of f s) m in
          let (r, e) = none_run f (ap (inside s) y ∙ none_inside s (length (flat_all flat_entry (kept_of f s)))) in
          (r, e ∙ sym (packs_none (kept_of f s) (all_map (λ e. has_tag 101 e ≡ false) (λ e. is_series e ≡ false) other_kind (kept_of f s) m)))

  lent_long : length (inside s a) ≡ a.next - a.from
  lent_long = inside_long s a (series_room.1, series_room.2)

  pub lent_asked : (length (inside s a) ≤ 8192) × ((f : Form) × Ran (series_run f (inside s a)))
  lent_asked = (omega (arith, lent_long, series_room, k.short), (f, packs_lent.0))

  -- its bytes
  pub packs_long : length (flat_all flat_pack (packs_in (kept_of f s))) ≡ a.next - a.from
  packs_long = ap (λ ps. length (flat_all flat_pack ps)) (sym packs_lent.1) ∙ ap length (packs_flat f (inside s a) (inside_bytes s a b) packs_lent.0) ∙ lent_long

  pub pack_room : (id : ℕ) → ((id_spot id (packs_in (kept_of f s))).at ≤ (id_spot id (packs_in (kept_of f s))).next) × (a.from + (id_spot id (packs_in (kept_of f s))).next ≤ a.next)
  pack_room id =
      let (p, q) = spot_room (has_id id) flat_pack (λ x. x.width) pack_lead (packs_in (kept_of f s)) in
      (p, omega (arith, q, packs_long, series_room))

  -- what the walk over them says
  module _ (id : ℕ) {q : Packs} (eq : Ran (series_run f (inside s a)) → q ≡ packs_spot id (packs_of f (inside s a))) where
    pub walked : q ≡ packs_spot id (packs_in (kept_of f s))
    walked = eq packs_lent.0 ∙ ap (packs_spot id) packs_lent.1

    pub walked_room : (a.from + q.at ≤ 8192) × (a.from + q.next ≤ 8192)
    walked_room =
        let l : a.from + q.next ≤ 8192 = omega (arith, ap (λ x. x.next) walked, pack_room id, series_room, k.short) in
        (omega (arith, l, ap (λ x. x.at) walked, ap (λ x. x.next) walked, pack_room id), l)

-- the code's record
abbrev pub series_from : Spot → Packs → Spot → ℕ → Series
series_from a q c stop = record {
  at = a.at;
  packs = a.from;
  pack = a.from + q.at;
  last = a.from + q.next;
  tail = a.next;
  stop = stop;
  six = c.at;
  after = c.next;
  count = q.count;
}

pub all_places : (id : ℕ) (es : List Entry) {a c : Spot} {q : Packs} {stop : ℕ} → a ≡ tag_spot 101 es → q ≡ packs_spot id (packs_in es) → c ≡ tag_spot 6 es → stop ≡ length (flat_all flat_entry es)
    → series_from a q c stop ≡ series_in id es
all_places id es ea eq ec el = rw (ea, eq, ec, el)

-- ---- what the places say

module _ (id : ℕ) (es : List Entry) {r : Series} (e : r ≡ series_in id es) where
  pub pack_hit : r.pack < r.last → Hit (has_id id) (packs_in es)
  pack_hit h =
      spot_present (has_id id) flat_pack (λ x. x.width) pack_lead (packs_in es) {a = id_spot id (packs_in es)} refl (λ z. absurd (omega (arith, h, z, ap (λ x. x.pack) e, ap (λ x. x.last) e)))

  pub pack_missed : r.last ≤ r.pack → Missed (has_id id) (packs_in es)
  pack_missed h =
      spot_absent (has_id id) flat_pack (λ x. x.width) pack_lead (packs_in es) {a = id_spot id (packs_in es)} refl pack_some (omega (arith, h, ap (λ x. x.pack) e, ap (λ x. x.last) e))

  pub pack_there : r.pack < r.last → has id (map id_of_pack (packs_in es)) ≡ true
  pack_there h = has_hit id_of_pack id (pack_hit h)

  pub pack_not : r.last ≤ r.pack → has id (map id_of_pack (packs_in es)) ≡ false
  pack_not h = has_absent id_of_pack id (packs_in es) (pack_missed h)

module _ (f : Form) (s : List ℕ) (b : Bytes s) (k : SetOf f s) (id : ℕ) {r : Series} (e : r ≡ series_in id (kept_of f s)) where
  pub in_order : InOrder (length s) r
  in_order =
      let es = kept_of f s in
      let (u, v) = spot_room (has_tag 6) flat_entry entry_lead entry_lead es in
      let (x, y) = pack_room f s b k refl id in
      rw e (record {
        to_packs = (series_room f s b k refl).0;
        to_pack = omega arith;
        to_last = omega (arith, x);
        to_tail = y;
        to_stop = (spot_room (has_tag 101) flat_entry entry_lead entry_lead es).1;
        to_end = omega (arith, set_long f s b k);
        apart = spots_apart flat_entry entry_lead entry_lead (has_tag 6) (has_tag 101) (λ x z. ap (λ n. eqb n 101) (eqb-true (tag_of_entry x) 6 z)) entry_some 0 es;
        six = u;
        after = v;
      })

  pub count_few : r.count ≤ 8192
  count_few = omega (arith, ap (λ x. x.count) e, few_packs (packs_in (kept_of f s)), packs_long f s b k refl, series_room f s b k refl, k.short)
