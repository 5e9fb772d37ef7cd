-- What the code finds on its way to an item: the series in the set, the pack in its packs, the item in the pack.
use mathlib.Core.Path.{◌≡◌, refl, sym, ap, ◌∙◌, subst}
use Prim.Native.Nat.{ℕ, ◌+◌, ◌-◌, ◌≤◌, ◌<◌}
use native.Mathlib.Omega.{arith}
use mathlib.Core.Bool.{Bool, true, false}
use mathlib.Core.List.{List, [], ◌∷◌, ◌++◌}
use lib.ListN.{length}
use Rattle.std.specs.Prelude.{Option, Some}
use Rattle.format.specs.Coding.{Bytes}
use Rattle.format.specs.Lists.{flat_all}
use Rattle.format.specs.Table.{Form, set, pack}
use Rattle.format.specs.Packet.{Pack, Entry, plain, series, flat_entry}
use Rattle.format.specs.Edit.{target, is_series}
use Rattle.format.proofs.Words.Answers.{no_bool}
use Rattle.tally.specs.Runs.{Ran, level_run, series_run}
use Rattle.find.specs.declared.Spot.{Spot}
use Rattle.find.specs.declared.Place.{Place}
use Rattle.find.specs.Spots.{no_spot, Missed, Hit, things_of, inside, has_id, packs_of, entry_lead, entry_spot, pack_spot}
use Rattle.format.specs.Targets.{packs_in}
use Rattle.find.specs.Places.{holder_of, seal_size, SetOf, kept_of, place_in, SetPlaced, SeriesFound, PackFound, Sums, place_under, TargetPlaced, FoundIs}
use Rattle.find.proofs.Splices.{hit_spot, narrowed, absent_too}
use Rattle.find.proofs.Seeks.{ran_ok, inside_long, inside_bytes}
use Rattle.find.proofs.Entries.{items_flat, items_spot, tag_within, tag_hit, tag_at, tag_from, tag_room, tag_series, series_hit, no_series}
use Rattle.find.proofs.Packs.{packs_flat, id_absent, id_hit, id_at, id_pack}
use Rattle.find.proofs.Sets.{rest_of, the_rest, seal_room, set_stop, rest_plain}

-- ---- an item of the set

module _ (f : Form) (tag : ℕ) (s : List ℕ) {a : Spot} (ea : a ≡ entry_spot set f tag s) {stop : ℕ} (es : stop ≡ length (flat_all flat_entry (kept_of f s))) {p : Place} where
  pub set_there : a.at < a.next → p ≡ place_in a stop → SetPlaced f tag s p
  set_there h e = record { stop = stop; stop_is = es; there = λ _. e ∙ ap (λ x. place_in x stop) ea; added = λ g. absurd (omega (arith, h, g, ap (λ x. x.at) ea, ap (λ x. x.next) ea)) }

  pub set_added : a.next ≤ a.at → p ≡ place_in (no_spot stop) stop → SetPlaced f tag s p
  set_added h e = record { stop = stop; stop_is = es; there = λ g. absurd (omega (arith, h, g, ap (λ x. x.at) ea, ap (λ x. x.next) ea)); added = λ _. e }

-- ---- the packs of the series

pub packs_none : (es : List Entry) → Missed is_series es → packs_in es ≡ []
unfolding packs_in
packs_none [] m = refl
packs_none (plain i ∷ es) m = packs_none es m.1
packs_none (series w ps ∷ es) m = no_bool (sym m.0)

packs_past : (before later : List Entry) (w : ℕ) (ps : List Pack) → Missed is_series before → packs_in (before ++ series w ps ∷ later) ≡ ps
unfolding packs_in
packs_past [] later w ps m = refl
packs_past (plain i ∷ es) later w ps m = packs_past es later w ps m.1
packs_past (series v qs ∷ es) later w ps m = no_bool (sym m.0)

-- ---- an item of a target

-- e, here and below, is what the search ensures that gave a, c or d
module _ {f : Form} {s : List ℕ} (b : Bytes s) (k : SetOf f s) {a : Spot} (e : Ran (level_run set f s) → a ≡ entry_spot set f 101 s) where
  pub none_series : (id : ℕ) → a.next ≤ a.at → Missed (has_id id) (packs_in (kept_of f s))
  none_series id h =
      rw (packs_none (kept_of f s) (absent_too is_series (kept_of f s) (the_rest f s b k) (rest_of f s k).is (no_series f s (e k.ran) h))) tt

  pub series_found : (a.at ≡ a.next → ⊥) → SeriesFound f s a
  series_found n = record { checked = k; found = record { bytes = b; ran = k.ran; spot_is = e k.ran; some = n } }

module _ {f : Form} {s : List ℕ} {a : Spot} (w : SeriesFound f s a) where
  pub stop_asked : seal_size f ≤ length s
  stop_asked = seal_room f s w.found.bytes w.checked

  packs_long : length (inside s a) ≡ a.next - a.from
  packs_long = inside_long s a (tag_room w.found)

  pub packs_asked : (length (inside s a) ≤ 8192) × Ran (series_run f (inside s a))
  packs_asked = (omega (arith, packs_long, tag_room w.found, w.checked.short), ran_ok (series_run f (inside s a)) (tag_series w.found refl).3)

  kept_hit : (q : Hit is_series (kept_of f s)) × (q.it ≡ (tag_hit w.found).it) × (a.at ≡ length (flat_all flat_entry q.before))
  kept_hit =
      let i = w.found in
      let b = i.bytes in
      let k = w.checked in
      let (q, e, z) = narrowed is_series (kept_of f s) (the_rest f s b k) (rest_of f s k).is (rest_plain f s b k) flat_entry entry_lead entry_lead (series_hit i) in
      (q, e, tag_at i ∙ ap (λ x. x.at) (sym (hit_spot is_series flat_entry entry_lead entry_lead (series_hit i)) ∙ sym z ∙ hit_spot is_series flat_entry entry_lead entry_lead q))

  kept_series : kept_hit.0.it ≡ series (tag_series w.found refl).0 (packs_of f (inside s a))
  kept_series = let (n, ps, e, r) = tag_series w.found refl in kept_hit.1 ∙ e ∙ ap (series n) (sym (ap things_of r))

  pub kept_packs : packs_in (kept_of f s) ≡ packs_of f (inside s a)
  kept_packs = let q = kept_hit.0 in ap packs_in (q.list_is ∙ ap (λ y. q.before ++ y ∷ q.later) kept_series) ∙ packs_past q.before q.later _ _ q.missed

  module _ (id : ℕ) {c : Spot} (e : Ran (series_run f (inside s a)) → c ≡ pack_spot f id (inside s a)) where
    pub none_pack : c.next ≤ c.at → Missed (has_id id) (packs_in (kept_of f s))
    none_pack h = subst (Missed (has_id id)) (sym kept_packs) (id_absent f id (inside s a) (e packs_asked.1) h)

    pub pack_found : (c.at ≡ c.next → ⊥) → PackFound f id s a c
    pack_found n = let r = packs_asked.1 in record { within = w; found = record { bytes = inside_bytes s a w.found.bytes; ran = r; spot_is = e r; some = n } }

module _ {f : Form} {id : ℕ} {s : List ℕ} {a c : Spot} (w : PackFound f id s a c) where
  items_long : length (inside (inside s a) c) ≡ c.next - c.from
  items_long = inside_long (inside s a) c (id_pack w.found).room

  items_bytes : Bytes (inside (inside s a) c)
  items_bytes = inside_bytes (inside s a) c w.found.bytes

  pub items_asked : (length (inside (inside s a) c) ≤ 8192) × Ran (level_run pack f (inside (inside s a) c))
  items_asked = let j = id_pack w.found in (omega (arith, items_long, j.room, (packs_asked w.within).0), ran_ok (level_run pack f (inside (inside s a) c)) j.runs)

  -- the item stands at d in the pack
  module _ (tag : ℕ) {d : Spot} (e : Ran (level_run pack f (inside (inside s a) c)) → d ≡ entry_spot pack f tag (inside (inside s a) c)) where
    pub sums : Sums a c d
    sums =
        let i = w.within in
        let j = id_pack w.found in
        let (p, q, r) = tag_within pack f tag (inside (inside s a) c) (e items_asked.1) items_bytes items_asked.1 in
        let l : a.from + c.next ≤ 8192 = omega (arith, j.room, packs_long i, tag_room i.found, i.checked.short) in
        let m : a.from + c.from ≤ 8192 = omega (arith, l, j.room) in
        let n : a.from + c.from + d.next ≤ 8192 = omega (arith, l, r, items_long, j.room) in
        record {
          pack = omega (arith, m, j.body_at, j.from_at);
          body = omega (arith, m, j.from_at);
          items = m;
          at = omega (arith, n, p);
          from = omega (arith, n, q);
          next = n;
          last = l;
        }

    pub in_place : {stop : ℕ} → stop ≡ length s - seal_size f → {p : Place} → p ≡ place_under a c d stop → TargetPlaced f id tag s p
    in_place es ep =
        let i = w.within.found in
        let j = w.found in
        let q = id_pack j in
        let u : List ℕ = inside (inside s a) c in
        let sp = e items_asked.1 ∙ items_spot f u q.items q.runs q.entries_are tag in
        rw ep
        (record {
          hit = (kept_hit w.within).0;
          width = (tag_series i refl).0;
          ps = packs_of f (inside s a);
          it_is = kept_series w.within;
          pack_hit = id_hit j;
          pack_width = q.width;
          items = q.items;
          pack_is = q.it_is;
          series_at = (kept_hit w.within).2;
          packs_at = omega (arith, tag_from i, ap entry_lead (tag_series i refl).2);
          pack_at = omega (arith, id_at j);
          body_at = omega (arith, q.body_at);
          item_at = omega (arith, q.from_at, ap (λ x. x.at) sp);
          value_at = omega (arith, q.from_at, ap (λ x. x.from) sp);
          next_at = omega (arith, q.from_at, ap (λ x. x.next) sp);
          last_at = omega (arith, q.from_at, q.room, items_long, ap length (items_flat f u q.items q.runs q.entries_are items_bytes));
          tail_at = omega (arith, packs_long w.within, tag_room i, ap length (packs_flat f (inside s a) j.bytes j.ran));
          stop_at = set_stop f s i.bytes w.within.checked es;
        })

-- ---- by what holds the item

pub of_set : (f : Form) {b : Bool} (id tag : ℕ) (s : List ℕ) (p : Place) → b ≡ true → SetPlaced f tag s p → FoundIs f (holder_of b id) tag s (Some p)
of_set f id tag s p e h = rw e h

pub of_target : (f : Form) {b : Bool} (id tag : ℕ) (s : List ℕ) (x : Option Place) → b ≡ false → FoundIs f (target id) tag s x → FoundIs f (holder_of b id) tag s x
of_target f id tag s x e h = rw e h
