-- An edit of a target at its cuts: the series, the pack and the items, each within the other.
use mathlib.Core.Path.{◌≡◌, refl, ap, ◌∙◌}
use Prim.Native.Nat.{ℕ, ◌+◌, ◌-◌}
use native.Mathlib.Omega.{arith}
use mathlib.Core.Bool.{Bool}
use mathlib.Core.List.{List, [], ◌∷◌, ◌++◌, append_assoc, map}
use lib.ListN.{length, length-append}
use lib.Dec.{eqb}
use Rattle.format.specs.Answer.{ok, refused}
use Rattle.format.specs.Coding.{Bytes, len_width, len_bytes, oid_bytes}
use Rattle.format.specs.Lists.{flat_all, on_hit, ask_hit}
use Rattle.format.specs.Table.{Form, Level, set, pack}
use Rattle.format.specs.Packet.{Item, Pack, Entry, plain, series, tag_of_item, pack_body, flat_item, flat_pack, flat_entry}
use Rattle.format.specs.Sheet.{tag_of_val, val_of, target_of, part_of}
use Rattle.format.specs.Calls.{pack_with, series_with}
use Rattle.format.specs.Edit.{Changes, target, is_targets, target_tags, tags_at, in_pack, is_series, in_entry, edit_entries}
use Rattle.format.proofs.Words.Flats.{flat_append}
use Rattle.format.proofs.Words.Changes.{map_ask}
use Rattle.format.proofs.Words.Together.{map_keys}
use Rattle.format.proofs.Coding.Lengths.{length_len}
use Rattle.format.proofs.Sheets.Content.{val_tag, target_id}
use Rattle.format.proofs.Edits.Places.{part_series}
use Rattle.format.proofs.Edits.Results.{changed_items}
use Rattle.store_coded.specs.Fronts.{series_front}
use Rattle.find.specs.Spots.{Missed, Hit, has_id}
use Rattle.format.specs.Targets.{packs_in}
use Rattle.find.specs.Places.{SetOf, kept_of, TargetPlaced}
use Rattle.find.proofs.Splices.{on_hit_lem, ask_hit_lem, ask_absent}
use Rattle.find.proofs.Sets.{the_rest, set_bytes}
use Rattle.find.proofs.Placing as Placing
use Rattle.edit_rules.specs.declared.Cuts.{Cuts}
use Rattle.edit_rules.specs.Meet.{edited_of}
use Rattle.edit_rules.specs.Cuts.{body_size, packs_size, to_pack, head_of, with_two, Spans}
use Rattle.edit_rules.proofs.Levels.{piece, Swapped}

no_pack : {A : Type 0} → ◌≡◌ {A = Level} pack set → A
no_pack e = absurd (let z : ◌≡◌ {A = ℕ} 0 1 = cc in omega arith)

-- ---- the bytes of what is changed in its place

on_flat : {X : Type 0} (hit : X → Bool) (flat : X → List ℕ) (f : X → X) {xs : List X} (a : Hit hit xs)
    → flat_all flat (on_hit hit f xs) ≡ flat_all flat a.before ++ (flat (f a.it) ++ flat_all flat a.later)
unfolding flat_all
on_flat hit flat f a = ap (flat_all flat) (on_hit_lem hit a f) ∙ flat_append flat a.before (f a.it ∷ a.later)

abbrev len_of : ℕ → List ℕ
len_of n = len_bytes (len_width n) n

now_series : (id : ℕ) (cs : Changes) (w : ℕ) (ps : List Pack)
    → flat_entry (in_entry id cs (series w ps)) ≡ oid_bytes 101 ++ (len_of (length (flat_all flat_pack (on_hit (has_id id) (in_pack cs) ps))) ++ flat_all flat_pack (on_hit (has_id id) (in_pack cs) ps))
unfolding flat_entry in_entry series_with
now_series id cs w ps = refl

abbrev pub items_now : Changes → List Item → List ℕ
items_now cs is = flat_all flat_item (changed_items cs is)

now_pack : (cs : Changes) (w id : ℕ) (is : List Item)
    → flat_pack (in_pack cs (record { width = w; id = id; items = is })) ≡ len_of (length (oid_bytes id ++ items_now cs is)) ++ (oid_bytes id ++ items_now cs is)
unfolding flat_pack pack_body in_pack pack_with
now_pack cs w id is = refl

-- ---- lists within lists, one after another

was_flat : (B O l P K I F G M H R Q L T : List ℕ)
    → (B ++ ((O ++ (l ++ (P ++ ((K ++ (I ++ (F ++ (G ++ (M ++ (H ++ R)))))) ++ Q)))) ++ L)) ++ T ≡ B ++ ((O ++ l) ++ (P ++ (K ++ ((I ++ F) ++ (G ++ (M ++ (H ++ ((R ++ (Q ++ L)) ++ T))))))))
was_flat B O l P K I F G M H R Q L T = simp append_assoc

now_flat : (B O l P K I F G M H R Q L : List ℕ)
    → B ++ ((O ++ (l ++ (P ++ ((K ++ (I ++ (F ++ (G ++ (M ++ (H ++ R)))))) ++ Q)))) ++ L) ≡ ((B ++ ((O ++ l) ++ P)) ++ K) ++ ((I ++ F) ++ (G ++ (M ++ (H ++ (R ++ (Q ++ L))))))
now_flat B O l P K I F G M H R Q L = simp append_assoc

module _ (f : Form) (s : List ℕ) (b : Bytes s) (k : SetOf f s) {id tag : ℕ} (q : Cuts) (t : TargetPlaced f id tag s q.place) where
  abbrev before : List ℕ
  before = flat_all flat_entry t.hit.before

  abbrev later : List ℕ
  later = flat_all flat_entry t.hit.later

  abbrev packs_before : List ℕ
  packs_before = flat_all flat_pack t.pack_hit.before

  abbrev packs_later : List ℕ
  packs_later = flat_all flat_pack t.pack_hit.later

  abbrev items_bytes : List ℕ
  items_bytes = flat_all flat_item t.items

  abbrev series_len : List ℕ
  series_len = len_bytes t.width (length (flat_all flat_pack t.ps))

  abbrev pack_len : List ℕ
  pack_len = len_bytes t.pack_width (length (oid_bytes id ++ items_bytes))

  packs_long : length (flat_all flat_pack t.ps) ≡ length packs_before + (t.pack_width + (length (oid_bytes id) + length items_bytes) + length packs_later)
  packs_long = Placing.packs_long f s b k t

  entries_long : length (flat_all flat_entry (kept_of f s)) ≡ length before + (length (oid_bytes 101) + (t.width + length (flat_all flat_pack t.ps)) + length later)
  entries_long = Placing.entries_long f s b k t

  -- ---- the tags

  pub target_tags_lem : tags_at (target id) (map part_of (kept_of f s)) ≡ ok (map tag_of_item t.items)
  unfolding tags_at target_tags part_of target_of
  target_tags_lem =
      map_ask part_of is_series is_targets part_series (target_tags id) (kept_of f s)
      ∙ ask_hit_lem is_series t.hit (λ e. target_tags id (part_of e))
      ∙ ap (λ e. target_tags id (part_of e)) t.it_is
      ∙ map_ask target_of (has_id id) (λ g. eqb g.id id) (λ q. ap (λ n. eqb n id) (target_id q)) (λ g. ok (map tag_of_val g.vals)) t.ps
      ∙ ask_hit_lem (has_id id) t.pack_hit (λ q. ok (map tag_of_val (target_of q).vals))
      ∙ ap (λ q. ok (map tag_of_val (target_of q).vals)) t.pack_is
      ∙ ap ok (map_keys (val_of pack) tag_of_item tag_of_val (val_tag pack) t.items)

  -- ---- the edited entries

  -- i and j are put in the items at the cuts
  module _ (cs : Changes) {a n m e : ℕ} (i j : List ℕ) (x : Swapped items_bytes (items_now cs t.items) a n i m e j)
      (low_at : q.lo.at ≡ q.place.body + (length (oid_bytes id) + a)) (low_next : q.lo.next ≡ q.place.body + (length (oid_bytes id) + n))
      (high_at : q.hi.at ≡ q.place.body + (length (oid_bytes id) + m)) (high_next : q.hi.next ≡ q.place.body + (length (oid_bytes id) + e))
    where
      items_long : length items_bytes ≡ length x.front + (length x.gone + (length x.mid + (length x.gone' + length x.back)))
      items_long = ap length x.was ∙ simp length-append

      abbrev body_now : List ℕ
      body_now = oid_bytes id ++ (x.front ++ (i ++ (x.mid ++ (j ++ x.back))))

      abbrev size : ℕ
      size = body_size q (length i) (length j)

      body_long : length body_now ≡ size
      body_long = simp length-append (omega (arith, t.last_at, items_long, low_at, low_next, high_at, high_next, x.low_at, x.low_next, x.high_at, x.high_next))

      abbrev packs_now : List ℕ
      packs_now = packs_before ++ ((len_of size ++ body_now) ++ packs_later)

      packs_now_is : flat_all flat_pack (on_hit (has_id id) (in_pack cs) t.ps) ≡ packs_now
      packs_now_is =
          on_flat (has_id id) flat_pack (in_pack cs) t.pack_hit
          ∙ ap (λ r. packs_before ++ (flat_pack (in_pack cs r) ++ packs_later)) t.pack_is
          ∙ ap (λ r. packs_before ++ (r ++ packs_later)) (now_pack cs t.pack_width id t.items)
          ∙ ap (λ r. packs_before ++ ((len_of (length (oid_bytes id ++ r)) ++ (oid_bytes id ++ r)) ++ packs_later)) x.is
          ∙ ap (λ r. packs_before ++ ((len_of r ++ body_now) ++ packs_later)) body_long

      packs_sized : length packs_now ≡ packs_size q.place size
      packs_sized =
          let e : length packs_now ≡ length packs_before + (len_width size + length body_now + length packs_later) = simp (length-append, length_len) in
          let z : length packs_later ≡ q.place.tail - q.place.last = omega (arith, t.tail_at, t.last_at, t.body_at, t.pack_at, packs_long) in
          let y : length packs_before ≡ q.place.pack - q.place.packs = omega (arith, t.pack_at) in
          e ∙ rw (body_long, z, y) (omega arith)

      entries_now : edited_of f (target id) cs s ≡ before ++ ((oid_bytes 101 ++ (len_of (packs_size q.place size) ++ packs_now)) ++ later)
      unfolding edit_entries
      entries_now =
          on_flat is_series flat_entry (in_entry id cs) t.hit
          ∙ ap (λ r. before ++ (flat_entry (in_entry id cs r) ++ later)) t.it_is
          ∙ ap (λ r. before ++ (r ++ later)) (now_series id cs t.width t.ps)
          ∙ ap (λ r. before ++ ((oid_bytes 101 ++ (len_of (length r) ++ r)) ++ later)) packs_now_is
          ∙ ap (λ r. before ++ ((oid_bytes 101 ++ (len_of r ++ packs_now)) ++ later)) packs_sized

      -- what follows the cuts
      abbrev after : List ℕ
      after = x.back ++ (packs_later ++ later)

      abbrev rest : List ℕ
      rest = flat_all flat_entry (the_rest f s b k)

      set_was : s ≡ before ++ ((oid_bytes 101 ++ series_len) ++ (packs_before ++ (pack_len ++ ((oid_bytes id ++ x.front) ++ (x.gone ++ (x.mid ++ (x.gone' ++ (after ++ rest))))))))
      set_was =
          set_bytes f s b k
          ∙ ap (λ r. r ++ rest) (
          Placing.entries_were f s b k t
          ∙ ap (λ r. before ++ ((oid_bytes 101 ++ (series_len ++ r)) ++ later)) (Placing.packs_were f s b k t ∙ ap (λ r. packs_before ++ ((pack_len ++ (oid_bytes id ++ r)) ++ packs_later)) x.was)
          )
          ∙ was_flat before (oid_bytes 101) series_len packs_before pack_len (oid_bytes id) x.front x.gone x.mid x.gone' x.back packs_later later rest

      after_long : q.place.stop ≡ q.hi.next + length after
      after_long =
          simp length-append (omega (arith, t.body_at, t.pack_at, t.packs_at, t.series_at, t.stop_at, entries_long, packs_long, items_long, high_next, x.low_at, x.low_next, x.high_at, x.high_next))

      pub target_edits : edited_of f (target id) cs s ≡ with_two pack s q i j
      unfolding with_two head_of to_pack series_front
      target_edits =
          let p = q.place in
          let (p₁, d₁) = piece s 0 p.series before _ set_was (omega (arith, t.series_at)) in
          let (_, d₂) = piece s p.series p.packs (oid_bytes 101 ++ series_len) _ d₁ (simp (length-append, length_len) t.packs_at) in
          let (p₃, d₃) = piece s p.packs p.pack packs_before _ d₂ t.pack_at in
          let (_, d₄) = piece s p.pack p.body pack_len _ d₃ (simp length_len t.body_at) in
          let (p₅, d₅) = piece s p.body q.lo.at (oid_bytes id ++ x.front) _ d₄ (simp length-append (omega (arith, low_at, x.low_at))) in
          let (_, d₆) = piece s q.lo.at q.lo.next x.gone _ d₅ (omega (arith, low_at, low_next, x.low_next)) in
          let (p₇, d₇) = piece s q.lo.next q.hi.at x.mid _ d₆ (omega (arith, low_next, high_at, x.high_at)) in
          let (_, d₈) = piece s q.hi.at q.hi.next x.gone' _ d₇ (omega (arith, high_at, high_next, x.high_next)) in
          let (p₉, _) = piece s q.hi.next p.stop after _ d₈ after_long in
          entries_now
          ∙ now_flat before (oid_bytes 101) (len_of (packs_size p size)) packs_before (len_of size) (oid_bytes id) x.front i x.mid j x.back packs_later later
          ∙ rw (p₁, p₃, p₅, p₇, p₉)

      pub target_spans : Spans pack (length s) q
      target_spans = record {
        ordered = Placing.target_ordered f s b k t;
        to_low = omega (arith, low_at);
        low = omega (arith, low_at, low_next, x.low_next);
        to_high = omega (arith, low_next, high_at, x.high_at);
        high = omega (arith, high_at, high_next, x.high_next);
        to_last = omega (arith, high_next, t.last_at, items_long, x.low_at, x.low_next, x.high_at, x.high_next);
        whole = λ e. no_pack e;
      }

-- ---- there is no such target

pub none_tags : (id : ℕ) (es : List Entry) → Missed (has_id id) (packs_in es) → tags_at (target id) (map part_of es) ≡ refused 18 0
unfolding tags_at packs_in ask_hit part_of target_tags
none_tags id [] m = refl
none_tags id (plain i ∷ es) m = none_tags id es m
none_tags id (series w ps ∷ es) m =
    map_ask target_of (has_id id) (λ g. eqb g.id id) (λ q. ap (λ n. eqb n id) (target_id q)) (λ g. ok (map tag_of_val g.vals)) ps
    ∙ ask_absent (has_id id) ps m (λ q. ok (map tag_of_val (target_of q).vals))
