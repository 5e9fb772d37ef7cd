-- A place, read as the value that the item's row names: in the set, and in a target.
use mathlib.Core.Path.{◌≡◌, refl, sym, ap, ◌∙◌, subst}
use Prim.Native.Nat.{ℕ, ◌+◌, ◌-◌, ◌≤◌, ◌<◌}
use native.Mathlib.Omega.{arith}
use mathlib.Core.Bool.{Bool, true, false, not}
use mathlib.Core.List.{List, [], ◌∷◌, ◌++◌}
use lib.ListN.{length}
use lib.Dec.{ltb, eqb}
use borrow.Author.Tests.{eq-eqb, lt-ltb, le-ltb, ltb-true, ltb-false, not-true}
use Rattle.format.specs.Answer.{Ans, ok, refused, Got, ◌>>=◌}
use Rattle.format.specs.Coding.{Bytes, oid_bytes, digits}
use Rattle.format.specs.Lists.{flat_all, ask_hit}
use Rattle.format.specs.Table.{Form, set}
use Rattle.format.specs.Packet.{Item, Pack, Entry, plain, series, flat_item, flat_pack, flat_entry}
use Rattle.format.specs.Read.{entry}
use Rattle.format.specs.Rows.{row, item_row, item_rows, pack_rows, entry_rows}
use Rattle.format.specs.Edit.{Holder, the_set, target, is_series}
use Rattle.format.specs.Show.{series_number, number_of, showable}
use Rattle.format.proofs.Words.Answers.{and_both}
use Rattle.format.proofs.Words.Keys.{flip}
use Rattle.format.proofs.Coding.Oids.{oid_some}
use Rattle.format.proofs.Reading.Items.{length_item}
use Rattle.format.proofs.Reading.Packets.{set_says, set_once}
use Rattle.format.proofs.Rows.Find.{OneSeries, one_series}
use Rattle.items.proofs.Tests.{bind_not}
use Rattle.tally.specs.Meet.{step_at, deepen_at}
use Rattle.tally.specs.Runs.{Ran, level_run}
use Rattle.find.specs.declared.Place.{Place}
use Rattle.find.specs.Spots.{spot_in, Missed, things_of, has_item, has_tag, has_id, entries_of, item_lead, entry_lead, item_spot, entry_spot}
use Rattle.format.specs.Targets.{packs_in}
use Rattle.find.specs.Places.{SetOf, kept_of, SetPlaced, TargetPlaced, Placed, Unheld}
use Rattle.find.proofs.Splices.{ask_hit_lem, grown}
use Rattle.find.proofs.Sets.{rest_of, the_rest}
use Rattle.std.specs.Prelude.{Option, Some, None}
use Rattle.show.specs.declared.Value.{Value}
use Rattle.show.specs.Meet.{value_of}
use Rattle.show.proofs.Passing.{row_for, row_in, pack_row_in, other, behind, none_packs, number_none, pack_row, target_row}

-- what the code reads off a place, or off a spot, of bytes that begin at the offset `base`
abbrev pub read_if : Bool → ℕ → ℕ → Option Value
read_if true o n = Some (record { offset = o; size = n })
read_if false o n = None

abbrev pub read_off : ℕ → ℕ → ℕ → ℕ → Option Value
read_off base at from next = read_if (ltb at next) (base + from) (next - from)

-- from bytes within others, k further
read_shift : (base k at from next : ℕ) {b p q r : ℕ} → b ≡ base + k → p ≡ k + at → q ≡ k + from → r ≡ k + next → read_off b at from next ≡ read_off base p q r
read_shift base k at from next {b = b} {p = p} {q = q} {r = r} eb ep eq er = go (ltb at next) refl
  where
    go : (x : Bool) → ltb at next ≡ x → read_off b at from next ≡ read_off base p q r
    go true z =
        let y : ltb p r ≡ true = lt-ltb p r (omega (arith, ltb-true at next z, ep, er)) in
        let o : b + from ≡ base + q = omega (arith, eb, eq) in
        let n : next - from ≡ r - q = omega (arith, eq, er) in
        rw (z, y) (λ i. Some (record { offset = o i; size = n i }))
    go false z = let y : ltb p r ≡ false = le-ltb p r (omega (arith, ltb-false at next z, ep, er)) in rw (z, y)

-- ---- an item's row

row_value : (n base k : ℕ) (i : Item) → value_of (ok (item_row n (base + k) i)) ≡ read_off base k (k + item_lead i) (k + length (flat_item i))
unfolding item_row
row_value n base k i =
    let l = length_item i in
    let y : ltb k (k + length (flat_item i)) ≡ true = lt-ltb k _ (omega (arith, l, oid_some i.tag)) in
    let o : base + k + length (oid_bytes i.tag) + i.width ≡ base + (k + item_lead i) = omega arith in
    let m : length i.value ≡ k + length (flat_item i) - (k + item_lead i) = omega (arith, l) in
    rw y (λ j. Some (record { offset = o j; size = m j }))

none_value : (base k : ℕ) → None ≡ read_off base k k k
none_value base k = let y : ltb k k ≡ false = le-ltb k k (omega arith) in rw y

-- among the items of target number n
items_value : (n tag base k : ℕ) (is : List Item)
    → value_of (row_for n tag (item_rows n (base + k) is))
    ≡ read_off base (spot_in (has_item tag) flat_item item_lead item_lead k is).at (spot_in (has_item tag) flat_item item_lead item_lead k is).from (spot_in (has_item tag) flat_item item_lead item_lead k is).next
unfolding item_rows item_row ask_hit spot_in
items_value n tag base k [] = none_value base k
items_value n tag base k (i ∷ is) = go (items_value n tag base (k + length (flat_item i)) is) (eqb i.tag tag) refl
  where
    go : value_of (row_for n tag (item_rows n (base + (k + length (flat_item i))) is))
        ≡ read_off base (spot_in (has_item tag) flat_item item_lead item_lead (k + length (flat_item i)) is).at (spot_in (has_item tag) flat_item item_lead item_lead (k + length (flat_item i)) is).from
        (spot_in (has_item tag) flat_item item_lead item_lead (k + length (flat_item i)) is).next
        → (b : Bool) → eqb i.tag tag ≡ b → value_of (row_for n tag (item_rows n (base + k) (i ∷ is)))
        ≡ read_off base (spot_in (has_item tag) flat_item item_lead item_lead k (i ∷ is)).at (spot_in (has_item tag) flat_item item_lead item_lead k (i ∷ is)).from
        (spot_in (has_item tag) flat_item item_lead item_lead k (i ∷ is)).next
    go ih true z = rw (eq-eqb n n refl, z, ask_hit, spot_in) (row_value n base k i)
    go ih false z =
        let e : base + k + length (flat_item i) ≡ base + (k + length (flat_item i)) = omega arith in
        rw (eq-eqb n n refl, z, ask_hit, spot_in) (ap (λ m. value_of (row_for n tag (item_rows n m is))) e ∙ ih)

-- past a series, which does not have the tag
series_past : (tag at w : ℕ) (ps : List Pack) (es : List Entry) → eqb 101 tag ≡ false
    → row_for 0 tag (entry_rows at (series w ps ∷ es)) ≡ row_for 0 tag (entry_rows (at + length (flat_entry (series w ps))) es)
unfolding entry_rows
series_past tag at w ps es h =
    other 0 tag (row 0 101 (at + 1 + w) (length (flat_all flat_pack ps))) (pack_rows 1 (at + 1 + w) ps ++ entry_rows (at + length (flat_entry (series w ps))) es) h
    ∙ behind 0 tag (pack_rows 1 (at + 1 + w) ps) (entry_rows (at + length (flat_entry (series w ps))) es) (none_packs 0 tag 1 (at + 1 + w) ps (omega arith))

spot_series : (tag k w : ℕ) (ps : List Pack) (es : List Entry) → eqb 101 tag ≡ false
    → spot_in (has_tag tag) flat_entry entry_lead entry_lead k (series w ps ∷ es) ≡ spot_in (has_tag tag) flat_entry entry_lead entry_lead (k + length (flat_entry (series w ps))) es
unfolding spot_in
spot_series tag k w ps es h = rw (h, spot_in)

-- among a set's entries, of which no series has the tag
entries_value : (tag base k : ℕ) → eqb 101 tag ≡ false → (es : List Entry)
    → value_of (row_for 0 tag (entry_rows (base + k) es))
    ≡ read_off base (spot_in (has_tag tag) flat_entry entry_lead entry_lead k es).at (spot_in (has_tag tag) flat_entry entry_lead entry_lead k es).from (spot_in (has_tag tag) flat_entry entry_lead entry_lead k es).next
unfolding entry_rows item_row ask_hit spot_in flat_entry
entries_value tag base k h [] = none_value base k
entries_value tag base k h (plain i ∷ es) = go (entries_value tag base (k + length (flat_item i)) h es) (eqb i.tag tag) refl
  where
    go : value_of (row_for 0 tag (entry_rows (base + (k + length (flat_item i))) es))
        ≡ read_off base (spot_in (has_tag tag) flat_entry entry_lead entry_lead (k + length (flat_item i)) es).at (spot_in (has_tag tag) flat_entry entry_lead entry_lead (k + length (flat_item i)) es).from
        (spot_in (has_tag tag) flat_entry entry_lead entry_lead (k + length (flat_item i)) es).next
        → (b : Bool) → eqb i.tag tag ≡ b → value_of (row_for 0 tag (entry_rows (base + k) (plain i ∷ es)))
        ≡ read_off base (spot_in (has_tag tag) flat_entry entry_lead entry_lead k (plain i ∷ es)).at (spot_in (has_tag tag) flat_entry entry_lead entry_lead k (plain i ∷ es)).from
        (spot_in (has_tag tag) flat_entry entry_lead entry_lead k (plain i ∷ es)).next
    go ih true z = rw (z, ask_hit, spot_in) (row_value 0 base k i)
    go ih false z =
        let e : base + k + length (flat_item i) ≡ base + (k + length (flat_item i)) = omega arith in
        rw (z, ask_hit, spot_in) (ap (λ m. value_of (row_for 0 tag (entry_rows m es))) e ∙ ih)
entries_value tag base k h (series w ps ∷ es) =
    let n : ℕ = length (flat_entry (series w ps)) in
    let e : base + k + n ≡ base + (k + n) = omega arith in
    ap value_of (series_past tag (base + k) w ps es h ∙ ap (λ m. row_for 0 tag (entry_rows m es)) e)
    ∙ entries_value tag base (k + n) h es
    ∙ ap (λ a. read_off base a.at a.from a.next) (sym (spot_series tag k w ps es h))

-- ---- in the set

one_of : (f : Form) (s : List ℕ) → Bytes s → (m : Ans (Got (List Entry))) → level_run set f s ≡ m → Ran m → OneSeries (things_of m)
unfolding level_run step_at deepen_at
one_of f s b (ok es) e h = one_series es.val (set_once f es.val (set_says f s es b (unfold entry in e)).1)
one_of f s b (refused n p) e h = absurd h

pub showable_some : (h : Holder) (tag : ℕ) → showable h tag ≡ true → 0 < tag
unfolding showable
showable_some h tag e = ltb-true 0 tag (and_both (ltb 0 tag) _ e).0

set_showable : (tag : ℕ) → showable the_set tag ≡ true → eqb tag 101 ≡ false
unfolding showable
set_showable tag e = not-true _ (and_both (ltb 0 tag) (not (eqb tag 101)) e).1

set_value : (f : Form) (s : List ℕ) (tag at : ℕ) → showable the_set tag ≡ true → (p : Place) → SetPlaced f tag s p
    → value_of (row_in the_set tag at (kept_of f s) (entries_of set f s)) ≡ read_off at p.at p.from p.next
unfolding number_of ◌>>=◌
set_value f s tag at n p t = base ∙ go (ltb (entry_spot set f tag s).at (entry_spot set f tag s).next) refl
  where
    base : value_of (row_for 0 tag (entry_rows at (entries_of set f s))) ≡ read_off at (entry_spot set f tag s).at (entry_spot set f tag s).from (entry_spot set f tag s).next
    base =
        let e : at ≡ at + 0 = omega arith in
        ap (λ m. value_of (row_for 0 tag (entry_rows m (entries_of set f s)))) e ∙ entries_value tag at 0 (flip tag 101 (set_showable tag n)) (entries_of set f s)

    go : (x : Bool) → ltb (entry_spot set f tag s).at (entry_spot set f tag s).next ≡ x
        → read_off at (entry_spot set f tag s).at (entry_spot set f tag s).from (entry_spot set f tag s).next ≡ read_off at p.at p.from p.next
    go true z = sym (ap (λ q. read_off at q.at q.from q.next) (t.there (ltb-true _ _ z)))
    go false z =
        ap (λ x. read_if x (at + (entry_spot set f tag s).from) ((entry_spot set f tag s).next - (entry_spot set f tag s).from)) z
        ∙ none_value at t.stop
        ∙ sym (ap (λ q. read_off at q.at q.from q.next) (t.added (ltb-false _ _ z)))

-- ---- in a target

target_value : (f : Form) (s : List ℕ) → Bytes s → (k : SetOf f s) (id tag at : ℕ) → 0 < tag → (p : Place) → TargetPlaced f id tag s p
    → value_of (row_in (target id) tag at (kept_of f s) (entries_of set f s)) ≡ read_off at p.at p.from p.next
unfolding oid_bytes digits number_of series_number
target_value f s b k id tag at pos p t =
    let g = grown is_series (kept_of f s) (the_rest f s b k) (rest_of f s k).is t.hit in
    let list : entries_of set f s ≡ g.before ++ series t.width t.ps ∷ g.later = g.list_is ∙ ap (λ y. g.before ++ y ∷ g.later) t.it_is in
    let o : OneSeries (g.before ++ series t.width t.ps ∷ g.later) = subst OneSeries list (one_of f s b (level_run set f s) refl k.ran) in
    let number = ask_hit_lem is_series t.hit (series_number id) ∙ ap (series_number id) t.it_is in
    let q = t.pack_hit in
    let j : Pack = record { width = t.pack_width; id = id; items = t.items } in
    let first : ℕ = at + length (flat_all flat_entry g.before) + 1 + t.width in
    let from : ℕ = first + length (flat_all flat_pack q.before) + t.pack_width + length (oid_bytes id) in
    let here : from ≡ from + 0 = omega arith in
    ap value_of (
    ap (row_in (target id) tag at (kept_of f s)) list
    ∙ target_row id tag at g.before t.width t.ps g.later g.missed o (kept_of f s) number
    ∙ ap (pack_row_in id tag first) (q.list_is ∙ ap (λ y. q.before ++ y ∷ q.later) t.pack_is)
    ∙ pack_row id tag first q.before q.later j pos q.missed (eq-eqb id id refl)
    ∙ ap (λ m. row_for (1 + length q.before) tag (item_rows (1 + length q.before) m t.items)) here
    )
    ∙ items_value (1 + length q.before) tag from 0 t.items
    ∙ read_shift at (p.body + length (oid_bytes id)) (item_spot tag t.items).at (item_spot tag t.items).from (item_spot tag t.items).next {p = p.at} {q = p.from} {r = p.next}
    (omega (arith, t.series_at, t.packs_at, t.pack_at, t.body_at)) (omega (arith, t.item_at)) (omega (arith, t.value_at)) (omega (arith, t.next_at))

number_none_in : (id : ℕ) (es : List Entry) → Missed (has_id id) (packs_in es) → number_of (target id) es ≡ refused 18 0
unfolding number_of packs_in ask_hit series_number
number_none_in id [] m = refl
number_none_in id (plain i ∷ es) m = number_none_in id es m
number_none_in id (series w ps ∷ es) m = number_none id ps m

-- ---- by what holds the item

module _ (f : Form) (s : List ℕ) (b : Bytes s) (k : SetOf f s) (at : ℕ) where
  pub place_value : (h : Holder) (tag : ℕ) → showable h tag ≡ true → (p : Place) → Placed f h tag s p
      → value_of (row_in h tag at (kept_of f s) (entries_of set f s)) ≡ read_off at p.at p.from p.next
  place_value the_set tag n p t = set_value f s tag at n p t
  place_value (target id) tag n p t = target_value f s b k id tag at (showable_some (target id) tag n) p t

  pub unheld_value : (h : Holder) (tag : ℕ) → Unheld f h s → row_in h tag at (kept_of f s) (entries_of set f s) ≡ refused 18 0
  unheld_value the_set tag u = absurd u
  unheld_value (target id) tag u = bind_not _ _ 18 0 (number_none_in id (kept_of f s) u)
