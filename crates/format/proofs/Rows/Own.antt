-- An item's own row: no two rows of a valid packet have the same target number and tag.
use mathlib.Core.Path.{◌≡◌, refl, sym, ◌∙◌}
use mathlib.Core.Logic.{inl, inr}
use Prim.Native.Nat.{ℕ, suc, ◌+◌, ◌≤◌, ◌<◌}
use native.Mathlib.Omega.{arith}
use mathlib.Core.Bool.{false}
use mathlib.Core.List.{List, [], ◌∷◌, ◌++◌, map, map-append}
use lib.ListN.{length}
use borrow.Author.Tests.{eqb-false, ne_eqb}
use Rattle.format.specs.Coding.{oid_bytes}
use Rattle.format.specs.Lists.{has, flat_all}
use Rattle.format.specs.Table.{Form, embedded, standalone, pack}
use Rattle.format.specs.Packet.{Item, Pack, Entry, plain, series, Packet, tag_of_item, tag_of_entry, pack_body, flat_item, flat_pack, flat_entry}
use Rattle.format.specs.Read.{start}
use Rattle.format.specs.Rows.{Row, row, item_row, item_rows, pack_rows, entry_rows, seal_item, sealed, rows_of}
use Rattle.format.specs.Valid.{All, Once, ItemValid, PackValid, EntryValid, Valid}
use Rattle.format.specs.Demands.Shows.{Among}
use Rattle.format.proofs.Words.Answers.{no_bool}
use Rattle.format.proofs.Words.Keys.{has_not, has_none, all_map, all_both, once_snoc}
use Rattle.format.proofs.Table.Tags.{nameable_low}
use Rattle.format.proofs.Reading.Entries.{entry_not_seal}
use Rattle.format.proofs.Rows.Find.{NoSeries, no_series}

abbrev Differ : Row → Row → Type 0
Differ a b = a.target ≡ b.target → a.tag ≡ b.tag → ⊥

abbrev Distinct : List Row → Type 0
Distinct [] = Unit {0}
Distinct (r ∷ rs) = All (Differ r) rs × Distinct rs

among_all : {X : Type 0} (P : X → Type 0) (xs : List X) (x : X) → All P xs → Among x xs → P x
among_all P [] x h m = absurd m
among_all P (y ∷ ys) x h (inl e) = rw e h.0
among_all P (y ∷ ys) x h (inr m) = among_all P ys x h.1 m

one_among : (rs : List Row) (a b : Row) → Distinct rs → Among a rs → Among b rs → a.target ≡ b.target → a.tag ≡ b.tag → a ≡ b
one_among [] a b d p q t g = absurd p
one_among (r ∷ rs) a b d (inl p) (inl q) t g = p ∙ sym q
one_among (r ∷ rs) a b d (inl p) (inr q) t g = absurd (among_all (Differ r) rs b d.0 q (rw p at t) (rw p at g))
one_among (r ∷ rs) a b d (inr p) (inl q) t g = absurd (among_all (Differ r) rs a d.0 p (rw q at (sym t)) (rw q at (sym g)))
one_among (r ∷ rs) a b d (inr p) (inr q) t g = one_among rs a b d.1 p q t g

distinct_both : (xs ys : List Row) → Distinct xs → Distinct ys → All (λ x. All (Differ x) ys) xs → Distinct (xs ++ ys)
distinct_both [] ys h g d = g
distinct_both (x ∷ xs) ys h g d = (all_both (Differ x) xs ys h.0 d.0, distinct_both xs ys h.1 g d.1)

-- ---- items

items_in : (k at : ℕ) (is : List Item) → All (λ r. r.target ≡ k) (item_rows k at is)
unfolding item_rows item_row
items_in k at [] = tt
items_in k at (i ∷ is) = (refl, items_in k (at + length (flat_item i)) is)

-- a tag that none of them has
items_differ : (a : Row) (k at : ℕ) (is : List Item) → has a.tag (map tag_of_item is) ≡ false → All (Differ a) (item_rows k at is)
unfolding item_rows item_row
items_differ a k at [] h = tt
items_differ a k at (i ∷ is) h =
    let (x, y) = has_none i.tag a.tag (map tag_of_item is) h in
    (λ _ e. eqb-false i.tag a.tag x (sym e), items_differ a k (at + length (flat_item i)) is y)

items_distinct : (k at : ℕ) (is : List Item) → Once (map tag_of_item is) → Distinct (item_rows k at is)
unfolding item_rows item_row
items_distinct k at [] h = tt
items_distinct k at (i ∷ is) h =
    let m : ℕ = at + length (flat_item i) in
    (items_differ (item_row k at i) k m is h.0, items_distinct k m is h.1)

-- no item has a pack's tag
no_zero : (f : Form) (is : List Item) → All (ItemValid pack f) is → has 0 (map tag_of_item is) ≡ false
no_zero f [] h = unfold has in refl
no_zero f (i ∷ is) h = has_not i.tag 0 (map tag_of_item is) (ne_eqb i.tag 0 λ e. omega (arith, nameable_low pack i.tag h.0.meets.named)) (no_zero f is h.1)

-- ---- packs

packs_in_lem : (k at : ℕ) (ps : List Pack) → All (λ r. k ≤ r.target) (pack_rows k at ps)
unfolding pack_rows
packs_in_lem k at [] = tt
packs_in_lem k at (p ∷ ps) =
    let o : ℕ = at + p.width + length (oid_bytes p.id) in
    let m : ℕ = at + length (flat_pack p) in
    let a = all_map (λ r. r.target ≡ k) (λ r. k ≤ r.target) (λ r e. omega arith) (item_rows k o p.items) (items_in k o p.items) in
    let b = all_map (λ r. suc k ≤ r.target) (λ r. k ≤ r.target) (λ r e. omega arith) (pack_rows (suc k) m ps) (packs_in_lem (suc k) m ps) in
    (omega arith, all_both (λ r. k ≤ r.target) (item_rows k o p.items) (pack_rows (suc k) m ps) a b)

-- a target before them
packs_differ : (a : Row) (k at : ℕ) (ps : List Pack) → a.target < k → All (Differ a) (pack_rows k at ps)
packs_differ a k at ps l = all_map (λ r. k ≤ r.target) (Differ a) (λ r h e _. omega arith) (pack_rows k at ps) (packs_in_lem k at ps)

packs_distinct : (f : Form) (k at : ℕ) (ps : List Pack) → All (PackValid f) ps → Distinct (pack_rows k at ps)
unfolding pack_rows
packs_distinct f k at [] h = tt
packs_distinct f k at (p ∷ ps) h =
    let r : Row = row k 0 (at + p.width) (length (pack_body p)) in
    let o : ℕ = at + p.width + length (oid_bytes p.id) in
    let m : ℕ = at + length (flat_pack p) in
    let is : List Row = item_rows k o p.items in
    let rest : List Row = pack_rows (suc k) m ps in
    let later = all_map (λ x. x.target ≡ k) (λ x. All (Differ x) rest) (λ x e. packs_differ x (suc k) m ps (omega arith)) is (items_in k o p.items) in (
      all_both (Differ r) is rest (items_differ r k o p.items (no_zero f p.items h.0.items_valid.each)) (packs_differ r (suc k) m ps (omega arith)),
      distinct_both is rest (items_distinct k o p.items h.0.items_valid.once) (packs_distinct f (suc k) m ps h.1) later,
    )

-- ---- entries

abbrev PacksValid : Form → Entry → Type 0
PacksValid f (plain i) = Unit {0}
PacksValid f (series w ps) = All (PackValid f) ps

entries_in : (at : ℕ) (es : List Entry) → NoSeries es → All (λ r. r.target ≡ 0) (entry_rows at es)
unfolding entry_rows item_row
entries_in at [] h = tt
entries_in at (plain i ∷ es) h = (refl, entries_in (at + length (flat_item i)) es h.1)
entries_in at (series w ps ∷ es) h = no_bool (sym h.0)

-- a tag that none of them has
entries_differ : (a : Row) (at : ℕ) (es : List Entry) → a.target ≡ 0 → has a.tag (map tag_of_entry es) ≡ false → All (Differ a) (entry_rows at es)
unfolding entry_rows item_row
entries_differ a at [] z h = tt
entries_differ a at (plain i ∷ es) z h =
    let (x, y) = has_none i.tag a.tag (map tag_of_entry es) h in
    (λ _ e. eqb-false i.tag a.tag x (sym e), entries_differ a (at + length (flat_item i)) es z y)
entries_differ a at (series w ps ∷ es) z h =
    let (x, y) = has_none 101 a.tag (map tag_of_entry es) h in
    let m : ℕ = at + length (flat_entry (series w ps)) in (
      λ _ e. eqb-false 101 a.tag x (sym e),
      all_both (Differ a) (pack_rows 1 (at + 1 + w) ps) (entry_rows m es) (packs_differ a 1 (at + 1 + w) ps (omega arith)) (entries_differ a m es z y),
    )

entries_distinct : (f : Form) (at : ℕ) (es : List Entry) → Once (map tag_of_entry es) → All (PacksValid f) es → Distinct (entry_rows at es)
unfolding entry_rows item_row
entries_distinct f at [] h g = tt
entries_distinct f at (plain i ∷ es) h g =
    let m : ℕ = at + length (flat_item i) in
    (entries_differ (item_row 0 at i) m es refl h.0, entries_distinct f m es h.1 g.1)
entries_distinct f at (series w ps ∷ es) h g =
    let r : Row = row 0 101 (at + 1 + w) (length (flat_all flat_pack ps)) in
    let o : ℕ = at + 1 + w in
    let m : ℕ = at + length (flat_entry (series w ps)) in
    let set : List Row = entry_rows m es in
    let zero = entries_in m es (no_series es h.0) in
    let later = all_map (λ x. 1 ≤ x.target) (λ x. All (Differ x) set) (λ x l. all_map (λ y. y.target ≡ 0) (Differ x) (λ y e t _. omega arith) set zero) (pack_rows 1 o ps) (packs_in_lem 1 o ps) in (
      all_both (Differ r) (pack_rows 1 o ps) set (packs_differ r 1 o ps (omega arith)) (entries_differ r m es refl h.0),
      distinct_both (pack_rows 1 o ps) set (packs_distinct f 1 o ps g.0) (entries_distinct f m es h.1 g.1) later,
    )

-- ---- the packet

no_seal : (f : Form) (es : List Entry) → All (EntryValid f) es → has 1 (map tag_of_entry es) ≡ false
no_seal f [] h = unfold has in refl
no_seal f (e ∷ es) h = has_not (tag_of_entry e) 1 (map tag_of_entry es) (entry_not_seal f e h.0) (no_seal f es h.1)

packs_valid : (f : Form) (e : Entry) → EntryValid f e → PacksValid f e
packs_valid f (plain i) h = tt
packs_valid f (series w ps) h = h.packs_valid.each

frame_distinct : (f : Form) (at : ℕ) (es : List Entry) (c : List ℕ) → Once (map tag_of_entry es) → All (EntryValid f) es → Distinct (entry_rows at (sealed f es c))
unfolding sealed
frame_distinct embedded at es c o h = entries_distinct embedded at es o (all_map (EntryValid embedded) (PacksValid embedded) (packs_valid embedded) es h)
frame_distinct standalone at es c o h =
    let k = all_map (EntryValid standalone) (PacksValid standalone) (packs_valid standalone) es h in
    entries_distinct standalone at (es ++ (plain (seal_item c) ∷ []))
    (rw (map-append tag_of_entry es (plain (seal_item c) ∷ [])) (unfold seal_item in (once_snoc (map tag_of_entry es) 1 o (no_seal standalone es h))))
    (all_both (PacksValid standalone) es (plain (seal_item c) ∷ []) k (tt, tt))

pub one_row : (p : Packet) (a b : Row) → Valid p → Among a (rows_of p) → Among b (rows_of p) → a.target ≡ b.target → a.tag ≡ b.tag → a ≡ b
unfolding rows_of
one_row p a b h = one_among (entry_rows (start p.form p.width) (sealed p.form p.entries p.sum)) a b
    (frame_distinct p.form (start p.form p.width) p.entries p.sum h.entries_valid.once h.entries_valid.each)
