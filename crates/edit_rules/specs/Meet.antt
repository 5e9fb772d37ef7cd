-- Where the code that judges an edit meets document 01: what is asked, a change in its turn, what is left of the level, and what is judged.
use Rattle.std.specs.Prelude.{◌≡◌, ℕ, ◌<◌, Bool, true, false, not, ◌||◌, Result, Ok, Err, List, [], ◌∷◌, map, length, ltb, eqb}
use Rattle.format.specs.Answer.{Ans, ok, refused, need, ◌>>=◌}
use Rattle.format.specs.Coding.{Bytes}
use Rattle.format.specs.Lists.{has, flat_all}
use Rattle.format.specs.Table.{Form, Level, is_alone, rule_of, nameable, alike, short}
use Rattle.format.specs.Packet.{flat_item, flat_entry, closed}
use Rattle.format.specs.Sheet.{Sheet, part_of}
use Rattle.format.specs.Calls.{item_of, packed}
use Rattle.format.specs.Edit.{Holder, Change, put, remove, Changes, val_with, tags_at, change_rules, ending, edit_rules, edit_entries}
use Rattle.format.specs.Valid.{SheetValid}
use Rattle.coding.specs.declared.refusals.Refusal.{Refusal}
use Rattle.coding.specs.Refusals.{number}
use Rattle.items.specs.Meet.{level_of, answered}
use Rattle.find.specs.declared.Place.{Place}
use Rattle.find.specs.Places.{holder_of, SetOf, kept_of, Placed}
use Rattle.edit_rules.specs.declared.Change as told
use Rattle.edit_rules.specs.declared.Asked.{Asked}
use Rattle.edit_rules.specs.declared.Cut.{Cut}
use Rattle.edit_rules.specs.declared.Cuts.{Cuts}
use Rattle.edit_rules.specs.declared.one.Judged as One
use Rattle.edit_rules.specs.declared.two.Judged as Two
use Rattle.edit_rules.specs.Cuts.{no_cut, one_cut, low_of, Cutting, cut_bytes}

-- ---- what is asked

abbrev pub change_of : Bool → List ℕ → Change
change_of true v = remove
change_of false v = put v

-- a change with its value; and one, or two, as a list
abbrev pub one_of : told.Change → List ℕ → ℕ × Change
one_of c v = (c.tag, change_of c.removal v)

abbrev pub changes_of : Asked → List ℕ → Changes
changes_of a v = one_of a.change v ∷ []

abbrev pub two_of : told.Change → told.Change → List ℕ → List ℕ → Changes
two_of c d v w = one_of c v ∷ one_of d w ∷ []

abbrev pub asked_holder : Asked → Holder
asked_holder a = holder_of a.set a.id

-- ---- the edited entries

-- what the entries say, and the entries edited
abbrev pub sheet_of : Form → List ℕ → Sheet
sheet_of f s = record { form = f; parts = map part_of (kept_of f s) }

abbrev pub edited_of : Form → Holder → Changes → List ℕ → List ℕ
edited_of f h cs s = flat_all flat_entry (edit_entries h cs (kept_of f s))

-- an edit of such a set: the rules on what it says, then 1
unfoldable pub set_edited : Form → Holder → Changes → List ℕ → Ans (List ℕ)
set_edited f h cs s = do
  _ ← edit_rules h cs (sheet_of f s)
  packed (closed f (edit_entries h cs (kept_of f s)))

-- how many bytes of a value are put, and the bytes that are put for an item
abbrev pub short_of : Level → ℕ → Change → ℕ
short_of l tag (put v) = length (short (rule_of l tag) v)
short_of l tag remove = 0

unfoldable pub item_bytes : Level → ℕ → Change → List ℕ
item_bytes l tag (put v) = flat_item (item_of (val_with l tag v))
item_bytes l tag remove = []

-- ---- a change in its turn

-- the rules on a put, whatever tags its level has
abbrev pub ValuedAs : Form → Level → ℕ → List ℕ → Result ℕ Refusal → Type 0
ValuedAs f l tag v (Ok m) = ((tags : List ℕ) → ok tt ≡ change_rules f l tag tags (put v)) × (m ≡ short_of l tag (put v))
ValuedAs f l tag v (Err r) = (tags : List ℕ) → refused (number r) 0 ≡ change_rules f l tag tags (put v)

-- the rules on a change, where its level has the tag or not
abbrev pub RuledAs : Form → Level → told.Change → List ℕ → Bool → Ans (Unit {0}) → Type 0
RuledAs f l c v stands r = (tags : List ℕ) → has c.tag tags ≡ stands → r ≡ change_rules f l c.tag tags (change_of c.removal v)

abbrev pub TurnedAs : Form → Level → told.Change → List ℕ → Bool → Result ℕ Refusal → Type 0
TurnedAs f l c v stands (Ok m) = RuledAs f l c v stands (ok tt) × (m ≡ short_of l c.tag (change_of c.removal v))
TurnedAs f l c v stands (Err r) = RuledAs f l c v stands (refused (number r) 0)

-- the cut of a change at its place
abbrev pub cut_of : told.Change → Place → ℕ → Cut
cut_of c p m = record { at = p.at; next = p.next; tag = c.tag; removal = c.removal; size = m }

-- the rules of a change to a level that has these tags, but for what stood before it
unfoldable pub turn_rules : Form → Level → ℕ → Change → Ans (List ℕ) → Ans (Unit {0})
turn_rules f l tag c at = do
  _ ← need (nameable l tag) 19
  tags ← at
  change_rules f l tag tags c

-- a change that may be made, at its place, to the level as the packet has it; m bytes are put
pub record TurnAt (f : Form) (b : Bool) (id : ℕ) (c : told.Change) (v s : List ℕ) (p : Place) (m : ℕ) : Type 0 where
  pub placed : Placed f (holder_of b id) c.tag s p
  pub tags : List ℕ
  pub tags_are : tags_at (holder_of b id) (map part_of (kept_of f s)) ≡ ok tags
  pub stands : has c.tag tags ≡ ltb p.at p.next
  pub named : nameable (level_of b) c.tag ≡ true
  pub ruled : change_rules f (level_of b) c.tag tags (change_of c.removal v) ≡ ok tt
  pub size_is : m ≡ short_of (level_of b) c.tag (change_of c.removal v)

-- and one that may not
abbrev pub TurnStops : Form → Bool → ℕ → told.Change → List ℕ → List ℕ → ℕ → Type 0
TurnStops f b id c v s n = turn_rules f (level_of b) c.tag (change_of c.removal v) (tags_at (holder_of b id) (map part_of (kept_of f s))) ≡ refused n 0

-- ---- what is left of the level

-- whether a tag stands after a cut
abbrev pub left_by : Cut → ℕ → Bool → Bool
left_by c k stands = elim (eqb c.tag k) [ true ↦ not c.removal | false ↦ stands ]

-- whether 19 and 20 stood, where both did or neither, by the cut of either; and whether one of them is left
abbrev pub pair_of : Cut → Cut → Bool
pair_of a b = elim (eqb a.tag 19 || eqb a.tag 20) [ true ↦ ltb a.at a.next | false ↦ ltb b.at b.next ]

abbrev pub parted_by : Cut → Cut → Bool
parted_by a b = not (alike (left_by b 19 (left_by a 19 (pair_of a b))) (left_by b 20 (left_by a 20 (pair_of a b))))

-- 14 where a standalone level has lost the tag
abbrev pub lost_by : Form → Cut → Cut → ℕ → Ans (Unit {0})
lost_by f a b tag = need (not (is_alone f) || left_by b tag (left_by a tag true)) 14

-- what stood with these tags has stood right, and at the cuts; r is the answer on those that the cuts leave
abbrev pub EndsAs : Form → Level → Cut → Cut → Result (Unit {0}) Refusal → Type 0
EndsAs f l a b r =
    (tags left : List ℕ) → ending f l tags ≡ ok tt
    → (0 < a.tag → has a.tag tags ≡ ltb a.at a.next) → (0 < b.tag → has b.tag tags ≡ ltb b.at b.next)
    → ((k : ℕ) → 0 < k → has k left ≡ left_by b k (left_by a k (has k tags)))
    → answered r ≡ ending f l left

-- ---- what is judged

-- the rules refuse an edit, by this number; or they let it through at these cuts, which put what they do of v and w: the edited entries are
-- the set's bytes with that
abbrev pub Stops : Form → Holder → Changes → List ℕ → ℕ → Type 0
Stops f h cs s n = edit_rules h cs (sheet_of f s) ≡ refused n 0

pub record Passes (f : Form) (b : Bool) (id : ℕ) (cs : Changes) (s : List ℕ) (k : Cuts) (v w : List ℕ) : Type 0 where
  pub passed : edit_rules (holder_of b id) cs (sheet_of f s) ≡ ok tt
  pub cutting : Cutting (level_of b) s k v w
  pub edited : edited_of f (holder_of b id) cs s ≡ cut_bytes (level_of b) s k v w

-- ---- one change

abbrev pub OneAs : Form → Asked → List ℕ → List ℕ → Result One.Judged Refusal → Type 0
OneAs f a v s (Ok j) = Passes f a.set a.id (changes_of a v) s (one_cut j.place (cut_of a.change j.place j.size)) v v
OneAs f a v s (Err r) = Stops f (asked_holder a) (changes_of a v) s (number r)

-- with e for what it leaves
abbrev pub ended_one : Result (Unit {0}) Refusal → Place → ℕ → Result One.Judged Refusal
ended_one (Ok u) p m = Ok (record { place = p; size = m })
ended_one (Err r) p m = Err r

abbrev pub LeftAs : Form → Asked → Place → ℕ → Result One.Judged Refusal → Type 0
LeftAs f a p m r = (e : Result (Unit {0}) Refusal) × EndsAs f (level_of a.set) (cut_of a.change p m) (no_cut p.next) e × (r ≡ ended_one e p m)

-- ---- two changes of a target

abbrev pub TwoAs : Form → ℕ → told.Change → told.Change → List ℕ → List ℕ → List ℕ → Result Two.Judged Refusal → Type 0
TwoAs f id c d v w s (Ok j) = Passes f false id (two_of c d v w) s j.cuts (low_of j.turned v w) (low_of j.turned w v)
TwoAs f id c d v w s (Err r) = Stops f (holder_of false id) (two_of c d v w) s (number r)

abbrev pub cuts_of : Place → Cut → Cut → Cuts
cuts_of p x y = record { place = p; lo = x; hi = y }

abbrev pub judged : Cuts → Bool → Two.Judged
judged k t = record { cuts = k; turned = t }

-- the lower first; as they were asked, where they stand at the same end
abbrev pub in_order : Place → Cut → Cut → Two.Judged
in_order p x y = elim (ltb y.at x.at) [ true ↦ judged (cuts_of p y x) true | false ↦ judged (cuts_of p x y) false ]

-- after a first change of m bytes, which may be made, where the second has its place
abbrev pub RestAs : Form → told.Change → told.Change → List ℕ → Place → Place → ℕ → Result Two.Judged Refusal → Type 0
RestAs f c d w p q m r =
    (id : ℕ) (v s : List ℕ) → Bytes s → SetOf f s → SheetValid (sheet_of f s)
    → TurnAt f false id c v s p m → Placed f (holder_of false id) d.tag s q
    → TwoAs f id c d v w s r

-- of the set two changes are refused, whatever the second is
abbrev pub SetStops : Form → told.Change → List ℕ → List ℕ → ℕ → Type 0
SetStops f c v s n = (id : ℕ) (d : told.Change) (w : List ℕ) → Stops f (holder_of true id) (two_of c d v w) s n
