-- Show: the value's part of the reviewer's packet if that has the item, else of the detector's; else the empty part. The part is the
-- item's own, by the row that locate has for it.
use Rattle.std.specs.Prelude.{◌≡◌, ◌⊎◌, List, [], ◌∷◌, ℕ, length, eqb}
use Rattle.format.specs.Answer.{Ans, ok, refused}
use Rattle.format.specs.Lists.{ask_hit}
use Rattle.format.specs.Table.{Form}
use Rattle.format.specs.Packet.{Item, Entry, plain, series, Packet, tag_of_entry}
use Rattle.format.specs.Read.{parse}
use Rattle.format.specs.Rows.{row, sealed, rows_of}
use Rattle.format.specs.Edit.{Holder, the_set, target, is_series}
use Rattle.format.specs.Show.{Side, reviewer, detector, Shown, shown, nothing, number_of}
use Rattle.format.specs.Demands.Rows.{part}

-- an item's value, from the tree alone; 18 where there is none
unfoldable pub item_value : ℕ → List Item → Ans (List ℕ)
item_value tag is = ask_hit (λ i. eqb i.tag tag) (λ i. ok i.value) is

-- set tag 101 has none
unfoldable pub entry_value : Entry → Ans (List ℕ)
entry_value (plain i) = ok i.value
entry_value (series w ps) = refused 18 0

unfoldable pub pack_value : ℕ → ℕ → Entry → Ans (List ℕ)
pack_value i tag (plain x) = refused 18 0
pack_value i tag (series w ps) = ask_hit (λ p. eqb p.id i) (λ p. item_value tag p.items) ps

unfoldable pub value_in : Holder → ℕ → List Entry → Ans (List ℕ)
value_in the_set tag es = ask_hit (λ e. eqb (tag_of_entry e) tag) entry_value es
value_in (target i) tag es = ask_hit is_series (pack_value i tag) es

unfoldable pub value_of : Holder → ℕ → Packet → Ans (List ℕ)
value_of h tag p = value_in h tag (sealed p.form p.entries p.sum)

-- x is one of these
abbrev pub Among : {X : Type 0} → X → List X → Type 0
Among x [] = ⊥
Among x (y ∷ ys) = (x ≡ y) ⊎ Among x ys

-- the item's value v stands in the packet p, of the bytes s, at this offset: by its own row, with its holder's number and its tag
pub record StandsAt (p : Packet) (s : List ℕ) (h : Holder) (tag : ℕ) (v : List ℕ) (offset : ℕ) : Type 0 where
  pub number : ℕ
  pub numbered : number_of h p.entries ≡ ok number
  pub own_row : Among (row number tag offset (length v)) (rows_of p)
  pub is_value : part s offset (length v) ≡ v

-- x is that part
pub record ShownValue (p : Packet) (s : List ℕ) (h : Holder) (tag : ℕ) (v : List ℕ) (side : Side) (x : Shown) : Type 0 where
  pub offset : ℕ
  pub stands : StandsAt p s h tag v offset
  pub shows : x ≡ shown side offset (length v)

-- what is shown of a reviewer's packet r and a detector's d
pub record Shows (f : Form) (r d : List ℕ) (h : Holder) (tag : ℕ) (x : Shown) : Type 0 where
  -- a packet that is refused: the empty part at the start of the detector's
  pub on_refused : (n a : ℕ) → (parse f r ≡ refused n a) ⊎ (parse f d ≡ refused n a) → x ≡ nothing
  -- both accepted: the reviewer's value, else the detector's, else the empty part
  pub from_reviewer : (p q : Packet) (v : List ℕ) → parse f r ≡ ok p → parse f d ≡ ok q → value_of h tag p ≡ ok v → ShownValue p r h tag v reviewer x
  pub from_detector : (p q : Packet) (v : List ℕ) (n a : ℕ) → parse f r ≡ ok p → parse f d ≡ ok q → value_of h tag p ≡ refused n a → value_of h tag q ≡ ok v
      → ShownValue q d h tag v detector x
  pub from_neither : (p q : Packet) (n a m b : ℕ) → parse f r ≡ ok p → parse f d ≡ ok q → value_of h tag p ≡ refused n a → value_of h tag q ≡ refused m b → x ≡ nothing
