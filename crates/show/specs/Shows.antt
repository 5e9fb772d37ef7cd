-- What `show` hands back, of the call itself. A part, and bytes at a place, are related by `Names` and `Shows` just where the contracts
-- of `shown` and `show` allow them; the lent packets begin at the places pr and pd.
use Rattle.std.specs.Prelude.{◌≡◌, ◌⊎◌, ℕ, ◌+◌, ◌≤◌, ◌<◌, false, List, [], length}
use Rattle.format.specs.Answer.{ok, refused}
use Rattle.format.specs.Coding.{Bytes}
use Rattle.format.specs.Table.{Form}
use Rattle.format.specs.Packet.{Packet}
use Rattle.format.specs.Read.{parse}
use Rattle.format.specs.Edit.{Holder}
use Rattle.format.specs.Show.{showable, show}
use Rattle.format.specs.Demands.Shows.{value_of, StandsAt}
use Rattle.show.specs.declared.Part.{Part}
use Rattle.show.specs.Meet.{of_two, part_shown, bytes_shown, place_shown}

abbrev pub Names : Form → List ℕ → List ℕ → Holder → ℕ → Part → Type 0
Names f r d h tag p = (part_shown p ≡ show f r d h tag) × (p.offset + p.size ≤ length (of_two p.detectors r d))

abbrev pub Shows : Form → List ℕ → List ℕ → ℕ × ℕ → ℕ × ℕ → Holder → ℕ → List ℕ → ℕ × ℕ → Type 0
Shows f r d pr pd h tag v place = (v ≡ bytes_shown r d (show f r d h tag)) × (place ≡ place_shown pr pd (show f r d h tag))

-- the bytes v are the value x of the item in the packet p, at the item's own place in its bytes s, which begin at the place `from`
pub record Held (p : Packet) (s : List ℕ) (from : ℕ × ℕ) (h : Holder) (tag : ℕ) (x v : List ℕ) (place : ℕ × ℕ) : Type 0 where
  pub is_value : v ≡ x
  -- no item of an accepted packet is empty: here for the reader
  pub not_empty : 0 < length v
  pub offset : ℕ
  pub stands : StandsAt p s h tag v offset
  pub begins : place ≡ (from.0, offset + from.1)

-- the empty part at the start of the detector's
abbrev pub Nothing : ℕ × ℕ → List ℕ → ℕ × ℕ → Type 0
Nothing pd v place = (v ≡ []) × (place ≡ pd)

pub record Showing (f : Form) (r d : List ℕ) (pr pd : ℕ × ℕ) (h : Holder) (tag : ℕ) (v : List ℕ) (place : ℕ × ℕ) : Type 0 where
  -- "If either packet is refused, neither has the item, or set tag 101 is named, it hands back the empty part at the start of the detector's."
  pub on_refused : (n a : ℕ) → (parse f r ≡ refused n a) ⊎ (parse f d ≡ refused n a) → Nothing pd v place
  -- what may not be shown has no value: here for the reader
  pub on_unnamed : showable h tag ≡ false → Nothing pd v place
  pub from_neither : (p q : Packet) (n a m b : ℕ) → parse f r ≡ ok p → parse f d ≡ ok q → value_of h tag p ≡ refused n a → value_of h tag q ≡ refused m b → Nothing pd v place
  -- "It hands back the value's part of the reviewer's packet if that has the item, else of the detector's."
  pub from_reviewer : (p q : Packet) (x : List ℕ) → parse f r ≡ ok p → parse f d ≡ ok q → value_of h tag p ≡ ok x → Held p r pr h tag x v place
  pub from_detector : (p q : Packet) (x : List ℕ) (n a : ℕ) → parse f r ≡ ok p → parse f d ≡ ok q → value_of h tag p ≡ refused n a → value_of h tag q ≡ ok x
      → Held q d pd h tag x v place

pub record ShowPromise : Type 0 where
  pub showing : (f : Form) (r d : List ℕ) (pr pd : ℕ × ℕ) (h : Holder) (tag : ℕ) (v : List ℕ) (place : ℕ × ℕ) → Bytes r → Bytes d → Shows f r d pr pd h tag v place
      → Showing f r d pr pd h tag v place
