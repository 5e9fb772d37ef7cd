-- Where something stands in a list that lies flat, and what stands there exchanged; where the code that looks for it meets document 01.
use Rattle.std.specs.Prelude.{◌≡◌, ℕ, ◌+◌, ◌-◌, Bool, true, false, List, [], ◌∷◌, ◌++◌, length, take, drop, eqb}
use Rattle.format.specs.Answer.{Ans, ok, refused, Got}
use Rattle.format.specs.Coding.{oid_bytes}
use Rattle.format.specs.Table.{Form, Level}
use Rattle.format.specs.Packet.{Item, Pack, Entry, plain, series, tag_of_entry, flat_item, flat_pack, flat_entry}
use Rattle.format.specs.Valid.{All}
use Rattle.tally.specs.Runs.{level_run, series_run}
use Rattle.find.specs.declared.Spot.{Spot}

abbrev pub spot : ℕ → ℕ → ℕ → ℕ → Spot
spot a b f n = record { at = a; body = b; from = f; next = n }

abbrev pub no_spot : ℕ → Spot
no_spot k = spot k k k k

-- the spot of the first hit, counted from k, with so many bytes before its body and before its value or items; the end, where there is none
unfoldable pub spot_in : {X : Type 0} → (X → Bool) → (X → List ℕ) → (X → ℕ) → (X → ℕ) → ℕ → List X → Spot
spot_in hit flat body from k [] = no_spot k
spot_in hit flat body from k (x ∷ xs) =
    elim (hit x) [ true ↦ spot k (k + body x) (k + from x) (k + length (flat x)) | false ↦ spot_in hit flat body from (k + length (flat x)) xs ]

-- none of them hits; and the first that hits, with what stands before it and after it
abbrev pub Missed : {X : Type 0} → (X → Bool) → List X → Type 0
Missed hit xs = All (λ x. hit x ≡ false) xs

pub record Hit {X : Type 0} (hit : X → Bool) (xs : List X) : Type 0 where
  pub before : List X
  pub it : X
  pub later : List X
  pub list_is : xs ≡ before ++ it ∷ later
  pub missed : Missed hit before
  pub hits : hit it ≡ true

-- the bytes of a thing's value or items, as they are lent
abbrev pub inside : List ℕ → Spot → List ℕ
inside s a = take (a.next - a.from) (drop a.from s)

-- the bytes of b from a to n exchanged
unfoldable pub splice : List ℕ → ℕ → ℕ → List ℕ → List ℕ
splice b a n new = take a b ++ (new ++ drop n b)

-- what a run read; nothing where it was refused
abbrev pub things_of : {X : Type 0} → Ans (Got (List X)) → List X
things_of (ok rs) = rs.val
things_of (refused n p) = []

abbrev pub entries_of : Level → Form → List ℕ → List Entry
entries_of l f s = things_of (level_run l f s)

abbrev pub packs_of : Form → List ℕ → List Pack
packs_of f s = things_of (series_run f s)

abbrev pub has_item : ℕ → Item → Bool
has_item tag i = eqb i.tag tag

abbrev pub has_tag : ℕ → Entry → Bool
has_tag tag e = eqb (tag_of_entry e) tag

abbrev pub has_id : ℕ → Pack → Bool
has_id id p = eqb p.id id

-- the bytes before the value of an item or an entry, and before the items of a pack
abbrev pub item_lead : Item → ℕ
item_lead i = length (oid_bytes i.tag) + i.width

abbrev pub entry_lead : Entry → ℕ
entry_lead (plain i) = item_lead i
entry_lead (series w ps) = length (oid_bytes 101) + w

abbrev pub pack_lead : Pack → ℕ
pack_lead p = p.width + length (oid_bytes p.id)

abbrev pub item_spot : ℕ → List Item → Spot
item_spot tag is = spot_in (has_item tag) flat_item item_lead item_lead 0 is

abbrev pub entry_spot : Level → Form → ℕ → List ℕ → Spot
entry_spot l f tag s = spot_in (has_tag tag) flat_entry entry_lead entry_lead 0 (entries_of l f s)

abbrev pub pack_spot : Form → ℕ → List ℕ → Spot
pack_spot f id s = spot_in (has_id id) flat_pack (λ p. p.width) pack_lead 0 (packs_of f s)
