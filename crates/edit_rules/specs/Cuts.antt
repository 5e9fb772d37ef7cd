-- The set's bytes with two cuts: what each puts, what stands around them under new lengths, how many bytes that makes, and how it is stored.
use Rattle.std.specs.Prelude.{◌≡◌, ℕ, ◌+◌, ◌-◌, ◌≤◌, Bool, true, false, List, [], ◌++◌, length, take, drop}
use Rattle.std.proofs.lemmas.List.Edits.{sets}
use Rattle.format.specs.Coding.{len_width, len_bytes, oid_bytes}
use Rattle.format.specs.Table.{Level, set, pack}
use Rattle.format.specs.Packet.{flat_item}
use Rattle.format.specs.Calls.{item_of}
use Rattle.store_coded.specs.Fronts.{series_front}
use Rattle.find.specs.declared.Place.{Place}
use Rattle.find.specs.Places.{Ordered}
use Rattle.edit_rules.specs.declared.Cut.{Cut}
use Rattle.edit_rules.specs.declared.Cuts.{Cuts}

-- ---- the item that is put at a cut

-- the last m bytes of a value, as they are lent; the item that is put with them, none for a removal, and how many bytes it has
abbrev pub last_of : List ℕ → ℕ → List ℕ
last_of v m = take (length v - (length v - m)) (drop (length v - m) v)

abbrev pub item_put : Bool → ℕ → List ℕ → ℕ → List ℕ
item_put true tag v m = []
item_put false tag v m = flat_item (item_of (record { tag = tag; value = last_of v m }))

abbrev pub item_size : Bool → ℕ → ℕ → ℕ
item_size true tag m = 0
item_size false tag m = length (oid_bytes tag) + (len_width m + m)

abbrev pub cut_put : Cut → List ℕ → List ℕ
cut_put c v = item_put c.removal c.tag v c.size

abbrev pub cut_size : Cut → ℕ
cut_size c = item_size c.removal c.tag c.size

-- nothing is cut, at a; no item has its tag
abbrev pub no_cut : ℕ → Cut
no_cut a = record { at = a; next = a; tag = 0; removal = true; size = 0 }

-- one cut, and nothing after it
abbrev pub one_cut : Place → Cut → Cuts
one_cut p c = record { place = p; lo = c; hi = no_cut c.next }

-- of two values, what belongs to the lower cut: turned, the second
abbrev pub low_of : Bool → List ℕ → List ℕ → List ℕ
low_of true v w = w
low_of false v w = v

-- ---- the set's bytes with two cuts

-- the bytes from a to b
abbrev pub part : List ℕ → ℕ → ℕ → List ℕ
part s a b = take (b - a) (drop a s)

-- how many bytes the pack has under its length, with items of m and n bytes at the cuts; and the series under its, with a pack of n
abbrev pub body_size : Cuts → ℕ → ℕ → ℕ
body_size k m n = (k.lo.at - k.place.body) + m + (k.hi.at - k.lo.next) + n + (k.place.last - k.hi.next)

abbrev pub packs_size : Place → ℕ → ℕ
packs_size p n = (p.pack - p.packs) + (len_width n + n) + (p.tail - p.last)

-- what stands before the length of the pack, with m bytes of packs under a new length of the series
unfoldable pub to_pack : List ℕ → Place → ℕ → List ℕ
to_pack s p m = part s 0 p.series ++ (series_front m ++ part s p.packs p.pack)

-- what stands before the level's own bytes: before a pack's id that too, and the pack's new length, of n bytes
unfoldable pub head_of : Level → List ℕ → Place → ℕ → List ℕ
head_of set s p n = []
head_of pack s p n = to_pack s p (packs_size p n) ++ len_bytes (len_width n) n

unfoldable pub with_two : Level → List ℕ → Cuts → List ℕ → List ℕ → List ℕ
with_two l s k i j =
    head_of l s k.place (body_size k (length i) (length j))
    ++ (part s k.place.body k.lo.at
    ++ (i
    ++ (part s k.lo.next k.hi.at
    ++ (j
    ++ part s k.hi.next k.place.stop))))

-- how many bytes the entries take with a pack of n; the set has no length of its own
unfoldable pub with_size : Level → Place → ℕ → ℕ
with_size set p n = n
with_size pack p n = p.series + 1 + len_width (packs_size p n) + packs_size p n + (p.stop - p.tail)

-- the place in order within n bytes, and the cuts within its level; of the set, from its start to its end
pub record Spans (l : Level) (n : ℕ) (k : Cuts) : Type 0 where
  pub ordered : Ordered n k.place
  pub to_low : k.place.body ≤ k.lo.at
  pub low : k.lo.at ≤ k.lo.next
  pub to_high : k.lo.next ≤ k.hi.at
  pub high : k.hi.at ≤ k.hi.next
  pub to_last : k.hi.next ≤ k.place.last
  pub whole : l ≡ set → (k.place.body ≡ 0) × (k.place.last ≡ k.place.stop)

-- ---- what is written

-- what a cut puts is the last bytes of a value
pub record CutOf (c : Cut) (v : List ℕ) : Type 0 where
  pub tag_high : c.tag ≤ 16383
  pub some : c.size ≤ length v
  pub none : c.removal ≡ true → c.size ≡ 0

-- cuts in order, which put what they do of v and w
pub record Cutting (l : Level) (s : List ℕ) (k : Cuts) (v w : List ℕ) : Type 0 where
  pub spans : Spans l (length s) k
  pub low : CutOf k.lo v
  pub high : CutOf k.hi w

-- no more bytes than a packet may have
abbrev pub Small : Cut → Type 0
Small c = (c.tag ≤ 16383) × (c.size ≤ 8192)

-- cuts that put no more than that, in a set that has no more
pub record Putting (l : Level) (s : List ℕ) (k : Cuts) (v w : List ℕ) : Type 0 where
  pub short : length s ≤ 8192
  pub spans : Spans l (length s) k
  pub low_small : Small k.lo
  pub low_some : k.lo.size ≤ length v
  pub high_small : Small k.hi
  pub high_some : k.hi.size ≤ length w

abbrev pub put_size : Level → Cuts → ℕ
put_size l k = with_size l k.place (body_size k (cut_size k.lo) (cut_size k.hi))

abbrev pub cut_bytes : Level → List ℕ → Cuts → List ℕ → List ℕ → List ℕ
cut_bytes l s k v w = with_two l s k (cut_put k.lo v) (cut_put k.hi w)

-- xs was stored at a, up to k
abbrev pub StoredAt : List ℕ → ℕ → List ℕ → ℕ → List ℕ → Type 0
StoredAt o a xs k o' = (k ≡ a + length xs) × (o' ≡ sets o a xs)
