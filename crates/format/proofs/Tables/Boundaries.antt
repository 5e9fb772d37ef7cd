-- The item table at its boundaries, written from document 01's Items and not from `rules`: what each tag takes at its least and at its
-- greatest length, with a byte less and with a byte more; in which form it may stand; and whether it is a number.
use mathlib.Core.Path.{◌≡◌, refl}
use Prim.Native.Nat.{ℕ, ◌+◌, ◌-◌}
use mathlib.Core.Bool.{true, false}
use mathlib.Core.List.{List, [], ◌∷◌, ◌++◌, map}
use lib.ListN.{replicate, length}
use lib.Dec.{leb, eqb}
use Rattle.format.specs.Answer.{Ans, ok, refused}
use Rattle.format.specs.Table.{embedded, standalone}
use Rattle.format.specs.Packet.{the_key}
use Rattle.format.specs.Calls.{read, normalise}
use Rattle.format.proofs.Tables.Open.{opened}

-- an answer's number, 0 if it is a value, and its place
abbrev said : {A : Type 0} → Ans A → ℕ × ℕ
said (ok a) = (0, 0)
said (refused n p) = (n, p)

-- ---- packets of one item

abbrev in_set : ℕ → List ℕ → List ℕ
in_set tag v = tag ∷ elim (leb (length v) 127) [ true ↦ length v ∷ v | false ↦ 0x81 ∷ length v ∷ v ]

-- 19 and 20 stand together: behind the one, the other
abbrev beside : ℕ → List ℕ
beside tag = elim (eqb tag 19) [ true ↦ 20 ∷ 1 ∷ 1 ∷ [] | false ↦ elim (eqb tag 20) [ true ↦ 19 ∷ 1 ∷ 1 ∷ [] | false ↦ [] ] ]

-- in a pack with the id 7: at 4
abbrev in_pack : ℕ → List ℕ → List ℕ
in_pack tag v = let b = beside tag in 0x65 ∷ (4 + length v + length b) ∷ (3 + length v + length b) ∷ 7 ∷ in_set tag v ++ b

-- a standalone set, behind its time stamp: at 27
abbrev alone : List ℕ → List ℕ
alone b = the_key ++ (10 + length b) ∷ 2 ∷ 8 ∷ replicate 8 0 ++ b

-- ---- lengths: a tag, its least and its greatest

set_bounds : List (ℕ × ℕ × ℕ)
set_bounds =
    (2, 8, 8) ∷ (3, 1, 32) ∷ (4, 1, 2) ∷ (5, 1, 3) ∷ (6, 1, 3) ∷ (8, 1, 3) ∷ (9, 1, 3) ∷ (10, 1, 128) ∷ (11, 2, 2) ∷ (12, 2, 2) ∷ []

pack_bounds : List (ℕ × ℕ × ℕ)
pack_bounds =
    (1, 1, 6) ∷ (2, 1, 6) ∷ (3, 1, 6) ∷ (4, 1, 1) ∷ (5, 1, 1) ∷ (6, 1, 2) ∷ (7, 1, 1) ∷ (8, 3, 3) ∷ (9, 1, 3) ∷ (10, 3, 3) ∷ (11, 3, 3) ∷ (12, 2, 2)
    ∷ (13, 3, 3) ∷ (14, 3, 3) ∷ (15, 3, 3) ∷ (16, 3, 3) ∷ (17, 10, 10) ∷ (17, 16, 16) ∷ (17, 22, 22) ∷ (19, 1, 4) ∷ (20, 1, 4) ∷ (22, 1, 3) ∷ (23, 1, 1) ∷ []

-- read at a byte less, at the least, at the greatest, and at a byte more
abbrev at_bounds : (ℕ → List ℕ → List ℕ) → ℕ × ℕ × ℕ → List (ℕ × ℕ)
at_bounds lay (tag, least, most) = map (λ n. said (read embedded (lay tag (replicate n 1)))) ((least - 1) ∷ least ∷ most ∷ (1 + most) ∷ [])

-- no byte is 7, and any other length that is not allowed 11
abbrev too_few : ℕ → ℕ
too_few least = elim (leb least 1) [ true ↦ 7 | false ↦ 11 ]

abbrev bounded : ℕ → ℕ × ℕ × ℕ → List (ℕ × ℕ)
bounded place (tag, least, most) = (too_few least, place) ∷ (0, 0) ∷ (0, 0) ∷ (11, place) ∷ []

-- a tag that is not listed: read with no byte, with one, and with many
abbrev at_some : (ℕ → List ℕ → List ℕ) → ℕ → ℕ → List (ℕ × ℕ)
at_some lay many tag = map (λ n. said (read embedded (lay tag (replicate n 0)))) (0 ∷ 1 ∷ many ∷ [])

abbrev unbounded : ℕ → ℕ → List (ℕ × ℕ)
unbounded place tag = (7, place) ∷ (0, 0) ∷ (0, 0) ∷ []

-- the same answer at each of some tags
abbrev all : (ℕ → ℕ × ℕ) → ℕ × ℕ → List ℕ → Type 0
all f x ts = map f ts ≡ map (λ t. x) ts

-- ---- the six offset tags, and all others of a pack

offsets : List ℕ
offsets = 10 ∷ 11 ∷ 13 ∷ 14 ∷ 15 ∷ 16 ∷ []

threes : List ℕ → List (ℕ × List ℕ)
threes ts = map (λ t. (t, 0 ∷ 0 ∷ 1 ∷ [])) ts

-- ---- numbers, and values that are kept

twos : List ℕ → List (ℕ × List ℕ)
twos ts = map (λ t. (t, 0 ∷ 1 ∷ [])) ts

abbrev normal : (ℕ → List ℕ → List ℕ) → List (ℕ × List ℕ) → List (Ans (List ℕ))
normal lay xs = map (λ x. normalise embedded (lay x.0 x.1)) xs

abbrev laid : (ℕ → List ℕ → List ℕ) → List (ℕ × List ℕ) → List (Ans (List ℕ))
laid lay xs = map (λ x. ok (lay x.0 x.1)) xs

abbrev ones : (ℕ → List ℕ → List ℕ) → List ℕ → List (Ans (List ℕ))
ones lay ts = map (λ t. ok (lay t (1 ∷ []))) ts

set_numbers : List ℕ
set_numbers = 4 ∷ 5 ∷ 6 ∷ 8 ∷ 9 ∷ []

pack_numbers : List ℕ
pack_numbers = 1 ∷ 2 ∷ 3 ∷ 6 ∷ 9 ∷ 19 ∷ 20 ∷ 22 ∷ []

record Boundaries : Type 0 where
  set_bounds_is : map (at_bounds in_set) set_bounds ≡ map (bounded 0) set_bounds
  pack_bounds_is : map (at_bounds in_pack) pack_bounds ≡ map (bounded 4) pack_bounds
  -- "A tag not listed has one or more bytes, deprecated tags too"; so has a pack's 101
  set_unlisted : map (at_some in_set 200) (7 ∷ 13 ∷ 100 ∷ 102 ∷ 103 ∷ 127 ∷ []) ≡ map (unbounded 0) (7 ∷ 13 ∷ 100 ∷ 102 ∷ 103 ∷ 127 ∷ [])
  pack_unlisted : map (at_some in_pack 100) (18 ∷ 21 ∷ 24 ∷ 101 ∷ 107 ∷ []) ≡ map (unbounded 4) (18 ∷ 21 ∷ 24 ∷ 101 ∷ 107 ∷ [])
  -- the checksum: two bytes, never in embedded
  seal_embedded : said (read embedded (in_set 1 (0 ∷ 0 ∷ []))) ≡ (13, 0)
  seal_bounds : map (λ n. said (read standalone (alone (in_set 1 (replicate n 0))))) (0 ∷ 1 ∷ 2 ∷ 3 ∷ []) ≡ (7, 27) ∷ (11, 27) ∷ (15, 27) ∷ (11, 27) ∷ []
  -- "pack tags 10, 11 and 13 to 16 only in embedded"; any other may stand, and then tag 17 is missing where the pack ends
  offsets_alone : all (λ t. said (read standalone (alone (in_pack t (0 ∷ 0 ∷ 1 ∷ []))))) (13, 31) offsets
  threes_alone : all (λ t. said (read standalone (alone (in_pack t (0 ∷ 0 ∷ 1 ∷ []))))) (14, 29) (1 ∷ 2 ∷ 3 ∷ 8 ∷ 9 ∷ 18 ∷ 19 ∷ 20 ∷ 21 ∷ 22 ∷ 24 ∷ 101 ∷ [])
  twos_alone : all (λ t. said (read standalone (alone (in_pack t (0 ∷ 1 ∷ []))))) (14, 29) (6 ∷ 12 ∷ [])
  ones_alone : all (λ t. said (read standalone (alone (in_pack t (1 ∷ []))))) (14, 29) (4 ∷ 5 ∷ 7 ∷ 23 ∷ [])
  location_alone : said (read standalone (alone (in_pack 17 (replicate 10 0)))) ≡ (14, 43)
  -- "P is such a number that may not be 0"; no other number or byte has that rule
  pixels_0 : all (λ t. said (read embedded (in_pack t (0 ∷ [])))) (12, 4) (1 ∷ 2 ∷ 3 ∷ 19 ∷ 20 ∷ [])
  others_0 : all (λ t. said (read embedded (in_pack t (0 ∷ [])))) (0, 0) (4 ∷ 5 ∷ 6 ∷ 7 ∷ 9 ∷ 22 ∷ 23 ∷ [])
  set_0 : all (λ t. said (read embedded (in_set t (0 ∷ [])))) (0, 0) (3 ∷ 4 ∷ 5 ∷ 6 ∷ 8 ∷ 9 ∷ 10 ∷ [])
  -- "Only N and P items are numbers"
  set_numbers_is : normal in_set (twos set_numbers) ≡ ones in_set set_numbers
  pack_numbers_is : normal in_pack (twos pack_numbers) ≡ ones in_pack pack_numbers
  set_kept : normal in_set ((2, replicate 8 0) ∷ twos (3 ∷ 7 ∷ 10 ∷ 11 ∷ 12 ∷ 13 ∷ 100 ∷ [])) ≡ laid in_set ((2, replicate 8 0) ∷ twos (3 ∷ 7 ∷ 10 ∷ 11 ∷ 12 ∷ 13 ∷ 100 ∷ []))
  pack_kept : normal in_pack ((17, replicate 10 0) ∷ twos (12 ∷ 18 ∷ 21 ∷ 101 ∷ []) ++ threes (8 ∷ offsets))
      ≡ laid in_pack ((17, replicate 10 0) ∷ twos (12 ∷ 18 ∷ 21 ∷ 101 ∷ []) ++ threes (8 ∷ offsets))

boundaries : Boundaries
unfolding set_bounds pack_bounds offsets threes twos set_numbers pack_numbers opened
boundaries = record {
  set_bounds_is = refl;
  pack_bounds_is = refl;
  set_unlisted = refl;
  pack_unlisted = refl;
  seal_embedded = refl;
  seal_bounds = refl;
  offsets_alone = refl;
  threes_alone = refl;
  twos_alone = refl;
  ones_alone = refl;
  location_alone = refl;
  pixels_0 = refl;
  others_0 = refl;
  set_0 = refl;
  set_numbers_is = refl;
  pack_numbers_is = refl;
  set_kept = refl;
  pack_kept = refl;
}
