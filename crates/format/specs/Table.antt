-- The constant item table, and the rules for one item: of a set or a pack, in a packet, a sheet or an edit (document 01, Items).
use Rattle.std.specs.Prelude.{ℕ, ◌-◌, ◌%◌, Bool, true, false, not, ◌&&◌, ◌||◌, List, [], ◌∷◌, length, ltb, leb, eqb}
use Rattle.format.specs.Answer.{Ans, need, ◌>>=◌}
use Rattle.format.specs.Coding.{bytes_number}
use Rattle.format.specs.Lists.{has, none?}

pub data Form : Type 0 where
  embedded standalone : Form

pub data Level : Type 0 where
  set pack : Level

abbrev pub is_alone : Form → Bool
is_alone embedded = false
is_alone standalone = true

abbrev pub is_set : Level → Bool
is_set set = true
is_set pack = false

-- ---- the table

-- N and P items are numbers, a P is a pixel; all others are bytes
pub data Kind : Type 0 where
  bytes num pixel : Kind

-- the greatest length, or none
pub data Most : Type 0 where
  up_to : ℕ → Most
  any : Most

-- an item's kind, its least and greatest length, and the gap between the lengths allowed
pub record Rule : Type 0 where
  pub kind : Kind
  pub least : ℕ
  pub most : Most
  pub gap : ℕ

-- B3 is `B 3`, T32 is `T 32`, N2 is `N 2`, P6 is `P 6`
abbrev pub B : ℕ → Rule
B k = record { kind = bytes; least = k; most = up_to k; gap = 1 }

abbrev pub T : ℕ → Rule
T k = record { kind = bytes; least = 1; most = up_to k; gap = 1 }

abbrev pub N : ℕ → Rule
N k = record { kind = num; least = 1; most = up_to k; gap = 1 }

abbrev pub P : ℕ → Rule
P k = record { kind = pixel; least = 1; most = up_to k; gap = 1 }

-- 10, 16 or 22 bytes
abbrev pub location : Rule
location = record { kind = bytes; least = 10; most = up_to 22; gap = 6 }

-- a tag not listed has one or more bytes, and so has the set's 101
abbrev pub unlisted : Rule
unlisted = record { kind = bytes; least = 1; most = any; gap = 1 }

unfoldable pub rules : Level → List (ℕ × Rule)
rules set =
    (1, B 2) ∷ (2, B 8) ∷ (3, T 32) ∷ (4, N 2) ∷ (5, N 3) ∷ (6, N 3) ∷ (8, N 3) ∷ (9, N 3) ∷ (10, T 128) ∷ (11, B 2) ∷ (12, B 2) ∷ []
rules pack =
    (1, P 6) ∷ (2, P 6) ∷ (3, P 6) ∷ (4, B 1) ∷ (5, B 1) ∷ (6, N 2) ∷ (7, B 1) ∷ (8, B 3) ∷ (9, N 3) ∷ (10, B 3) ∷ (11, B 3) ∷ (12, B 2)
    ∷ (13, B 3) ∷ (14, B 3) ∷ (15, B 3) ∷ (16, B 3) ∷ (17, location) ∷ (19, P 4) ∷ (20, P 4) ∷ (22, N 3) ∷ (23, B 1) ∷ []

unfoldable pub find : List (ℕ × Rule) → ℕ → Rule
find [] tag = unlisted
find (e ∷ es) tag = elim (eqb e.0 tag) [ true ↦ e.1 | false ↦ find es tag ]

unfoldable pub rule_of : Level → ℕ → Rule
rule_of l tag = find (rules l) tag

-- ---- tags

-- what a sheet's record or an edit may name: never the set's checksum or its series
unfoldable pub nameable : Level → ℕ → Bool
nameable l tag = ltb 0 tag && leb tag 16383 && not (is_set l && (eqb tag 1 || eqb tag 101))

-- tag 1 only at the very end of a standalone set; the six offset tags only in embedded
unfoldable pub may_stand : Level → Form → ℕ → Bool → Bool
may_stand set f tag last = not (eqb tag 1) || (is_alone f && last)
may_stand pack f tag last = not (is_alone f) || not (has tag (10 ∷ 11 ∷ 13 ∷ 14 ∷ 15 ∷ 16 ∷ []))

-- a standalone set begins with tag 2; `seen` are the tags before
unfoldable pub may_begin : Level → Form → ℕ → List ℕ → Bool
may_begin l f tag seen = not (is_set l) || not (is_alone f) || not (none? seen) || eqb tag 2

-- 9, 13 and 14 of an item
unfoldable pub standing : Level → Form → List ℕ → ℕ → Bool → Ans (Unit {0})
standing l f seen tag last = do
  _ ← need (not (has tag seen)) 9
  _ ← need (may_stand l f tag last) 13
  need (may_begin l f tag seen) 14

-- ---- values

abbrev pub not_pixel : Kind → Bool
not_pixel bytes = true
not_pixel num = true
not_pixel pixel = false

abbrev pub is_number : Kind → Bool
is_number bytes = false
is_number num = true
is_number pixel = true

abbrev pub within : ℕ → Most → Bool
within k (up_to m) = leb k m
within k any = true

unfoldable pub sized : Rule → ℕ → Bool
sized r k = leb r.least k && within k r.most && eqb ((k - r.least) % r.gap) 0

-- 11 and 12 of a value
unfoldable pub valued : Rule → List ℕ → Ans (Unit {0})
valued r v = do
  _ ← need (sized r (length v)) 11
  need (not_pixel r.kind || ltb 0 (bytes_number v)) 12

-- the rules for one item, in their order: 7, 9, 13, 14, 11, 12
unfoldable pub item_rules : Level → Form → List ℕ → ℕ → Bool → List ℕ → Ans (Unit {0})
item_rules l f seen tag last v = do
  _ ← need (ltb 0 (length v)) 7
  _ ← standing l f seen tag last
  valued (rule_of l tag) v

-- both are there, or neither
abbrev pub alike : Bool → Bool → Bool
alike true b = b
alike false b = not b

-- the rules where a pack or a target with these tags ends: 20, 14
unfoldable pub ended : Form → List ℕ → Ans (Unit {0})
ended f tags = do
  _ ← need (alike (has 19 tags) (has 20 tags)) 20
  need (not (is_alone f) || has 17 tags) 14

-- shortest form: no leading zero byte, but one byte at least
unfoldable pub strip : List ℕ → List ℕ
strip [] = []
strip (x ∷ s) = elim (eqb x 0 && not (none? s)) [ true ↦ strip s | false ↦ x ∷ s ]

-- only N and P items are numbers
unfoldable pub short : Rule → List ℕ → List ℕ
short r v = elim (is_number r.kind) [ true ↦ strip v | false ↦ v ]
