-- Tags: which may be named and where they may stand.
use mathlib.Core.Path.{◌≡◌, refl}
use Prim.Native.Nat.{ℕ, ◌≤◌, ◌<◌}
use mathlib.Core.Bool.{Bool, true, false, not, ◌&&◌, ◌||◌}
use mathlib.Core.List.{List, [], ◌∷◌}
use lib.Dec.{ltb, leb, eqb}
use borrow.Author.Tests.{ltb-true, leb-true, lt-ltb, le-leb, not-true, eqb-true}
use Rattle.format.specs.Table.{Form, embedded, standalone, Level, set, pack, is_alone, is_set, nameable, may_stand, may_begin}
use Rattle.format.proofs.Words.Answers.{and_both, or_neither}

module _ (l : Level) (tag : ℕ) (h : nameable l tag ≡ true) where
  nameable_parts : (0 < tag) × (tag ≤ 16383) × (is_set l && (eqb tag 1 || eqb tag 101) ≡ false)
  unfolding nameable
  nameable_parts =
      let (ab, c) = and_both (ltb 0 tag && leb tag 16383) (not (is_set l && (eqb tag 1 || eqb tag 101))) h in
      let (a, b) = and_both (ltb 0 tag) (leb tag 16383) ab in
      (ltb-true 0 tag a, leb-true tag 16383 b, not-true _ c)

  pub nameable_low : 0 < tag
  nameable_low = nameable_parts.0

  pub nameable_high : tag ≤ 16383
  nameable_high = nameable_parts.1

pub nameable_set : (tag : ℕ) → nameable set tag ≡ true → (eqb tag 1 ≡ false) × (eqb tag 101 ≡ false)
nameable_set tag h = or_neither (eqb tag 1) (eqb tag 101) (nameable_parts set tag h).2

pub set_nameable : (tag : ℕ) → 0 < tag → tag ≤ 16383 → eqb tag 1 ≡ false → eqb tag 101 ≡ false → nameable set tag ≡ true
unfolding nameable
set_nameable tag p q a b = rw (lt-ltb 0 tag p, le-leb tag 16383 q, a, b)

pub pack_nameable : (tag : ℕ) → 0 < tag → tag ≤ 16383 → nameable pack tag ≡ true
unfolding nameable
pack_nameable tag p q = rw (lt-ltb 0 tag p, le-leb tag 16383 q)

-- no item that may be named is the checksum
pub not_seal : (l : Level) (tag : ℕ) → nameable l tag ≡ true → is_set l && eqb tag 1 ≡ false
not_seal set tag h = (nameable_set tag h).0
not_seal pack tag h = refl

-- but for the checksum, where an item may stand does not hang on what follows it
pub stands_anywhere : (l : Level) (f : Form) (tag : ℕ) (last last' : Bool) → is_set l && eqb tag 1 ≡ false → may_stand l f tag last ≡ may_stand l f tag last'
unfolding may_stand
stands_anywhere set f tag last last' e = rw e
stands_anywhere pack f tag last last' e = refl

-- of the set, only the checksum may be barred
pub set_stands : (f : Form) (tag : ℕ) (last : Bool) → eqb tag 1 ≡ false → may_stand set f tag last ≡ true
unfolding may_stand
set_stands f tag last e = rw e

-- the checksum stands at the very end, in standalone
pub seal_stands : (f : Form) (tag : ℕ) (last : Bool) → eqb tag 1 ≡ true → may_stand set f tag last ≡ true → (is_alone f ≡ true) × (last ≡ true)
unfolding may_stand
seal_stands f tag last e h = and_both (is_alone f) last (rw e at h)

-- only the first item of a standalone set is asked
pub begin_later : (l : Level) (f : Form) (k : ℕ) (seen : List ℕ) (tag : ℕ) → may_begin l f tag (k ∷ seen) ≡ true
unfolding may_begin
begin_later set embedded k seen tag = refl
begin_later set standalone k seen tag = refl
begin_later pack f k seen tag = refl

pub begin_pack : (f : Form) (tag : ℕ) (seen : List ℕ) → may_begin pack f tag seen ≡ true
unfolding may_begin
begin_pack f tag seen = refl

pub begin_two : (seen : List ℕ) → may_begin set standalone 2 seen ≡ true
unfolding may_begin
begin_two [] = refl
begin_two (k ∷ seen) = refl

pub begin_embedded : (tag : ℕ) (seen : List ℕ) → may_begin set embedded tag seen ≡ true
unfolding may_begin
begin_embedded tag seen = refl

pub begins_two : (tag : ℕ) → may_begin set standalone tag [] ≡ true → tag ≡ 2
unfolding may_begin
begins_two tag h = eqb-true tag 2 h
