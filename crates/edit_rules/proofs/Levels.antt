-- Levels in bytes: whether a tag stands, the bytes between two places, and one or two changes to a level as two swaps in its bytes.
use mathlib.Core.Path.{◌≡◌, refl, sym, ap, ◌∙◌}
use mathlib.Core.Logic.{◌⊎◌, inl, inr}
use Prim.Native.Nat.{ℕ, ◌+◌, ◌-◌, ◌≤◌, ◌<◌}
use native.Mathlib.Omega.{arith}
use mathlib.Core.Bool.{Bool, true, false}
use mathlib.Core.List.{List, [], ◌∷◌, ◌++◌, append_assoc, append-nil, map}
use lib.ListN.{length, take, drop, length-append, length-drop, take-append-drop}
use lib.Seq.{take_at, drop_at, drop-drop, length-take-le}
use lib.Dec.{eqb, ltb}
use borrow.Author.Tests.{lt-ltb, le-ltb, eqb-true}
use Rattle.format.specs.Lists.{has, flat_all, put_in, take_out}
use Rattle.format.specs.Edit.{Change, put, remove, changed}
use Rattle.find.specs.Spots.{spot_in, Missed, Hit, splice}
use Rattle.find.proofs.Splices.{place, hit_spot, missed_spot, spot_hit, spot_room, splice_put, splice_out, has_hit, has_absent}
use Rattle.edit_rules.specs.Cuts.{part}

-- something with the tag stands, where its spot has bytes
pub has_spot : {X : Type 0} (key : X → ℕ) (tag : ℕ) (flat : X → List ℕ) (body from : X → ℕ) → ((x : X) → 0 < length (flat x)) → (xs : List X) (k a b : ℕ)
    → a ≡ k + (spot_in (λ x. eqb (key x) tag) flat body from 0 xs).at → b ≡ k + (spot_in (λ x. eqb (key x) tag) flat body from 0 xs).next
    → has tag (map key xs) ≡ ltb a b
has_spot key tag flat body from some xs k a b ea eb = go (place (λ x. eqb (key x) tag) xs)
  where
    go : Hit (λ x. eqb (key x) tag) xs ⊎ Missed (λ x. eqb (key x) tag) xs → has tag (map key xs) ≡ ltb a b
    go (inl h) =
        let z = hit_spot (λ x. eqb (key x) tag) flat body from h in
        has_hit key tag h ∙ sym (lt-ltb a b (omega (arith, ea, eb, ap (λ x. x.at) z, ap (λ x. x.next) z, some h.it)))
    go (inr m) =
        let z = missed_spot (λ x. eqb (key x) tag) flat body from xs m in
        has_absent key tag xs m ∙ sym (le-ltb a b (omega (arith, ea, eb, ap (λ x. x.at) z, ap (λ x. x.next) z)))

-- ---- the bytes between two places

pub piece : (s : List ℕ) (a b : ℕ) (p r : List ℕ) → drop a s ≡ p ++ r → b ≡ a + length p → (part s a b ≡ p) × (drop b s ≡ r)
piece s a b p r e h =
    let n : length p ≡ b - a = omega arith in
    (ap (take (b - a)) e ∙ take_at p r (b - a) n, ap (λ k. drop k s) h ∙ sym (drop-drop (length p) a s) ∙ ap (drop (length p)) e ∙ drop_at p r (length p) refl)

-- ---- swaps

-- the bytes from a to n exchanged for i
pub record Swap (old new : List ℕ) (a n : ℕ) (i : List ℕ) : Type 0 where
  pub front : List ℕ
  pub gone : List ℕ
  pub back : List ℕ
  pub was : old ≡ front ++ (gone ++ back)
  pub is : new ≡ front ++ (i ++ back)
  pub at_is : a ≡ length front
  pub next_is : n ≡ a + length gone

splice_swap : (o : List ℕ) (a n : ℕ) (i : List ℕ) → (a ≤ n) × (n ≤ length o) → {new : List ℕ} → new ≡ splice o a n i → Swap o new a n i
unfolding splice
splice_swap o a n i h e =
    let z : a + (n - a) ≡ n = omega arith in
    record {
      front = take a o;
      gone = take (n - a) (drop a o);
      back = drop n o;
      was = sym (take-append-drop a o)
          ∙ ap (λ r. take a o ++ r) (sym (take-append-drop (n - a) (drop a o)) ∙ ap (λ r. take (n - a) (drop a o) ++ r) (drop-drop (n - a) a o ∙ ap (λ k. drop k o) z));
      is = e;
      at_is = sym (length-take-le a o (omega arith));
      next_is = omega (arith, length-take-le (n - a) (drop a o) (rw length-drop (omega arith)));
    }

-- two: the bytes from a to n exchanged for i, and those from b to m for j
pub record Swapped (old new : List ℕ) (a n : ℕ) (i : List ℕ) (b m : ℕ) (j : List ℕ) : Type 0 where
  pub front : List ℕ
  pub gone : List ℕ
  pub mid : List ℕ
  pub gone' : List ℕ
  pub back : List ℕ
  pub was : old ≡ front ++ (gone ++ (mid ++ (gone' ++ back)))
  pub is : new ≡ front ++ (i ++ (mid ++ (j ++ back)))
  pub low_at : a ≡ length front
  pub low_next : n ≡ a + length gone
  pub high_at : b ≡ n + length mid
  pub high_next : m ≡ b + length gone'

-- one, and then nothing
abbrev pub alone : {old new : List ℕ} {a n : ℕ} {i : List ℕ} → Swap old new a n i → Swapped old new a n i n n []
alone x = record {
  front = x.front;
  gone = x.gone;
  mid = [];
  gone' = [];
  back = x.back;
  was = x.was;
  is = x.is;
  low_at = x.at_is;
  low_next = x.next_is;
  high_at = omega arith;
  high_next = omega arith;
}

-- bytes that stand before, be they exchanged or kept
lower : {old new : List ℕ} (g i : List ℕ) {a n : ℕ} {j : List ℕ} → Swap old new a n j → (b m : ℕ) → b ≡ length g + a → m ≡ length g + n
    → (k l : ℕ) → k ≡ 0 → l ≡ length g → Swapped (g ++ old) (i ++ new) k l i b m j
lower g i x b m eb em k l ek el = record {
  front = [];
  gone = g;
  mid = x.front;
  gone' = x.gone;
  back = x.back;
  was = ap (λ r. g ++ r) x.was;
  is = ap (λ r. i ++ r) x.is;
  low_at = ek;
  low_next = omega (arith, ek, el);
  high_at = omega (arith, eb, el, x.at_is);
  high_next = omega (arith, em, eb, x.next_is);
}

further : (g : List ℕ) {old new : List ℕ} {a n : ℕ} {i : List ℕ} {b m : ℕ} {j : List ℕ} → Swapped old new a n i b m j → (a' n' b' m' : ℕ)
    → a' ≡ length g + a → n' ≡ length g + n → b' ≡ length g + b → m' ≡ length g + m → Swapped (g ++ old) (g ++ new) a' n' i b' m' j
further g {i = i} {j = j} x a' n' b' m' ea en eb em = record {
  front = g ++ x.front;
  gone = x.gone;
  mid = x.mid;
  gone' = x.gone';
  back = x.back;
  was = ap (λ r. g ++ r) x.was ∙ sym (append_assoc g x.front _);
  is = ap (λ r. g ++ r) x.is ∙ sym (append_assoc g x.front _);
  low_at = simp length-append (omega (arith, ea, x.low_at));
  low_next = omega (arith, ea, en, x.low_next);
  high_at = omega (arith, en, eb, x.high_at);
  high_next = omega (arith, eb, em, x.high_next);
}

-- ---- changes to a level

module _ {X : Type 0} (flat : X → List ℕ) (body from : X → ℕ) (key : X → ℕ) (make : ℕ → List ℕ → X) where
  -- what a change puts, and its bytes
  abbrev made : ℕ → Change → List X
  made tag (put v) = make tag v ∷ []
  made tag remove = []

  abbrev pub made_bytes : ℕ → Change → List ℕ
  made_bytes tag (put v) = flat (make tag v)
  made_bytes tag remove = []

  made_flat : (tag : ℕ) (c : Change) (xs : List X) → flat_all flat (made tag c ++ xs) ≡ made_bytes tag c ++ flat_all flat xs
  unfolding flat_all
  made_flat tag (put v) xs = refl
  made_flat tag remove xs = refl

  abbrev hit : ℕ → X → Bool
  hit tag x = eqb (key x) tag

  abbrev at : ℕ → List X → ℕ
  at tag xs = (spot_in (hit tag) flat body from 0 xs).at

  abbrev next : ℕ → List X → ℕ
  next tag xs = (spot_in (hit tag) flat body from 0 xs).next

  pub one_swap : (tag : ℕ) (c : Change) (xs : List X) → Swap (flat_all flat xs) (flat_all flat (changed key make tag c xs)) (at tag xs) (next tag xs) (made_bytes tag c)
  unfolding changed
  one_swap tag (put v) xs = splice_swap _ _ _ (flat (make tag v)) (spot_room (hit tag) flat body from xs) (splice_put (hit tag) flat body from (make tag v) xs)
  one_swap tag remove xs = splice_swap _ _ _ [] (spot_room (hit tag) flat body from xs) (splice_out (hit tag) flat body from xs)

  -- ---- a change, by the head of the list

  changed_none : (tag : ℕ) (c : Change) → changed key make tag c [] ≡ made tag c
  unfolding changed put_in take_out
  changed_none tag (put v) = refl
  changed_none tag remove = refl

  changed_here : (tag : ℕ) (c : Change) (x : X) (xs : List X) → eqb (key x) tag ≡ true → changed key make tag c (x ∷ xs) ≡ made tag c ++ xs
  unfolding changed put_in take_out
  changed_here tag (put v) x xs z = rw (z, put_in)
  changed_here tag remove x xs z = rw (z, take_out)

  changed_later : (tag : ℕ) (c : Change) (x : X) (xs : List X) → eqb (key x) tag ≡ false → changed key make tag c (x ∷ xs) ≡ x ∷ changed key make tag c xs
  unfolding changed put_in take_out
  changed_later tag (put v) x xs z = rw (z, put_in)
  changed_later tag remove x xs z = rw (z, take_out)

  -- ---- a spot, by the head of the list

  spot_miss : (tag k : ℕ) (x : X) (xs : List X) → eqb (key x) tag ≡ false → spot_in (hit tag) flat body from k (x ∷ xs) ≡ spot_in (hit tag) flat body from (k + length (flat x)) xs
  unfolding spot_in
  spot_miss tag k x xs z = rw (z, spot_in)

  spot_from : (tag k : ℕ) (xs : List X) → ((spot_in (hit tag) flat body from k xs).at ≡ k + at tag xs) × ((spot_in (hit tag) flat body from k xs).next ≡ k + next tag xs)
  unfolding spot_in
  spot_from tag k [] = (omega arith, omega arith)
  spot_from tag k (x ∷ xs) = go (spot_from tag (k + length (flat x)) xs) (spot_from tag (0 + length (flat x)) xs) (eqb (key x) tag) refl
    where
      go : ((spot_in (hit tag) flat body from (k + length (flat x)) xs).at ≡ k + length (flat x) + at tag xs) × ((spot_in (hit tag) flat body from (k + length (flat x)) xs).next ≡ k + length (flat x) + next tag xs)
          → ((spot_in (hit tag) flat body from (0 + length (flat x)) xs).at ≡ 0 + length (flat x) + at tag xs) × ((spot_in (hit tag) flat body from (0 + length (flat x)) xs).next ≡ 0 + length (flat x) + next tag xs)
          → (b : Bool) → eqb (key x) tag ≡ b
          → ((spot_in (hit tag) flat body from k (x ∷ xs)).at ≡ k + at tag (x ∷ xs)) × ((spot_in (hit tag) flat body from k (x ∷ xs)).next ≡ k + next tag (x ∷ xs))
      go ih ih₀ true z =
          let e = spot_hit (hit tag) flat body from k x xs z in
          let e₀ = spot_hit (hit tag) flat body from 0 x xs z in
          (omega (arith, ap (λ r. r.at) e, ap (λ r. r.at) e₀), omega (arith, ap (λ r. r.next) e, ap (λ r. r.next) e₀))
      go ih ih₀ false z =
          let e = spot_miss tag k x xs z in
          let e₀ = spot_miss tag 0 x xs z in
          (omega (arith, ap (λ r. r.at) e, ap (λ r. r.at) e₀, ih, ih₀), omega (arith, ap (λ r. r.next) e, ap (λ r. r.next) e₀, ih, ih₀))

  spot_here : (tag : ℕ) (x : X) (xs : List X) → eqb (key x) tag ≡ true → (at tag (x ∷ xs) ≡ 0) × (next tag (x ∷ xs) ≡ length (flat x))
  spot_here tag x xs z =
      let e = spot_hit (hit tag) flat body from 0 x xs z in
      (ap (λ r. r.at) e, ap (λ r. r.next) e ∙ omega arith)

  spot_later : (tag : ℕ) (x : X) (xs : List X) → eqb (key x) tag ≡ false → (at tag (x ∷ xs) ≡ length (flat x) + at tag xs) × (next tag (x ∷ xs) ≡ length (flat x) + next tag xs)
  spot_later tag x xs z =
      let e = spot_miss tag 0 x xs z in
      let h = spot_from tag (0 + length (flat x)) xs in
      (omega (arith, ap (λ r. r.at) e, h), omega (arith, ap (λ r. r.next) e, h))

  -- ---- two changes, of different tags

  module _ (keyed : (tag : ℕ) (v : List ℕ) → key (make tag v) ≡ tag) (some : (x : X) → 0 < length (flat x)) where
    -- the second leaves what the first put
    changed_past : (t : ℕ) (c : Change) (u : ℕ) (d : Change) → eqb t u ≡ false → (xs : List X) → changed key make u d (made t c ++ xs) ≡ made t c ++ changed key make u d xs
    changed_past t (put v) u d o xs = changed_later u d (make t v) xs (ap (λ k. eqb k u) (keyed t v) ∙ o)
    changed_past t remove u d o xs = refl

    module _ (t : ℕ) (c : Change) (u : ℕ) (d : Change) (o : eqb t u ≡ false) where
      abbrev Low : List X → Type 0
      Low xs = Swapped (flat_all flat xs) (flat_all flat (changed key make u d (changed key make t c xs))) (at t xs) (next t xs) (made_bytes t c) (at u xs) (next u xs) (made_bytes u d)

      abbrev High : List X → Type 0
      High xs = Swapped (flat_all flat xs) (flat_all flat (changed key make u d (changed key make t c xs))) (at u xs) (next u xs) (made_bytes u d) (at t xs) (next t xs) (made_bytes t c)

      -- the first is the lower, or the second is
      abbrev pub Two : List X → Type 0
      Two xs = ((at t xs ≤ at u xs) × Low xs) ⊎ ((at u xs < at t xs) × High xs)

      both_none : Two []
      unfolding flat_all spot_in
      both_none =
          let e : flat_all flat (changed key make u d (changed key make t c [])) ≡ made_bytes t c ++ (made_bytes u d ++ [])
          = ap (λ r. flat_all flat (changed key make u d r)) (changed_none t c ∙ sym (append-nil _)) ∙ ap (flat_all flat) (changed_past t c u d o [] ∙ ap (λ r. made t c ++ r) (changed_none u d ∙ sym (append-nil _)))
          ∙ made_flat t c _ ∙ ap (λ r. made_bytes t c ++ r) (made_flat u d []) in
          inl (
            omega arith,
            record { front = []; gone = []; mid = []; gone' = []; back = []; was = refl; is = e; low_at = refl; low_next = refl; high_at = refl; high_next = refl },
          )

      first_here : (x : X) (xs : List X) → eqb (key x) t ≡ true → Two (x ∷ xs)
      unfolding flat_all
      first_here x xs z =
          let (a₁, n₁) = spot_here t x xs z in
          let (a₂, n₂) = spot_later u x xs (ap (λ k. eqb k u) (eqb-true (key x) t z) ∙ o) in
          let e : flat_all flat (changed key make u d (changed key make t c (x ∷ xs))) ≡ made_bytes t c ++ flat_all flat (changed key make u d xs)
          = ap (λ r. flat_all flat (changed key make u d r)) (changed_here t c x xs z) ∙ ap (flat_all flat) (changed_past t c u d o xs) ∙ made_flat t c _ in
          inl (omega (arith, a₁), rw e (lower (flat x) (made_bytes t c) (one_swap u d xs) _ _ a₂ n₂ _ _ a₁ n₁))

      second_here : (x : X) (xs : List X) → eqb (key x) t ≡ false → eqb (key x) u ≡ true → Two (x ∷ xs)
      unfolding flat_all
      second_here x xs y z =
          let (a₁, n₁) = spot_later t x xs y in
          let (a₂, n₂) = spot_here u x xs z in
          let e : flat_all flat (changed key make u d (changed key make t c (x ∷ xs))) ≡ made_bytes u d ++ flat_all flat (changed key make t c xs)
          = ap (λ r. flat_all flat (changed key make u d r)) (changed_later t c x xs y) ∙ ap (flat_all flat) (changed_here u d x _ z) ∙ made_flat u d _ in
          inr (omega (arith, a₁, a₂, some x), rw e (lower (flat x) (made_bytes u d) (one_swap t c xs) _ _ a₁ n₁ _ _ a₂ n₂))

      both_later : (x : X) (xs : List X) → eqb (key x) t ≡ false → eqb (key x) u ≡ false → Two xs → Two (x ∷ xs)
      unfolding flat_all
      both_later x xs y z h =
          let (a₁, n₁) = spot_later t x xs y in
          let (a₂, n₂) = spot_later u x xs z in
          let e : flat_all flat (changed key make u d (changed key make t c (x ∷ xs))) ≡ flat x ++ flat_all flat (changed key make u d (changed key make t c xs))
          = ap (λ r. flat_all flat (changed key make u d r)) (changed_later t c x xs y) ∙ ap (flat_all flat) (changed_later u d x _ z) in
          go e a₁ n₁ a₂ n₂ h
        where
          go : flat_all flat (changed key make u d (changed key make t c (x ∷ xs))) ≡ flat x ++ flat_all flat (changed key make u d (changed key make t c xs))
              → at t (x ∷ xs) ≡ length (flat x) + at t xs → next t (x ∷ xs) ≡ length (flat x) + next t xs → at u (x ∷ xs) ≡ length (flat x) + at u xs → next u (x ∷ xs) ≡ length (flat x) + next u xs
              → Two xs → Two (x ∷ xs)
          go e a₁ n₁ a₂ n₂ (inl (l, w)) = inl (omega arith, rw e (further (flat x) w _ _ _ _ a₁ n₁ a₂ n₂))
          go e a₁ n₁ a₂ n₂ (inr (l, w)) = inr (omega arith, rw e (further (flat x) w _ _ _ _ a₂ n₂ a₁ n₁))

      pub two_swapped : (xs : List X) → Two xs
      two_swapped [] = both_none
      two_swapped (x ∷ xs) = go (two_swapped xs) (eqb (key x) t) refl (eqb (key x) u) refl
        where
          go : Two xs → (p : Bool) → eqb (key x) t ≡ p → (q : Bool) → eqb (key x) u ≡ q → Two (x ∷ xs)
          go ih true y q z = first_here x xs y
          go ih false y true z = second_here x xs y z
          go ih false y false z = both_later x xs y z ih
