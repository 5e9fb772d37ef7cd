-- What a spot says of a list, and one change to the list as one splice of its bytes: for anything that lies flat, and any test.
use mathlib.Core.Path.{◌≡◌, refl, sym, ap, ◌∙◌}
use mathlib.Core.Logic.{◌⊎◌, inl, inr}
use Prim.Native.Nat.{ℕ, ◌+◌, ◌≤◌, ◌<◌}
use native.Mathlib.Omega.{arith}
use mathlib.Core.Bool.{Bool, true, false}
use mathlib.Core.List.{List, [], ◌∷◌, ◌++◌, append_assoc, append-nil, map}
use lib.ListN.{length, drop, length-append}
use lib.Seq.{take_at, drop-drop, drop_at}
use lib.Dec.{eqb}
use Rattle.format.specs.Answer.{Ans, ok, refused}
use Rattle.format.specs.Lists.{has, flat_all, put_in, take_out, on_hit, ask_hit}
use Rattle.format.specs.Valid.{All}
use Rattle.format.proofs.Words.Answers.{never, ok_inj}
use Rattle.format.proofs.Words.Flats.{flat_append, flat_snoc}
use Rattle.format.proofs.Words.Keys.{all_left, all_both}
use Rattle.find.specs.declared.Spot.{Spot}
use Rattle.find.specs.Spots.{spot, no_spot, spot_in, Missed, Hit, splice}

pub all_snoc : {X : Type 0} (P : X → Type 0) (xs : List X) (y : X) → All P xs → P y → All P (xs ++ (y ∷ []))
all_snoc P [] y h g = (g, tt)
all_snoc P (x ∷ xs) y h g = (h.0, all_snoc P xs y h.1 g)

-- ---- a splice of bytes

splice_mid : (a m c new : List ℕ) (k n : ℕ) → k ≡ length a → n ≡ k + length m → splice (a ++ (m ++ c)) k n new ≡ a ++ (new ++ c)
unfolding splice
splice_mid a m c new k n ek en =
    let d : drop n (a ++ (m ++ c)) ≡ c
    = ap (λ j. drop j (a ++ (m ++ c))) en ∙ sym (drop-drop (length m) k (a ++ (m ++ c))) ∙ ap (drop (length m)) (drop_at a (m ++ c) k (sym ek)) ∙ drop_at m c (length m) refl in
    rw (take_at a (m ++ c) k (sym ek), d)

-- ---- the first hit

module _ {X : Type 0} (hit : X → Bool) where
  pub place : (xs : List X) → Hit hit xs ⊎ Missed hit xs
  place [] = inr tt
  place (x ∷ xs) = go (place xs) (hit x) refl
    where
      go : Hit hit xs ⊎ Missed hit xs → (b : Bool) → hit x ≡ b → Hit hit (x ∷ xs) ⊎ Missed hit (x ∷ xs)
      go ih true z = inl (record { before = []; it = x; later = xs; list_is = refl; missed = tt; hits = z })
      go (inl a) false z = inl (record { before = x ∷ a.before; it = a.it; later = a.later; list_is = ap (λ r. x ∷ r) a.list_is; missed = (z, a.missed); hits = a.hits })
      go (inr m) false z = inr (z, m)

  -- ---- put_in, take_out and on_hit, past what does not hit

  put_past : (x : X) (xs ys : List X) → Missed hit xs → put_in hit x (xs ++ ys) ≡ xs ++ put_in hit x ys
  unfolding put_in
  put_past x [] ys m = refl
  put_past x (y ∷ xs) ys m = rw (m.0, put_in) (ap (λ r. y ∷ r) (put_past x xs ys m.1))

  out_past : (xs ys : List X) → Missed hit xs → take_out hit (xs ++ ys) ≡ xs ++ take_out hit ys
  unfolding take_out
  out_past [] ys m = refl
  out_past (y ∷ xs) ys m = rw (m.0, take_out) (ap (λ r. y ∷ r) (out_past xs ys m.1))

  on_past : (f : X → X) (xs ys : List X) → Missed hit xs → on_hit hit f (xs ++ ys) ≡ xs ++ on_hit hit f ys
  unfolding on_hit
  on_past f [] ys m = refl
  on_past f (y ∷ xs) ys m = rw (m.0, on_hit) (ap (λ r. y ∷ r) (on_past f xs ys m.1))

  ask_past : {A : Type 0} (g : X → Ans A) (xs ys : List X) → Missed hit xs → ask_hit hit g (xs ++ ys) ≡ ask_hit hit g ys
  unfolding ask_hit
  ask_past g [] ys m = refl
  ask_past g (y ∷ xs) ys m = rw (m.0, ask_hit) (ask_past g xs ys m.1)

  module _ {xs : List X} (a : Hit hit xs) where
    pub put_hit : (x : X) → put_in hit x xs ≡ a.before ++ x ∷ a.later
    unfolding put_in
    put_hit x = ap (put_in hit x) a.list_is ∙ put_past x a.before (a.it ∷ a.later) a.missed ∙ rw (a.hits, put_in)

    pub out_hit : take_out hit xs ≡ a.before ++ a.later
    unfolding take_out
    out_hit = ap (take_out hit) a.list_is ∙ out_past a.before (a.it ∷ a.later) a.missed ∙ rw (a.hits, take_out)

    pub on_hit_lem : (f : X → X) → on_hit hit f xs ≡ a.before ++ f a.it ∷ a.later
    unfolding on_hit
    on_hit_lem f = ap (on_hit hit f) a.list_is ∙ on_past f a.before (a.it ∷ a.later) a.missed ∙ rw (a.hits, on_hit)

    pub ask_hit_lem : {A : Type 0} (g : X → Ans A) → ask_hit hit g xs ≡ g a.it
    unfolding ask_hit
    ask_hit_lem g = ap (ask_hit hit g) a.list_is ∙ ask_past g a.before (a.it ∷ a.later) a.missed ∙ rw (a.hits, ask_hit)

  module _ (xs : List X) (m : Missed hit xs) where
    pub put_absent : (x : X) → put_in hit x xs ≡ xs ++ (x ∷ [])
    unfolding put_in
    put_absent x = ap (put_in hit x) (sym (append-nil xs)) ∙ put_past x xs [] m

    pub out_absent : take_out hit xs ≡ xs
    unfolding take_out
    out_absent = ap (take_out hit) (sym (append-nil xs)) ∙ out_past xs [] m ∙ append-nil xs

    pub ask_absent : {A : Type 0} (g : X → Ans A) → ask_hit hit g xs ≡ refused 18 0
    unfolding ask_hit
    ask_absent g = ap (ask_hit hit g) (sym (append-nil xs)) ∙ ask_past g xs [] m

module _ {X : Type 0} (hit : X → Bool) (flat : X → List ℕ) where
  -- ---- the bytes of a list with a hit

  parts_flat : (before : List X) (y : X) (later : List X) → flat_all flat (before ++ y ∷ later) ≡ flat_all flat before ++ (flat y ++ flat_all flat later)
  unfolding flat_all
  parts_flat before y later = flat_append flat before (y ∷ later)

  pub hit_flat : {xs : List X} (a : Hit hit xs) → flat_all flat xs ≡ flat_all flat a.before ++ (flat a.it ++ flat_all flat a.later)
  hit_flat a = ap (flat_all flat) a.list_is ∙ parts_flat a.before a.it a.later

  -- ---- what a spot says

  module _ (body from : X → ℕ) where
    -- past what does not hit
    pub spot_past : (k : ℕ) (xs ys : List X) → Missed hit xs → spot_in hit flat body from k (xs ++ ys) ≡ spot_in hit flat body from (k + length (flat_all flat xs)) ys
    unfolding spot_in flat_all
    spot_past k [] ys m = ap (λ n. spot_in hit flat body from n ys) (omega arith)
    spot_past k (x ∷ xs) ys m =
        rw (m.0, spot_in) (spot_past (k + length (flat x)) xs ys m.1 ∙ ap (λ n. spot_in hit flat body from n ys) (simp length-append (omega arith)))

    -- x stands at k
    abbrev standing : ℕ → X → Spot
    standing k x = spot k (k + body x) (k + from x) (k + length (flat x))

    pub spot_hit : (k : ℕ) (x : X) (xs : List X) → hit x ≡ true → spot_in hit flat body from k (x ∷ xs) ≡ standing k x
    unfolding spot_in
    spot_hit k x xs z = rw (z, spot_in)

    pub hit_spot : {xs : List X} (a : Hit hit xs) → spot_in hit flat body from 0 xs ≡ standing (length (flat_all flat a.before)) a.it
    hit_spot a =
        ap (spot_in hit flat body from 0) a.list_is
        ∙ spot_past 0 a.before (a.it ∷ a.later) a.missed
        ∙ spot_hit _ a.it a.later a.hits
        ∙ ap (λ n. standing n a.it) (omega arith)

    pub missed_spot : (xs : List X) → Missed hit xs → spot_in hit flat body from 0 xs ≡ no_spot (length (flat_all flat xs))
    unfolding spot_in
    missed_spot xs m = ap (spot_in hit flat body from 0) (sym (append-nil xs)) ∙ spot_past 0 xs [] m ∙ ap no_spot (omega arith)

    module _ (xs : List X) {a : Spot} (e : a ≡ spot_in hit flat body from 0 xs) where
      pub spot_present : (a.at ≡ a.next → ⊥) → Hit hit xs
      spot_present h = go (place hit xs)
        where
          go : Hit hit xs ⊎ Missed hit xs → Hit hit xs
          go (inl k) = k
          go (inr m) = let z = e ∙ missed_spot xs m in absurd (h (ap (λ x. x.at) z ∙ sym (ap (λ x. x.next) z)))

      -- where nothing lies flat as no bytes
      pub spot_absent : ((x : X) → 0 < length (flat x)) → a.next ≤ a.at → Missed hit xs
      spot_absent some h = go (place hit xs)
        where
          go : Hit hit xs ⊎ Missed hit xs → Missed hit xs
          go (inl k) = let z = e ∙ hit_spot k in absurd (omega (arith, h, ap (λ x. x.at) z, ap (λ x. x.next) z, some k.it))
          go (inr m) = m

    pub spot_room : (xs : List X) → ((spot_in hit flat body from 0 xs).at ≤ (spot_in hit flat body from 0 xs).next) × ((spot_in hit flat body from 0 xs).next ≤ length (flat_all flat xs))
    spot_room xs = go (place hit xs)
      where
        go : Hit hit xs ⊎ Missed hit xs → ((spot_in hit flat body from 0 xs).at ≤ (spot_in hit flat body from 0 xs).next) × ((spot_in hit flat body from 0 xs).next ≤ length (flat_all flat xs))
        go (inl a) = rw (hit_spot a) (omega arith, omega (arith, simp length-append at (ap length (hit_flat a))))
        go (inr m) = rw (missed_spot xs m) (omega arith, omega arith)

    pub spot_lead : (xs : List X) → (spot_in hit flat body from 0 xs).at ≤ (spot_in hit flat body from 0 xs).from
    spot_lead xs = go (place hit xs)
      where
        go : Hit hit xs ⊎ Missed hit xs → (spot_in hit flat body from 0 xs).at ≤ (spot_in hit flat body from 0 xs).from
        go (inl a) = rw (hit_spot a) (omega arith)
        go (inr m) = rw (missed_spot xs m) (omega arith)

    -- what a hit's value begins with lies in its bytes
    pub spot_from : ((x : X) → from x ≤ length (flat x)) → (xs : List X) → (spot_in hit flat body from 0 xs).from ≤ (spot_in hit flat body from 0 xs).next
    spot_from lead xs = go (place hit xs)
      where
        go : Hit hit xs ⊎ Missed hit xs → (spot_in hit flat body from 0 xs).from ≤ (spot_in hit flat body from 0 xs).next
        go (inl a) = rw (hit_spot a) (omega (arith, lead a.it))
        go (inr m) = rw (missed_spot xs m) (omega arith)

    -- ---- one change to the list, one splice of its bytes

    abbrev spliced : List X → List ℕ → List ℕ
    spliced xs new = splice (flat_all flat xs) (spot_in hit flat body from 0 xs).at (spot_in hit flat body from 0 xs).next new

    -- the hit's bytes exchanged
    hit_splice : {xs : List X} (a : Hit hit xs) (new : List ℕ) → spliced xs new ≡ flat_all flat a.before ++ (new ++ flat_all flat a.later)
    hit_splice {xs = xs} a new =
        let z = hit_spot a in
        ap (λ b. splice b (spot_in hit flat body from 0 xs).at (spot_in hit flat body from 0 xs).next new) (hit_flat a)
        ∙ splice_mid (flat_all flat a.before) (flat a.it) (flat_all flat a.later) new _ _ (ap (λ x. x.at) z) (ap (λ x. x.next) z ∙ ap (λ n. n + length (flat a.it)) (sym (ap (λ x. x.at) z)))

    -- bytes put at the end
    missed_splice : (xs : List X) → Missed hit xs → (new : List ℕ) → spliced xs new ≡ flat_all flat xs ++ new
    missed_splice xs m new =
        let z = missed_spot xs m in
        ap (λ b. splice b (spot_in hit flat body from 0 xs).at (spot_in hit flat body from 0 xs).next new) (sym (append-nil (flat_all flat xs)))
        ∙ splice_mid (flat_all flat xs) [] [] new _ _ (ap (λ x. x.at) z) (omega (arith, ap (λ x. x.at) z, ap (λ x. x.next) z)) ∙ ap (λ r. flat_all flat xs ++ r) (append-nil new)

    pub splice_put : (x : X) (xs : List X) → flat_all flat (put_in hit x xs) ≡ spliced xs (flat x)
    splice_put x xs = go (place hit xs)
      where
        go : Hit hit xs ⊎ Missed hit xs → flat_all flat (put_in hit x xs) ≡ spliced xs (flat x)
        go (inl a) = ap (flat_all flat) (put_hit hit a x) ∙ parts_flat a.before x a.later ∙ sym (hit_splice a (flat x))
        go (inr m) = ap (flat_all flat) (put_absent hit xs m x) ∙ flat_snoc flat xs x ∙ sym (missed_splice xs m (flat x))

    pub splice_out : (xs : List X) → flat_all flat (take_out hit xs) ≡ spliced xs []
    splice_out xs = go (place hit xs)
      where
        go : Hit hit xs ⊎ Missed hit xs → flat_all flat (take_out hit xs) ≡ spliced xs []
        go (inl a) = ap (flat_all flat) (out_hit hit a) ∙ flat_append flat a.before a.later ∙ sym (hit_splice a [])
        go (inr m) = ap (flat_all flat) (out_absent hit xs m) ∙ sym (missed_splice xs m [] ∙ append-nil (flat_all flat xs))

-- ---- a hit by a key

module _ {X : Type 0} (key : X → ℕ) (k : ℕ) where
  has_past : (xs ys : List X) → Missed (λ x. eqb (key x) k) xs → has k (map key (xs ++ ys)) ≡ has k (map key ys)
  unfolding has
  has_past [] ys m = refl
  has_past (x ∷ xs) ys m = rw m.0 (has_past xs ys m.1)

  pub has_hit : {xs : List X} → Hit (λ x. eqb (key x) k) xs → has k (map key xs) ≡ true
  unfolding has
  has_hit a = ap (λ r. has k (map key r)) a.list_is ∙ has_past a.before (a.it ∷ a.later) a.missed ∙ rw a.hits

  pub has_absent : (xs : List X) → Missed (λ x. eqb (key x) k) xs → has k (map key xs) ≡ false
  unfolding has
  has_absent xs m = ap (λ r. has k (map key r)) (sym (append-nil xs)) ∙ has_past xs [] m

-- ---- a list that ends with what does not hit

module _ {X : Type 0} (hit : X → Bool) {xs : List X} (ys rest : List X) (e : xs ≡ ys ++ rest) where
  pub absent_too : Missed hit xs → Missed hit ys
  absent_too a = all_left (λ x. hit x ≡ false) ys rest (rw e at a)

  abbrev pub grown : Hit hit ys → Hit hit xs
  grown k = record {
    before = k.before;
    it = k.it;
    later = k.later ++ rest;
    list_is = e ∙ ap (λ r. r ++ rest) k.list_is ∙ append_assoc k.before (k.it ∷ k.later) rest;
    missed = k.missed;
    hits = k.hits;
  }

  module _ (flat : X → List ℕ) (body from : X → ℕ) where
    pub grown_spot : Hit hit ys → spot_in hit flat body from 0 xs ≡ spot_in hit flat body from 0 ys
    grown_spot k = hit_spot hit flat body from (grown k) ∙ sym (hit_spot hit flat body from k)

  -- the first hit is among the others
  module _ (m : Missed hit rest) (flat : X → List ℕ) (body from : X → ℕ) where
    pub narrowed : (a : Hit hit xs) → (k : Hit hit ys) × (k.it ≡ a.it) × (spot_in hit flat body from 0 ys ≡ spot_in hit flat body from 0 xs)
    narrowed a = go (place hit ys)
      where
        go : Hit hit ys ⊎ Missed hit ys → (k : Hit hit ys) × (k.it ≡ a.it) × (spot_in hit flat body from 0 ys ≡ spot_in hit flat body from 0 xs)
        go (inl k) = (k, ok_inj _ _ (sym (ask_hit_lem hit (grown k) (λ x. ok x)) ∙ ask_hit_lem hit a (λ x. ok x)), sym (grown_spot flat body from k))
        go (inr none) = never 18 0 a.it (sym (ask_absent hit xs (rw e (all_both (λ x. hit x ≡ false) ys rest none m)) (λ x. ok x)) ∙ ask_hit_lem hit a (λ x. ok x))

-- ---- a list that grows by one

module _ {X : Type 0} (hit : X → Bool) (flat : X → List ℕ) (body from : X → ℕ) (xs : List X) (y : X) where
  pub snoc_hit : Missed hit xs → hit y ≡ true → (n : ℕ) → n ≡ length (flat_all flat xs) → spot_in hit flat body from 0 (xs ++ (y ∷ [])) ≡ spot n (n + body y) (n + from y) (n + length (flat y))
  snoc_hit m z n e = spot_past hit flat body from 0 xs (y ∷ []) m ∙ spot_hit hit flat body from _ y [] z ∙ ap (λ k. spot k (k + body y) (k + from y) (k + length (flat y))) (omega (arith, e))

  pub snoc_missed : Missed hit xs → hit y ≡ false → (n : ℕ) → n ≡ length (flat_all flat xs) → spot_in hit flat body from 0 (xs ++ (y ∷ [])) ≡ no_spot (n + length (flat y))
  snoc_missed m z n e =
      missed_spot hit flat body from (xs ++ (y ∷ [])) (all_snoc (λ x. hit x ≡ false) xs y m z)
      ∙ ap no_spot (omega (arith, e, ap length (flat_snoc flat xs y), length-append (flat_all flat xs) (flat y)))

-- ---- two spots in one list

module _ {X : Type 0} (flat : X → List ℕ) (body from : X → ℕ) where
  spot_after : (hit : X → Bool) (k : ℕ) (xs : List X) → k ≤ (spot_in hit flat body from k xs).at
  unfolding spot_in
  spot_after hit k [] = omega arith
  spot_after hit k (x ∷ xs) = go (spot_after hit (k + length (flat x)) xs) (hit x) refl
    where
      go : k + length (flat x) ≤ (spot_in hit flat body from (k + length (flat x)) xs).at → (b : Bool) → hit x ≡ b → k ≤ (spot_in hit flat body from k (x ∷ xs)).at
      go ih true z = rw (z, spot_in) (omega arith)
      go ih false z = rw (z, spot_in) (omega (arith, ih))

  -- what hits the one does not hit the other: so one stands before the other, or is the end
  module _ (hit other : X → Bool) (apart : (x : X) → hit x ≡ true → other x ≡ false) (some : (x : X) → 0 < length (flat x)) where
    abbrev Apart : Spot → Spot → Type 0
    Apart p q = ((p.at < p.next) × (p.next ≤ q.at)) ⊎ (q.next ≤ p.at)

    pub spots_apart : (k : ℕ) (xs : List X) → Apart (spot_in hit flat body from k xs) (spot_in other flat body from k xs)
    unfolding spot_in
    spots_apart k [] = inr (omega arith)
    spots_apart k (x ∷ xs) = go (spots_apart (k + length (flat x)) xs) (hit x) refl (other x) refl
      where
        go : Apart (spot_in hit flat body from (k + length (flat x)) xs) (spot_in other flat body from (k + length (flat x)) xs)
            → (b : Bool) → hit x ≡ b → (c : Bool) → other x ≡ c → Apart (spot_in hit flat body from k (x ∷ xs)) (spot_in other flat body from k (x ∷ xs))
        go ih true z c y = rw (z, apart x z, spot_in) (inl (omega (arith, some x), spot_after other (k + length (flat x)) xs))
        go ih false z true y = rw (z, y, spot_in) (inr (spot_after hit (k + length (flat x)) xs))
        go ih false z false y = rw (z, y, spot_in) ih
