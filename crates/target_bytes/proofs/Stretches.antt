-- Tag 6 counted anew in a list of entries, stretch by stretch: it stands at most once, so each stretch has it or keeps its bytes.
use mathlib.Core.Path.{◌≡◌, refl, sym, ap, ◌∙◌}
use mathlib.Core.Logic.{◌⊎◌, inl, inr}
use Prim.Native.Nat.{ℕ, ◌+◌, ◌≤◌, ◌<◌}
use native.Mathlib.Omega.{arith}
use mathlib.Core.Bool.{Bool, true, false}
use mathlib.Core.List.{List, [], ◌∷◌, ◌++◌, append_assoc, map}
use lib.ListN.{length, drop, length-append}
use lib.Dec.{eqb}
use borrow.Author.Tests.{eqb-true}
use Rattle.format.specs.Answer.{ok}
use Rattle.format.specs.Lists.{has, flat_all, on_hit}
use Rattle.format.specs.Packet.{Entry, plain, tag_of_entry, flat_entry}
use Rattle.format.specs.Calls.{item_of}
use Rattle.format.specs.Targets.{count_of, recounted}
use Rattle.format.specs.Valid.{All, Once}
use Rattle.format.proofs.Words.Answers.{never, no_bool}
use Rattle.format.proofs.Words.Flats.{flat_append}
use Rattle.format.proofs.Words.Keys.{all_left, all_both}
use Rattle.format.proofs.Reading.Entries.{plain_flat}
use Rattle.find.specs.declared.around.Series.{Series}
use Rattle.find.specs.Spots.{spot_in, Missed, Hit, has_tag, entry_lead}
use Rattle.find.specs.Series.{tag_spot}
use Rattle.find.proofs.Splices.{place, on_hit_lem, ask_hit_lem, ask_absent, hit_flat, spot_past, hit_spot, has_hit, grown}
use Rattle.find.proofs.Entries.{entry_some}
use Rattle.edit_rules.proofs.Levels.{piece}
use Rattle.target_bytes.specs.Meet.{count_item, counted}
use Rattle.target_bytes.proofs.Counts.{counted_plain, counted_six}

-- ---- the first hit of two lists

pub all_later : {X : Type 0} (P : X → Type 0) (xs ys : List X) → All P (xs ++ ys) → All P ys
all_later P [] ys h = h
all_later P (x ∷ xs) ys h = all_later P xs ys h.1

module _ {X : Type 0} (hit : X → Bool) where
  hit_not : {A : Type 0} {xs : List X} → Hit hit xs → Missed hit xs → A
  hit_not {xs = xs} a m = never 18 0 a.it (sym (ask_absent hit xs m (λ x. ok x)) ∙ ask_hit_lem hit a (λ x. ok x))

  module _ (f : X → X) where
    on_none : (xs : List X) → Missed hit xs → on_hit hit f xs ≡ xs
    unfolding on_hit
    on_none [] m = refl
    on_none (x ∷ xs) m = rw (m.0, on_hit) (ap (λ r. x ∷ r) (on_none xs m.1))

    -- at most one of them has it
    pub on_split : (xs ys : List X) → Missed hit xs ⊎ Missed hit ys → on_hit hit f (xs ++ ys) ≡ on_hit hit f xs ++ on_hit hit f ys
    unfolding on_hit
    on_split [] ys h = refl
    on_split (x ∷ xs) ys h = go (on_split xs ys (less h)) h (hit x) refl
      where
        less : Missed hit (x ∷ xs) ⊎ Missed hit ys → Missed hit xs ⊎ Missed hit ys
        less (inl m) = inl m.1
        less (inr m) = inr m

        go : on_hit hit f (xs ++ ys) ≡ on_hit hit f xs ++ on_hit hit f ys → Missed hit (x ∷ xs) ⊎ Missed hit ys → (b : Bool) → hit x ≡ b
            → on_hit hit f (x ∷ xs ++ ys) ≡ on_hit hit f (x ∷ xs) ++ on_hit hit f ys
        go ih k false z = rw (z, on_hit) (ap (λ r. x ∷ r) ih)
        go ih (inl m) true z = no_bool (sym m.0 ∙ z)
        go ih (inr m) true z = rw (z, on_hit) (ap (λ r. f x ∷ xs ++ r) (sym (on_none ys m)))

  -- a spot from k on stands there or further
  pub spot_beyond : (flat : X → List ℕ) (body from : X → ℕ) (k : ℕ) (xs : List X) → k ≤ (spot_in hit flat body from k xs).at
  unfolding spot_in
  spot_beyond flat body from k [] = omega arith
  spot_beyond flat body from k (x ∷ xs) = go (spot_beyond flat body from (k + length (flat x)) xs) (hit x) refl
    where
      go : k + length (flat x) ≤ (spot_in hit flat body from (k + length (flat x)) xs).at → (b : Bool) → hit x ≡ b → k ≤ (spot_in hit flat body from k (x ∷ xs)).at
      go ih true z = rw (z, spot_in) (omega arith)
      go ih false z = rw (z, spot_in) (omega (arith, ih))

module _ {X : Type 0} (key : X → ℕ) (k : ℕ) where
  pub absent_missed : (xs : List X) → has k (map key xs) ≡ false → Missed (λ x. eqb (key x) k) xs
  absent_missed xs e = go (place (λ x. eqb (key x) k) xs)
    where
      go : Hit (λ x. eqb (key x) k) xs ⊎ Missed (λ x. eqb (key x) k) xs → Missed (λ x. eqb (key x) k) xs
      go (inl a) = no_bool (sym e ∙ has_hit key k a)
      go (inr m) = m

  -- a key that stands once stands in one of two lists at most
  pub once_apart : (xs ys : List X) → Once (map key (xs ++ ys)) → Missed (λ x. eqb (key x) k) xs ⊎ Missed (λ x. eqb (key x) k) ys
  once_apart [] ys h = inl tt
  once_apart (x ∷ xs) ys h = go (once_apart xs ys h.1) (eqb (key x) k) refl
    where
      go : Missed (λ x. eqb (key x) k) xs ⊎ Missed (λ x. eqb (key x) k) ys → (b : Bool) → eqb (key x) k ≡ b → Missed (λ x. eqb (key x) k) (x ∷ xs) ⊎ Missed (λ x. eqb (key x) k) ys
      go ih true z = inr (all_later _ xs ys (absent_missed (xs ++ ys) (ap (λ n. has n (map key (xs ++ ys))) (sym (eqb-true (key x) k z)) ∙ h.0)))
      go (inl m) false z = inl (z, m)
      go (inr m) false z = inr m

-- ---- a stretch of the entries

abbrev pub recount : ℕ → List Entry → List Entry
recount n xs = recounted tag_of_entry (λ v. plain (item_of v)) n xs

abbrev pub flatten : List Entry → List ℕ
flatten es = flat_all flat_entry es

abbrev six : Entry → Bool
six e = has_tag 6 e

pub recount_split : (n : ℕ) (xs ys : List Entry) → Missed (has_tag 6) xs ⊎ Missed (has_tag 6) ys → recount n (xs ++ ys) ≡ recount n xs ++ recount n ys
unfolding recounted
recount_split n xs ys h = on_split six _ xs ys h

recount_none : (n : ℕ) (xs : List Entry) → Missed (has_tag 6) xs → flatten (recount n xs) ≡ flatten xs
unfolding recounted
recount_none n xs m = ap flatten (on_none six _ xs m)

recount_hit : (n : ℕ) {xs : List Entry} (k : Hit (has_tag 6) xs) → flatten (recount n xs) ≡ flatten k.before ++ (count_item n ++ flatten k.later)
unfolding recounted flat_all
recount_hit n k =
    ap flatten (on_hit_lem six k _) ∙ flat_append flat_entry k.before (plain (item_of (count_of n)) ∷ k.later) ∙ ap (λ r. flatten k.before ++ (r ++ flatten k.later)) (plain_flat (item_of (count_of n)))

-- x stands from a to b in s, between u and v; r says where tag 6 stands
pub record Stretch (s : List ℕ) (r : Series) (u x v : List Entry) (a b : ℕ) : Type 0 where
  pub rest : List ℕ
  pub bytes : s ≡ flatten (u ++ (x ++ v)) ++ rest
  pub once : Once (map tag_of_entry (u ++ (x ++ v)))
  pub six_is : r.six ≡ (tag_spot 6 (u ++ (x ++ v))).at
  pub after_is : r.after ≡ (tag_spot 6 (u ++ (x ++ v))).next
  pub from_is : a ≡ length (flatten u)
  pub to_is : b ≡ a + length (flatten x)

module _ {s : List ℕ} {r : Series} {u x v : List Entry} {a b : ℕ} (t : Stretch s r u x v a b) where
  from_a : drop a s ≡ flatten x ++ (flatten v ++ t.rest)
  from_a =
      let e : s ≡ flatten u ++ (flatten x ++ (flatten v ++ t.rest)) = t.bytes ∙ ap (λ l. l ++ t.rest) (flat_append flat_entry u (x ++ v) ∙ ap (λ l. flatten u ++ l) (flat_append flat_entry x v)) ∙ simp append_assoc in
      (piece s 0 a (flatten u) _ e (omega (arith, t.from_is))).1

  -- where x does not have it, it stands before a, or from b on
  aside : Missed (has_tag 6) x → (r.six < a) ⊎ (b ≤ r.six)
  aside m = go (place six u)
    where
      go : Hit six u ⊎ Missed six u → (r.six < a) ⊎ (b ≤ r.six)
      go (inl k) =
          let z = ap (λ p. p.at) (hit_spot six flat_entry entry_lead entry_lead (grown six u (x ++ v) refl k)) in
          let l = ap length (hit_flat six flat_entry k) in
          inl (omega (arith, t.six_is, z, t.from_is, simp length-append at l, entry_some k.it))
      go (inr n) =
          let z = ap (λ p. p.at) (ap (tag_spot 6) (sym (append_assoc u x v)) ∙ spot_past six flat_entry entry_lead entry_lead 0 (u ++ x) v (all_both (λ e. six e ≡ false) u x n m)) in
          let l = ap length (flat_append flat_entry u x) in
          inr (omega (arith, t.six_is, z, t.from_is, t.to_is, simp length-append at l, spot_beyond six flat_entry entry_lead entry_lead (0 + length (flatten (u ++ x))) v))

  module _ (k : Hit (has_tag 6) x) where
    not_before : Missed (has_tag 6) u
    not_before = go (once_apart tag_of_entry 6 u (x ++ v) t.once)
      where
        go : Missed six u ⊎ Missed six (x ++ v) → Missed six u
        go (inl m) = m
        go (inr m) = hit_not six k (all_left (λ e. six e ≡ false) x v m)

    abbrev whole : Hit (has_tag 6) (u ++ (x ++ v))
    whole = record {
      before = u ++ k.before;
      it = k.it;
      later = k.later ++ v;
      list_is = ap (λ l. u ++ (l ++ v)) k.list_is ∙ ap (λ l. u ++ l) (append_assoc k.before (k.it ∷ k.later) v) ∙ sym (append_assoc u k.before (k.it ∷ k.later ++ v));
      missed = all_both (λ e. six e ≡ false) u k.before not_before k.missed;
      hits = k.hits;
    }

    hit_bytes : (n : ℕ) → flatten (recount n x) ≡ counted s r n a b
    hit_bytes n =
        let z = hit_spot six flat_entry entry_lead entry_lead whole in
        let l : length (flatten (u ++ k.before)) ≡ length (flatten u) + length (flatten k.before) = ap length (flat_append flat_entry u k.before) ∙ length-append (flatten u) _ in
        let at_is : r.six ≡ a + length (flatten k.before) = omega (arith, t.six_is, ap (λ p. p.at) z, l, t.from_is) in
        let next_is : r.after ≡ r.six + length (flat_entry k.it) = omega (arith, t.after_is, t.six_is, ap (λ p. p.at) z, ap (λ p. p.next) z) in
        let w = hit_flat six flat_entry k in
        let b_is : b ≡ r.after + length (flatten k.later) = omega (arith, t.to_is, simp length-append at (ap length w), at_is, next_is) in
        let (p₁, d₁) = piece s a r.six (flatten k.before) (flat_entry k.it ++ (flatten k.later ++ (flatten v ++ t.rest))) (from_a ∙ ap (λ l. l ++ (flatten v ++ t.rest)) w ∙ simp append_assoc) at_is in
        let (_, d₂) = piece s r.six r.after (flat_entry k.it) _ d₁ next_is in
        let (p₃, _) = piece s r.after b (flatten k.later) _ d₂ b_is in
        recount_hit n k ∙ sym (counted_six s r n a b (omega (arith, at_is)) (omega (arith, b_is, next_is, entry_some k.it)) ∙ rw (p₁, p₃))

  pub recount_bytes : (n : ℕ) → flatten (recount n x) ≡ counted s r n a b
  recount_bytes n = go (place six x)
    where
      go : Hit six x ⊎ Missed six x → flatten (recount n x) ≡ counted s r n a b
      go (inl k) = hit_bytes k n
      go (inr m) = recount_none n x m ∙ sym (counted_plain s r n a b (aside m) ∙ (piece s a b (flatten x) _ from_a t.to_is).0)
