-- Laws of a run, for any step: what it took is its things laid flat, and such things are read back.
use mathlib.Core.Path.{◌≡◌, refl, sym, ap, ◌∙◌}
use Prim.Native.Nat.{ℕ, zero, suc, ◌+◌, ◌-◌, ◌<◌}
use native.Mathlib.Omega.{arith}
use mathlib.Core.Bool.{Bool, true, false}
use mathlib.Core.List.{List, [], ◌∷◌, ◌++◌, append_assoc, append-nil, map}
use lib.ListN.{length, drop, length-append}
use lib.Seq.{drop-nil, drop-append_seam}
use Rattle.format.specs.Answer.{ok, Got, got, ◌>>=◌, after}
use Rattle.format.specs.Coding.{Bytes}
use Rattle.format.specs.Lists.{has, flat_all}
use Rattle.format.specs.Run.{Step, always, skip, run}
use Rattle.format.specs.Valid.{All, Together}
use Rattle.format.proofs.Words.Answers.{no_bool, bind_then, after_then, ok_inj}
use Rattle.format.proofs.Words.Bytes.{bytes_right, Took, took_length}
use Rattle.format.proofs.Words.Keys.{Fresh, fresh_says, once_fresh, past}
use Rattle.format.proofs.Words.Flats.{flat_snoc}

-- ---- facts along a list: P of the keys seen before a thing, the thing, and the bytes after it

module _ {X : Type 0} (key : X → ℕ) (flat : X → List ℕ) where
  abbrev pub Along : (List ℕ → X → List ℕ → Type 0) → List ℕ → List X → List ℕ → Type 0
  Along P seen [] t = Unit {0}
  Along P seen (x ∷ xs) t = P seen x (flat_all flat xs ++ t) × Along P (key x ∷ seen) xs t

  -- one fact from another, of bytes
  pub along_map : (P Q : List ℕ → X → List ℕ → Type 0) → ((seen : List ℕ) (x : X) (t : List ℕ) → Bytes (flat x ++ t) → P seen x t → Q seen x t)
      → (seen : List ℕ) (xs : List X) (t : List ℕ) → Bytes (flat_all flat xs ++ t) → Along P seen xs t → Along Q seen xs t
  unfolding flat_all
  along_map P Q g seen [] t b h = tt
  along_map P Q g seen (x ∷ xs) t b h =
      let b₁ : Bytes (flat x ++ (flat_all flat xs ++ t)) = rw append_assoc at b in
      (g seen x _ b₁ h.0, along_map P Q g (key x ∷ seen) xs t (bytes_right (flat x) _ b₁) h.1)

  -- a fact that knows neither keys nor what follows
  pub along_all : (P : List ℕ → X → List ℕ → Type 0) (Q : X → Type 0) → ((seen : List ℕ) (x : X) (t : List ℕ) → P seen x t → Q x)
      → (seen : List ℕ) (xs : List X) (t : List ℕ) → Along P seen xs t → All Q xs
  along_all P Q g seen [] t h = tt
  along_all P Q g seen (x ∷ xs) t h = (g seen x _ h.0, along_all P Q g (key x ∷ seen) xs t h.1)

  pub along_fresh : (P : List ℕ → X → List ℕ → Type 0) → ((seen : List ℕ) (x : X) (t : List ℕ) → P seen x t → has (key x) seen ≡ false)
      → (seen : List ℕ) (xs : List X) (t : List ℕ) → Along P seen xs t → Fresh seen (map key xs)
  along_fresh P g seen [] t h = tt
  along_fresh P g seen (x ∷ xs) t h = (g seen x _ h.0, along_fresh P g (key x ∷ seen) xs t h.1)

  -- The other way. B is what the first asks, and every later one has; T is known of the bytes that follow a thing.
  abbrev pub First : (List ℕ → ℕ → Type 0) → List ℕ → List X → Type 0
  First B seen [] = Unit {0}
  First B seen (x ∷ xs) = B seen (key x)

  module _ (P : List ℕ → X → List ℕ → Type 0) (Q : X → Type 0) (B : List ℕ → ℕ → Type 0) (T : List ℕ → Type 0)
      (later : (k : ℕ) (seen : List ℕ) (j : ℕ) → B (k ∷ seen) j) (next : (x : X) (t : List ℕ) → T (flat x ++ t))
      (reads : (seen : List ℕ) (x : X) (t : List ℕ) → has (key x) seen ≡ false → B seen (key x) → T t → Q x → P seen x t) where
    first_later : (k : ℕ) (seen : List ℕ) (xs : List X) → First B (k ∷ seen) xs
    first_later k seen [] = tt
    first_later k seen (y ∷ ys) = later k seen (key y)

    follows : (xs : List X) (t : List ℕ) → T t → T (flat_all flat xs ++ t)
    unfolding flat_all
    follows [] t h = h
    follows (x ∷ xs) t h = rw append_assoc (next x (flat_all flat xs ++ t))

    pub along_from : (seen : List ℕ) (xs : List X) (t : List ℕ) → First B seen xs → T t → Fresh seen (map key xs) → All Q xs → Along P seen xs t
    along_from seen [] t b z f h = tt
    along_from seen (x ∷ xs) t b z f h =
        (reads seen x _ f.0 b (follows xs t z) h.0, along_from (key x ∷ seen) xs t (first_later (key x) seen xs) z f.1 h.1)

  pub along_snoc : (P : List ℕ → X → List ℕ → Type 0) (seen : List ℕ) (xs : List X) (y : X) (t : List ℕ)
      → Along P seen xs (flat y ++ t) → P (past key seen xs) y t → Along P seen (xs ++ (y ∷ [])) t
  unfolding flat_all
  along_snoc P seen [] y t h g = (g, tt)
  along_snoc P seen (x ∷ xs) y t h g = (rw (flat_snoc flat xs y, append_assoc) h.0, along_snoc P (key x ∷ seen) xs y t h.1 g)

-- ---- a step and a run

pub drop_pred : (w b : ℕ) (s : List ℕ) → 0 < w → drop w (b ∷ s) ≡ drop (w - 1) s
drop_pred zero b s h = absurd (omega arith)
drop_pred (suc w) b s h = let e : suc w - 1 ≡ w = omega arith in rw e

-- where a run stops
abbrev pub Stops : (List ℕ → Bool) → List ℕ → Type 0
Stops more [] = Unit {0}
Stops more (b ∷ s) = more (b ∷ s) ≡ false

module _ {X : Type 0} (more : List ℕ → Bool) (key : X → ℕ) (step : Step X) (flat : X → List ℕ) where
  -- what a step takes is what it gives, flat
  abbrev pub Faithful : Type 0
  Faithful = (seen s : List ℕ) (r : Got X) → Bytes s → more s ≡ true → step seen s ≡ ok r → Took (flat r.val) s r.used

  -- a thing is read back where it stands
  pub record ReadsAt (seen : List ℕ) (x : X) (t : List ℕ) : Type 0 where
    pub goes : more (flat x ++ t) ≡ true
    pub reads : step seen (flat x ++ t) ≡ ok (got x (length (flat x)))
    pub some : 0 < length (flat x)

  pub record Ran (seen s : List ℕ) (rs : Got (List X)) : Type 0 where
    pub rest : List ℕ
    pub bytes : s ≡ flat_all flat rs.val ++ rest
    pub used_is : rs.used ≡ length (flat_all flat rs.val)
    pub along : Along key flat ReadsAt seen rs.val rest
    pub stops : Stops more rest

  -- ---- what a run says

  ran_none : (seen s : List ℕ) → Stops more s → Ran seen s (got [] 0)
  unfolding flat_all
  ran_none seen s h = record { rest = s; bytes = refl; used_is = refl; along = tt; stops = h }

  ran_more : (F : Faithful) (seen : List ℕ) (b : ℕ) (s : List ℕ) (r : Got X) (qs : Got (List X)) → Bytes (b ∷ s) → more (b ∷ s) ≡ true → step seen (b ∷ s) ≡ ok r
      → Ran (key r.val ∷ seen) (drop (r.used - 1) s) qs → Ran seen (b ∷ s) (got (r.val ∷ qs.val) (r.used + qs.used))
  unfolding flat_all
  ran_more F seen b s r qs h m e q =
      let t : Took (flat r.val) (b ∷ s) r.used = F seen (b ∷ s) r h m e in
      let l : length (flat r.val) ≡ r.used = took_length _ _ _ t in
      let z : b ∷ s ≡ flat r.val ++ (flat_all flat qs.val ++ q.rest)
      = t.bytes ∙ ap (λ x. flat r.val ++ x) (drop_pred r.used b s t.pos ∙ q.bytes) in
      record {
        rest = q.rest;
        bytes = z ∙ sym (append_assoc (flat r.val) (flat_all flat qs.val) q.rest);
        used_is = rw (length-append, ← q.used_is, l);
        along = (record { goes = rw z at m; reads = rw l (rw z at e); some = omega (arith, l, t.pos) }, q.along);
        stops = q.stops;
      }

  pub skip_says : Faithful → (seen : List ℕ) (k : ℕ) (s : List ℕ) (rs : Got (List X)) → Bytes s → skip more key step seen k s ≡ ok rs → Ran seen (drop k s) rs
  unfolding skip
  skip_says F seen k [] rs h e = rw (← ok_inj _ _ e, drop-nil k) (ran_none seen [] tt)
  skip_says F seen (suc k) (b ∷ s) rs h e = skip_says F seen k s rs (λ i. h (suc i)) e
  skip_says F seen zero (b ∷ s) rs h e = go (λ r qs z. skip_says F (key r.val ∷ seen) (r.used - 1) s qs (λ i. h (suc i)) z) (more (b ∷ s)) refl
    where
      go : ((r : Got X) (qs : Got (List X)) → skip more key step (key r.val ∷ seen) (r.used - 1) s ≡ ok qs → Ran (key r.val ∷ seen) (drop (r.used - 1) s) qs)
          → (m : Bool) → more (b ∷ s) ≡ m → Ran seen (b ∷ s) rs
      go ih false m = rw (← ok_inj _ _ (rw (m, skip) at e)) (ran_none seen (b ∷ s) m)
      go ih true m =
          bind_then _ _ _ (rw (m, skip) at e) λ r er e₁.
          after_then _ _ _ _ e₁ λ qs eq e₂.
          rw (← ok_inj _ _ e₂) (ran_more F seen b s r qs h m er (ih r qs eq))

  pub run_says : Faithful → (s : List ℕ) (rs : Got (List X)) → Bytes s → run more key step s ≡ ok rs → Ran [] s rs
  unfolding run
  run_says F s rs h e = skip_says F [] 0 s rs h e

  -- ---- and the other way

  pub skip_drop : (seen : List ℕ) (k : ℕ) (s : List ℕ) → skip more key step seen k s ≡ skip more key step seen 0 (drop k s)
  unfolding skip
  skip_drop seen zero s = refl
  skip_drop seen (suc k) [] = refl
  skip_drop seen (suc k) (b ∷ s) = skip_drop seen k s

  -- one step of a run, as one expects it
  pub skip_step : (seen s : List ℕ) (r : Got X) → 0 < length s → more s ≡ true → step seen s ≡ ok r → 0 < r.used
      → skip more key step seen 0 s
      ≡ (after r.used (skip more key step (key r.val ∷ seen) 0 (drop r.used s)) >>= λ rs. ok (got (r.val ∷ rs.val) (r.used + rs.used)))
  unfolding skip ◌>>=◌
  skip_step seen [] r p m e u = absurd (omega arith)
  skip_step seen (b ∷ s) r p m e u =
      rw (m, skip, e, skip_drop (key r.val ∷ seen) (r.used - 1) s, drop_pred r.used b s u)

  pub skip_back : (seen : List ℕ) (xs : List X) (t : List ℕ) → Along key flat ReadsAt seen xs t → Stops more t
      → skip more key step seen 0 (flat_all flat xs ++ t) ≡ ok (got xs (length (flat_all flat xs)))
  unfolding skip flat_all ◌>>=◌ after
  skip_back seen [] [] h g = refl
  skip_back seen [] (b ∷ t) h g = rw (g, skip)
  skip_back seen (x ∷ xs) t h g =
      let k = h.0 in
      let a : (flat x ++ flat_all flat xs) ++ t ≡ flat x ++ (flat_all flat xs ++ t) = append_assoc (flat x) (flat_all flat xs) t in
      let l : 0 < length (flat x ++ (flat_all flat xs ++ t)) = simp length-append (omega (arith, k.some)) in
      ap (skip more key step seen 0) a
      ∙ skip_step seen (flat x ++ (flat_all flat xs ++ t)) (got x (length (flat x))) l k.goes k.reads k.some
      ∙ rw (drop-append_seam (flat x) (flat_all flat xs ++ t), skip_back (key x ∷ seen) xs t h.1 g, length-append)

  pub run_back : (xs : List X) (t : List ℕ) → Along key flat ReadsAt [] xs t → Stops more t → run more key step (flat_all flat xs ++ t) ≡ ok (got xs (length (flat_all flat xs)))
  unfolding run
  run_back xs t h g = skip_back [] xs t h g

-- ---- things that stand together, each right by itself and no key twice

module _ {X : Type 0} (more : List ℕ → Bool) (key : X → ℕ) (step : Step X) (flat : X → List ℕ) (Q : X → Type 0) where
  pub along_together : ((seen : List ℕ) (x : X) (t : List ℕ) → Bytes (flat x ++ t) → ReadsAt more key step flat seen x t → (has (key x) seen ≡ false) × Q x)
      → (xs : List X) (t : List ℕ) → Bytes (flat_all flat xs ++ t) → Along key flat (ReadsAt more key step flat) [] xs t → Together key Q xs
  along_together says xs t b h =
      let P : List ℕ → X → List ℕ → Type 0 = λ seen x t. (has (key x) seen ≡ false) × Q x in
      let k = along_map key flat _ P says [] xs t b h in
      record {
        once = (fresh_says [] (map key xs) (along_fresh key flat P (λ seen x t g. g.0) [] xs t k)).0;
        each = along_all key flat P Q (λ seen x t g. g.1) [] xs t k;
      }

  -- B, T: as of `along_from`
  pub together_along : (B : List ℕ → ℕ → Type 0) (T : List ℕ → Type 0) → ((k : ℕ) (seen : List ℕ) (j : ℕ) → B (k ∷ seen) j) → ((x : X) (t : List ℕ) → T (flat x ++ t))
      → ((seen : List ℕ) (x : X) (t : List ℕ) → has (key x) seen ≡ false → B seen (key x) → T t → Q x → ReadsAt more key step flat seen x t)
      → (xs : List X) (t : List ℕ) → First key flat B [] xs → T t → Together key Q xs → Along key flat (ReadsAt more key step flat) [] xs t
  together_along B T later next reads xs t b z h = along_from key flat _ Q B T later next reads [] xs t b z (once_fresh (map key xs) h.once) h.each

  -- the same where nothing is asked of the first
  pub free_along : (T : List ℕ → Type 0) → ((x : X) (t : List ℕ) → T (flat x ++ t))
      → ((seen : List ℕ) (x : X) (t : List ℕ) → has (key x) seen ≡ false → T t → Q x → ReadsAt more key step flat seen x t)
      → (xs : List X) (t : List ℕ) → T t → Together key Q xs → Along key flat (ReadsAt more key step flat) [] xs t
  free_along T next reads xs t z h =
      together_along (λ seen k. Unit {0}) T (λ k seen j. tt) next (λ seen x t n _ z q. reads seen x t n z q) xs t (first xs) z h
    where
      first : (xs : List X) → First key flat (λ seen k. Unit {0}) [] xs
      first [] = tt
      first (x ∷ xs) = tt

-- ---- a run to the end

module _ {X : Type 0} (key : X → ℕ) (step : Step X) (flat : X → List ℕ) where
  -- what a run to the end says
  pub record RanAll (s : List ℕ) (rs : Got (List X)) : Type 0 where
    pub bytes : s ≡ flat_all flat rs.val
    pub along : Along key flat (ReadsAt always key step flat) [] rs.val []

  pub all_says : Faithful always key step flat → (s : List ℕ) (rs : Got (List X)) → Bytes s → run always key step s ≡ ok rs → RanAll s rs
  all_says F s rs h e = go k.rest k.bytes k.along k.stops
    where
      k : Ran always key step flat [] s rs
      k = run_says always key step flat F s rs h e

      go : (t : List ℕ) → s ≡ flat_all flat rs.val ++ t → Along key flat (ReadsAt always key step flat) [] rs.val t → Stops always t → RanAll s rs
      go [] b a z = record { bytes = b ∙ append-nil (flat_all flat rs.val); along = a }
      go (x ∷ t) b a z = no_bool (sym z)

  pub all_back : (xs : List X) → Along key flat (ReadsAt always key step flat) [] xs [] → run always key step (flat_all flat xs) ≡ ok (got xs (length (flat_all flat xs)))
  all_back xs h = rw append-nil at (run_back always key step flat xs [] h tt)
