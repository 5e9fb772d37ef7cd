-- What stands at a place of bytes that a run read to their end; and a loop over it that looks for the first hit.
use mathlib.Core.Path.{◌≡◌, refl, sym, ap, ◌∙◌}
use Prim.Native.Nat.{ℕ, ◌+◌, ◌-◌, ◌≤◌, ◌<◌}
use native.Mathlib.Omega.{arith}
use mathlib.Core.Bool.{Bool, true, false}
use mathlib.Core.List.{List, [], ◌∷◌, ◌++◌, append_assoc, append-nil}
use lib.ListN.{length, take, drop, length-append, length-drop}
use lib.Seq.{drop-append_seam, drop-drop, length-take-le}
use Rattle.format.specs.Answer.{Ans, ok, refused, Got, got}
use Rattle.format.specs.Coding.{Bytes}
use Rattle.format.specs.Lists.{flat_all}
use Rattle.format.specs.Run.{Step, always, run}
use Rattle.format.proofs.Words.Bytes.{bytes_take, bytes_drop}
use Rattle.format.proofs.Words.Flats.{flat_append, flat_snoc}
use Rattle.format.proofs.Reading.Runs.{Along, Faithful, ReadsAt, RanAll, all_says}
use Rattle.tally.specs.Runs.{Ran}
use Rattle.find.specs.declared.Spot.{Spot}
use Rattle.find.specs.Spots.{spot, no_spot, spot_in, things_of, inside, Missed, Hit}
use Rattle.find.proofs.Splices.{all_snoc, spot_past, spot_hit, hit_spot}

-- a run that came to its end
pub ran_ok : {X : Type 0} (m : Ans (Got (List X))) {rs : Got (List X)} → m ≡ ok rs → Ran m
ran_ok m e = rw e tt

module _ (s : List ℕ) (a : Spot) where
  pub inside_long : (a.from ≤ a.next) × (a.next ≤ length s) → length (inside s a) ≡ a.next - a.from
  inside_long r = length-take-le (a.next - a.from) (drop a.from s) (rw length-drop (omega arith))

  pub inside_bytes : Bytes s → Bytes (inside s a)
  inside_bytes b = bytes_take (a.next - a.from) (drop a.from s) (bytes_drop a.from s b)

-- n bytes, m after a place, as they are lent
pub part_at : (s : List ℕ) (at m n : ℕ) {from next : ℕ} → from ≡ at + m → next ≡ from + n → take (next - from) (drop from s) ≡ take n (drop m (drop at s))
part_at s at m n {from = from} {next = next} ef en = let z : next - from ≡ n = omega arith in rw (z, ef, drop-drop m at s)

module _ {X : Type 0} (key : X → ℕ) (step : Step X) (flat : X → List ℕ) where
  -- ---- what stands at a place

  -- x was read at a
  pub record Stands (s : List ℕ) (a : ℕ) (x : X) : Type 0 where
    pub seen : List ℕ
    pub read : step seen (drop a s) ≡ ok (got x (length (flat x)))
    pub some : 0 < length (flat x)
    pub room : a + length (flat x) ≤ length s

  -- what a run to the end read
  abbrev pub ReadAll : List ℕ → List X → Type 0
  ReadAll s xs = RanAll key step flat s (got xs 0)

  pub read_all : Faithful always key step flat → (s : List ℕ) → Bytes s → (m : Ans (Got (List X))) → m ≡ run always key step s → Ran m → ReadAll s (things_of m)
  read_all F s b (ok rs) e h = let k = all_says key step flat F s rs b (sym e) in record { bytes = k.bytes; along = k.along }
  read_all F s b (refused n p) e h = absurd h

  along_at : (P : List ℕ → X → List ℕ → Type 0) (seen : List ℕ) (before : List X) (x : X) (later : List X) (t : List ℕ)
      → Along key flat P seen (before ++ x ∷ later) t → (z : List ℕ) × P z x (flat_all flat later ++ t)
  along_at P seen [] x later t h = (seen, h.0)
  along_at P seen (y ∷ ys) x later t h = along_at P (key y ∷ seen) ys x later t h.1

  stands : {s : List ℕ} {xs : List X} → ReadAll s xs → (before : List X) (x : X) (later : List X) → xs ≡ before ++ x ∷ later → Stands s (length (flat_all flat before)) x
  unfolding flat_all
  stands {s = s} {xs = xs} k before x later e =
      let b : s ≡ flat_all flat before ++ (flat x ++ flat_all flat later) = k.bytes ∙ ap (flat_all flat) e ∙ flat_append flat before (x ∷ later) in
      let (seen, r) = along_at (ReadsAt always key step flat) [] before x later [] (rw e at k.along) in
      let d : drop (length (flat_all flat before)) s ≡ flat x ++ (flat_all flat later ++ [])
      = ap (drop (length (flat_all flat before))) b ∙ drop-append_seam (flat_all flat before) (flat x ++ flat_all flat later) ∙ ap (λ z. flat x ++ z) (sym (append-nil (flat_all flat later))) in
      record {
        seen = seen;
        read = ap (step seen) d ∙ r.reads;
        some = r.some;
        room = omega (arith, simp length-append at (ap length b));
      }

  -- ---- a loop that looks for the first hit

  module _ (hit : X → Bool) where
    -- it came to p, and none before hits
    pub record Seeking (xs : List X) (p : ℕ) : Type 0 where
      pub before : List X
      pub rest : List X
      pub list_is : xs ≡ before ++ rest
      pub missed : Missed hit before
      pub p_is : p ≡ length (flat_all flat before)

    pub none_flat : 0 ≡ length (flat_all flat [])
    unfolding flat_all
    none_flat = refl

    abbrev pub seek_start : (xs : List X) → Seeking xs 0
    seek_start xs = record { before = []; rest = xs; list_is = refl; missed = tt; p_is = none_flat }

    module _ {s : List ℕ} {xs : List X} (k : ReadAll s xs) {p : ℕ} (g : Seeking xs p) where
      pub long : length s ≡ p + length (flat_all flat g.rest)
      long = ap length (k.bytes ∙ ap (flat_all flat) g.list_is ∙ flat_append flat g.before g.rest) ∙ length-append (flat_all flat g.before) (flat_all flat g.rest) ∙ omega (arith, g.p_is)

      -- what stands at p
      pub record Next : Type 0 where
        pub it : X
        pub later : List X
        pub rest_is : g.rest ≡ it ∷ later
        pub here : Stands s p it

      pub next_here : p < length s → Next
      unfolding flat_all
      next_here h = go g.rest refl
        where
          go : (ys : List X) → g.rest ≡ ys → Next
          go [] e = absurd (omega (arith, h, long, ap (λ z. length (flat_all flat z)) e))
          go (y ∷ ys) e = record {
            it = y;
            later = ys;
            rest_is = e;
            here = rw g.p_is (stands k g.before y ys (g.list_is ∙ ap (λ z. g.before ++ z) e));
          }

      -- past them all
      pub seek_end : length s ≤ p → g.rest ≡ []
      seek_end h = go g.rest refl
        where
          go : (ys : List X) → g.rest ≡ ys → g.rest ≡ []
          go [] e = e
          go (y ∷ ys) e =
              let z = stands k g.before y ys (g.list_is ∙ ap (λ z. g.before ++ z) e) in
              absurd (omega (arith, h, z.some, z.room, g.p_is))

      module _ (body from : X → ℕ) where
        spot_is : spot_in hit flat body from 0 xs ≡ spot_in hit flat body from p g.rest
        spot_is =
            ap (spot_in hit flat body from 0) g.list_is
            ∙ spot_past hit flat body from 0 g.before g.rest g.missed
            ∙ ap (λ n. spot_in hit flat body from n g.rest) (omega (arith, g.p_is))

        pub seek_done : length s ≤ p → no_spot p ≡ spot_in hit flat body from 0 xs
        unfolding spot_in
        seek_done h = sym (spot_is ∙ ap (spot_in hit flat body from p) (seek_end h))

        pub seek_found : (n : Next) → hit n.it ≡ true → {b f m : ℕ} → b ≡ p + body n.it → f ≡ p + from n.it → m ≡ p + length (flat n.it) → spot p b f m ≡ spot_in hit flat body from 0 xs
        seek_found n z eb ef em =
            rw (eb, ef, em) (sym (spot_is ∙ ap (spot_in hit flat body from p) n.rest_is ∙ spot_hit hit flat body from p n.it n.later z))

      abbrev pub seek_more : (n : Next) → hit n.it ≡ false → {m : ℕ} → m ≡ p + length (flat n.it) → Seeking xs m
      seek_more n z e = record {
        before = g.before ++ (n.it ∷ []);
        rest = n.later;
        list_is = g.list_is ∙ ap (λ r. g.before ++ r) n.rest_is ∙ sym (append_assoc g.before (n.it ∷ []) n.later);
        missed = all_snoc (λ x. hit x ≡ false) g.before n.it g.missed z;
        p_is = omega (arith, e, g.p_is, ap length (flat_snoc flat g.before n.it), length-append (flat_all flat g.before) (flat n.it));
      }

    -- ---- what stands at a spot

    module _ (body from : X → ℕ) where
      pub record Standing (s : List ℕ) {xs : List X} (h : Hit hit xs) (a : Spot) : Type 0 where
        pub at_is : a.at ≡ length (flat_all flat h.before)
        pub body_is : a.body ≡ a.at + body h.it
        pub from_is : a.from ≡ a.at + from h.it
        pub next_is : a.next ≡ a.at + length (flat h.it)
        pub here : Stands s a.at h.it

      pub standing : {s : List ℕ} {xs : List X} → ReadAll s xs → (h : Hit hit xs) {a : Spot} → a ≡ spot_in hit flat body from 0 xs → Standing s h a
      standing {s = s} k h e =
          rw (e ∙ hit_spot hit flat body from h) (record { at_is = refl; body_is = refl; from_is = refl; next_is = refl; here = stands k h.before h.it h.later h.list_is })
