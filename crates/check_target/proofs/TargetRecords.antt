-- A new target by its records, as the code reads them: its `TG`, and what it answers on the `TI`s.
use mathlib.Core.Path.{◌≡◌, refl, sym, ap, ◌∙◌}
use Prim.Native.Nat.{ℕ, ◌+◌, ◌-◌, ◌^◌, ◌≤◌, ◌<◌}
use native.Mathlib.Omega.{arith}
use mathlib.Core.Bool.{Bool, true, false, ◌&&◌}
use mathlib.Core.List.{List}
use lib.ListN.{length, take, drop, length-drop}
use lib.Dec.{leb, eqb}
use borrow.Author.Tests.{le-leb, lt-leb, leb-true, leb-false, lt-ltb, le-ltb, eq-eqb, ne_eqb, eqb-true, eqb-false}
use Rattle.format.specs.Answer.{Ans, ok, refused, Got, ◌>>=◌, need}
use Rattle.format.specs.Coding.{bytes_number, len_width, oid_bytes}
use Rattle.format.specs.Run.{run}
use Rattle.format.specs.Table.{Form, pack}
use Rattle.format.specs.Sheet.{Val, Target, tag_of_val, TG, TI, is, value_at}
use Rattle.format.specs.Targets.{new_target}
use Rattle.coding.proofs.Rooms.{tail_part}
use Rattle.items.proofs.Tests.{need_so, need_not}
use Rattle.tally.proofs.Totals.{vals_normal, target_normal_lem}
use Rattle.tally_records.proofs.Parts.{need_bind}
use Rattle.check_target.specs.Vals.{Vals}
use Rattle.check_target.specs.Vals as vals
use Rattle.check_target.specs.Tolds as told
use Rattle.check_target.specs.Meet.{vals_of, Measures, ValsAs, ToldAs}

-- a pack's bytes are measured where its items' are
pack_measures : (u n m : ℕ) → Measures n m → Measures (len_width (u + n) + (u + n)) (len_width (u + m) + (u + m))
pack_measures u n m h = (λ l. ap (λ k. len_width (u + k) + (u + k)) (h.0 (omega (arith, l))), λ l. over l (leb n 8192) refl)
  where
    over : 8192 < len_width (u + n) + (u + n) → (b : Bool) → leb n 8192 ≡ b → 8192 < len_width (u + m) + (u + m)
    over l true e = omega (arith, l, ap (λ k. len_width (u + k) + (u + k)) (h.0 (leb-true _ _ e)))
    over l false e = omega (arith, h.1 (leb-false _ _ e))

module _ (f : Form) (r : List ℕ) where
  -- no `TG` stands there whole
  unopened : is TG r && leb 10 (length r) ≡ false → ToldAs (new_target f r) (told.Wrong 17)
  unopened e = rw says
    where
      says : new_target f r ≡ refused 17 0
      says = unfold new_target in need_not _ _ _ e

  -- x: a `TG` stands there
  pub target_unmarked : {x : Bool} → x ≡ is TG r → x ≡ false → ToldAs (new_target f r) (told.Wrong 17)
  target_unmarked ex tx = let m : is TG r ≡ false = sym ex ∙ tx in unopened (rw m)

  pub target_cut : length r < 10 → ToldAs (new_target f r) (told.Wrong 17)
  target_cut h = go (is TG r) refl
    where
      go : (b : Bool) → is TG r ≡ b → ToldAs (new_target f r) (told.Wrong 17)
      go true m = unopened (rw (m, lt-leb 10 (length r) h))
      go false m = target_unmarked refl m

  module _ (ten : 10 ≤ length r) {x : Bool} (ex : x ≡ is TG r) (tx : x ≡ true) {i : ℕ} (ei : i ≡ bytes_number (take 8 (take (length r - 2) (drop 2 r)))) where
    id_is : bytes_number (take 8 (drop 2 r)) ≡ i
    id_is = ap (λ t. bytes_number (take 8 t)) (sym (tail_part 2 r)) ∙ sym ei

    opens : is TG r && leb 10 (length r) ≡ true
    opens = let mark : is TG r ≡ true = sym ex ∙ tx in rw (mark, le-leb 10 (length r) ten)

    pub target_high : 9223372036854775807 < i → ToldAs (new_target f r) (told.Wrong 17)
    target_high h = rw says
      where
        says : new_target f r ≡ refused 17 0
        says = unfold new_target in (need_so _ _ _ opens ∙ need_not _ _ _ (rw id_is (le-ltb i (2 ^ 63) (omega (arith, h)))))

    -- its values are those of the `TI`s, to the end
    module _ (low : i ≤ 9223372036854775807) where
      -- they end with the bytes, or do not, counted from either start
      ends : (u : ℕ) → eqb (10 + u) (length r) ≡ eqb u (length (drop 10 r))
      ends u = go (eqb u (length (drop 10 r))) refl
        where
          go : (b : Bool) → eqb u (length (drop 10 r)) ≡ b → eqb (10 + u) (length r) ≡ b
          go true e = let q : u ≡ length (drop 10 r) = eqb-true _ _ e in eq-eqb (10 + u) (length r) (omega (arith, q, length-drop 10 r, ten))
          go false e = ne_eqb (10 + u) (length r) (λ q. eqb-false u (length (drop 10 r)) e (omega (arith, q, length-drop 10 r)))

      abbrev made : List Val → Ans Target
      made vs = ok (record { id = i; vals = vs })

      target_is : new_target f r ≡ (vals_of f (drop 10 r) >>= made)
      target_is =
          unfold new_target in (need_so _ _ _ opens ∙ need_so _ _ _ (rw id_is (lt-ltb i (2 ^ 63) (omega (arith, low)))) ∙ rw id_is (go (run (is TI) tag_of_val (value_at pack f) (drop 10 r)) refl))
        where
          go : (x : Ans (Got (List Val))) → run (is TI) tag_of_val (value_at pack f) (drop 10 r) ≡ x → (x >>= λ vs. need (eqb (10 + vs.used) (length r)) 17 >>= λ _. made vs.val) ≡ (vals_of f (drop 10 r) >>= made)
          go (refused n p) e = unfold vals_of ◌>>=◌ in rw e
          go (ok vs) e = unfold vals_of ◌>>=◌ in rw (e, ends vs.used) (need_bind (eqb vs.used (length (drop 10 r))) 17 (ok vs.val) made)

      -- v is the answer on them
      module _ (v : Vals) (ev : ValsAs (vals_of f (take (length r - 10) (drop 10 r))) v) where
        lent : ValsAs (vals_of f (drop 10 r)) v
        lent = rw tail_part at ev

        pub target_wrong : {n : ℕ} → v ≡ vals.Wrong n → ToldAs (new_target f r) (told.Wrong n)
        target_wrong {n = n} t = rw target_is (go (vals_of f (drop 10 r)) (rw t at lent))
          where
            go : (x : Ans (List Val)) → ValsAs x (vals.Wrong n) → ToldAs (x >>= made) (told.Wrong n)
            go (ok vs) e = absurd e
            go (refused m p) e = unfold ◌>>=◌ in e

        module _ {held normal : ℕ} (t : v ≡ vals.Fine held normal) where
          fine : ValsAs (vals_of f (drop 10 r)) (vals.Fine held normal)
          fine = rw t at lent

          pub target_few : normal ≤ 196608
          target_few = go (vals_of f (drop 10 r)) fine
            where
              go : (x : Ans (List Val)) → ValsAs x (vals.Fine held normal) → normal ≤ 196608
              go (ok vs) e = e.1
              go (refused m p) e = absurd e

          -- u is how many bytes its id takes in a packet, w those of its length
          pub target_fine : {u : ℕ} → u ≡ length (oid_bytes i) → {w : ℕ} → w ≡ len_width (u + normal) → ToldAs (new_target f r) (told.Fine i held (w + (u + normal)))
          target_fine {u = u} eu {w = w} ew = rw target_is (go (vals_of f (drop 10 r)) fine)
            where
              go : (x : Ans (List Val)) → ValsAs x (vals.Fine held normal) → ToldAs (x >>= made) (told.Fine i held (w + (u + normal)))
              go (ok vs) e = unfold ◌>>=◌ in (refl, e.0, rw (target_normal_lem (record { id = i; vals = vs }), ew, eu, ← vals_normal vs) (pack_measures (length (oid_bytes i)) normal _ e.2))
              go (refused m p) e = absurd e
