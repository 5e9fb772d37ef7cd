-- The key as a loop compares it: what is left to compare after i bytes, and whether those were alike.
use Rattle.std.proofs.Common.{◌≡◌, ℕ, suc, ◌+◌, ◌-◌, ◌<◌, ◌≤◌, Bool, true, false, ◌&&◌, eqb, List, ◌∷◌, length, get_or, take, drop, sym, refl, ◌∙◌, add-one, arith, length-take, drop-cons}
use Rattle.format.specs.Lists.{same}
use Rattle.format.specs.Packet.{the_key}
use Rattle.format.proofs.Reading.Packets.{same_eq}

pub record KeyLeft (s : List ℕ) (i : ℕ) (alike : Bool) : Type 0 where
  pub to : i ≤ 16
  pub rest : same (take 16 s) the_key ≡ (alike && same (take (16 - i) (drop i s)) (drop i the_key))

pub key_start : (s : List ℕ) → KeyLeft s 0 true
key_start s = record { to = omega arith; rest = refl }

-- fewer bytes are not the key
pub key_short : (s : List ℕ) → length s < 16 → false ≡ same (take 16 s) the_key
unfolding the_key
key_short s h = go (same (take 16 s) the_key) refl
  where
    go : (b : Bool) → same (take 16 s) the_key ≡ b → false ≡ b
    go false e = refl
    go true e =
        let l : length (take 16 s) ≡ 16 = rw (same_eq (take 16 s) the_key e) in
        absurd (omega (arith, length-take 16 s))

key_cons : (i : ℕ) → i < 16 → drop i the_key ≡ get_or the_key i 0 ∷ drop (suc i) the_key
unfolding the_key
key_cons i h = drop-cons the_key i 0 h

both_more : (a b c : Bool) → (a && (b && c)) ≡ ((a && b) && c)
both_more true b c = refl
both_more false b c = refl

both_done : (a : Bool) → (a && true) ≡ a
both_done true = refl
both_done false = refl

module _ (s : List ℕ) (i : ℕ) (alike : Bool) (l : KeyLeft s i alike) where
  pub key_more : i < 16 → 16 ≤ length s → KeyLeft s (i + 1) (alike && eqb (get_or s i 0) (get_or the_key i 0))
  unfolding same
  key_more h g =
      let e : 16 - i ≡ suc (16 - (i + 1)) = omega arith in
      record { to = omega arith; rest = l.rest ∙ rw (e, drop-cons s i 0 (omega arith), key_cons i h, add-one) (both_more alike (eqb (get_or s i 0) (get_or the_key i 0)) (same (take (16 - suc i) (drop (suc i) s)) (drop (suc i) the_key))) }

  pub key_done : 16 ≤ i → alike ≡ same (take 16 s) the_key
  unfolding same the_key
  key_done h =
      let e : i ≡ 16 = omega arith in
      sym (l.rest ∙ rw e (both_done alike))
