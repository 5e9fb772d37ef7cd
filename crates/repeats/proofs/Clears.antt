-- How far no key repeats: what a pass over the keys of a part keeps, and what the passes tell.
use mathlib.Core.Path.{◌≡◌, refl, sym, ap, ◌∙◌}
use Prim.Native.Nat.{ℕ, ◌+◌, ◌-◌, ◌≤◌, ◌<◌}
use native.Mathlib.Omega.{arith}
use mathlib.Core.Bool.{Bool, true, false, ◌||◌}
use mathlib.Core.List.{List, [], ◌∷◌, ◌++◌}
use lib.ListN.{length, take, drop, length-drop}
use lib.Seq.{drop-drop}
use lib.Dec.{ltb, eqb}
use Rattle.std.proofs.Common.{Some}
use borrow.Author.Tests.{ltb-true, ltb-false, eqb-true, eqb-false}
use Rattle.format.specs.Answer.{Got, got}
use Rattle.format.specs.Lists.{has}
use Rattle.format.proofs.Words.Answers.{no_bool}
use Rattle.coding.proofs.Rooms.{tail_part}
use Rattle.heads.specs.declared.Next.{Next}
use Rattle.heads.specs.Meet.{Peeked, Heads, Past, Clear}
use Rattle.repeats.specs.Parts.{quarter, noted_part, NotedPart, ClearIn}
use Rattle.heads.proofs.Before.{Looks, heads_none, has_snoc, heads_more}

module _ (look : List ℕ → Got ℕ) where
  -- one list of keys heads the first p bytes
  pub heads_same : (js ks s : List ℕ) (p : ℕ) → Heads look s p js → Heads look s p ks → js ≡ ks
  heads_same [] [] s p h g = refl
  heads_same [] (k ∷ ks) s p h (v, f, z, y, g) = absurd (omega arith)
  heads_same (j ∷ js) [] s p (u, e, z, y, h) g = absurd (omega arith)
  heads_same (j ∷ js) (k ∷ ks) s p (u, e, z, y, h) (v, f, w, x, g) =
      let a : u ≡ v = ap (λ (x : Got ℕ). x.used) (sym e ∙ f) in
      let b : j ≡ k = ap (λ (x : Got ℕ). x.val) (sym e ∙ f) in
      rw (b, heads_same js ks (drop v s) (p - v) (rw a at h) g)

  -- and what begins after q begins after all that the key at q heads
  heads_on : (js ks s : List ℕ) (p q k u : ℕ) → Heads look s q js → look (drop q s) ≡ got k u → Heads look s p ks → q < p → q + u ≤ p
  heads_on js [] s p q k u h n g l = absurd (omega arith)
  heads_on [] (i ∷ ks) s p q k u h n (v, f, w, x, g) l =
      let a : u ≡ v = ap (λ (x : Got ℕ). x.used) (sym (rw h at n) ∙ f) in
      omega arith
  heads_on (j ∷ js) (i ∷ ks) s p q k u (w, e, z, y, h) n (v, f, t, x, g) l =
      let a : w ≡ v = ap (λ (x : Got ℕ). x.used) (sym e ∙ f) in
      let b : v + (q - v) ≡ q = omega arith in
      omega (arith, heads_on js ks (drop v s) (p - v) (q - v) k u (rw a at h) (rw (drop-drop (q - v) v s, b) n) g (omega arith))

  -- so what holds of each key before q and those before it, and of the key at q, holds up to where that ends
  pub each_on : (Q : ℕ → List ℕ → Type 0) (s js : List ℕ) (q k u : ℕ) → Heads look s q js → look (drop q s) ≡ got k u
      → ((p : ℕ) → p < q → (ks : List ℕ) → Heads look s p ks → Q (look (drop p s)).val ks) → Q k js
      → (p : ℕ) → p < q + u → (ks : List ℕ) → Heads look s p ks → Q (look (drop p s)).val ks
  each_on Q s js q k u h n below here p l ks g = go (ltb p q) refl (eqb p q) refl
    where
      go : (a : Bool) → ltb p q ≡ a → (b : Bool) → eqb p q ≡ b → Q (look (drop p s)).val ks
      go true a b e = below p (ltb-true _ _ a) ks g
      go false a true e = let t : p ≡ q = eqb-true _ _ e in rw (t, n, heads_same ks js s q (rw t at g) h) here
      go false a false e =
          let o : q ≤ p = ltb-false p q a in
          let t : p ≡ q → ⊥ = eqb-false _ _ e in
          let w : q < p = omega arith in
          absurd (omega (arith, heads_on js ks s p q k u h n g w))

-- no key of the part repeats before q, and what of it stood there is noted
pub record Clearing (part : ℕ) (look : List ℕ → Got ℕ) (s bits : List ℕ) (q : ℕ) : Type 0 where
  pub within : q ≤ length s
  pub long : length bits ≡ 64
  pub keys : List ℕ
  pub heads : Heads look s q keys
  pub kept : (k : ℕ) → quarter k ≡ part → has k keys ≡ true → noted_part bits k ≡ true
  pub clear : ClearIn part look s q

pub clearing_start : (part : ℕ) (look : List ℕ → Got ℕ) (s bits : List ℕ) → length bits ≡ 64 → Clearing part look s bits 0
unfolding has
clearing_start part look s bits l = record { within = omega arith; long = l; keys = []; heads = refl; kept = λ k z e. no_bool e; clear = λ p h ks g. absurd (omega arith) }

-- what is not so, where it would make another so that is not
pub not_then : (a b : Bool) → (a ≡ true → b ≡ true) → b ≡ false → a ≡ false
not_then true b h e = no_bool (sym e ∙ h refl)
not_then false b h e = refl

-- as the code reads what is next
module _ (part : ℕ) (look : List ℕ → Got ℕ) (s bits : List ℕ) (q : ℕ) (c : Clearing part look s bits q) (room : Looks look) (n : Next)
    (r : Peeked look (take (length s - q) (drop q s)) (Some n)) (new : quarter n.key ≡ part → noted_part bits n.key ≡ false) where
  here : look (drop q s) ≡ got n.key n.used
  here = rw tail_part at r.0

  pub passed_room : q + n.used ≤ length s
  passed_room = omega (arith, c.within, room (drop q s), ap (λ (x : Got ℕ). x.used) here, length-drop q s)

  pub clearing_more : (after : List ℕ) → NotedPart bits after n.key part → Clearing part look s after (q + n.used)
  unfolding has
  clearing_more after m = record {
    within = passed_room;
    long = m.long ∙ c.long;
    keys = c.keys ++ n.key ∷ [];
    heads = heads_more look c.keys s q n.key n.used c.heads here r.1;
    kept = λ j w e. go j w (eqb n.key j) refl (sym (has_snoc j n.key c.keys) ∙ e);
    clear = each_on look (λ j js. quarter j ≡ part → has j js ≡ false) s c.keys q n.key n.used c.heads here c.clear λ w.
        not_then (has n.key c.keys) (noted_part bits n.key) (c.kept n.key w) (new w);
  }
    where
      go : (j : ℕ) → quarter j ≡ part → (b : Bool) → eqb n.key j ≡ b → eqb n.key j || has j c.keys ≡ true → noted_part after j ≡ true
      go j w true t e = let y : n.key ≡ j = eqb-true n.key j t in rw (← y) (m.new (rw (← y) at w))
      go j w false t e = m.kept j (c.kept j w (rw t at e))

-- no key of the first parts repeats before r
abbrev pub ClearBelow : ℕ → (List ℕ → Got ℕ) → List ℕ → ℕ → Type 0
ClearBelow n look s r = (x : ℕ) → x < n → ClearIn x look s r

module _ (look : List ℕ → Got ℕ) (s : List ℕ) (n r : ℕ) (c : ClearBelow n look s r) where
  pub below_more : (q t : ℕ) → ClearIn n look s q → (t ≤ r) × (t ≤ q) → ClearBelow (n + 1) look s t
  below_more q t d l x h p g = go (ltb x n) refl
    where
      go : (b : Bool) → ltb x n ≡ b → (ks : List ℕ) → Heads look s p ks → quarter (look (drop p s)).val ≡ x → has (look (drop p s)).val ks ≡ false
      go true e = c x (ltb-true x n e) p (omega (arith, l.0))
      go false e = let o : n ≤ x = ltb-false x n e in let z : x ≡ n = omega arith in rw z (d p (omega (arith, l.1)))

  -- every key is of one of the four
  pub below_all : 4 ≤ n → Clear look s r
  below_all h p g ks e = c (quarter (look (drop p s)).val) (omega arith) p g ks e refl

-- nothing begins before 0
pub clear_none : (look : List ℕ → Got ℕ) (s : List ℕ) → Clear look s 0
clear_none look s p h = absurd (omega arith)

-- and at 0 nothing stood before
pub clear_first : (look : List ℕ → Got ℕ) (s : List ℕ) → Clear look s 1
unfolding has
clear_first look s p h ks g = rw (heads_none look s p (omega arith) ks g)

-- the key at p did not stand before it
pub clear_past : (look : List ℕ → Got ℕ) (s : List ℕ) (r p top low key : ℕ) → Clear look s r → p < r → key ≡ (look (drop p s)).val
    → (seen : List ℕ) → Past look s p top low seen → false ≡ has key seen
clear_past look s r p top low key c h e seen a = sym (a.same key ∙ ap (λ k. has k a.keys) e ∙ c p h a.keys a.heads)
