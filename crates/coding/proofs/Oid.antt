-- Tags and ids as a loop reads them: the cases of `oid_go`, and what is left of it after i bytes.
use Rattle.std.proofs.Common.{◌≡◌, ℕ, zero, suc, ◌+◌, ◌-◌, ◌*◌, ◌%◌, ◌^◌, ◌<◌, ◌≤◌, List, [], ◌∷◌, length, get_or, drop, sym, refl, ◌∙◌, add-zero, mod-lt, mod-eq_of_lt, add-one, arith, lit<, length-drop, get_or-drop, drop-drop, shl_lt, le-ltb, lt-ltb, eq-eqb, ne_eqb}
use lib.Bits.{bit_and, bit_or, and_mask, or_shifted}
use Rattle.format.specs.Answer.{ok, refused, got, ◌>>=◌, need}
use Rattle.format.specs.Coding.{oid_go, oid, tag_of, id_of}
use Rattle.format.proofs.Words.Answers.{never}
use Rattle.coding.proofs.Rooms.{bits_room, bits_more}

-- a value shifted left, with a masked byte at its low end
pub pushed : (v b : ℕ) → v < 2 ^ 57 → bit_or (v * 128 % 2 ^ 64) (bit_and b 127) ≡ v * 128 + b % 128
pushed v b h =
    rw (mod-eq_of_lt (shl_lt 57 7 h), and_mask b 7) (or_shifted v 7 (b % 128) (mod-lt b (lit< tt)))

-- ---- the cases of `oid_go`

cut : (k bad n acc : ℕ) (s : List ℕ) → 0 < k → length s ≡ 0 → oid_go k bad n acc s ≡ refused 3 0
unfolding oid_go
cut zero bad n acc s p h = absurd (omega arith)
cut (suc k) bad n acc [] p h = refl
cut (suc k) bad n acc (b ∷ s) p h = absurd (omega arith)

last : (k bad n acc : ℕ) (s : List ℕ) → 0 < k → 0 < length s → get_or s 0 0 < 128 → oid_go k bad n acc s ≡ ok (got (acc * 128 + get_or s 0 0) (suc n))
unfolding oid_go
last zero bad n acc s p h g = absurd (omega arith)
last (suc k) bad n acc [] p h g = absurd (omega arith)
last (suc k) bad n acc (b ∷ s) p h g = rw (lt-ltb b 128 g, oid_go)

more : (k bad n acc : ℕ) (s : List ℕ) → 0 < k → 0 < length s → 128 ≤ get_or s 0 0
    → oid_go k bad n acc s ≡ oid_go (k - 1) bad (suc n) (acc * 128 + (get_or s 0 0 - 128)) (drop 1 s)
unfolding oid_go
more zero bad n acc s p h g = absurd (omega arith)
more (suc k) bad n acc [] p h g = absurd (omega arith)
more (suc k) bad n acc (b ∷ s) p h g = let e : suc k - 1 ≡ k = omega arith in rw (le-ltb b 128 g, oid_go, e)

-- ---- after i bytes, v read: the answer from the start is the answer from here

pub record OidLeft (s : List ℕ) (k bad v i : ℕ) : Type 0 where
  pub few : i ≤ k
  pub within : i ≤ length s
  pub small : v < 2 ^ (7 * i)
  pub rest : oid_go k bad 0 0 s ≡ oid_go (k - i) bad i v (drop i s)

pub oid_start : (s : List ℕ) (k bad : ℕ) → OidLeft s k bad 0 0
oid_start s k bad = let e : k - 0 ≡ k = omega arith in record { few = omega arith; within = omega arith; small = lit< tt; rest = rw e }

module _ (s : List ℕ) (k bad v i : ℕ) (l : OidLeft s k bad v i) where
  pub oid_room : i < k → k ≤ 9 → v < 2 ^ 57
  oid_room h g = bits_room 7 i 57 v l.small (omega arith)

  pub oid_cut : i < k → length s ≤ i → refused 3 0 ≡ oid_go k bad 0 0 s
  oid_cut h g = sym (l.rest ∙ cut (k - i) bad i v (drop i s) (omega arith) (simp length-drop (omega arith)))

  here : get_or (drop i s) 0 0 ≡ get_or s i 0
  here = rw (get_or-drop, add-zero)

  module _ (b w : ℕ) (h : i < k) (g : i < length s) (e : b ≡ get_or s i 0) (f : w ≡ v * 128 + b % 128) where
    some : 0 < length (drop i s)
    some = simp length-drop (omega arith)

    pub oid_last : b < 128 → ok (got w (i + 1)) ≡ oid_go k bad 0 0 s
    oid_last c =
        let q : w ≡ v * 128 + get_or (drop i s) 0 0 = rw here (omega arith) in
        rw (q, add-one) (sym (l.rest ∙ last (k - i) bad i v (drop i s) (omega arith) some (rw here (omega arith))))

    pub oid_more : 128 ≤ b → b < 256 → OidLeft s k bad w (i + 1)
    oid_more c d =
        let q : v * 128 + (get_or (drop i s) 0 0 - 128) ≡ w = rw here (omega arith) in
        let n : k - i - 1 ≡ k - (i + 1) = omega arith in
        record {
          few = omega arith;
          within = omega arith;
          small = rw f (bits_more 7 i v (b % 128) l.small (mod-lt b (lit< tt)));
          rest = l.rest ∙ more (k - i) bad i v (drop i s) (omega arith) some (rw here (omega arith)) ∙ rw (q, n, drop-drop, add-one);
        }

  pub oid_none : k ≤ i → refused bad 0 ≡ oid_go k bad 0 0 s
  unfolding oid_go
  oid_none h = let e : k - i ≡ 0 = omega arith in sym (l.rest ∙ rw e)

-- ---- the first byte, and the value

module _ (k bad : ℕ) (s : List ℕ) where
  pub oid_refused : (n : ℕ) → refused n 0 ≡ oid_go k bad 0 0 s → refused n 0 ≡ oid k bad s
  unfolding oid ◌>>=◌
  oid_refused n e = rw (← e)

  module _ (v n : ℕ) (e : ok (got v n) ≡ oid_go k bad 0 0 s) where
    pub oid_80 : get_or s 0 0 ≡ 128 → refused bad 0 ≡ oid k bad s
    unfolding oid ◌>>=◌ need
    oid_80 h = rw (← e, eq-eqb (get_or s 0 0) 128 h)

    pub oid_good : (get_or s 0 0 ≡ 128 → ⊥) → ok (got v n) ≡ oid k bad s
    unfolding oid ◌>>=◌ need
    oid_good h = rw (← e, ne_eqb (get_or s 0 0) 128 h)

  pub oid_there : (v n : ℕ) → ok (got v n) ≡ oid_go k bad 0 0 s → 0 < length s
  unfolding oid_go
  oid_there v n e = by k s (sym e)
    where
      by : (k : ℕ) (s : List ℕ) → oid_go k bad 0 0 s ≡ ok (got v n) → 0 < length s
      by zero s e = never bad 0 (got v n) e
      by (suc k) [] e = never 3 0 (got v n) e
      by (suc k) (b ∷ s) e = omega arith

module _ (s : List ℕ) where
  pub tag_refused : (n : ℕ) → refused n 0 ≡ oid 2 4 s → refused n 0 ≡ tag_of s
  unfolding tag_of ◌>>=◌
  tag_refused n e = rw (← e)

  module _ (v n : ℕ) (e : ok (got v n) ≡ oid 2 4 s) where
    pub tag_zero : v ≡ 0 → refused 4 0 ≡ tag_of s
    unfolding tag_of ◌>>=◌ need
    tag_zero h = rw (← e, h)

    pub tag_good : 0 < v → ok (got v n) ≡ tag_of s
    unfolding tag_of ◌>>=◌ need
    tag_good h = rw (← e, lt-ltb 0 v h)

-- one byte is a whole tag or id
module _ (s : List ℕ) (some : 0 < length s) (b : ℕ) (e : b ≡ get_or s 0 0) (h : b < 128) where
  oid_one : (k bad : ℕ) → 0 < k → ok (got b 1) ≡ oid k bad s
  oid_one k bad z =
      let g : 0 * 128 + get_or s 0 0 ≡ b = omega arith in
      oid_good k bad s b 1 (rw g at (sym (last k bad 0 0 s z some (omega arith)))) (λ x. omega arith)

  pub tag_one : 0 < b → ok (got b 1) ≡ tag_of s
  tag_one z = tag_good s b 1 (oid_one 2 4 (omega arith)) z

  pub id_one : ok (got b 1) ≡ id_of s
  unfolding id_of
  id_one = oid_one 9 8 (omega arith)

-- two bytes are a whole id, the first of them more than 80
module _ (s : List ℕ) (some : 1 < length s) (a b : ℕ) (ea : a ≡ get_or s 0 0) (eb : b ≡ get_or s 1 0) (ha : 128 < a) (la : a < 256) (h : b < 128) where
  pub id_two : ok (got ((a - 128) * 128 + b) 2) ≡ id_of s
  unfolding id_of
  id_two =
      let l : OidLeft s 9 8 (a - 128) 1 = oid_more s 9 8 0 0 (oid_start s 9 8) a (a - 128) (omega arith) (omega arith) ea (omega arith) (omega arith) la in
      oid_good 9 8 s _ 2 (oid_last s 9 8 (a - 128) 1 l b ((a - 128) * 128 + b) (omega arith) some eb (omega arith) h) (λ x. omega arith)
