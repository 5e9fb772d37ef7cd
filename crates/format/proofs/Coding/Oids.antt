-- Tags and ids: what was written is read back, and what was read is what would be written. Once over the count of bytes.
use mathlib.Core.Path.{◌≡◌, refl, sym, ap, ◌∙◌}
use Prim.Native.Nat.{ℕ, zero, suc, ◌+◌, ◌-◌, ◌*◌, ◌/◌, ◌%◌, ◌≤◌, ◌<◌, ◌^◌}
use native.Mathlib.Nat.{div-add-mod', zero-add, add-zero, suc-add, add-suc}
use native.Mathlib.Omega.{arith}
use mathlib.Core.Bool.{Bool, true, false}
use mathlib.Core.List.{List, [], ◌∷◌, ◌++◌, append_assoc}
use lib.ListN.{length, drop, get_or, length-append}
use lib.Seq.{drop_at}
use lib.Dec.{ltb}
use borrow.Author.Tests.{lt-ltb, le-ltb, ne_eqb, ltb-true, ltb-false, eqb-false, not-true}
use Rattle.format.specs.Answer.{ok, Got, got, ◌>>=◌, need}
use Rattle.format.specs.Coding.{Bytes, number, digits, oid_go, oid, tag_of, id_of, oid_bytes}
use Rattle.format.specs.Valid.{All}
use Rattle.format.proofs.Words.Answers.{never, bind_then, need_then, ok_inj}
use Rattle.format.proofs.Words.Bytes.{Took}
use Rattle.format.proofs.Coding.Digits.{Fits, Digit, Flagged, fits_more, number_fits, digits_flagged, digits_number, digits_few, digits_zero, digits_pos, digits_head, digits_acc}

pub oid_some : (n : ℕ) → 0 < length (oid_bytes n)
unfolding oid_bytes
oid_some n = simp length-append (omega arith)

-- ---- written, then read

oid_go_digits : (k bad n acc : ℕ) (ds t : List ℕ) → Flagged 128 128 ds
    → oid_go (length ds + k) bad n acc (ds ++ t) ≡ oid_go k bad (n + length ds) (number 128 128 acc ds) t
unfolding oid_go number
oid_go_digits k bad n acc [] t h = simp (zero-add, add-zero)
oid_go_digits k bad n acc (d ∷ ds) t h =
    rw (suc-add, le-ltb d 128 h.0, oid_go, add-suc, ← suc-add) (oid_go_digits k bad (suc n) (acc * 128 + (d - 128)) ds t h.1)

oid_go_last : (j bad m acc b : ℕ) (t : List ℕ) → b < 128 → oid_go (suc j) bad m acc (b ∷ t) ≡ ok (got (acc * 128 + b) (suc m))
unfolding oid_go
oid_go_last j bad m acc b t h = rw (lt-ltb b 128 h, oid_go)

length_snoc : (xs : List ℕ) (x : ℕ) → suc (0 + length xs) ≡ length (xs ++ (x ∷ []))
length_snoc xs x = simp length-append (omega arith)

oid_go_back : (k bad n : ℕ) (t : List ℕ) → Fits 128 (suc k) n → k ≤ 8 → oid_go (suc k) bad 0 0 (oid_bytes n ++ t) ≡ ok (got n (length (oid_bytes n)))
unfolding oid_bytes
oid_go_back k bad n t h q =
    let ds : List ℕ = digits 128 128 8 (n / 128) in
    let few : length ds ≤ k = digits_few 128 128 8 k (n / 128) h in
    let j : ℕ = k - length ds in
    let e : suc k ≡ length ds + suc j = omega arith in
    let v : number 128 128 0 ds ≡ n / 128 = digits_number 128 128 8 (n / 128) (fits_more 128 k 8 (n / 128) h q) in
    rw (
      append_assoc,
      e,
      oid_go_digits (suc j) bad 0 0 ds (n % 128 ∷ t) (digits_flagged 128 128 8 (n / 128)),
      oid_go_last j bad (0 + length ds) (number 128 128 0 ds) (n % 128) t (omega arith),
      v,
      div-add-mod' n 128,
      length_snoc ds (n % 128),
    )

first_free : (n : ℕ) (t : List ℕ) → Fits 128 8 (n / 128) → get_or (oid_bytes n ++ t) 0 0 ≡ 128 → ⊥
unfolding oid_bytes
first_free n t h e = go (n / 128) refl
  where
    e' : get_or (digits 128 128 8 (n / 128) ++ (n % 128 ∷ t)) 0 0 ≡ 128
    e' = rw append_assoc at e

    go : (q : ℕ) → n / 128 ≡ q → ⊥
    go zero z = let r : n % 128 ≡ 128 = rw (z, digits_zero 128 128) at e' in omega arith
    go (suc q) z = digits_head 128 128 8 (n / 128) (n % 128 ∷ t) h (omega arith) e'

oid_back : (k bad n : ℕ) (t : List ℕ) → Fits 128 (suc k) n → k ≤ 8 → oid (suc k) bad (oid_bytes n ++ t) ≡ ok (got n (length (oid_bytes n)))
unfolding oid ◌>>=◌ need
oid_back k bad n t h q =
    rw (oid_go_back k bad n t h q, ne_eqb (get_or (oid_bytes n ++ t) 0 0) 128 (first_free n t (fits_more 128 k 8 (n / 128) h q)))

pub id_back : (n : ℕ) (t : List ℕ) → n < 2 ^ 63 → id_of (oid_bytes n ++ t) ≡ ok (got n (length (oid_bytes n)))
unfolding id_of
id_back n t h = oid_back 8 8 n t (omega arith) (omega arith)

pub tag_back : (n : ℕ) (t : List ℕ) → 0 < n → n ≤ 16383 → tag_of (oid_bytes n ++ t) ≡ ok (got n (length (oid_bytes n)))
unfolding tag_of ◌>>=◌ need
tag_back n t p h = rw (oid_back 1 4 n t (omega arith) (omega arith), lt-ltb 0 n p)

-- ---- read, then written

-- flagged digits, the first no bare flag, are the digits of their number
oid_digits : (ds t : List ℕ) → All (Digit 128 128) ds → length ds ≤ 8 → (get_or (ds ++ t) 0 0 ≡ 128 → ⊥) → digits 128 128 8 (number 128 128 0 ds) ≡ ds
unfolding number
oid_digits [] t g l f = digits_zero 128 128 8
oid_digits (d ∷ ds) t g l f =
    let (c, b) = g.0 in
    let n : ¬ (d ≡ 128) = f in
    let a : ℕ = 0 * 128 + (d - 128) in
    let k : ℕ = 7 - length ds in
    let e : 8 ≡ length ds + suc k = omega arith in
    let q : a / 128 ≡ 0 = omega arith in
    let m : a % 128 + 128 ≡ d = omega arith in
    rw (e, digits_acc 128 128 (suc k) a ds (omega arith) g.1, digits_pos 128 128 k a (omega arith), q, m, digits_zero 128 128 k)

-- what a reader of seven bits to a byte went through
record Shape (k n acc : ℕ) (s : List ℕ) (r : Got ℕ) : Type 0 where
  ds : List ℕ
  last : ℕ
  rest : List ℕ
  whole : s ≡ ds ++ (last ∷ rest)
  flagged : All (Digit 128 128) ds
  small : last < 128
  few : length ds < k
  val : r.val ≡ number 128 128 acc ds * 128 + last
  used : r.used ≡ n + suc (length ds)

oid_go_says : (k bad n acc : ℕ) (s : List ℕ) (r : Got ℕ) → Bytes s → oid_go k bad n acc s ≡ ok r → Shape k n acc s r
unfolding oid_go number
oid_go_says zero bad n acc s r h e = never bad 0 r e
oid_go_says (suc k) bad n acc [] r h e = never 3 0 r e
oid_go_says (suc k) bad n acc (b ∷ s) r h e = go (λ z. oid_go_says k bad (suc n) (acc * 128 + (b - 128)) s r (λ i. h (suc i)) z) (ltb b 128) refl
  where
    go : (oid_go k bad (suc n) (acc * 128 + (b - 128)) s ≡ ok r → Shape k (suc n) (acc * 128 + (b - 128)) s r)
        → (t : Bool) → ltb b 128 ≡ t → Shape (suc k) n acc (b ∷ s) r
    go ih true z =
        let i : got (acc * 128 + b) (suc n) ≡ r = ok_inj _ r (rw (z, oid_go) at e) in
        rw (← i) (record {
          ds = [];
          last = b;
          rest = s;
          whole = refl;
          flagged = tt;
          small = ltb-true b 128 z;
          few = omega arith;
          val = refl;
          used = omega arith;
        })
    go ih false z =
        let c = ih (rw (z, oid_go) at e) in
        let l : b < 256 = h 0 in
        let g : 128 ≤ b = ltb-false b 128 z in
        record {
          ds = b ∷ c.ds;
          last = c.last;
          rest = c.rest;
          whole = ap (λ x. b ∷ x) c.whole;
          flagged = ((g, omega arith), c.flagged);
          small = c.small;
          few = omega arith;
          val = c.val;
          used = omega arith;
        }

-- what was read stands there, and has at most k digits
abbrev pub OidSaid : ℕ → List ℕ → Got ℕ → Type 0
OidSaid k s r = Took (oid_bytes r.val) s r.used × Fits 128 k r.val

shape_fits : (k : ℕ) (s : List ℕ) (r : Got ℕ) → Shape k 0 0 s r → Fits 128 k r.val
shape_fits zero s r c = absurd (omega (arith, c.few))
shape_fits (suc k) s r c =
    let q : r.val / 128 ≡ number 128 128 0 c.ds = omega (arith, c.val, c.small) in
    rw q (fits_more 128 (length c.ds + 0) k (number 128 128 0 c.ds) (number_fits 128 128 0 0 c.ds refl c.flagged) (omega (arith, c.few)))

shape_says : (k : ℕ) (s : List ℕ) (r : Got ℕ) → Shape k 0 0 s r → k ≤ 9 → (get_or s 0 0 ≡ 128 → ⊥) → OidSaid k s r
unfolding oid_bytes
shape_says k s r c l f =
    let p : List ℕ = c.ds ++ (c.last ∷ []) in
    let whole : s ≡ p ++ c.rest = c.whole ∙ sym (append_assoc c.ds (c.last ∷ []) c.rest) in
    let q : r.val / 128 ≡ number 128 128 0 c.ds = omega (arith, c.val, c.small) in
    let m : r.val % 128 ≡ c.last = omega (arith, c.val, c.small) in
    let dg : digits 128 128 8 (number 128 128 0 c.ds) ≡ c.ds = oid_digits c.ds (c.last ∷ c.rest) c.flagged (omega arith) (rw c.whole at f) in
    let o : oid_bytes r.val ≡ p = rw (q, m, dg) in
    let u : length p ≡ r.used = simp length-append (omega arith) in
    let d : drop r.used s ≡ c.rest = rw whole (drop_at p c.rest r.used u) in (
      record { bytes = cc; pos = omega arith; room = rw whole (simp length-append (omega arith)) },
      shape_fits k s r c,
    )

oid_says : (k bad : ℕ) (s : List ℕ) (r : Got ℕ) → Bytes s → k ≤ 9 → oid k bad s ≡ ok r → OidSaid k s r
unfolding oid
oid_says k bad s r h l e =
    bind_then _ _ _ e λ a ea e₁.
    need_then _ _ _ _ e₁ λ f e₂.
    rw (← ok_inj _ _ e₂) (shape_says k s a (oid_go_says k bad 0 0 s a h ea) l (eqb-false _ _ (not-true _ f)))

pub id_says : (s : List ℕ) (r : Got ℕ) → Bytes s → id_of s ≡ ok r → Took (oid_bytes r.val) s r.used × (r.val < 2 ^ 63)
unfolding id_of
id_says s r h e =
    let w = oid_says 9 8 s r h (omega arith) e in
    let f : Fits 128 9 r.val = w.1 in
    (w.0, omega arith)

pub tag_says : (s : List ℕ) (r : Got ℕ) → Bytes s → tag_of s ≡ ok r → Took (oid_bytes r.val) s r.used × (0 < r.val) × (r.val ≤ 16383)
unfolding tag_of
tag_says s r h e =
    bind_then _ _ _ e λ a ea e₁.
    need_then _ _ _ _ e₁ λ p e₂.
    let w = oid_says 2 4 s a h (omega arith) ea in
    let f : Fits 128 2 a.val = w.1 in
    rw (← ok_inj _ _ e₂) (w.0, ltb-true 0 a.val p, omega arith)
