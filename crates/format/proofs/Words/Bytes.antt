-- Lists whose elements are bytes, and what a reader took from one.
use mathlib.Core.Path.{◌≡◌, ap, ◌∙◌}
use Prim.Native.Nat.{ℕ, zero, suc, ◌+◌, ◌-◌, ◌≤◌, ◌<◌}
use native.Mathlib.Omega.{arith}
use mathlib.Core.List.{List, [], ◌∷◌, ◌++◌}
use lib.ListN.{length, take, drop, length-append, length-drop}
use lib.Seq.{get_or-drop, get_or-append-add}
use Rattle.format.specs.Coding.{Bytes}

pub bytes_drop : (n : ℕ) (s : List ℕ) → Bytes s → Bytes (drop n s)
bytes_drop n s h i = rw get_or-drop (h (n + i))

pub bytes_take : (n : ℕ) (s : List ℕ) → Bytes s → Bytes (take n s)
bytes_take zero s h i = omega arith
bytes_take (suc n) [] h i = omega arith
bytes_take (suc n) (b ∷ s) h zero = h 0
bytes_take (suc n) (b ∷ s) h (suc i) = bytes_take n s (λ j. h (suc j)) i

pub bytes_left : (ds t : List ℕ) → Bytes (ds ++ t) → Bytes ds
bytes_left [] t h i = omega arith
bytes_left (d ∷ ds) t h zero = h 0
bytes_left (d ∷ ds) t h (suc i) = bytes_left ds t (λ j. h (suc j)) i

pub bytes_right : (p q : List ℕ) → Bytes (p ++ q) → Bytes q
bytes_right p q h i = rw (← get_or-append-add p q i 0) (h (length p + i))

pub bytes_append : (a b : List ℕ) → Bytes a → Bytes b → Bytes (a ++ b)
bytes_append [] b ha hb i = hb i
bytes_append (x ∷ a) b ha hb zero = ha 0
bytes_append (x ∷ a) b ha hb (suc i) = bytes_append a b (λ j. ha (suc j)) hb i

pub bytes_cons : (x : ℕ) (s : List ℕ) → x < 256 → Bytes s → Bytes (x ∷ s)
bytes_cons x s h g zero = h
bytes_cons x s h g (suc i) = g i

pub bytes_none : Bytes []
bytes_none i = omega arith

-- ---- s begins with the bytes b, w of them

pub record Took (b s : List ℕ) (w : ℕ) : Type 0 where
  pub bytes : s ≡ b ++ drop w s
  pub pos : 0 < w
  pub room : w ≤ length s

pub took_length : (b s : List ℕ) (w : ℕ) → Took b s w → length b ≡ w
took_length b s w t =
    let e : length s ≡ length b + (length s - w) = ap length t.bytes ∙ simp (length-append, length-drop) in
    omega (arith, t.room)
