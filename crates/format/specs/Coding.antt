-- Coding: numbers in bytes, lengths, tags and ids, both ways (document 01, Coding).
use Rattle.std.specs.Prelude.{ℕ, zero, suc, ◌+◌, ◌-◌, ◌*◌, ◌/◌, ◌%◌, ◌<◌, true, false, not, ◌&&◌, List, [], ◌∷◌, ◌++◌, length, take, get_or, ltb, leb, eqb}
use Rattle.format.specs.Answer.{Ans, ok, refused, Got, got, need, ◌>>=◌}

-- every element is a byte
abbrev pub Bytes : List ℕ → Type 0
Bytes s = (i : ℕ) → get_or s i 0 < 256

-- ---- numbers, high digit first

-- the number that digits spell in a base, going on from a start; each digit counts less its flag
unfoldable pub number : ℕ → ℕ → ℕ → List ℕ → ℕ
number base flag acc [] = acc
number base flag acc (d ∷ ds) = number base flag (acc * base + (d - flag)) ds

-- the number that bytes spell
abbrev pub bytes_number : List ℕ → ℕ
bytes_number v = number 256 0 0 v

-- the digits of n, each with the flag, none for 0; at most k of them
unfoldable pub digits : ℕ → ℕ → ℕ → ℕ → List ℕ
digits base flag zero n = []
digits base flag (suc k) zero = []
digits base flag (suc k) (suc n) = digits base flag k (suc n / base) ++ ((suc n % base + flag) ∷ [])

-- n in just k bytes
unfoldable pub fixed : ℕ → ℕ → List ℕ
fixed zero n = []
fixed (suc k) n = fixed k (n / 256) ++ (n % 256 ∷ [])

-- ---- lengths

-- after 80 + k: k bytes, one to four
unfoldable pub long_of : ℕ → List ℕ → Ans (Got ℕ)
long_of k s = do
  _ ← need (ltb 0 k && leb k 4) 5
  _ ← need (leb k (length s)) 3
  ok (got (bytes_number (take k s)) (suc k))

unfoldable pub len_of : List ℕ → Ans (Got ℕ)
len_of [] = refused 3 0
len_of (b ∷ s) = elim (ltb b 128) [ true ↦ ok (got b 1) | false ↦ long_of (b - 128) s ]

-- the length n in w bytes: one byte, or a count and w - 1 bytes
unfoldable pub len_bytes : ℕ → ℕ → List ℕ
len_bytes zero n = []
len_bytes (suc zero) n = n ∷ []
len_bytes (suc (suc k)) n = (129 + k) ∷ fixed (suc k) n

-- how many bytes the shortest length takes
unfoldable pub len_width : ℕ → ℕ
len_width n = elim (ltb n 128) [ true ↦ 1 | false ↦ suc (length (digits 256 0 4 n)) ]

-- ---- tags and ids: seven bits to a byte, high bit set on all but the last, at most k bytes

unfoldable pub oid_go : ℕ → ℕ → ℕ → ℕ → List ℕ → Ans (Got ℕ)
oid_go zero bad used acc s = refused bad 0
oid_go (suc k) bad used acc [] = refused 3 0
oid_go (suc k) bad used acc (b ∷ s) =
    elim (ltb b 128) [ true ↦ ok (got (acc * 128 + b) (suc used)) | false ↦ oid_go k bad (suc used) (acc * 128 + (b - 128)) s ]

-- a first byte of 80 is refused
unfoldable pub oid : ℕ → ℕ → List ℕ → Ans (Got ℕ)
oid k bad s = do
  r ← oid_go k bad 0 0 s
  _ ← need (not (eqb (get_or s 0 0) 128)) bad
  ok r

unfoldable pub tag_of : List ℕ → Ans (Got ℕ)
tag_of s = do
  r ← oid 2 4 s
  _ ← need (ltb 0 r.val) 4
  ok r

unfoldable pub id_of : List ℕ → Ans (Got ℕ)
id_of s = oid 9 8 s

unfoldable pub oid_bytes : ℕ → List ℕ
oid_bytes n = digits 128 128 8 (n / 128) ++ (n % 128 ∷ [])
