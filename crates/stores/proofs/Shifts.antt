-- A run of numbers read back from where it was stored.
use Prim.Native.Nat.{ℕ, ◌+◌, ◌≤◌}
use mathlib.Core.Path.{◌≡◌, ◌∙◌, ap}
use mathlib.Core.List.{List, ◌++◌, append_assoc}
use native.Mathlib.Omega.{arith}
use lib.ListN.{length, take, drop}
use lib.Seq.{sets, sets-eq, length-take-le, drop_at, take-append_seam}

-- what is moved on, where a run was stored before
pub stored_reads : (l : List ℕ) (a : ℕ) (vs : List ℕ) → a + length vs ≤ length l → take (length vs) (drop a (sets l a vs)) ≡ vs
stored_reads l a vs h =
    let long : length (take a l) ≡ a = length-take-le a l (omega arith) in
    let behind : List ℕ = drop (a + length vs) l in
    ap (λ r. take (length vs) (drop a r)) (sets-eq vs l a h ∙ append_assoc (take a l) vs behind)
    ∙ ap (take (length vs)) (drop_at (take a l) (vs ++ behind) a long)
    ∙ take-append_seam vs behind
