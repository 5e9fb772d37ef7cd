-- A run of numbers stored at once, and one stored as its last and its first numbers, which may overlap.
use Rattle.std.proofs.Common.{◌≡◌, ℕ, suc, ◌+◌, ◌-◌, ◌≤◌, ◌<◌, List, [], ◌∷◌, ◌++◌, length, take, drop, set, get_or, refl, sym, ap, ◌∙◌, arith, append_assoc, length-drop, length-take-le, take-append-drop}
use Rattle.std.proofs.Math.Seq.{paste}
use Rattle.std.proofs.lemmas.List.{drop-drop, take_all, get_or-set_other}
use Rattle.std.proofs.lemmas.List.Edits.{sets, sets-eq}
use Rattle.std.proofs.lemmas.Simd.{put_chunk_is}
use Rattle.std.specs.List.{copy_within}
use Rattle.std.specs.Simd.Lanes.{chunk, put_chunk}
use Rattle.stores.proofs.Stores.{sets_append, sets_swap, sets_under}

-- n numbers of s from f on, stored as a vector
pub vector_stored : (l : List ℕ) (i : ℕ) (s : List ℕ) (f n : ℕ) → f + n ≤ length s → i + n ≤ length l → put_chunk i l (chunk f n s) ≡ sets l i (take n (drop f s))
vector_stored l i s f n h room =
    let part : List ℕ = take n (drop f s) in
    let long : length part ≡ n = length-take-le n (drop f s) (rw length-drop (omega arith)) in
    let fits : i + length part ≤ length l = omega arith in
    put_chunk_is i l part fits
    ∙ ap (λ r. take i l ++ (part ++ r)) (drop-drop (length part) i l)
    ∙ sym (sets-eq part l i fits ∙ append_assoc (take i l) part (drop (i + length part) l))

-- n numbers moved on by k, within the list that they stand in
pub moved_on : (l : List ℕ) (i n k : ℕ) → i + k + n ≤ length l → copy_within l i (i + n) (i + k) ≡ sets l (i + k) (take n (drop i l))
moved_on l i n k room =
    let part : List ℕ = take n (drop i l) in
    let long : length part ≡ n = length-take-le n (drop i l) (rw length-drop (omega arith)) in
    let so_many : i + n - i ≡ n = omega arith in
    ap (paste l (i + k) (drop i l)) so_many
    ∙ sym (sets-eq part l (i + k) (omega arith) ∙ ap (λ j. take (i + k) l ++ part ++ drop (i + k + j) l) long)

-- s, stored as its last w numbers and then the first w: over those of the last that it has already, the first are stored again
pub copy_ends : (l : List ℕ) (i : ℕ) (s : List ℕ) (w : ℕ) → w ≤ length s → length s ≤ w + w
    → sets (sets l (i + (length s - w)) (take w (drop (length s - w) s))) i (take w s) ≡ sets l i s
copy_ends l i s w least most =
    let m : ℕ = length s - w in
    let both : List ℕ = take (w - m) (drop m s) in
    let last : List ℕ = drop w s in
    let first : List ℕ = take w s in
    let at_end : m + (w - m) ≡ w = omega arith in
    let all : take w (drop m s) ≡ drop m s = take_all w (drop m s) (rw length-drop (omega arith)) in
    let parts : drop m s ≡ both ++ last = sym (take-append-drop (w - m) (drop m s)) ∙ ap (λ r. both ++ r) (drop-drop (w - m) m s ∙ ap (λ k. drop k s) at_end) in
    let both_long : length both ≡ w - m = length-take-le (w - m) (drop m s) (rw length-drop (omega arith)) in
    let first_long : length first ≡ w = length-take-le w s least in
    let there : i + m + length both ≡ i + w = omega arith in
    ap (λ r. sets r i first) (ap (sets l (i + m)) (all ∙ parts) ∙ sets_append l (i + m) both last ∙ ap (λ k. sets (sets l (i + m) both) k last) there)
    ∙ sets_swap (sets l (i + m) both) i first (i + w) last (omega arith)
    ∙ ap (λ r. sets r (i + w) last) (sets_under l (i + m) both i first (omega arith) (omega arith))
    ∙ ap (λ k. sets (sets l i first) (i + k) last) (sym first_long)
    ∙ sym (sets_append l i first last)
    ∙ ap (sets l i) (take-append-drop w s)

-- ---- what stands where, after a run was stored

pub sets_other : (l : List ℕ) (i : ℕ) (xs : List ℕ) (m : ℕ) → ((j : ℕ) → j < length xs → m ≡ i + j → ⊥) → get_or (sets l i xs) m 0 ≡ get_or l m 0
sets_other l i [] m n = refl
sets_other l i (x ∷ xs) m n = sets_other (set l i x) (suc i) xs m (λ j h e. n (suc j) (omega arith) (omega arith)) ∙ get_or-set_other l i m x 0 (λ e. n 0 (omega arith) (omega arith))
