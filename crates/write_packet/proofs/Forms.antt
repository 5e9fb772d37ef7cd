-- What a part and a target write: a head, and what they hold; with the size that stands in the head.
use mathlib.Core.Path.{◌≡◌, refl, sym, ap, ◌∙◌}
use Prim.Native.Nat.{ℕ, ◌+◌}
use native.Mathlib.Omega.{arith}
use mathlib.Core.List.{List, [], ◌∷◌, ◌++◌, append_assoc, map}
use lib.ListN.{length, length-append}
use Rattle.format.specs.Answer.{Ans, ok, refused, Got}
use Rattle.format.specs.Coding.{len_width, len_bytes, oid_bytes}
use Rattle.format.specs.Lists.{flat_all}
use Rattle.format.specs.Table.{pack}
use Rattle.format.specs.Packet.{flat_item, pack_body, flat_pack, flat_entry}
use Rattle.format.specs.Sheet.{Val, Part, one, targets}
use Rattle.format.specs.Calls.{item_of, pack_with, pack_of, series_with, entry_of}
use Rattle.format.specs.Valid.{All}
use Rattle.tally.specs.Meet.{total, weight_of_val}
use Rattle.tally.specs.Runs.{made_of}
use Rattle.tally.proofs.Totals.{body_normal}
use Rattle.store_coded.specs.Fronts.{series_front, pack_front}
use Rattle.write_packet.specs.Meet.{part_normal, target_normal, InnerPart, InnerParts}
use Rattle.write_packet.specs.Writing.{part_bytes}

pub flat_map : {X Y : Type 0} (g : X → Y) (flat : Y → List ℕ) (xs : List X) → flat_all flat (map g xs) ≡ flat_all (λ x. flat (g x)) xs
unfolding flat_all
flat_map g flat [] = refl
flat_map g flat (x ∷ xs) = ap (λ y. flat (g x) ++ y) (flat_map g flat xs)

-- ---- a part

part_bytes_lem : (n : ℕ) (p : Part) → InnerPart n p → part_normal p ≡ part_bytes n p
unfolding flat_entry entry_of series_with series_front
part_bytes_lem n (one v) h = refl
part_bytes_lem n (targets ts) h = rw (flat_map pack_of flat_pack ts, ← h) (sym (append_assoc (oid_bytes 101) (len_bytes (len_width n) n) (flat_all target_normal ts)))

parts_bytes : (n : ℕ) (ps : List Part) → All (InnerPart n) ps → flat_all part_normal ps ≡ flat_all (part_bytes n) ps
unfolding flat_all
parts_bytes n [] h = refl
parts_bytes n (p ∷ ps) h = rw (part_bytes_lem n p h.0, parts_bytes n ps h.1)

pub run_bytes : (n : ℕ) (x : Ans (Got (List Part))) → InnerParts n x → made_of (flat_all part_normal) x ≡ made_of (flat_all (part_bytes n)) x
run_bytes n (ok rs) h = parts_bytes n rs.val h
run_bytes n (refused k p) h = refl

-- ---- a target

-- its items, as those of its pack and as parts
same_normal : (vs : List Val) → flat_all flat_item (map item_of vs) ≡ flat_all part_normal (map one vs)
unfolding flat_entry entry_of
same_normal vs = flat_map item_of flat_item vs ∙ sym (flat_map one part_normal vs)

pub target_normal_lem : (id : ℕ) (vs : List Val) (n : ℕ) → n ≡ length (oid_bytes id) + (total (weight_of_val pack) vs).normal
    → target_normal (record { id = id; vals = vs }) ≡ pack_front n id ++ flat_all part_normal (map one vs)
unfolding flat_pack pack_of pack_with pack_body pack_front
target_normal_lem id vs n e =
    let l : length (oid_bytes id ++ flat_all flat_item (map item_of vs)) ≡ n = body_normal (record { id = id; vals = vs }) 0 ∙ sym e in
    rw (l, same_normal vs) (sym (append_assoc (len_bytes (len_width n) n) (oid_bytes id) (flat_all part_normal (map one vs))))

pub vals_normal : (vs : List Val) → length (flat_all part_normal (map one vs)) ≡ (total (weight_of_val pack) vs).normal
unfolding pack_body
vals_normal vs =
    let b = body_normal (record { id = 0; vals = vs }) 0 in
    omega (arith, b, length-append (oid_bytes 0) (flat_all flat_item (map item_of vs)), ap length (same_normal vs))

-- no series stands in it
pub no_inner : (n : ℕ) (vs : List Val) → All (InnerPart n) (map one vs)
no_inner n [] = tt
no_inner n (v ∷ vs) = (tt, no_inner n vs)
