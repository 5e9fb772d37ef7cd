-- What an entry and a pack write in normal form: a head, and what they hold; with the size that stands in the head.
use mathlib.Core.Path.{◌≡◌, refl, sym, ap, ◌∙◌}
use Prim.Native.Nat.{ℕ, ◌+◌}
use native.Mathlib.Omega.{arith}
use mathlib.Core.List.{List, [], ◌∷◌, ◌++◌, append_assoc, map}
use lib.ListN.{length}
use Rattle.format.specs.Answer.{Ans, ok, refused, Got}
use Rattle.format.specs.Coding.{len_width, len_bytes, oid_bytes}
use Rattle.format.specs.Lists.{flat_all}
use Rattle.format.specs.Table.{Form, Level, pack}
use Rattle.format.specs.Packet.{Item, Pack, Entry, plain, series, tag_of_entry, flat_item, pack_body, flat_pack, flat_entry}
use Rattle.format.specs.Sheet.{val_of, target_of, part_of}
use Rattle.format.specs.Calls.{item_of, pack_with, pack_of, series_with, entry_of}
use Rattle.format.specs.Valid.{All}
use Rattle.tally.specs.declared.Sizes.{Sizes}
use Rattle.tally.specs.Pieces.{Walked}
use Rattle.tally.specs.Pieces.{Good, Bad}
use Rattle.tally.specs.Meet.{total, bits, bit_of, weight_of_val, weight_of_item, weight_of_entry, walked_of, level_walk}
use Rattle.tally.specs.Runs.{level_run, made_of}
use Rattle.tally.proofs.Maps.{total_map}
use Rattle.tally.proofs.Totals.{body_normal}
use Rattle.store_coded.specs.Fronts.{series_front, pack_front}
use Rattle.write_normal.specs.Meet.{item_normal, entry_normal, pack_normal, InnerIs, InnerRun}

-- ---- an entry

pub packs_normal : (ps : List Pack) → flat_all flat_pack (map pack_of (map target_of ps)) ≡ flat_all pack_normal ps
unfolding flat_all
packs_normal [] = refl
packs_normal (p ∷ ps) = ap (λ x. pack_normal p ++ x) (packs_normal ps)

series_normal_lem : (w : ℕ) (ps : List Pack) (n : ℕ) → n ≡ length (flat_all pack_normal ps) → flat_entry (entry_of (part_of (series w ps))) ≡ series_front n ++ flat_all pack_normal ps
unfolding flat_entry entry_of part_of series_with series_front
series_normal_lem w ps n e = rw (packs_normal ps, ← e) (sym (append_assoc (oid_bytes 101) (len_bytes (len_width n) n) (flat_all pack_normal ps)))

-- where the packs of a series take n bytes
abbrev pub entry_bytes : ℕ → Level → Entry → List ℕ
entry_bytes n l (plain i) = item_normal l i.tag i.value
entry_bytes n l (series w ps) = series_front n ++ flat_all pack_normal ps

entry_bytes_lem : (n : ℕ) (l : Level) (e : Entry) → InnerIs n e → entry_normal l e ≡ entry_bytes n l e
entry_bytes_lem n l (plain i) h = refl
entry_bytes_lem n l (series w ps) h = series_normal_lem w ps n h

entries_bytes : (n : ℕ) (l : Level) (es : List Entry) → All (InnerIs n) es → flat_all (entry_normal l) es ≡ flat_all (entry_bytes n l) es
unfolding flat_all
entries_bytes n l [] h = refl
entries_bytes n l (e ∷ es) h = rw (entry_bytes_lem n l e h.0, entries_bytes n l es h.1)

pub run_bytes : (n : ℕ) (l : Level) (x : Ans (Got (List Entry))) → InnerRun n x → made_of (flat_all (entry_normal l)) x ≡ made_of (flat_all (entry_bytes n l)) x
run_bytes n l (ok rs) h = entries_bytes n l rs.val h
run_bytes n l (refused k p) h = refl

-- ---- a pack

-- its items, as those of its target and as entries
pub same_normal : (is : List Item) → flat_all flat_item (map item_of (map (val_of pack) is)) ≡ flat_all (entry_normal pack) (map plain is)
unfolding flat_all item_normal val_of
same_normal [] = refl
same_normal (i ∷ is) = ap (λ x. entry_normal pack (plain i) ++ x) (same_normal is)

-- how many bytes they are with an id in front
pub body_long : (id : ℕ) (is : List Item) → length (oid_bytes id ++ flat_all flat_item (map item_of (map (val_of pack) is))) ≡ length (oid_bytes id) + (total (weight_of_item pack) is).normal
unfolding pack_body
body_long id is =
    body_normal (record { id = id; vals = map (val_of pack) is }) 0
    ∙ ap (λ x. length (oid_bytes id) + x.normal) (sym (total_map (val_of pack) (weight_of_item pack) (weight_of_val pack) (λ i. unfold val_of in refl) is))

pub pack_normal_lem : (w id : ℕ) (is : List Item) (n : ℕ) → n ≡ length (oid_bytes id) + (total (weight_of_item pack) is).normal
    → pack_normal (record { width = w; id = id; items = is }) ≡ pack_front n id ++ flat_all (entry_normal pack) (map plain is)
unfolding flat_pack pack_of pack_with pack_body target_of pack_front
pack_normal_lem w id is n e =
    let l : length (oid_bytes id ++ flat_all flat_item (map item_of (map (val_of pack) is))) ≡ n = body_long id is ∙ sym e in
    rw (l, same_normal is) (sym (append_assoc (len_bytes (len_width n) n) (oid_bytes id) (flat_all (entry_normal pack) (map plain is))))

-- no series stands in it
pub no_inner : (n : ℕ) (is : List Item) → All (InnerIs n) (map plain is)
no_inner n [] = tt
no_inner n (i ∷ is) = (tt, no_inner n is)

-- ---- what the item walk says of a pack's items

module _ (f : Form) (s : List ℕ) (is : List Item) {es : Got (List Entry)} (r : level_run pack f s ≡ ok es) (e : es.val ≡ map plain is) where
  walk_is : level_walk pack f s ≡ Good (total (weight_of_entry pack) (map plain is)) (bits (λ e. bit_of (tag_of_entry e)) (map plain is))
  unfolding level_walk level_run
  walk_is = ap (walked_of (weight_of_entry pack) (λ e. bit_of (tag_of_entry e))) r ∙ ap (λ xs. Good (total (weight_of_entry pack) xs) (bits (λ e. bit_of (tag_of_entry e)) xs)) e

  pub walk_sizes : {w : Walked} → w ≡ level_walk pack f s → {z : Sizes} {m : ℕ} → w ≡ Good z m → total (weight_of_item pack) is ≡ z
  walk_sizes ew {z = z} {m = m} tw =
      let q : Good z m ≡ Good (total (weight_of_entry pack) (map plain is)) (bits (λ e. bit_of (tag_of_entry e)) (map plain is)) = sym tw ∙ ew ∙ walk_is in
      total_map plain (weight_of_item pack) (weight_of_entry pack) (λ i. refl) is ∙ cc

  pub walk_fault : {X : Type 0} {w : Walked} → w ≡ level_walk pack f s → {n q : ℕ} → w ≡ Bad n q → X
  walk_fault ew {n = n} {q = q} tw =
      absurd (let z : Bad n q ≡ Good (total (weight_of_entry pack) (map plain is)) (bits (λ e. bit_of (tag_of_entry e)) (map plain is)) = sym tw ∙ ew ∙ walk_is in let c : ◌≡◌ {A = ℕ} 0 1 = cc in omega arith)
