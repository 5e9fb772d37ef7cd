-- The normal form is never longer than a packet that says it, and is that packet where it is as long: no piece grows, and one that
-- keeps its size keeps its bytes.
use mathlib.Core.Path.{◌≡◌, ap, ◌∙◌}
use Prim.Native.Nat.{ℕ, ◌+◌, ◌≤◌}
use native.Mathlib.Omega.{arith}
use mathlib.Core.List.{List, [], ◌∷◌, ◌++◌, map, map-map}
use lib.ListN.{length, length-append}
use Rattle.format.specs.Coding.{oid_bytes, len_bytes, len_width, fixed}
use Rattle.format.specs.Lists.{flat_all}
use Rattle.format.specs.Table.{Form, embedded, standalone, Level, set, pack, rule_of, short}
use Rattle.format.specs.Packet.{Item, Pack, Entry, plain, series, Packet, under, flat_item, pack_body, flat_pack, flat_entry, the_key, covered, framed, flat, checksum, closed}
use Rattle.format.specs.Sheet.{val_of, target_of, part_of, content}
use Rattle.format.specs.Calls.{item_of, pack_with, series_with, pack_of, entry_of, packet_of}
use Rattle.format.specs.Valid.{Holds, All, ItemValid, PackValid, EntryValid, Framed, Valid}
use Rattle.format.proofs.Words.Shrinks.{Shrinks, shrinks_not, shrinks_append, shrinks_all}
use Rattle.format.proofs.Coding.Digits.{length_fixed}
use Rattle.format.proofs.Coding.Lengths.{length_len, width_least}
use Rattle.format.proofs.Table.Values.{short_shrinks}

-- ---- what bytes stand under, and what seals them

-- bytes behind a shortest length, that counts as many more than they are
length_shrinks : (w m n : ℕ) (a b : List ℕ) → Shrinks a b → n ≤ m → (length a ≡ length b → n ≡ m) → Holds w m
    → Shrinks (len_bytes (len_width n) n ++ a) (len_bytes w m ++ b)
length_shrinks w m n a b s l t h =
    let v : ℕ = len_width n in
    let z : v ≤ w = width_least w m n l h in
    let la : length (len_bytes v n ++ a) ≡ v + length a = simp (length-append, length_len) in
    let lb : length (len_bytes w m ++ b) ≡ w + length b = simp (length-append, length_len) in
    record {
      less = omega (arith, la, lb, z, s.less);
      same = λ e.
          let d : length a ≡ length b = omega (arith, e, la, lb, z, s.less) in
          let u : v ≡ w = omega (arith, e, la, lb, z, s.less) in
          ap (λ x. len_bytes x n ++ a) u ∙ ap (λ x. len_bytes w x ++ a) (t d) ∙ ap (λ x. len_bytes w m ++ x) (s.same d);
    }

under_shrinks : (w : ℕ) (a b : List ℕ) → Shrinks a b → Holds w (length b) → Shrinks (under (len_width (length a)) a) (under w b)
under_shrinks w a b s h = length_shrinks w (length b) (length a) a b s s.less (λ e. e) h

covered_shrinks : (w : ℕ) (a b : List ℕ) → Shrinks a b → Holds w (length b + 4) → Shrinks (covered (len_width (length a + 4)) a) (covered w b)
unfolding covered
covered_shrinks w a b s h =
    let c : List ℕ = 1 ∷ 2 ∷ [] in
    let la : length (a ++ c) ≡ length a + 2 = length-append a c in
    let lb : length (b ++ c) ≡ length b + 2 = length-append b c in
    shrinks_append the_key the_key _ _ (shrinks_not the_key)
    (length_shrinks w (length b + 4) (length a + 4) (a ++ c) (b ++ c) (shrinks_append a b c c s (shrinks_not c)) (omega (arith, s.less)) (λ e. omega (arith, e, la, lb)) h)

-- what is added is a function of the bytes, always as many
sealed_shrinks : (a b : List ℕ) → Shrinks a b → Shrinks (a ++ fixed 2 (checksum a)) (b ++ fixed 2 (checksum b))
sealed_shrinks a b s =
    let la : length (a ++ fixed 2 (checksum a)) ≡ length a + 2 = rw (length-append, length_fixed) in
    let lb : length (b ++ fixed 2 (checksum b)) ≡ length b + 2 = rw (length-append, length_fixed) in
    record {
      less = omega (arith, la, lb, s.less);
      same = λ e. ap (λ x. x ++ fixed 2 (checksum x)) (s.same (omega (arith, e, la, lb)));
    }

-- ---- piece by piece

-- things of a list, taken to what they say and back
pieces_shrink : {X Y : Type 0} (say : X → Y) (back : Y → X) (flat : X → List ℕ) (P : X → Type 0)
    → ((x : X) → P x → Shrinks (flat (back (say x))) (flat x)) → (xs : List X) → All P xs → Shrinks (flat_all flat (map back (map say xs))) (flat_all flat xs)
pieces_shrink say back flat P k xs h = rw map-map (shrinks_all (λ x. back (say x)) flat flat P k xs h)

item_shrinks : (l : Level) (f : Form) (i : Item) → ItemValid l f i → Shrinks (flat_item (item_of (val_of l i))) (flat_item i)
unfolding item_of val_of flat_item
item_shrinks l f i h =
    shrinks_append _ _ _ _ (shrinks_not (oid_bytes i.tag))
    (under_shrinks i.width (short (rule_of l i.tag) i.value) i.value (short_shrinks (rule_of l i.tag) i.value) h.coded)

pub items_shrink : (f : Form) (is : List Item) → All (ItemValid pack f) is → Shrinks (flat_all flat_item (map item_of (map (val_of pack) is))) (flat_all flat_item is)
items_shrink f = pieces_shrink (val_of pack) item_of flat_item (ItemValid pack f) (item_shrinks pack f)

pack_shrinks : (f : Form) (p : Pack) → PackValid f p → Shrinks (flat_pack (pack_of (target_of p))) (flat_pack p)
unfolding pack_of pack_with target_of flat_pack pack_body
pack_shrinks f p h =
    under_shrinks p.width _ _
    (shrinks_append _ _ _ _ (shrinks_not (oid_bytes p.id)) (items_shrink f p.items h.items_valid.each))
    h.coded

entry_shrinks : (f : Form) (e : Entry) → EntryValid f e → Shrinks (flat_entry (entry_of (part_of e))) (flat_entry e)
unfolding entry_of part_of series_with flat_entry
entry_shrinks f (plain i) h = item_shrinks set f i h
entry_shrinks f (series w ps) h =
    shrinks_append _ _ _ _ (shrinks_not (oid_bytes 101))
    (under_shrinks w _ _ (pieces_shrink target_of pack_of flat_pack (PackValid f) (pack_shrinks f) ps h.packs_valid.each) h.coded)

-- ---- the packet

frame_shrinks : (f : Form) (w : ℕ) (es : List Entry) (b c : List ℕ) → Framed f w b c → Shrinks (flat_all flat_entry es) b → Shrinks (flat (closed f es)) (framed f w b c)
unfolding closed flat framed
frame_shrinks embedded w es b c g s = s
frame_shrinks standalone w es b c g s =
    rw g.1 (sealed_shrinks _ _ (covered_shrinks w (flat_all flat_entry es) b s g.0))

normal_shrinks : (p : Packet) → Valid p → Shrinks (flat (packet_of (content p))) (flat p)
unfolding packet_of content flat
normal_shrinks p h =
    frame_shrinks p.form p.width _ _ p.sum h.framed
    (pieces_shrink part_of entry_of flat_entry (EntryValid p.form) (entry_shrinks p.form) p.entries h.entries_valid.each)

pub normal_less : (p : Packet) → Valid p → length (flat (packet_of (content p))) ≤ length (flat p)
normal_less p h = (normal_shrinks p h).less

pub normal_same : (p : Packet) → Valid p → length (flat (packet_of (content p))) ≡ length (flat p) → flat (packet_of (content p)) ≡ flat p
normal_same p h = (normal_shrinks p h).same
