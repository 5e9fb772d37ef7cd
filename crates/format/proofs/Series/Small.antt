-- A drop makes no packet longer: the pack that goes has two bytes at least, and tag 6's item grows by two at most.
use mathlib.Core.Path.{◌≡◌, refl, sym, ap, ◌∙◌}
use Prim.Native.Nat.{ℕ, ◌+◌, ◌≤◌, ◌<◌}
use native.Mathlib.Omega.{arith}
use mathlib.Core.Bool.{Bool, true, false}
use mathlib.Core.List.{List, [], ◌∷◌, ◌++◌, map}
use lib.ListN.{length, length-append}
use Rattle.format.specs.Coding.{oid_bytes, digits, len_width, fixed}
use Rattle.format.specs.Lists.{none?, has, flat_all, on_hit}
use Rattle.format.specs.Table.{Form, embedded, standalone, set, rule_of, short}
use Rattle.format.specs.Packet.{Pack, Entry, plain, series, Packet, id_of_pack, tag_of_entry, flat_pack, flat_entry, framed, flat, closed}
use Rattle.format.specs.Calls.{item_of, pack_of, series_with}
use Rattle.format.specs.Edit.{val_with}
use Rattle.format.specs.Targets.{dropped, moved, series_now, count_of, recounted, packs_in, change_entries, change_packet}
use Rattle.format.specs.Valid.{All, PackValid, EntryValid, Framed, Valid}
use Rattle.format.proofs.Words.Answers.{no_bool}
use Rattle.format.proofs.Words.Firsts.{First, here, there, first_parts, first_all, first_put, first_out, keyed, has_hit}
use Rattle.format.proofs.Words.Keys.{all_map}
use Rattle.format.proofs.Words.Together.{mid_out}
use Rattle.format.proofs.Coding.Digits.{length_fixed}
use Rattle.format.proofs.Coding.Lengths.{width_least}
use Rattle.format.proofs.Table.Tags.{nameable_set}
use Rattle.format.proofs.Table.Values.{short_size}
use Rattle.format.proofs.Reading.Items.{length_item, item_size_lem}
use Rattle.format.proofs.Reading.Packs.{pack_size}
use Rattle.format.proofs.Reading.Entries.{plain_flat}
use Rattle.format.proofs.Sheets.Normal.{length_covered, length_series}
use Rattle.format.proofs.Edits.Results.{series_key}
use Rattle.format.proofs.Series.Moves.{all_series}
use Rattle.format.proofs.Series.Rules.{ids_in}
use Rattle.format.proofs.Series.Results.{a_plain, packs_in_lem}

-- ---- the first hit changed for one with k bytes more at most

on_more : {X : Type 0} (flat : X → List ℕ) (hit : X → Bool) (f : X → X) (k : ℕ) (xs : List X) → All (λ x. hit x ≡ true → length (flat (f x)) ≤ length (flat x) + k) xs
    → length (flat_all flat (on_hit hit f xs)) ≤ length (flat_all flat xs) + k
unfolding on_hit flat_all
on_more flat hit f k [] h = omega arith
on_more flat hit f k (x ∷ xs) h = go (on_more flat hit f k xs h.1) (hit x) refl
  where
    go : length (flat_all flat (on_hit hit f xs)) ≤ length (flat_all flat xs) + k → (b : Bool) → hit x ≡ b
        → length (flat_all flat (on_hit hit f (x ∷ xs))) ≤ length (flat_all flat (x ∷ xs)) + k
    go ih true z = let l = h.0 z in rw (z, on_hit) (simp length-append (omega arith))
    go ih false z = rw (z, on_hit) (simp length-append (omega arith))

-- ---- tag 6

count_size : (n : ℕ) → length (flat_entry (a_plain (count_of n))) ≤ 5
unfolding count_of val_with item_of oid_bytes digits
count_size n =
    let v : List ℕ = short (rule_of set 6) (fixed 3 n) in
    let l : length v ≤ 3 = omega (arith, (short_size (rule_of set 6) (fixed 3 n) (rw length_fixed (omega arith))).1, length_fixed 3 n) in
    let w : len_width (length v) ≤ 1 = width_least 1 3 (length v) l (omega arith) in
    rw (plain_flat (item_of (count_of n)), length_item (item_of (count_of n))) (omega arith)

-- a valid item has three bytes at least
abbrev Wide : Entry → Type 0
Wide e = keyed tag_of_entry 6 e ≡ true → 3 ≤ length (flat_entry e)

entry_wide : (f : Form) (e : Entry) → EntryValid f e → Wide e
entry_wide f (plain i) h z = rw (plain_flat i) (omega (arith, item_size_lem set f i h, h.meets.not_empty))
entry_wide f (series w ps) h z = no_bool z

series_wide : (ps : List Pack) → Wide (series_with ps)
series_wide ps z = no_bool (rw (series_key ps) at z)

recount_more : (n : ℕ) (es : List Entry) → All Wide es → length (flat_all flat_entry (recounted tag_of_entry a_plain n es)) ≤ length (flat_all flat_entry es) + 2
unfolding recounted
recount_more n es h =
    on_more flat_entry (keyed tag_of_entry 6) (λ e. a_plain (count_of n)) 2 es
    (all_map Wide _ (λ e w z. let l = w z in omega (arith, count_size n)) es h)

-- ---- the series

some_flat : {X : Type 0} (flat : X → List ℕ) (xs : List X) → 0 < length (flat_all flat xs) → none? xs ≡ false
unfolding flat_all
some_flat flat [] h = absurd (omega arith)
some_flat flat (x ∷ xs) h = refl

-- it is the first with tag 101
series_then : {Z : Type 0} (f : Form) (es : List Entry) → All (EntryValid f) es → none? (packs_in es) ≡ false
    → ((before after : List Entry) (w : ℕ) → First (keyed tag_of_entry 101) es before (series w (packs_in es)) after → Z) → Z
unfolding packs_in
series_then f [] h n k = no_bool (sym n)
series_then f (plain i ∷ es) h n k =
    series_then f es h.1 n λ before after w r. k (plain i ∷ before) after w (there (nameable_set i.tag h.0.meets.named).1 r)
series_then f (series w ps ∷ es) h n k = k [] es w (here refl)

fewer : (f : Form) (w : ℕ) (ps qs : List Pack) → EntryValid f (series w ps) → length (flat_all flat_pack qs) + 2 ≤ length (flat_all flat_pack ps)
    → length (flat_entry (series_with qs)) + 2 ≤ length (flat_entry (series w ps))
unfolding series_with
fewer f w ps qs v l =
    let z : len_width (length (flat_all flat_pack qs)) ≤ w = width_least w (length (flat_all flat_pack ps)) (length (flat_all flat_pack qs)) (omega arith) v.coded in
    rw (length_series w ps, length_series (len_width (length (flat_all flat_pack qs))) qs) (omega arith)

series_less : (f : Form) (es : List Entry) → All (EntryValid f) es → (qs : List Pack) → length (flat_all flat_pack qs) + 2 ≤ length (flat_all flat_pack (packs_in es))
    → length (flat_all flat_entry (series_now tag_of_entry series_with qs es)) + 2 ≤ length (flat_all flat_entry es)
unfolding series_now
series_less f es h qs l =
    series_then f es h (some_flat flat_pack (packs_in es) (omega arith)) λ before after w r.
    let v = first_all (EntryValid f) r h in
    let e = ap (λ x. length (flat_all flat_entry x)) (first_parts r) ∙ mid_out flat_entry before (series w (packs_in es)) after in
    go before after w r (omega (arith, e)) qs (fewer f w (packs_in es) qs v l)
  where
    go : (before after : List Entry) (w : ℕ) → First (keyed tag_of_entry 101) es before (series w (packs_in es)) after
        → length (flat_all flat_entry (before ++ after)) + length (flat_entry (series w (packs_in es))) ≤ length (flat_all flat_entry es)
        → (qs : List Pack) → length (flat_entry (series_with qs)) + 2 ≤ length (flat_entry (series w (packs_in es)))
        → length (flat_all flat_entry (series_now tag_of_entry series_with qs es)) + 2 ≤ length (flat_all flat_entry es)
    go before after w r e [] k = rw (first_out r) (omega arith)
    go before after w r e (q ∷ qs) k = rw (first_put (series_with (q ∷ qs)) r, mid_out) (omega arith)

-- ---- the packet

closed_less : (f : Form) (w : ℕ) (es : List Entry) (b c : List ℕ) → Framed f w b c → length (flat_all flat_entry es) ≤ length b → length (flat (closed f es)) ≤ length (framed f w b c)
unfolding closed flat framed
closed_less embedded w es b c g l = l
closed_less standalone w es b c g l =
    let n : ℕ = length (flat_all flat_entry es) in
    let z : len_width (n + 4) ≤ w = width_least w (length b + 4) (n + 4) (omega arith) g.0 in
    rw g.1 (simp (length-append, length_covered, length_fixed) (omega arith))

dropped_packs : (f : Form) (i : ℕ) (ps : List Pack) → All (PackValid f) ps → has i (map id_of_pack ps) ≡ true
    → length (flat_all flat_pack (moved id_of_pack pack_of (dropped i) ps)) + 2 ≤ length (flat_all flat_pack ps)
unfolding moved
dropped_packs f i ps h e =
    let r = has_hit id_of_pack i ps e in
    let v = first_all (PackValid f) r.first h in
    let z : length (flat_all flat_pack ps) ≡ _ = ap (λ x. length (flat_all flat_pack x)) (first_parts r.first) ∙ mid_out flat_pack r.before r.it r.after in
    rw (first_out r.first) (omega (arith, z, pack_size r.it v.coded))

dropped_less : (i : ℕ) (p : Packet) → Valid p → has i (ids_in p) ≡ true → length (flat (change_packet (dropped i) p)) ≤ length (flat p)
unfolding change_packet change_entries flat
dropped_less i p v e =
    let es : List Entry = p.entries in
    let h = v.entries_valid.each in
    let qs : List Pack = moved id_of_pack pack_of (dropped i) (packs_in es) in
    let l = series_less p.form es h qs (dropped_packs p.form i (packs_in es) (packs_in_lem p.form es h).each e) in
    let w = all_series Wide tag_of_entry series_with qs (λ _. series_wide qs) es (all_map (EntryValid p.form) Wide (entry_wide p.form) es h) in
    closed_less p.form p.width (change_entries (dropped i) es) (flat_all flat_entry es) p.sum v.framed
    (omega (arith, l, recount_more (length qs) (series_now tag_of_entry series_with qs es) w))

-- so its result is never above the limit
pub dropped_small : (i : ℕ) (p : Packet) → Valid p → has i (ids_in p) ≡ true → length (flat (change_packet (dropped i) p)) ≤ 8192
dropped_small i p v e = omega (arith, dropped_less i p v e, v.small)
