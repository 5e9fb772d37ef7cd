-- What closes a packet, case by case, as the code tests it; and the sizes of the packet that is closed.
use mathlib.Core.Path.{◌≡◌, refl, sym, ap, ◌∙◌}
use Prim.Native.Nat.{ℕ, ◌+◌, ◌-◌, ◌≤◌}
use native.Mathlib.Omega.{arith}
use native.Mathlib.Nat.{add-zero}
use mathlib.Core.Bool.{Bool, true, false}
use mathlib.Core.List.{List, [], ◌∷◌, ◌++◌, map}
use lib.ListN.{length, take, drop, length-drop}
use lib.Seq.{take_all}
use lib.Dec.{eqb, lit<}
use Rattle.format.specs.Answer.{ok, ◌>>=◌, need, after}
use Rattle.format.specs.Coding.{bytes_number}
use Rattle.format.specs.Lists.{has, flat_all}
use Rattle.format.specs.Packet.{Entry, plain, Packet, tag_of_entry, flat_entry, checksum}
use Rattle.format.specs.Table.{Form, embedded, standalone, set}
use Rattle.format.specs.Read.{start, unsealed, closing}
use Rattle.format.specs.Sheet.{part_of, content, sheet_bytes}
use Rattle.format.specs.Calls.{entry_of}
use Rattle.format.specs.Rows.{seal_item, sealed, rows_of}
use Rattle.format.specs.Valid.{All}
use Rattle.format.proofs.Reading.Seal.{SetRead, split, split_embedded, split_alone}
use Rattle.coding.proofs.Rooms.{tail_part}
use Rattle.items.specs.Meet.{form_of}
use Rattle.tally.specs.declared.Sizes.{Sizes}
use Rattle.tally.specs.Meet.{total, bits, bit_of, is_held, weight_of_entry}
use Rattle.tally.proofs.Bits.{bits_map, bits_has}
use Rattle.tally.proofs.Walks.{same_sizes}
use Rattle.tally.proofs.Totals.{parts_sheet, parts_normal, parts_inner, entries_say, says_no_seal, entries_count, seal_last}
use Rattle.tally.proofs.Parsed.{packet_of}
use Rattle.check_packet.specs.Checks.{Checked}
use Rattle.check_packet.specs.Checks.{Fine, Wrong}
use Rattle.check_packet.specs.Meet.{checked_of, fine_of, sum_right, closing_by}

-- ---- as the code tests it

-- the last two bytes, as the borrow checker has them
pub sealed_is : (s : List ℕ) {a b : ℕ} → a ≡ checksum (take (length s - 2) s) → 2 ≤ length s
    → b ≡ bytes_number (take 2 (take (length s - (length s - 2)) (drop (length s - 2) s))) → eqb a b ≡ sum_right s
sealed_is s p l q =
    let n : length (drop (length s - 2) s) ≤ 2 = rw length-drop (omega arith) in
    rw (p, q, tail_part (length s - 2) s, take_all 2 (drop (length s - 2) s) n)

-- a standalone packet has a key
pub alone_room : {n : ℕ} {alone : Bool} → alone ≡ true → start (form_of alone) 0 ≤ n → 16 ≤ n
alone_room t h = rw t at h

pub closed_embedded : (s : List ℕ) (m : Bool) (a : Sizes) (k : ℕ) {alone : Bool} {r : Checked} → alone ≡ false → r ≡ fine_of a k → r ≡ closing_by (form_of alone) s m a k
closed_embedded s m a k t e = rw t e

module _ (s : List ℕ) (a : Sizes) (k : ℕ) {alone m : Bool} (t : alone ≡ true) where
  pub closed_14 : m ≡ false → Wrong 14 (length s) ≡ closing_by (form_of alone) s m a k
  unfolding ◌>>=◌ need after
  closed_14 e = rw (t, e, add-zero)

  module _ (e : m ≡ true) {x : Bool} (ex : x ≡ sum_right s) where
    pub closed_15 : x ≡ false → Wrong 15 (length s - 4) ≡ closing_by (form_of alone) s m a k
    unfolding ◌>>=◌ need after
    closed_15 q = rw (t, e, ← ex, q, add-zero)

    pub closed_fine : {r : Checked} → x ≡ true → r ≡ fine_of a k → r ≡ closing_by (form_of alone) s m a k
    unfolding ◌>>=◌ need after
    closed_fine q z = rw (t, e, ← ex, q) z

-- ---- the packet of these entries, closed

abbrev summed : List Entry → Sizes
summed es = total (weight_of_entry set) es

module _ (p : Packet) (h : All (λ e. eqb (tag_of_entry e) 1 ≡ false) p.entries) where
  sheet_size : length (sheet_bytes (content p)) ≡ 3 + (summed p.entries).sheet
  unfolding sheet_bytes content
  sheet_size = omega (arith, parts_sheet (map part_of p.entries) (says_no_seal p.entries h), ap (λ a. a.sheet) (entries_say p.entries))

  normal_size : length (flat_all flat_entry (map entry_of (content p).parts)) ≡ (summed p.entries).normal
  unfolding content
  normal_size = parts_normal (map part_of p.entries) (says_no_seal p.entries h) ∙ sym (ap (λ a. a.normal) (entries_say p.entries))

  pub inner_less : (summed p.entries).inner ≤ length (flat_all flat_entry (map entry_of (content p).parts))
  inner_less = omega (arith, normal_size, parts_inner (map part_of p.entries), ap (λ a. a.inner) (entries_say p.entries), ap (λ a. a.normal) (entries_say p.entries))

  -- a is what its entries weigh, with the checksum or without
  fine_is : {a : Sizes} → a.sheet ≡ (summed p.entries).sheet → a.rows ≡ length (rows_of p) → a.normal ≡ (summed p.entries).normal → a.inner ≡ (summed p.entries).inner
      → fine_of a (start p.form p.width) ≡ checked_of (ok p)
  fine_is es er en ei = ap (λ z. Fine z (start p.form p.width)) (same_sizes (ap (λ n. 3 + n) es ∙ sym sheet_size) er (en ∙ sym normal_size) ei)

fine_embedded : (w : ℕ) (es : List Entry) → SetRead embedded [] es → fine_of (summed es) (start embedded w) ≡ checked_of (ok (packet_of embedded w es []))
unfolding rows_of sealed
fine_embedded w es h =
    let k = split embedded [] es h in
    let z = ap summed (split_embedded es k) in
    fine_is (packet_of embedded w es []) k.no_seal (ap (λ a. a.sheet) z) (ap (λ a. a.rows) z ∙ sym (entries_count (start embedded w) (unsealed es))) (ap (λ a. a.normal) z) (ap (λ a. a.inner) z)

fine_alone : (w : ℕ) (es : List Entry) (c : List ℕ) → SetRead standalone [] es → has 1 (map tag_of_entry es) ≡ true → fine_of (summed es) (start standalone w) ≡ checked_of (ok (packet_of standalone w es c))
unfolding rows_of sealed
fine_alone w es c h o =
    let k = split standalone [] es h in
    split_alone es k o λ d _ u.
    let z = ap summed u ∙ seal_last d (unsealed es) in
    let m = entries_count (start standalone w) (unsealed es ++ (plain (seal_item c) ∷ [])) in
    fine_is (packet_of standalone w es c) k.no_seal
    (ap (λ a. a.sheet) z ∙ add-zero _)
    (ap (λ a. a.rows) z ∙ sym (m ∙ ap (λ a. a.rows) (seal_last c (unsealed es))))
    (ap (λ a. a.normal) z ∙ add-zero _)
    (ap (λ a. a.inner) z ∙ add-zero _)

-- ---- what is asked of a set at its end is its tag 1

seal_held : (es : List Entry) → is_held 1 (bits (λ e. bit_of (tag_of_entry e)) es) ≡ has 1 (map tag_of_entry es)
seal_held es = ap (is_held 1) (bits_map tag_of_entry bit_of es) ∙ bits_has 1 (lit< tt) (map tag_of_entry es)

abbrev close : Form → List ℕ → ℕ → List Entry → Checked
close f s w es = checked_of (closing f s es >>= λ c. ok (packet_of f w es c))

close_alone : (s : List ℕ) (w : ℕ) (es : List Entry) → SetRead standalone [] es → closing_by standalone s (has 1 (map tag_of_entry es)) (summed es) (start standalone w) ≡ close standalone s w es
unfolding closing ◌>>=◌ need after
close_alone s w es h = by_held (has 1 (map tag_of_entry es)) refl
  where
    by_sum : has 1 (map tag_of_entry es) ≡ true → (q : Bool) → sum_right s ≡ q → closing_by standalone s (has 1 (map tag_of_entry es)) (summed es) (start standalone w) ≡ close standalone s w es
    by_sum z true q = rw (z, q) (fine_alone w es (drop (length s - 2) s) h z)
    by_sum z false q = rw (z, q)

    by_held : (m : Bool) → has 1 (map tag_of_entry es) ≡ m → closing_by standalone s (has 1 (map tag_of_entry es)) (summed es) (start standalone w) ≡ close standalone s w es
    by_held true z = by_sum z (sum_right s) refl
    by_held false z = rw z

pub close_set : (f : Form) (s : List ℕ) (w : ℕ) (es : List Entry) → SetRead f [] es → closing_by f s (is_held 1 (bits (λ e. bit_of (tag_of_entry e)) es)) (summed es) (start f w) ≡ close f s w es
unfolding closing ◌>>=◌
close_set embedded s w es h = fine_embedded w es h
close_set standalone s w es h = ap (λ m. closing_by standalone s m (summed es) (start standalone w)) (seal_held es) ∙ close_alone s w es h
