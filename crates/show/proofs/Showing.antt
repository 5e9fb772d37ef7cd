-- The call `shown`, case by case: a packet refused, no item named, and the value's part of the one packet or the other.
use mathlib.Core.Path.{◌≡◌, refl, sym, ap, ◌∙◌, subst}
use mathlib.Core.Logic.{inl, inr}
use Prim.Native.Nat.{ℕ, zero, suc, ◌+◌, ◌-◌, ◌≤◌, ◌<◌}
use native.Mathlib.Omega.{arith}
use mathlib.Core.Bool.{Bool, true, false, not}
use mathlib.Core.List.{List}
use lib.ListN.{length, take, drop, length-drop}
use lib.Dec.{ltb, eqb}
use Rattle.std.specs.Prelude.{Option, Some, None, IfSome, Result, Ok, Err}
use Rattle.std.specs.Result.{result_ok}
use Rattle.std.proofs.lemmas.Option.{same_Some, none-some}
use borrow.Author.Tests.{lt-ltb, le-ltb}
use Rattle.format.specs.Answer.{Ans, ok, refused, ◌>>=◌}
use Rattle.format.specs.Coding.{Bytes}
use Rattle.format.specs.Table.{Form, set}
use Rattle.format.specs.Packet.{Packet}
use Rattle.format.specs.Read.{start, unsealed, parse}
use Rattle.format.specs.Rows.{Row, entry_rows}
use Rattle.format.specs.Edit.{Holder}
use Rattle.format.specs.Show.{reviewer, detector, Shown, shown, nothing, number_of, find_row, showable, either_row, show_in, show}
use Rattle.format.specs.Demands.Rows.{part}
use Rattle.format.proofs.Words.Bytes.{bytes_take, bytes_drop}
use Rattle.format.proofs.Demands.Shows.{show_refused, show_unnamed}
use Rattle.coding.proofs.Rooms.{tail_part}
use Rattle.items.proofs.Tests.{bind_so}
use Rattle.heads.proofs.Heads.{mid_part}
use Rattle.tally.specs.declared.Sizes.{Sizes}
use Rattle.tally.proofs.Parsed.{Parsed}
use Rattle.coding.specs.declared.refusals.Fault.{Fault}
use Rattle.check_packet.specs.declared.Checked as declared
use Rattle.check_packet.specs.Checks.{Checked, Fine, Wrong}
use Rattle.check_packet.specs.Meet.{check_of, checked, checked_of}
use Rattle.check_packet.proofs.Parsing.{wrong_parsed}
use Rattle.check_packet.proofs.Opened.{fine, opened, start_is, set_room, lent_set, lent_is}
use Rattle.find.specs.declared.Place.{Place}
use Rattle.find.specs.Spots.{things_of, entries_of}
use Rattle.find.specs.Places.{holder_of, kept_of, Placed, FoundIs}
use Rattle.find.proofs.Placing.{value_room}
use Rattle.find.proofs.Callers.{set_is}
use Rattle.write_rows.proofs.Packet.{rows_whole}
use Rattle.show.specs.declared.Part.{Part}
use Rattle.show.specs.declared.Value.{Value}
use Rattle.show.specs.Meet.{row_named, value_of, ValueIn, of_two, side_of, is_detectors, part_shown, no_part, bytes_shown, place_shown}
use Rattle.show.specs.Shows.{Names}
use Rattle.show.proofs.Passing.{row_for, row_in}
use Rattle.show.proofs.Values.{read_if, read_off, place_value, unheld_value}

-- ---- what a check found, without why it refuses

found_fine : (x : Checked) (r : Result declared.Checked Fault) {c : declared.Checked} → checked r ≡ x → Some c ≡ result_ok r → x ≡ check_of c
found_fine x (Ok y) e z = sym e ∙ ap check_of (same_Some _ _ (sym z))
found_fine x (Err y) {c = c} e z = absurd (none-some c (sym z))

found_wrong : (x : Checked) (r : Result declared.Checked Fault) → checked r ≡ x → None ≡ result_ok r → (n : ℕ) × (k : ℕ) × (x ≡ Wrong n k)
found_wrong x (Ok y) e z = absurd (none-some y z)
found_wrong x (Err y) e z = (_, _, sym e)

-- ---- in one packet

row_is : (f : Form) (s : List ℕ) (p : Packet) (k : Parsed f s p) (h : Holder) (tag : ℕ) → find_row h tag p ≡ row_in h tag (start f k.width) (unsealed k.es.val) k.es.val
unfolding find_row
row_is f s p k h tag =
    ap (λ rs. number_of h p.entries >>= λ n. row_for n tag rs) (rows_whole k)
    ∙ ap (λ q. number_of h q.entries >>= λ n. row_for n tag (entry_rows (start f k.width) k.es.val)) k.packet_is

module _ (f : Form) (s : List ℕ) (b : Bytes s) {a : Sizes} {k : ℕ} (t : checked_of (parse f s) ≡ Fine a k) (h : Holder) (tag : ℕ) where
  lent_long : length (lent_set f s refl b t) ≡ length s - k
  lent_long = ap length (tail_part k s) ∙ length-drop k s

  lent_bytes : Bytes (lent_set f s refl b t)
  lent_bytes = bytes_take (length s - k) (drop k s) (bytes_drop k s b)

  named_is : row_named h tag (parse f s) ≡ row_in h tag k (kept_of f (lent_set f s refl b t)) (entries_of set f (lent_set f s refl b t))
  named_is =
      let o = opened f s refl b t in
      let entries : entries_of set f (lent_set f s refl b t) ≡ o.es.val = ap (entries_of set f) (lent_is f s refl b t) ∙ ap things_of o.runs in
      bind_so (parse f s) _ (fine f s refl b t).0 (fine f s refl b t).1
      ∙ row_is f s (fine f s refl b t).0 o h tag
      ∙ ap (λ n. row_in h tag n (unsealed o.es.val) o.es.val) (sym (start_is f s refl b t))
      ∙ ap (λ es. row_in h tag k (unsealed es) es) (sym entries)

  -- x was found in the set, as it is lent
  module _ {x : Option Place} (ex : FoundIs f h tag (lent_set f s refl b t) x) where
    pub none_found : x ≡ None → ValueIn f s h tag None
    none_found z =
        let u = subst (FoundIs f h tag (lent_set f s refl b t)) z ex in
        let r = named_is ∙ unheld_value f (lent_set f s refl b t) lent_bytes (set_is f s refl b t) k h tag u in
        (ap value_of (sym r), tt)

    module _ {p : Place} (z : x ≡ Some p) where
      at_it : Placed f h tag (lent_set f s refl b t) p
      at_it = subst (FoundIs f h tag (lent_set f s refl b t)) z ex

      pub value_sums : (p.from ≤ p.next) × (k + p.next ≤ length s) × (length s ≤ 8192)
      value_sums =
          let (q, r) = value_room f (lent_set f s refl b t) lent_bytes (set_is f s refl b t) h tag p at_it in
          (q, omega (arith, r, lent_long, set_room f s refl b t), (opened f s refl b t).short)

      module _ (n : showable h tag ≡ true) where
        reads : value_of (row_named h tag (parse f s)) ≡ read_off k p.at p.from p.next
        reads = ap value_of named_is ∙ place_value f (lent_set f s refl b t) lent_bytes (set_is f s refl b t) k h tag n p at_it

        pub value_there : p.at < p.next → ValueIn f s h tag (Some (record { offset = k + p.from; size = p.next - p.from }))
        value_there l = (sym (reads ∙ ap (λ y. read_if y (k + p.from) (p.next - p.from)) (lt-ltb p.at p.next l)), omega (arith, value_sums))

        pub value_absent : p.next ≤ p.at → ValueIn f s h tag None
        value_absent l = (sym (reads ∙ ap (λ y. read_if y (k + p.from) (p.next - p.from)) (le-ltb p.at p.next l)), tt)

-- ---- in two

module _ {v : Option Value} (x y : Ans Row) (ev : v ≡ value_of x) where
  row_first : {o : Value} → v ≡ Some o → shown reviewer o.offset o.size ≡ either_row x y
  unfolding either_row
  row_first {o = o} z = go x ev
    where
      go : (x : Ans Row) → v ≡ value_of x → shown reviewer o.offset o.size ≡ either_row x y
      go (ok r) e = ap (λ q. shown reviewer q.offset q.size) (same_Some _ _ (sym z ∙ e))
      go (refused n p) e = absurd (none-some o (sym e ∙ z))

  row_second : v ≡ None → {w : Option Value} → w ≡ value_of y → {o : Value} → w ≡ Some o → shown detector o.offset o.size ≡ either_row x y
  unfolding either_row
  row_second z {w = w} ew {o = o} zw = go x y ev ew
    where
      go : (x y : Ans Row) → v ≡ value_of x → w ≡ value_of y → shown detector o.offset o.size ≡ either_row x y
      go (ok r) y e g = absurd (none-some _ (sym z ∙ e))
      go (refused n p) (ok r) e g = ap (λ q. shown detector q.offset q.size) (same_Some _ _ (sym zw ∙ g))
      go (refused n p) (refused m q) e g = absurd (none-some o (sym g ∙ zw))

  row_none : v ≡ None → {w : Option Value} → w ≡ value_of y → w ≡ None → nothing ≡ either_row x y
  unfolding either_row
  row_none z {w = w} ew zw = go x y ev ew
    where
      go : (x y : Ans Row) → v ≡ value_of x → w ≡ value_of y → nothing ≡ either_row x y
      go (ok r) y e g = absurd (none-some _ (sym z ∙ e))
      go (refused n p) (ok r) e g = absurd (none-some _ (sym zw ∙ g))
      go (refused n p) (refused m q) e g = refl

module _ (f : Form) (r d : List ℕ) (h : Holder) (tag : ℕ) (hr : Bytes r) (hd : Bytes d) where
  none_shown : {p : Part} → p ≡ no_part → show f r d h tag ≡ nothing → Names f r d h tag p
  none_shown e z = (ap part_shown e ∙ sym z, rw e (omega arith))

  pub reviewer_wrong : (a : Result declared.Checked Fault) → checked a ≡ checked_of (parse f r) → None ≡ result_ok a → Names f r d h tag no_part
  reviewer_wrong a ea t = let (n, k, z) = found_wrong _ a ea t in none_shown refl (show_refused f r d h tag n k (inl (wrong_parsed f r n k (sym z))))

  pub detector_wrong : (b : Result declared.Checked Fault) → checked b ≡ checked_of (parse f d) → None ≡ result_ok b → Names f r d h tag no_part
  detector_wrong b eb t = let (n, k, z) = found_wrong _ b eb t in none_shown refl (show_refused f r d h tag n k (inr (wrong_parsed f d n k (sym z))))

  pub unnamed : {x : Bool} → x ≡ showable h tag → x ≡ false → {p : Part} → p ≡ no_part → Names f r d h tag p
  unnamed ex z e = none_shown e (show_unnamed f r d h tag (sym ex ∙ z))

  module _ (a b : Result declared.Checked Fault) (ea : checked a ≡ checked_of (parse f r)) (eb : checked b ≡ checked_of (parse f d)) {j k : declared.Checked} (ta : Some j ≡ result_ok a) (tb : Some k ≡ result_ok b) (n : true ≡ showable h tag) where
    in_two : show f r d h tag ≡ either_row (row_named h tag (parse f r)) (row_named h tag (parse f d))
    unfolding show show_in ◌>>=◌
    in_two = rw ((fine f r refl hr (found_fine _ a ea ta)).1, (fine f d refl hd (found_fine _ b eb tb)).1) (rw (sym n, show_in))

    module _ {v : Option Value} (ev : ValueIn f r h tag v) where
      pub reviewers : {o : Value} → v ≡ Some o → Names f r d h tag (record { detectors = false; offset = o.offset; size = o.size })
      reviewers z = (row_first _ _ ev.0 z ∙ sym in_two, subst (λ o. IfSome o (λ w. w.offset + w.size ≤ length r)) z ev.1)

      module _ (z : v ≡ None) {w : Option Value} (ew : ValueIn f d h tag w) where
        pub detectors : {o : Value} → w ≡ Some o → Names f r d h tag (record { detectors = true; offset = o.offset; size = o.size })
        detectors y = (row_second _ _ ev.0 z ew.0 y ∙ sym in_two, subst (λ o. IfSome o (λ w. w.offset + w.size ≤ length d)) y ew.1)

        pub neithers : w ≡ None → {p : Part} → p ≡ no_part → Names f r d h tag p
        neithers y e = none_shown e (in_two ∙ sym (row_none _ _ ev.0 z ew.0 y))

-- ---- what may be shown

some : (n : ℕ) → (n ≡ 0 → ⊥) → 0 < n
some zero h = absurd (h refl)
some (suc n) h = omega arith

module _ {tag : ℕ} where
  pub zero_unnamed : (b : Bool) (id : ℕ) → tag ≡ 0 → false ≡ showable (holder_of b id) tag
  unfolding showable
  zero_unnamed b id e = rw e

  some_tag : (tag ≡ 0 → ⊥) → ltb 0 tag ≡ true
  some_tag n = lt-ltb 0 tag (some tag n)

  module _ {b : Bool} (id : ℕ) (n : tag ≡ 0 → ⊥) where
    pub set_named : b ≡ true → not (eqb tag 101) ≡ showable (holder_of b id) tag
    unfolding showable
    set_named e = rw (e, some_tag n)

    pub target_named : b ≡ false → true ≡ showable (holder_of b id) tag
    unfolding showable
    target_named e = rw (e, some_tag n)

-- ---- the part itself

pub part_fits : (r d : List ℕ) (b : Bool) {m : ℕ} (n : ℕ) → m ≤ length (of_two b r d) → length r ≤ n → length d ≤ n → m ≤ n
part_fits r d true n h lr ld = omega arith
part_fits r d false n h lr ld = omega arith

pub side_is : (b : Bool) → is_detectors (side_of b) ≡ b
side_is true = refl
side_is false = refl

module _ (p : Part) {b : Bool} (z : p.detectors ≡ b) where
  pub part_ends : (r d : List ℕ) → p.offset + p.size ≤ length (of_two p.detectors r d) → p.offset + p.size ≤ length (of_two b r d)
  part_ends r d h = rw z at h

  module _ {x : Shown} (e : part_shown p ≡ x) where
    side_of_is : b ≡ is_detectors x.side
    side_of_is = sym (side_is p.detectors ∙ z) ∙ ap (λ y. is_detectors y.side) e

    pub part_bytes : (r d : List ℕ) → take (p.offset + p.size - p.offset) (drop p.offset (of_two b r d)) ≡ bytes_shown r d x
    part_bytes r d = mid_part p.offset p.size (of_two b r d) ∙ ap (λ y. part (of_two y r d) p.offset p.size) side_of_is ∙ ap (λ y. part (of_two (is_detectors x.side) r d) y.offset y.size) e

    pub part_place : (r d : ℕ × ℕ) → ((of_two b r d).0, p.offset + (of_two b r d).1) ≡ place_shown r d x
    part_place r d = ap (λ y. ((of_two y r d).0, p.offset + (of_two y r d).1)) side_of_is ∙ ap (λ y. ((of_two (is_detectors x.side) r d).0, y.offset + (of_two (is_detectors x.side) r d).1)) e
