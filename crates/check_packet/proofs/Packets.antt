-- The whole packet, case by case, as the code reads it.
use mathlib.Core.Path.{◌≡◌, refl, sym, ap, ◌∙◌}
use Prim.Native.Nat.{◌+◌, ℕ, ◌-◌, ◌≤◌, ◌<◌}
use native.Mathlib.Omega.{arith}
use mathlib.Core.List.{List}
use lib.ListN.{length, take, drop, length-drop}
use borrow.Author.Tests.{lt-leb, le-leb}
use Rattle.format.specs.Answer.{Ans, ok, Got, ◌>>=◌, after}
use Rattle.format.specs.Coding.{Bytes}
use Rattle.format.specs.Packet.{Entry, Packet, tag_of_entry}
use Rattle.format.specs.Run.{run, always}
use Rattle.format.specs.Table.{Form, set}
use Rattle.format.specs.Read.{entry, limit, opening, start, closing, parse}
use Rattle.format.proofs.Words.Answers.{after_ok}
use Rattle.format.proofs.Words.Bytes.{bytes_drop}
use Rattle.format.proofs.Reading.Packets.{set_says}
use Rattle.std.proofs.Common.{Result, Ok, Err}
use Rattle.coding.specs.declared.refusals.Refusal.{Refusal}
use Rattle.coding.specs.Refusals.{number}
use Rattle.coding.proofs.Rooms.{tail_part}
use Rattle.items.proofs.Tests.{bind_so, bind_not, need_so, need_not}
use Rattle.tally.specs.declared.Sizes.{Sizes}
use Rattle.tally.specs.Pieces.{Walked}
use Rattle.tally.specs.Pieces.{Good, Bad}
use Rattle.tally.specs.Meet.{total, bit_of, is_held, weight_of_entry, deepen_at, step_at, walked_of, level_walk, Within}
use Rattle.tally.proofs.Maps.{walked_good, walked_bad}
use Rattle.tally.proofs.Turns.{within_more}
use Rattle.tally.proofs.Parsed.{packet_of}
use Rattle.check_packet.specs.Checks.{Checked}
use Rattle.check_packet.specs.Checks.{Wrong}
use Rattle.check_packet.specs.Meet.{checked_of, opened, closing_by}
use Rattle.check_packet.proofs.Openings.{opening_room}
use Rattle.check_packet.proofs.Closings.{close_set}

-- ---- what a walk of the set says of its run

abbrev set_run : Form → List ℕ → Ans (Got (List Entry))
set_run f s = run always tag_of_entry (entry f) s

abbrev set_walked : Ans (Got (List Entry)) → Walked
set_walked x = walked_of (weight_of_entry set) (λ e. bit_of (tag_of_entry e)) x

walk_run : (f : Form) (s : List ℕ) → level_walk set f s ≡ set_walked (set_run f s)
unfolding level_walk step_at deepen_at entry
walk_run f s = refl

-- ---- how large the answer on a set can be

pub bad_within : {x : Walked} {n p j : ℕ} → x ≡ Bad n p → Within x j → p ≤ j
bad_within e h = rw e at h

module _ (s : List ℕ) (k : ℕ) (l : length s ≤ 8192) (x : Walked) (h : Within x (length (take (length s - k) (drop k s)))) where
  pub set_within : Within x 8192
  set_within = within_more x (length (take (length s - k) (drop k s))) 8192 (rw (tail_part, length-drop) (omega arith)) h

  pub good_within : {a : Sizes} {m : ℕ} → x ≡ Good a m → a.sheet ≤ 40960
  good_within {a} {m} e = let z : Within (Good a m) 8192 = rw e at set_within in omega (arith, z.sheet)

-- ---- 1, what opens it, the set, what closes it

module _ (f : Form) (s : List ℕ) where
  abbrev closes : ℕ → Got (List Entry) → Ans Packet
  closes w es = closing f s es.val >>= λ c. ok (packet_of f w es.val c)

  pub check_long : 8192 < length s → Wrong 1 0 ≡ checked_of (parse f s)
  unfolding parse limit
  check_long h = ap checked_of (sym (need_not _ _ _ (lt-leb (length s) 8192 h)))

  -- a is the answer on what opens it
  module _ (l : length s ≤ 8192) {a : Result ℕ Refusal} (ea : opened a ≡ opening f s) where
    pub check_shut : {x : Refusal} {r : Checked} → a ≡ Err x → r ≡ Wrong (number x) 0 → r ≡ checked_of (parse f s)
    unfolding parse limit
    check_shut t e = e ∙ ap checked_of (sym (need_so _ _ _ (le-leb (length s) 8192 l) ∙ bind_not _ _ _ _ (sym ea ∙ ap opened t)))

    module _ {w : ℕ} (t : a ≡ Ok w) where
      opens : opening f s ≡ ok w
      opens = sym ea ∙ ap opened t

      pub check_room : (w ≤ length s) × (start f w ≤ length s) × (start f 0 ≤ length s)
      check_room = opening_room f s w opens

      parse_is : parse f s ≡ (after (start f w) (set_run f (drop (start f w) s)) >>= closes w)
      unfolding parse limit
      parse_is = need_so _ _ _ (le-leb (length s) 8192 l) ∙ bind_so _ _ _ opens

      -- x is the answer on the set, which begins at k
      module _ {k : ℕ} (ek : k ≡ start f w) {x : Walked} (ex : x ≡ level_walk set f (take (length s - k) (drop k s))) where
        walk_is : x ≡ set_walked (set_run f (drop (start f w) s))
        walk_is = rw (tail_part, ek) at ex ∙ walk_run f (drop (start f w) s)

        pub check_bad : {n p : ℕ} {r : Checked} → x ≡ Bad n p → r ≡ Wrong n (k + p) → r ≡ checked_of (parse f s)
        unfolding ◌>>=◌ after
        check_bad {n} {p} z e =
            let q = walked_bad (weight_of_entry set) (λ e. bit_of (tag_of_entry e)) (set_run f (drop (start f w) s)) n p (sym z ∙ walk_is) in
            e ∙ rw (parse_is, q, ek)

        pub check_good : {b : Sizes} {m : ℕ} {r : Checked} → Bytes s → x ≡ Good b m → r ≡ closing_by f s (is_held 1 m) b k → r ≡ checked_of (parse f s)
        check_good {b} {m} h z e =
            let d : List ℕ = drop (start f w) s in
            let g = walked_good (weight_of_entry set) (λ e. bit_of (tag_of_entry e)) (set_run f d) b m (sym z ∙ walk_is) in
            let read = (set_says f d g.rs (bytes_drop (start f w) s h) g.ran).1 in
            e
            ∙ ap (closing_by f s (is_held 1 m) b) ek
            ∙ ap (λ y. closing_by f s (is_held 1 m) y (start f w)) (sym g.weighs)
            ∙ ap (λ y. closing_by f s (is_held 1 y) (total (weight_of_entry set) g.rs.val) (start f w)) (sym g.holds)
            ∙ close_set f s w g.rs.val read
            ∙ ap checked_of (sym (parse_is ∙ bind_so _ (closes w) g.rs (after_ok (start f w) (set_run f d) g.rs g.ran)))
