-- A packet that the check found fine: where its set begins, and what is lent to the walk that writes.
use mathlib.Core.Path.{◌≡◌, sym, ap, ◌∙◌}
use Prim.Native.Nat.{ℕ, ◌+◌, ◌-◌, ◌≤◌}
use native.Mathlib.Omega.{arith}
use mathlib.Core.List.{List}
use lib.ListN.{length, take, drop, length-drop}
use Rattle.format.specs.Answer.{ok}
use Rattle.format.specs.Coding.{Bytes}
use Rattle.format.specs.Packet.{Packet}
use Rattle.format.specs.Table.{Form, set}
use Rattle.format.specs.Read.{start, parse}
use Rattle.coding.proofs.Rooms.{tail_part}
use Rattle.tally.specs.declared.Sizes.{Sizes}
use Rattle.tally.specs.Runs.{Ran, level_run}
use Rattle.tally.proofs.Parsed.{Parsed}
use Rattle.check_packet.specs.Checks.{Checked}
use Rattle.check_packet.specs.Checks.{Fine}
use Rattle.check_packet.specs.Meet.{checked_of}
use Rattle.check_packet.proofs.Parsing.{parsed, fine_parsed}

-- a are its sizes, and its set begins at k
module _ (f : Form) (s : List ℕ) {c : Checked} (ec : c ≡ checked_of (parse f s)) (b : Bytes s) {a : Sizes} {k : ℕ} (t : c ≡ Fine a k) where
  pub fine : (p : Packet) × (parse f s ≡ ok p) × (checked_of (ok p) ≡ Fine a k)
  fine = fine_parsed f s a k (sym t ∙ ec)

  pub opened : Parsed f s fine.0
  opened = parsed f s fine.0 b fine.1

  pub start_is : k ≡ start f opened.width
  start_is = let e : start fine.0.form fine.0.width ≡ k = (let z = fine.2 in cc) in sym e ∙ ap (λ p. start p.form p.width) opened.packet_is

  pub set_room : k ≤ length s
  set_room = omega (arith, start_is, opened.from)

  -- as the borrow checker has it
  abbrev pub lent_set : List ℕ
  lent_set = take (length s - k) (drop k s)

  pub lent_is : lent_set ≡ drop (start f opened.width) s
  lent_is = tail_part k s ∙ ap (λ n. drop n s) start_is

  pub set_ran : Ran (level_run set f lent_set)
  set_ran = rw (lent_is, opened.runs) tt

  pub set_long : k + length lent_set ≤ 8192
  set_long = rw (tail_part, length-drop) (omega (arith, opened.short, set_room))
