-- Demand 1, of the definitions: numbers and places, and what is left in the room lent.
use mathlib.Core.Path.{refl}
use Prim.Native.Nat.{ℕ}
use native.Mathlib.Omega.{arith}
use mathlib.Core.List.{List}
use lib.ListN.{length, drop, length-append, length-drop}
use lib.Seq.{take-append_seam, drop-append_seam}
use borrow.Author.Tests.{le-leb, lt-leb}
use Rattle.format.specs.Answer.{Ans}
use Rattle.format.specs.Table.{Form}
use Rattle.format.specs.Calls.{read, write, normalise}
use Rattle.format.specs.Rows.{locate}
use Rattle.format.specs.Edit.{Holder, Changes, edit}
use Rattle.format.specs.Targets.{add_target, drop_target}
use Rattle.format.specs.Room.{leaves}
use Rattle.format.specs.Demands.Demand1.{Numbered, Leaves}
use Rattle.format.proofs.Bounds.Answers.{refuses_ok, refuses_bind, early_answers}
use Rattle.format.proofs.Bounds.Packets.{parse_answers}
use Rattle.format.proofs.Bounds.Sheets.{unsheet_answers, packed_answers, edit_here}
use Rattle.format.proofs.Bounds.Targets.{new_answers, change_answers}

pub numbered : (f : Form) (s : List ℕ) (h : Holder) (cs : Changes) → Numbered f s h cs
unfolding read write normalise locate edit add_target drop_target
numbered f s h cs = record {
  read_answers = refuses_bind _ _ (parse_answers f s) λ _ _. refuses_ok _ _;
  write_answers = refuses_bind _ _ (unsheet_answers s) λ t _. packed_answers (length s) _;
  normalise_answers = refuses_bind _ _ (parse_answers f s) λ p _. packed_answers (length s) _;
  locate_answers = refuses_bind _ _ (parse_answers f s) λ _ _. refuses_ok _ _;
  edit_answers =
      refuses_bind _ _ (parse_answers f s) λ p _.
      refuses_bind _ _ (early_answers 1 (length s) _ (edit_here h cs _) (omega arith)) λ _ _.
      packed_answers (length s) _;
  add_answers = λ r.
      refuses_bind _ _ (parse_answers f s) λ p _.
      refuses_bind _ _ (new_answers (length s) f r) λ t _.
      change_answers (length s) _ p;
  drop_answers = λ i. refuses_bind _ _ (parse_answers f s) λ p _. change_answers (length s) _ p;
}

pub leaves_so : {A : Type 0} (lent : List A) (a : Ans (List A)) → Leaves lent a
unfolding leaves
leaves_so lent a = record {
  on_refused = λ n p e. rw e;
  on_short = λ b e l. rw (e, lt-leb (length b) (length lent) l, leaves);
  on_room = λ b e l. rw (e, le-leb (length b) (length lent) l, leaves)
      (refl, refl, simp (length-append, length-drop) (omega arith), take-append_seam b (drop (length b) lent), drop-append_seam b (drop (length b) lent));
}
