-- The call `read`, case by case: a refusal, too little room, and the sheet written.
use mathlib.Core.Path.{◌≡◌, sym, ap, ◌∙◌}
use Prim.Native.Nat.{ℕ, ◌+◌, ◌*◌, ◌-◌, ◌≤◌, ◌<◌}
use native.Mathlib.Omega.{arith}
use mathlib.Core.Bool.{Bool, true, false}
use mathlib.Core.List.{List, [], ◌∷◌, ◌++◌}
use lib.ListN.{length, take, drop, length-append}
use lib.Seq.{sets, length-sets}
use borrow.Rule.Slice.PartMut.{put_mid}
use Rattle.format.specs.Answer.{ok}
use Rattle.format.specs.Coding.{Bytes, fixed}
use Rattle.format.specs.Table.{Form, set}
use Rattle.format.specs.Read.{parse}
use Rattle.format.specs.Sheet.{content, PK, mark_number, form_byte, sheet_bytes}
use Rattle.format.specs.Calls.{read}
use Rattle.format.specs.Room.{leaves}
use Rattle.format.proofs.Coding.Digits.{length_fixed}
use Rattle.items.specs.Meet.{form_of}
use Rattle.items.proofs.Tests.{bind_so, bind_not}
use Rattle.tally.specs.declared.Sizes.{Sizes}
use Rattle.check_packet.specs.Checks.{Checked, Fine, Wrong}
use Rattle.check_packet.specs.Meet.{checked_of}
use Rattle.check_packet.proofs.Parsing.{wrong_parsed}
use Rattle.check_packet.proofs.Opened.{fine, opened, lent_set, lent_is, set_ran, set_long}
use Rattle.stores.proofs.Stores.{sets_append, tail_length, tail_stored}
use Rattle.write_sheet.specs.Meet.{level_sheet, LevelAsked, LevelLeft}
use Rattle.write_sheet.proofs.Packet.{sheet_whole}
use Rattle.answers.specs.Meet.{Answer, left_of, answer_of, refusal_of}
use Rattle.answers.proofs.Leaving.{left_refused, left_short, left_whole}

-- the head of a sheet, as one number in three bytes
pub head_bytes : (alone : Bool) {h : ℕ} → h ≡ mark_number PK * 256 + form_byte (form_of alone) → fixed 3 h ≡ PK.0 ∷ PK.1 ∷ form_byte (form_of alone) ∷ []
unfolding fixed
head_bytes true e = rw e
head_bytes false e = rw e

-- ---- by the answer on the check

module _ (f : Form) (s lent : List ℕ) {c : Checked} (ec : c ≡ checked_of (parse f s)) where
  pub read_refused : {n k : ℕ} {r : Answer} → c ≡ Wrong n k → r ≡ refusal_of c → left_of r lent ≡ leaves lent (read f s)
  unfolding read
  read_refused {n = n} {k = k} t e = left_refused lent (bind_not (parse f s) _ n k (wrong_parsed f s n k (sym t ∙ ec))) (e ∙ ap refusal_of t)

  module _ (b : Bytes s) {a : Sizes} {k : ℕ} (t : c ≡ Fine a k) where
    abbrev sheet : List ℕ
    sheet = sheet_bytes (content (fine f s ec b t).0)

    size_is : length sheet ≡ a.sheet
    size_is = let e = (fine f s ec b t).2 in cc

    read_is : read f s ≡ ok sheet
    unfolding read
    read_is = bind_so (parse f s) _ (fine f s ec b t).0 (fine f s ec b t).1

    pub read_short : length lent < a.sheet → {r : Answer} → r ≡ answer_of 16 a.sheet → left_of r lent ≡ leaves lent (read f s)
    read_short h er = left_short lent read_is size_is h er

    module _ (h : ℕ) (eh : fixed 3 h ≡ PK.0 ∷ PK.1 ∷ form_byte f ∷ []) (room : a.sheet ≤ length lent) where
      abbrev parts : List ℕ
      parts = level_sheet set f (lent_set f s ec b t)

      sheet_is : sheet ≡ fixed 3 h ++ parts
      sheet_is = sheet_whole (opened f s ec b t) ∙ rw (eh, lent_is f s ec b t)

      pub set_size : 3 + length (level_sheet set f (lent_set f s ec b t)) ≡ a.sheet
      set_size = omega (arith, size_is, ap length sheet_is, length-append (fixed 3 h) parts, length_fixed 3 h)

      head_kept : {out : List ℕ} → out ≡ sets lent 0 (fixed 3 h) → length out ≡ length lent
      head_kept eo = ap length eo ∙ length-sets lent 0 (fixed 3 h)

      pub rest_from : {out : List ℕ} → out ≡ sets lent 0 (fixed 3 h) → 3 ≤ length out
      rest_from eo = omega (arith, head_kept eo, set_size)

      pub set_asked : {out : List ℕ} → out ≡ sets lent 0 (fixed 3 h) → LevelAsked set (lent_set f s ec b t) (length (take (length out - 3) (drop 3 out))) f
      set_asked {out = out} eo = record { few = omega (arith, set_long f s ec b t); ran = set_ran f s ec b t; fits = omega (arith, tail_length out 3, head_kept eo, set_size) }

      -- out has the head, and its rest came back as e
      pub read_done : {out : List ℕ} → out ≡ sets lent 0 (fixed 3 h) → {n : ℕ} {e : List ℕ} → LevelLeft set (lent_set f s ec b t) (take (length out - 3) (drop 3 out)) n e
          → {r : Answer} → r ≡ answer_of 0 a.sheet → left_of r (put_mid 3 (length out - 3) out e) ≡ leaves lent (read f s)
      read_done {out = out} eo {e = e} ee {r = r} er =
          let stored : put_mid 3 (length out - 3) out e ≡ sets lent 0 sheet
          = tail_stored out 3 e parts (ee f (set_asked eo)).1 ∙ rw (eo, sheet_is, sets_append lent 0 (fixed 3 h) parts, length_fixed 3 h) in
          left_whole lent read_is size_is room stored er
