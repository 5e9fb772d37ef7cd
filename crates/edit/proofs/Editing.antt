-- The call `edit`, case by case: the packet's own refusal, the edit's, cuts that put too much, and the edited packet.
use mathlib.Core.Path.{◌≡◌, sym, ap, ◌∙◌}
use Prim.Native.Nat.{ℕ, ◌≤◌, ◌<◌}
use mathlib.Core.Bool.{Bool}
use mathlib.Core.List.{List}
use lib.ListN.{length}
use Rattle.format.specs.Table.{Form, Level}
use Rattle.format.specs.Packet.{Entry, closed}
use Rattle.format.specs.Read.{parse}
use Rattle.format.specs.Calls.{packed}
use Rattle.format.specs.Room.{leaves}
use Rattle.format.specs.Edit.{Holder, Changes, edit_entries, edit}
use Rattle.items.specs.Meet.{level_of}
use Rattle.items.proofs.Tests.{bind_so, bind_not}
use Rattle.check_packet.specs.Checks.{Checked}
use Rattle.check_packet.specs.Checks.{Wrong}
use Rattle.check_packet.specs.Meet.{checked_of}
use Rattle.check_packet.proofs.Parsing.{wrong_parsed}
use Rattle.find.specs.Places.{holder_of, kept_of}
use Rattle.edit_rules.specs.declared.Cuts.{Cuts}
use Rattle.edit_rules.specs.Meet.{set_edited, Stops, Passes}
use Rattle.edit_rules.specs.Cuts.{Cutting, cut_bytes}
use Rattle.edit_rules.proofs.Callers.{long_low, long_high}
use Rattle.answers.specs.Meet.{Answer}
use Rattle.answers.specs.Meet.{left_of, answer_of, refusal_of}
use Rattle.answers.proofs.Leaving.{left_refused}
use Rattle.answers.proofs.Entries.{entries_over}
use Rattle.edit.specs.Meet.{Entered, CutPacked}

-- ---- the packet

pub edit_unread : (f : Form) (s : List ℕ) (h : Holder) (cs : Changes) {c : Checked} → c ≡ checked_of (parse f s) → (lent : List ℕ) {n k : ℕ} {r : Answer} → c ≡ Wrong n k → r ≡ refusal_of c
    → left_of r lent ≡ leaves lent (edit f h cs s)
unfolding edit
edit_unread f s h cs ec lent {n = n} {k = k} t e = left_refused lent (bind_not (parse f s) _ n k (wrong_parsed f s n k (sym t ∙ ec))) (e ∙ ap refusal_of t)

-- ---- its set, where the rules have answered

pub set_refused : (f : Form) (h : Holder) (cs : Changes) (s : List ℕ) {n : ℕ} → Stops f h cs s n → (lent : List ℕ) {q : Answer} → q ≡ answer_of n 0 → left_of q lent ≡ leaves lent (set_edited f h cs s)
unfolding set_edited
set_refused f h cs s e lent eq = left_refused lent (bind_not _ _ _ _ e) eq

module _ (f : Form) (b : Bool) (id : ℕ) (cs : Changes) (s : List ℕ) {k : Cuts} {v w : List ℕ} (t : Passes f b id cs s k v w) where
  abbrev es : List Entry
  es = edit_entries (holder_of b id) cs (kept_of f s)

  set_packed : set_edited f (holder_of b id) cs s ≡ packed (closed f es)
  unfolding set_edited
  set_packed = bind_so _ _ tt t.passed

  pub cuts_asked : length s ≤ 8192 → (length s ≤ 8192) × Cutting (level_of b) s k v w × Entered (level_of b) s k v w
  cuts_asked l = (l, t.cutting, (es, t.edited))

  pub cuts_left : (lent left : List ℕ) {q : Answer} → CutPacked f (level_of b) s k v w lent q left → left_of q left ≡ leaves lent (set_edited f (holder_of b id) cs s)
  cuts_left lent left p = p es t.edited ∙ ap (leaves lent) (sym set_packed)

-- ---- cuts that put more bytes than a packet may have

module _ (f : Form) (l : Level) (s : List ℕ) (k : Cuts) (v w : List ℕ) (q : Cutting l s k v w) where
  pub low_over : 8192 < k.lo.size → (lent : List ℕ) {r : Answer} → r ≡ answer_of 1 0 → CutPacked f l s k v w lent r lent
  low_over g = entries_over f (cut_bytes l s k v w) (long_low l s k v w q g)

  pub high_over : 8192 < k.hi.size → (lent : List ℕ) {r : Answer} → r ≡ answer_of 1 0 → CutPacked f l s k v w lent r lent
  high_over g = entries_over f (cut_bytes l s k v w) (long_high l s k v w q g)
