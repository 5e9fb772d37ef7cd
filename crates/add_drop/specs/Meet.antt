-- Where the calls that add and drop a target meet document 02: the set of a packet that was checked, and what is packed.
use Rattle.std.specs.Prelude.{◌≡◌, ℕ, List, length}
use Rattle.format.specs.Answer.{Ans, ok, ◌>>=◌}
use Rattle.format.specs.Table.{Form}
use Rattle.format.specs.Packet.{closed}
use Rattle.format.specs.Sheet.{Target}
use Rattle.format.specs.Calls.{packed}
use Rattle.format.specs.Targets.{TargetChange, added, change_entries, new_target, target_rules}
use Rattle.format.specs.Room.{leaves}
use Rattle.find.specs.declared.around.Series.{Series}
use Rattle.find.specs.Places.{kept_of}
use Rattle.write_packet.specs.Meet.{targets_normal}
use Rattle.edit_rules.specs.Meet.{sheet_of}
use Rattle.target_bytes.specs.Meet.{packs_size, entries_put, PuttingIn}
use Rattle.answers.specs.Meet.{Answer, left_of, Entered}

-- a change to such a set: the rules on what it says, then 1
unfoldable pub set_changed : Form → TargetChange → List ℕ → Ans (List ℕ)
set_changed f c s = target_rules c (sheet_of f s) >>= λ _. packed (closed f (change_entries c (kept_of f s)))

-- what is left: of such a change, and of the target that records are
abbrev pub SetChanges : Form → TargetChange → List ℕ → List ℕ → Answer → List ℕ → Type 0
SetChanges f c s lent a left = left_of a left ≡ leaves lent (set_changed f c s)

abbrev pub SetAdds : Form → List ℕ → List ℕ → List ℕ → Answer → List ℕ → Type 0
SetAdds f s records lent a left = (t : Target) → new_target f records ≡ ok t → SetChanges f (added t) s lent a left

-- what is asked where the packet is written: k bytes of a new pack, which the records make
pub record Changing (f : Form) (s : List ℕ) (r : Series) (n k : ℕ) (records : List ℕ) : Type 0 where
  pub putting : PuttingIn f s r n (packs_size r k) records
  pub size : k ≡ length (targets_normal f records)
  pub entered : Entered (entries_put s r n (targets_normal f records))
