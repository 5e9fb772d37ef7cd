-- What a level and a series are read as, and what it is that they were read to the end.
use Rattle.std.specs.Prelude.{ℕ, List, []}
use Rattle.format.specs.Answer.{Ans, ok, refused, Got}
use Rattle.format.specs.Table.{Form, Level}
use Rattle.format.specs.Packet.{Pack, Entry, id_of_pack, tag_of_entry}
use Rattle.format.specs.Run.{run, always}
use Rattle.format.specs.Read.{one_pack}
use Rattle.tally.specs.Meet.{step_at}

unfoldable pub level_run : Level → Form → List ℕ → Ans (Got (List Entry))
level_run l f s = run always tag_of_entry (step_at l f) s

unfoldable pub series_run : Form → List ℕ → Ans (Got (List Pack))
series_run f s = run always id_of_pack (one_pack f) s

-- read to the end
abbrev pub Ran : {X : Type 0} → Ans (Got (List X)) → Type 0
Ran (ok rs) = Unit {0}
Ran (refused n p) = ⊥

-- what is made of it
abbrev pub made_of : {X : Type 0} → (List X → List ℕ) → Ans (Got (List X)) → List ℕ
made_of make (ok rs) = make rs.val
made_of make (refused n p) = []
