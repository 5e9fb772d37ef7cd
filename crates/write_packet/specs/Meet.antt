-- Where the code that writes a sheet's packet meets document 01: what a sheet's records are read as, and what a part and a target write.
use Rattle.std.specs.Prelude.{◌≡◌, ℕ, List, length}
use Rattle.format.specs.Answer.{Ans, ok, refused, Got}
use Rattle.format.specs.Lists.{flat_all}
use Rattle.format.specs.Table.{Form, Level}
use Rattle.format.specs.Run.{run}
use Rattle.format.specs.Packet.{flat_pack, flat_entry}
use Rattle.format.specs.Sheet.{Target, Part, one, targets, id_of_target, tag_of_part, TG, is, target_at}
use Rattle.format.specs.Calls.{pack_of, entry_of}
use Rattle.format.specs.Valid.{All}
use Rattle.tally.specs.Runs.{made_of}
use Rattle.tally_records.specs.Meet.{more_at, part_step}

unfoldable pub records_run : Level → Form → List ℕ → Ans (Got (List Part))
records_run l f s = run (more_at l) tag_of_part (part_step l f) s

unfoldable pub targets_run : Form → List ℕ → Ans (Got (List Target))
targets_run f s = run (is TG) id_of_target (target_at f) s

-- how many bytes a run has read
abbrev pub used_of : {A : Type 0} → Ans (Got A) → ℕ
used_of (ok r) = r.used
used_of (refused n p) = 0

-- an entry and a pack of the packet, each length shortest
abbrev pub part_normal : Part → List ℕ
part_normal p = flat_entry (entry_of p)

abbrev pub target_normal : Target → List ℕ
target_normal t = flat_pack (pack_of t)

abbrev pub records_normal : Level → Form → List ℕ → List ℕ
records_normal l f s = made_of (flat_all part_normal) (records_run l f s)

abbrev pub targets_normal : Form → List ℕ → List ℕ
targets_normal f s = made_of (flat_all target_normal) (targets_run f s)

-- n is how many bytes the packs of a series take: of each series among parts
abbrev pub InnerPart : ℕ → Part → Type 0
InnerPart n (one v) = Unit {0}
InnerPart n (targets ts) = n ≡ length (flat_all target_normal ts)

abbrev pub InnerParts : ℕ → Ans (Got (List Part)) → Type 0
InnerParts n (ok rs) = All (InnerPart n) rs.val
InnerParts n (refused k p) = Unit {0}
