-- A target added at the series' end, or dropped with all its items, on a sheet and on a packet (document 02, request 2). The series comes
-- with the first target, at the set's end, and goes with the last; set tag 6, if it is there, becomes the number of targets.
use Rattle.std.specs.Prelude.{ℕ, ◌+◌, ◌^◌, not, ◌&&◌, List, [], ◌∷◌, ◌++◌, map, length, take, drop, ltb, leb, eqb}
use Rattle.format.specs.Answer.{Ans, ok, refused, need, ◌>>=◌}
use Rattle.format.specs.Coding.{bytes_number, fixed}
use Rattle.format.specs.Lists.{has, put_in, take_out, on_hit}
use Rattle.format.specs.Run.{run}
use Rattle.format.specs.Table.{Form, set, pack, ended}
use Rattle.format.specs.Packet.{Pack, Entry, plain, series, Packet, id_of_pack, tag_of_entry, closed}
use Rattle.format.specs.Read.{parse}
use Rattle.format.specs.Sheet.{Val, Target, Part, one, targets, Sheet, tag_of_val, id_of_target, tag_of_part, TG, TI, is, value_at, content}
use Rattle.format.specs.Calls.{item_of, pack_of, series_with, packed}
use Rattle.format.specs.Edit.{val_with}

pub data TargetChange : Type 0 where
  added : Target → TargetChange
  dropped : ℕ → TargetChange

-- ---- the change, to a sheet or to a packet

-- of the series' targets or packs, each with its id: a new one goes last
unfoldable pub moved : {X : Type 0} → (X → ℕ) → (Target → X) → TargetChange → List X → List X
moved id make (added t) xs = xs ++ (make t ∷ [])
moved id make (dropped i) xs = take_out (λ x. eqb (id x) i) xs

-- of the set that holds them: the series in its place or, where there was none, at the set's end; without targets there is none
unfoldable pub series_now : {X Y : Type 0} → (X → ℕ) → (List Y → X) → List Y → List X → List X
series_now tag make [] xs = take_out (λ x. eqb (tag x) 101) xs
series_now tag make (y ∷ ys) xs = put_in (λ x. eqb (tag x) 101) (make (y ∷ ys)) xs

-- tag 6, if it is there, says how many there are, in its place; no packet has so many that three bytes do not hold their number
unfoldable pub count_of : ℕ → Val
count_of n = val_with set 6 (fixed 3 n)

unfoldable pub recounted : {X : Type 0} → (X → ℕ) → (Val → X) → ℕ → List X → List X
recounted tag make n xs = on_hit (λ x. eqb (tag x) 6) (λ x. make (count_of n)) xs

-- ---- on a sheet

-- the targets of the series; none, where there is none
unfoldable pub targets_in : List Part → List Target
targets_in [] = []
targets_in (one v ∷ ps) = targets_in ps
targets_in (targets ts ∷ ps) = ts

unfoldable pub change_parts : TargetChange → List Part → List Part
change_parts c ps =
    let ts = moved id_of_target (λ t. t) c (targets_in ps) in
    recounted tag_of_part one (length ts) (series_now tag_of_part targets ts ps)

unfoldable pub change_sheet : TargetChange → Sheet → Sheet
change_sheet c s = record { form = s.form; parts = change_parts c s.parts }

-- ---- on a packet: bytes as they stood, but for the pack, tag 6's item, and the lengths around

unfoldable pub packs_in : List Entry → List Pack
packs_in [] = []
packs_in (plain i ∷ es) = packs_in es
packs_in (series w ps ∷ es) = ps

unfoldable pub change_entries : TargetChange → List Entry → List Entry
change_entries c es =
    let ps = moved id_of_pack pack_of c (packs_in es) in
    recounted tag_of_entry (λ v. plain (item_of v)) (length ps) (series_now tag_of_entry series_with ps es)

unfoldable pub change_packet : TargetChange → Packet → Packet
change_packet c p = closed p.form (change_entries c p.entries)

-- ---- the records of a new target: one `TG` and its `TI`s, to the end; each in its turn 17 and the item numbers, as a sheet's target has them

unfoldable pub new_target : Form → List ℕ → Ans Target
new_target f s = do
  _ ← need (is TG s && leb 10 (length s)) 17
  let id = bytes_number (take 8 (drop 2 s))
  _ ← need (ltb id (2 ^ 63)) 17
  vs ← run (is TI) tag_of_val (value_at pack f) (drop 10 s)
  _ ← need (eqb (10 + vs.used) (length s)) 17
  ok (record { id = id; vals = vs.val })

-- whatever is refused of it, at 0
unfoldable pub at_start : {A : Type 0} → Ans A → Ans A
at_start (ok a) = ok a
at_start (refused n p) = refused n 0

-- ---- the rules: 10, 20, 14 for an added target, 18 for a dropped one

unfoldable pub target_rules : TargetChange → Sheet → Ans (Unit {0})
target_rules (added t) s = do
  _ ← need (not (has t.id (map id_of_target (targets_in s.parts)))) 10
  ended s.form (map tag_of_val t.vals)
target_rules (dropped i) s = need (has i (map id_of_target (targets_in s.parts))) 18

-- ---- the calls: the packet's own answer, that of the records, the rules on what the packet says, then 1

unfoldable pub change_targets : TargetChange → Packet → Ans (List ℕ)
change_targets c p = target_rules c (content p) >>= λ _. packed (change_packet c p)

unfoldable pub add_target : Form → List ℕ → List ℕ → Ans (List ℕ)
add_target f s records = do
  p ← parse f s
  t ← at_start (new_target f records)
  change_targets (added t) p

unfoldable pub drop_target : Form → List ℕ → ℕ → Ans (List ℕ)
drop_target f s i = do
  p ← parse f s
  change_targets (dropped i) p
