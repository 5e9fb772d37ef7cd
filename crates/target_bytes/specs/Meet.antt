-- The set's bytes with a target added or dropped: what stands before the series and after it, with tag 6 counted anew, and the series between.
use Rattle.std.specs.Prelude.{◌≡◌, ℕ, ◌+◌, ◌-◌, ◌≤◌, true, false, ◌&&◌, List, [], ◌++◌, length, leb, ltb, eqb}
use Rattle.format.specs.Coding.{len_width}
use Rattle.format.specs.Table.{Form}
use Rattle.format.specs.Packet.{flat_item}
use Rattle.format.specs.Calls.{item_of}
use Rattle.format.specs.Targets.{count_of}
use Rattle.tally.specs.Runs.{Ran}
use Rattle.store_coded.specs.Fronts.{series_front}
use Rattle.find.specs.declared.around.Series.{Series}
use Rattle.find.specs.Series.{InOrder}
use Rattle.write_packet.specs.Meet.{targets_run, targets_normal}
use Rattle.edit_rules.specs.Cuts.{part}

-- tag 6's item, saying n
abbrev pub count_item : ℕ → List ℕ
count_item n = flat_item (item_of (count_of n))

-- the bytes from a to b, with tag 6's item, if it stands there, saying n
unfoldable pub counted : List ℕ → Series → ℕ → ℕ → ℕ → List ℕ
counted s r n a b =
    elim (leb a r.six && ltb r.six b) [ true ↦ part s a r.six ++ (count_item n ++ part s r.after b) | false ↦ part s a b ]

-- the packs without the one that is taken out, and k bytes of a new one; the series with them, none where there are none
abbrev pub packs_size : Series → ℕ → ℕ
packs_size r k = (r.pack - r.packs) + (r.tail - r.last) + k

abbrev pub series_size : ℕ → ℕ
series_size m = elim (eqb m 0) [ true ↦ 0 | false ↦ 1 + len_width m + m ]

unfoldable pub series_put : List ℕ → Series → List ℕ → List ℕ
series_put s r new =
    elim (eqb (packs_size r (length new)) 0) [
      | true ↦ []
      | false ↦ series_front (packs_size r (length new)) ++ (part s r.packs r.pack ++ (part s r.last r.tail ++ new))
    ]

unfoldable pub entries_put : List ℕ → Series → ℕ → List ℕ → List ℕ
entries_put s r n new = counted s r n 0 r.at ++ (series_put s r new ++ counted s r n r.tail r.stop)

-- how many bytes they take, with m bytes of packs
abbrev pub six_size : Series → ℕ → ℕ
six_size r n = elim (ltb r.six r.stop) [ true ↦ length (count_item n) | false ↦ 0 ]

abbrev pub entries_size : Series → ℕ → ℕ → ℕ
entries_size r n m = (r.stop - (r.tail - r.at)) - (r.after - r.six) + series_size m + six_size r n

-- what is asked where they are written: the records are those of targets that were checked, none for a drop; the packs have m bytes
pub record PuttingIn (f : Form) (s : List ℕ) (r : Series) (n m : ℕ) (records : List ℕ) : Type 0 where
  pub short : length s ≤ 8192
  pub ordered : InOrder (length s) r
  pub few : n ≤ 65535
  pub size : m ≡ packs_size r (length (targets_normal f records))
  pub few_records : length records ≤ 65536
  pub ran : Ran (targets_run f records)
  pub small : length (targets_normal f records) ≤ 8192
