-- Show: the part of one of two packets that holds an item's value, by the rows (document 01, Edit and show).
use Rattle.std.specs.Prelude.{ℕ, suc, Bool, true, false, not, ◌&&◌, List, [], ◌∷◌, ltb, eqb}
use Rattle.format.specs.Answer.{Ans, ok, refused, ◌>>=◌}
use Rattle.format.specs.Lists.{ask_hit}
use Rattle.format.specs.Table.{Form, is_set}
use Rattle.format.specs.Packet.{Pack, Entry, plain, series, Packet}
use Rattle.format.specs.Read.{parse}
use Rattle.format.specs.Rows.{Row, rows_of}
use Rattle.format.specs.Edit.{Holder, the_set, target, level_of, is_series}

pub data Side : Type 0 where
  reviewer detector : Side

pub record Shown : Type 0 where
  pub side : Side
  pub offset : ℕ
  pub size : ℕ

abbrev pub shown : Side → ℕ → ℕ → Shown
shown s o n = record { side = s; offset = o; size = n }

-- the empty part at the start of the detector's packet
abbrev pub nothing : Shown
nothing = shown detector 0 0

-- the number that the rows give a target: 1, 2 ..
unfoldable pub number_in : ℕ → ℕ → List Pack → Ans ℕ
number_in i k [] = refused 18 0
number_in i k (p ∷ ps) = elim (eqb p.id i) [ true ↦ ok k | false ↦ number_in i (suc k) ps ]

unfoldable pub series_number : ℕ → Entry → Ans ℕ
series_number i (plain x) = refused 18 0
series_number i (series w ps) = number_in i 1 ps

unfoldable pub number_of : Holder → List Entry → Ans ℕ
number_of the_set es = ok 0
number_of (target i) es = ask_hit is_series (series_number i) es

unfoldable pub find_row : Holder → ℕ → Packet → Ans Row
find_row h tag p = number_of h p.entries >>= λ k. ask_hit (λ r. eqb r.target k && eqb r.tag tag) ok (rows_of p)

-- an item, and never set tag 101
unfoldable pub showable : Holder → ℕ → Bool
showable h tag = ltb 0 tag && not (is_set (level_of h) && eqb tag 101)

-- the reviewer's if it has the item, else the detector's
unfoldable pub either_row : Ans Row → Ans Row → Shown
either_row (ok r) d = shown reviewer r.offset r.size
either_row (refused n a) (ok r) = shown detector r.offset r.size
either_row (refused n a) (refused m b) = nothing

unfoldable pub show_in : Holder → ℕ → Ans Packet → Ans Packet → Shown
show_in h tag (ok r) (ok d) = elim (showable h tag) [ true ↦ either_row (find_row h tag r) (find_row h tag d) | false ↦ nothing ]
show_in h tag (ok r) (refused n a) = nothing
show_in h tag (refused n a) (ok d) = nothing
show_in h tag (refused n a) (refused m b) = nothing

unfoldable pub show : Form → List ℕ → List ℕ → Holder → ℕ → Shown
show f r d h tag = show_in h tag (parse f r) (parse f d)
