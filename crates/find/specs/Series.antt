-- Where the series, one of its packs and tag 6 stand among the entries of a packet's set.
use Rattle.std.specs.Prelude.{◌≡◌, ◌⊎◌, ℕ, ◌+◌, ◌≤◌, ◌<◌, ◌^◌, true, false, List, ◌++◌, length, get_or, ltb}
use Rattle.format.specs.Coding.{oid_bytes}
use Rattle.format.specs.Lists.{flat_all}
use Rattle.format.specs.Table.{Form}
use Rattle.format.specs.Packet.{Pack, Entry, flat_pack, flat_entry}
use Rattle.format.specs.Targets.{packs_in}
use Rattle.format.specs.Valid.{All}
use Rattle.tally.specs.Runs.{Ran, series_run}
use Rattle.find.specs.declared.Spot.{Spot}
use Rattle.find.specs.declared.around.Packs.{Packs}
use Rattle.find.specs.declared.around.Run.{Run}
use Rattle.find.specs.declared.around.Series.{Series}
use Rattle.find.specs.Spots.{no_spot, spot_in, has_tag, has_id, packs_of, entry_lead, pack_lead}

abbrev pub tag_spot : ℕ → List Entry → Spot
tag_spot tag es = spot_in (has_tag tag) flat_entry entry_lead entry_lead 0 es

abbrev pub id_spot : ℕ → List Pack → Spot
id_spot id ps = spot_in (has_id id) flat_pack (λ p. p.width) pack_lead 0 ps

-- what a walk over all packs of a series says
abbrev pub packs_spot : ℕ → List Pack → Packs
packs_spot id ps = record { at = (id_spot id ps).at; next = (id_spot id ps).next; count = length ps }

-- ---- packs passed

-- a length of one byte or of two
abbrev pub InWidth : ℕ → ℕ → Type 0
InWidth w n = (1 ≤ w) × (w ≤ 2) × (w ≡ 1 → n < 128)

-- the first byte of an id that a pack may have
abbrev pub LeadOf : ℕ → ℕ → Type 0
LeadOf id lead = id < 2 ^ 63 → lead ≡ get_or (oid_bytes id) 0 0

-- the packs before p
pub record PacksTo (f : Form) (s : List ℕ) (p : ℕ) (before : List Pack) : Type 0 where
  pub rest : List Pack
  pub list_is : packs_of f s ≡ before ++ rest
  pub p_is : p ≡ length (flat_all flat_pack before)

-- its id begins with another byte
abbrev pub OtherLead : ℕ → Pack → Type 0
OtherLead lead x = (x.id < 2 ^ 63) × (get_or (oid_bytes x.id) 0 0 ≡ lead → ⊥)

-- after those before, others were passed up to at
pub record PassedOn (f : Form) (s : List ℕ) (lead : ℕ) (before : List Pack) (at count : ℕ) : Type 0 where
  pub mid : List Pack
  pub to : PacksTo f s at (before ++ mid)
  pub count_is : count ≡ length mid
  pub others : All (OtherLead lead) mid

-- a walk that begins where a pack does
pub record AlikeAsked (s : List ℕ) (from : ℕ) : Type 0 where
  pub short : length s ≤ 8192
  pub within : from ≤ length s
  pub form : Form
  pub before : List Pack
  pub ran : Ran (series_run form s)
  pub to : PacksTo form s from before

-- where it came to, in whatever form the series was read
abbrev pub AlikePassed : List ℕ → ℕ → ℕ → Run → Type 0
AlikePassed s from lead r = (f : Form) (before : List Pack) → Ran (series_run f s) → PacksTo f s from before → PassedOn f s lead before r.at r.count

-- ---- the series among the entries

-- a spot, or the entries' end where nothing stands at it
abbrev pub spot_within : Spot → ℕ → Spot
spot_within a stop = elim (ltb a.at a.next) [ true ↦ a | false ↦ no_spot stop ]

-- a is the spot of the series, b that of the pack in it, c that of tag 6
abbrev pub series_at : Spot → Spot → Spot → ℕ → ℕ → Series
series_at a b c stop count = record {
  at = a.at;
  packs = a.from;
  pack = a.from + b.at;
  last = a.from + b.next;
  tail = a.next;
  stop = stop;
  six = c.at;
  after = c.next;
  count = count;
}

abbrev pub series_in : ℕ → List Entry → Series
series_in id es = series_at (tag_spot 101 es) (id_spot id (packs_in es)) (tag_spot 6 es) (length (flat_all flat_entry es)) (length (packs_in es))

-- the places in order, within n bytes; tag 6 stands before the series or after it, or is the end
pub record InOrder (n : ℕ) (r : Series) : Type 0 where
  pub to_packs : r.at ≤ r.packs
  pub to_pack : r.packs ≤ r.pack
  pub to_last : r.pack ≤ r.last
  pub to_tail : r.last ≤ r.tail
  pub to_stop : r.tail ≤ r.stop
  pub to_end : r.stop ≤ n
  pub apart : ((r.six < r.after) × (r.after ≤ r.at)) ⊎ (r.tail ≤ r.six)
  pub six : r.six ≤ r.after
  pub after : r.after ≤ r.stop
