-- A walk while it goes: what was walked so far, with what is still to come, is the whole. For items and packs, of a packet or of a
-- sheet: `look` is what a look back reads, and the run goes on while `more` says so.
use Rattle.std.specs.Prelude.{◌≡◌, ℕ, ◌+◌, ◌≤◌, ◌<◌, Bool, true, false, not, ◌||◌, List, ◌⊎◌, length, drop, eqb}
use Rattle.std.specs.Int.Bits.{bit_or}
use Rattle.format.specs.Answer.{Ans, ok, refused, Got}
use Rattle.format.specs.Packet.{tag_of_entry, id_of_pack}
use Rattle.format.specs.Read.{item, one_pack}
use Rattle.format.specs.Run.{Step, skip, always}
use Rattle.format.specs.Table.{Form, is_set, is_alone}
use Rattle.items.specs.Meet.{level_of}
use Rattle.heads.specs.Meet.{peek, Past}
use Rattle.tally.specs.Pieces.{Piece}
use Rattle.tally.specs.declared.Sizes.{Sizes}
use Rattle.tally.specs.Pieces.{Walked}
use Rattle.tally.specs.declared.stages.Stage.{Stage}
use Rattle.tally.specs.Pieces.{Good, Bad}
use Rattle.tally.specs.Meet.{piece_of, plus_sizes, total, bits, weight_of_entry, weight_of_pack, bit_of, step_at, level_walk, series_walk, Few}

-- what was walked so far, and the rest from p
abbrev pub resume : {X : Type 0} → (X → Sizes) → (X → ℕ) → Sizes → ℕ → ℕ → Ans (Got (List X)) → Walked
resume weight held a m p (ok rs) = Good (plus_sizes a (total weight rs.val)) (bit_or m (bits held rs.val))
resume weight held a m p (refused n q) = Bad n (p + q)

pub record Going {X : Type 0} (look : List ℕ → Got ℕ) (more : List ℕ → Bool) (weight : X → Sizes) (held : X → ℕ) (key : X → ℕ) (step : Step X) (whole : Walked) (s : List ℕ) (p : ℕ)
    (a : Sizes) (m top low : ℕ) : Type 0 where
  pub seen : List ℕ
  pub past : Past look s p top low seen
  pub rest : whole ≡ resume weight held a m p (skip more key step seen 0 (drop p s))
  pub few : Few a p
  pub to : p ≤ length s

-- the item walk of a level
abbrev pub LevelGoing : Bool → Form → List ℕ → ℕ → Sizes → ℕ → ℕ → ℕ → Type 0
LevelGoing b f s p a m top low =
    Going (peek false false b) always (weight_of_entry (level_of b)) (λ e. bit_of (tag_of_entry e)) tag_of_entry (step_at (level_of b) f) (level_walk (level_of b) f s) s p a m top low

-- the pack walk of a series
abbrev pub SeriesGoing : Form → List ℕ → ℕ → Sizes → ℕ → ℕ → Type 0
SeriesGoing f s p a top low = Going (peek false true false) always weight_of_pack (λ p. 0) id_of_pack (one_pack f) (series_walk f s) s p a 0 top low

-- the two, come to this stage
abbrev pub LevelTo : Bool → Form → List ℕ → Stage → Type 0
LevelTo b f s q = LevelGoing b f s q.at q.sizes q.held q.top q.low

abbrev pub SeriesTo : Form → List ℕ → Stage → Type 0
SeriesTo f s q = SeriesGoing f s q.at q.sizes q.top q.low

-- where a walk goes on, and what was walked till there
abbrev pub stage_at : ℕ → Sizes → ℕ → ℕ → ℕ → Stage
stage_at p a m top low = record { at = p; sizes = a; held = m; top = top; low = low }

-- a tag may stand at p, if that is where the level begins
abbrev pub Begun : Bool → Form → ℕ → ℕ → Type 0
Begun b f p tag = not (is_set (level_of b)) || not (is_alone f) || not (eqb p 0) || eqb tag 2 ≡ true

-- a key that is told to be new where no key before p is above top or below low
abbrev pub New : ℕ → ℕ → ℕ → ℕ → Type 0
New p top low key = (p ≡ 0) ⊎ (top < key) ⊎ (key < low)

-- such a key, and what it and the keys before are not above or below
pub record Reached (p top low key top' low' : ℕ) : Type 0 where
  pub new : New p top low key
  pub over : (top ≤ top') × (key ≤ top')
  pub under : (low' ≤ low) × (low' ≤ key)
  pub between : low' ≤ top'

-- a is the code's answer on the item at p, whatever tags between the bounds stood before it
abbrev pub ItemRead : Bool → Form → List ℕ → ℕ → ℕ → ℕ → Piece → Type 0
ItemRead b f s p top low a = (seen : List ℕ) → Past (peek false false b) s p top low seen → a ≡ piece_of (level_of b) (item (level_of b) f seen (drop p s))
