-- A pack whose items a quick way went over to their end: it is walked as the pack walk walks it.
use mathlib.Core.Path.{◌≡◌, refl, ap, ◌∙◌}
use Prim.Native.Nat.{ℕ, ◌+◌, ◌-◌, ◌≤◌, ◌<◌}
use native.Mathlib.Omega.{arith}
use mathlib.Core.Bool.{false}
use mathlib.Core.List.{List}
use lib.ListN.{length, take, drop}
use Rattle.format.specs.Table.{Form, pack}
use Rattle.heads.specs.declared.Head.{Head}
use Rattle.tally.specs.declared.Sizes.{Sizes}
use Rattle.tally.specs.declared.stages.Stage.{Stage}
use Rattle.tally.specs.Pieces.{Good}
use Rattle.tally.specs.Meet.{ended_by, pack_sizes, plus_sizes, level_walk, Small, Within}
use Rattle.tally.specs.Going.{LevelTo, SeriesGoing, New}
use Rattle.tally.proofs.Turns.{turn_done, new_key}
use Rattle.tally.proofs.PackTurns.{PackAt, head_stood, head_room, lent_long, items_small, pack_small, pack_more}

-- a pack at p whose head the code has read
abbrev pub PackHere : Form → List ℕ → ℕ → Sizes → ℕ → ℕ → Head → Type 0
PackHere f s p sum top low h = PackAt f s p sum top low h.key h.used h.width h.size

pub pack_next : {f : Form} {s : List ℕ} {p : ℕ} {sum : Sizes} {top low : ℕ} {h : Head} → PackHere f s p sum top low h → (p < p + h.width + h.size) × (p + h.width + h.size ≤ length s) × (h.used ≤ h.size)
pack_next i = (omega (arith, (head_stood i).len), head_room i, (head_stood i).body)

-- its id told to be new, and its items walked to the stage q, which is their end
pub record PackTold (f : Form) (s : List ℕ) (p : ℕ) (sum : Sizes) (top low : ℕ) (h : Head) (q : Stage) : Type 0 where
  pub here : PackHere f s p sum top low h
  pub new : New p top low h.key
  pub items : LevelTo false f (take (p + h.width + h.size - (p + h.width + h.used)) (drop (p + h.width + h.used) s)) q
  pub all : q.at ≡ p + h.width + h.size - (p + h.width + h.used)

module _ {f : Form} {s : List ℕ} {p : ℕ} {sum : Sizes} {top low : ℕ} {h : Head} {q : Stage} (t : PackTold f s p sum top low h q) where
  abbrev lent : List ℕ
  lent = take (p + h.width + h.size - (p + h.width + h.used)) (drop (p + h.width + h.used) s)

  walked : (Good q.sizes q.held ≡ level_walk pack f lent) × Within (Good q.sizes q.held) (length lent)
  walked = turn_done t.items (omega (arith, t.all, lent_long t.here (new_key t.new) refl))

  pub told_small : (h.used ≤ 9) × Small q.sizes
  told_small = ((head_stood t.here).id_few, items_small t.here (new_key t.new) refl walked refl)

  -- y is what the code says of its sizes
  module _ {y : Sizes} (ey : y ≡ pack_sizes h.used q.sizes) where
    pub told_sums : Small sum × Small y
    told_sums = pack_small t.here (new_key t.new) refl walked refl ey

    -- number: with what it is refused at its end, if not 0
    pub told_next : {number : ℕ} → number ≡ ended_by f q.held → number ≡ 0 → {sum' : Sizes} → sum' ≡ plus_sizes sum y → {top' : ℕ} → (top ≤ top') × (h.key ≤ top') → {low' : ℕ} → (low' ≤ low) × (low' ≤ h.key)
        → SeriesGoing f s (p + h.width + h.size) sum' top' low'
    told_next says z es et el = pack_more t.here (new_key t.new) refl walked refl says z (es ∙ ap (plus_sizes sum) ey) et el
