-- The turns of a walk that writes a level's entries: what the head that the code read says of the entry there, and what the walk stores for it.
-- What an entry writes is free: `emit`, from a state on.
use mathlib.Core.Path.{◌≡◌, refl, sym, ap, ◌∙◌}
use Prim.Native.Nat.{ℕ, ◌+◌, ◌-◌, ◌≤◌, ◌<◌}
use native.Mathlib.Omega.{arith}
use native.Mathlib.Nat.{add_assoc}
use mathlib.Core.Bool.{Bool, true, false, ◌&&◌}
use mathlib.Core.List.{List}
use lib.Dec.{eqb}
use lib.ListN.{length, take, drop, length-drop}
use lib.Seq.{sets, drop-drop, length-take-le}
use Rattle.format.specs.Answer.{Ans, ok, refused, Got}
use Rattle.format.specs.Coding.{Bytes}
use Rattle.format.specs.Run.{always}
use Rattle.format.specs.Table.{Form, is_set}
use Rattle.format.specs.Packet.{Pack, Entry, plain, series, tag_of_entry}
use Rattle.format.specs.Read.{head_of}
use Rattle.format.proofs.Words.Bytes.{bytes_drop}
use Rattle.format.proofs.Reading.Items.{head_says}
use Rattle.std.proofs.Common.{Ok, Err}
use Rattle.coding.specs.declared.refusals.Refusal.{Refusal}
use Rattle.coding.proofs.Rooms.{tail_part}
use Rattle.items.specs.Meet.{level_of}
use Rattle.heads.specs.declared.Head.{Head}
use Rattle.heads.specs.Meet.{item_head, item_head_of}
use Rattle.heads.proofs.Heads.{mid_part, item_within, item_some}
use Rattle.tally.specs.Meet.{step_at}
use Rattle.tally.specs.Runs.{Ran, made_of, level_run, series_run}
use Rattle.tally.proofs.ItemTurns.{level_is}
use Rattle.tally.proofs.Steps.{EntryHere, entry_here, no_head_entry}
use Rattle.write_laws.specs.Writing.{Writing}
use Rattle.stores.proofs.Puts.{Puts}
use Rattle.write_laws.proofs.Writing.{Emits, writing_start, writing_done, Next, next_here, next_room, writing_more}

-- a run that came to its end
pub ran : {X : Type 0} (x : Ans (Got (List X))) → Ran x → (rs : Got (List X)) × (x ≡ ok rs)
ran (ok rs) h = (rs, refl)
ran (refused n p) h = absurd h

pub ran_ok : {X : Type 0} (x : Ans (Got (List X))) {rs : Got (List X)} → x ≡ ok rs → Ran x
ran_ok x e = rw e tt

-- where a head that the code read at p ends, with all that it heads
module _ (b : Bool) (s : List ℕ) (p : ℕ) (h : Head) (e : ok (item_head h) ≡ head_of (level_of b) (take (length s - p) (drop p s))) (l : p < length s) where
  pub item_spans : (p + h.used + h.width + h.size ≤ length s) × (Bytes s → 0 < h.used + h.width)
  item_spans =
      let e' = rw tail_part at e in
      (omega (arith, item_within (drop p s) h (level_of b) e', length-drop p s), λ i. item_some (drop p s) h (level_of b) e' (bytes_drop p s i))

-- from the state σ₀ on
pub record LevelWriting (b : Bool) (f : Form) (s out₀ out : List ℕ) (p k : ℕ) {S : Type 0} {emit : S → Entry → List ℕ} {next : S → Entry → S} {emits : S → List Entry → List ℕ}
    (law : Emits emit next emits) (σ₀ σ : S) : Type 0 where
  pub writes : Writing always emits tag_of_entry (step_at (level_of b) f) (made_of (emits σ₀) (level_run (level_of b) f s)) s out₀ out σ p k

-- the code read a head at p
pub record EntryAt (b : Bool) (f : Form) (s out₀ out : List ℕ) (p k : ℕ) (h : Head) {S : Type 0} {emit : S → Entry → List ℕ} {next : S → Entry → S} {emits : S → List Entry → List ℕ}
    (law : Emits emit next emits) (σ₀ σ : S) : Type 0 where
  pub going : LevelWriting b f s out₀ out p k law σ₀ σ
  pub here : p < length s
  pub reads : ok (item_head h) ≡ head_of (level_of b) (take (length s - p) (drop p s))
  pub bytes : Bytes s
  pub most : length s ≤ 8192
  pub room : length (made_of (emits σ₀) (level_run (level_of b) f s)) ≤ length out₀

module _ {S : Type 0} {emit : S → Entry → List ℕ} {next : S → Entry → S} {emits : S → List Entry → List ℕ} (law : Emits emit next emits) (b : Bool) (f : Form) (σ₀ : S) (s out₀ : List ℕ) where
  pub level_start : Ran (level_run (level_of b) f s) → LevelWriting b f s out₀ out₀ 0 0 law σ₀ σ₀
  unfolding level_run
  level_start h =
      let (rs, e) = ran (level_run (level_of b) f s) h in
      record { writes = writing_start law always tag_of_entry (step_at (level_of b) f) _ s out₀ σ₀ rs e (ap (made_of (emits σ₀)) e) }

module _ {S : Type 0} {emit : S → Entry → List ℕ} {next : S → Entry → S} {emits : S → List Entry → List ℕ} {law : Emits emit next emits} {b : Bool} {f : Form} {σ₀ : S} {s out₀ out : List ℕ} {σ : S} {p k : ℕ} where
  module _ (g : LevelWriting b f s out₀ out p k law σ₀ σ) where
    pub level_done : length s ≤ p → (k ≡ length (made_of (emits σ₀) (level_run (level_of b) f s))) × (out ≡ sets out₀ 0 (made_of (emits σ₀) (level_run (level_of b) f s)))
    level_done h = writing_done law _ _ _ _ _ _ g.writes h

    pub entry_comes : p < length s → Next law _ _ _ _ _ _ g.writes
    entry_comes h = next_here law _ _ _ _ _ _ g.writes h refl

    -- where an entry stands, the code reads a head
    pub entry_fault : {X : Type 0} → p < length s → (r : Refusal) → item_head_of (Err r) ≡ head_of (level_of b) (take (length s - p) (drop p s)) → X
    entry_fault h r e =
        let n = entry_comes h in
        no_head_entry (level_of b) f g.writes.seen (drop p s) n.it n.read (Err r) (rw tail_part at e) refl

  module _ {h : Head} (i : EntryAt b f s out₀ out p k h law σ₀ σ) where
    pub entry : Next law _ _ _ _ _ _ i.going.writes
    entry = entry_comes i.going i.here

    pub entry_stands : EntryHere (level_of b) f (drop p s) h.key h.used h.width h.size entry.it
    entry_stands = entry_here (level_of b) f i.going.writes.seen (drop p s) (bytes_drop p s i.bytes) entry.it entry.read (Ok h) (rw tail_part at i.reads) refl

    pub entry_tag : h.key ≤ 16383
    entry_tag = (head_says (level_of b) (drop p s) _ (bytes_drop p s i.bytes) (sym (rw tail_part at i.reads))).high

    pub entry_room : (p + h.used + h.width + h.size ≤ length s) × (0 < h.size) × (length s ≤ 8192)
    entry_room = (omega (arith, entry_stands.room, length-drop p s), entry_stands.some, i.most)

    -- its value, as it is lent
    abbrev pub value_at : List ℕ
    value_at = take (p + h.used + h.width + h.size - (p + h.used + h.width)) (drop (p + h.used + h.width) s)

    pub value_is : value_at ≡ take h.size (drop (h.used + h.width) (drop p s))
    value_is = mid_part (p + h.used + h.width) h.size s ∙ rw (drop-drop (h.used + h.width) p s, ← add_assoc p h.used h.width)

    pub value_long : length value_at ≡ h.size
    value_long = length-take-le (p + h.used + h.width + h.size - (p + h.used + h.width)) (drop (p + h.used + h.width) s) (rw length-drop (omega (arith, entry_room))) ∙ omega arith

    -- what it writes, and the turn when that is stored
    abbrev pub stored : List ℕ
    stored = emit σ entry.it.val

    pub entry_fits : k + length stored ≤ length out
    entry_fits = next_room law _ _ _ _ _ _ i.going.writes entry i.room

    pub entry_more : {k' : ℕ} {out' : List ℕ} → Puts out k stored k' out' → {σ' : S} → σ' ≡ next σ entry.it.val → LevelWriting b f s out₀ out' (p + h.used + h.width + h.size) k' law σ₀ σ'
    entry_more e es =
        let w = entry_stands in
        record {
          writes = writing_more law _ _ _ _ _ _ i.going.writes entry (omega (arith, w.used_is, w.head)) (omega (arith, w.used_is, entry_room)) e.1 es (omega (arith, w.used_is)) e.0;
        }

    -- x: it is the series
    module _ {x : Bool} (ex : x ≡ (b && eqb h.key 101)) where
      is_series_is : {y : Bool} → x ≡ y → is_set (level_of b) && eqb h.key 101 ≡ y
      is_series_is t = rw (level_is b) (sym ex ∙ t)

      pub one_is : x ≡ false → entry.it.val ≡ plain (record { tag = h.key; width = h.width; value = value_at })
      one_is tx = entry_stands.one (is_series_is tx) ∙ ap (λ v. plain (record { tag = h.key; width = h.width; value = v })) (sym value_is)

      module _ (tx : x ≡ true) where
        pub packs_run : (ps : Got (List Pack)) × (entry.it.val ≡ series h.width ps.val) × (series_run f value_at ≡ ok ps)
        packs_run = let (ps, e, r) = entry_stands.packs (is_series_is tx) in (ps, e, ap (series_run f) value_is ∙ r)

        pub packs_asked : (length value_at ≤ 8192) × Ran (series_run f value_at)
        packs_asked = (omega (arith, value_long, entry_room), ran_ok (series_run f value_at) packs_run.2)
