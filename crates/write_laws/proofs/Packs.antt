-- The turns of a walk that writes a series' packs: what the head that the code read says of the pack there, and what the walk stores for it.
-- What a pack writes is free: `emit`, from a state on.
use mathlib.Core.Path.{◌≡◌, refl, sym, ap, ◌∙◌}
use Prim.Native.Nat.{ℕ, ◌+◌, ◌-◌, ◌^◌, ◌≤◌, ◌<◌}
use native.Mathlib.Omega.{arith}
use native.Mathlib.Nat.{add_assoc}
use mathlib.Core.List.{List}
use lib.ListN.{length, take, drop, length-drop}
use lib.Seq.{sets, drop-drop, length-take-le}
use Rattle.format.specs.Answer.{ok}
use Rattle.format.specs.Coding.{Bytes}
use Rattle.format.specs.Run.{always}
use Rattle.format.specs.Table.{Form, pack}
use Rattle.format.specs.Packet.{Pack, id_of_pack}
use Rattle.format.specs.Read.{pack_head, one_pack}
use Rattle.format.proofs.Words.Bytes.{bytes_drop}
use Rattle.format.proofs.Reading.Packs.{pack_head_says}
use Rattle.std.proofs.Common.{Ok, Err}
use Rattle.coding.specs.declared.refusals.Refusal.{Refusal}
use Rattle.coding.proofs.Rooms.{tail_part}
use Rattle.heads.specs.declared.Head.{Head}
use Rattle.heads.specs.Meet.{pack_head_from, pack_head_of}
use Rattle.heads.proofs.Heads.{pack_within, pack_some}
use Rattle.tally.specs.Runs.{Ran, made_of, level_run, series_run}
use Rattle.tally.proofs.PackTurns.{drop_take}
use Rattle.tally.proofs.Steps.{PackHere, pack_here, no_head_pack}
use Rattle.write_laws.specs.Writing.{Writing}
use Rattle.stores.proofs.Puts.{Puts}
use Rattle.write_laws.proofs.Writing.{Emits, writing_start, writing_done, Next, next_here, next_room, writing_more}
use Rattle.write_laws.proofs.Entries.{ran, ran_ok}

-- a pack's id lies within its bytes
pack_body : (s : List ℕ) (h : Head) → ok (pack_head_from h) ≡ pack_head s → Bytes s → h.used ≤ h.size
pack_body s h e b = let k = pack_head_says s _ b (sym e) in omega (arith, k.id_took.room, k.size_is)

-- where a head that the code read at p ends, with all that it heads
module _ (s : List ℕ) (p : ℕ) (h : Head) (e : ok (pack_head_from h) ≡ pack_head (take (length s - p) (drop p s))) (l : p < length s) where
  pub pack_spans : (p + h.width + h.size ≤ length s) × (Bytes s → (0 < h.width) × (h.used ≤ h.size))
  pack_spans =
      let e' = rw tail_part at e in
      (omega (arith, pack_within (drop p s) h e', length-drop p s), λ i. (pack_some (drop p s) h e' (bytes_drop p s i), pack_body (drop p s) h e' (bytes_drop p s i)))

-- from the state σ₀ on
pub record SeriesWriting (f : Form) (s out₀ out : List ℕ) (p k : ℕ) {S : Type 0} {emit : S → Pack → List ℕ} {next : S → Pack → S} {emits : S → List Pack → List ℕ}
    (law : Emits emit next emits) (σ₀ σ : S) : Type 0 where
  pub writes : Writing always emits id_of_pack (one_pack f) (made_of (emits σ₀) (series_run f s)) s out₀ out σ p k

-- the code read a head at p
pub record PackAt (f : Form) (s out₀ out : List ℕ) (p k : ℕ) (h : Head) {S : Type 0} {emit : S → Pack → List ℕ} {next : S → Pack → S} {emits : S → List Pack → List ℕ}
    (law : Emits emit next emits) (σ₀ σ : S) : Type 0 where
  pub going : SeriesWriting f s out₀ out p k law σ₀ σ
  pub here : p < length s
  pub reads : ok (pack_head_from h) ≡ pack_head (take (length s - p) (drop p s))
  pub bytes : Bytes s
  pub most : length s ≤ 8192
  pub room : length (made_of (emits σ₀) (series_run f s)) ≤ length out₀

module _ {S : Type 0} {emit : S → Pack → List ℕ} {next : S → Pack → S} {emits : S → List Pack → List ℕ} (law : Emits emit next emits) (f : Form) (σ₀ : S) (s out₀ : List ℕ) where
  pub series_start : Ran (series_run f s) → SeriesWriting f s out₀ out₀ 0 0 law σ₀ σ₀
  unfolding series_run
  series_start h =
      let (rs, e) = ran (series_run f s) h in
      record { writes = writing_start law always id_of_pack (one_pack f) _ s out₀ σ₀ rs e (ap (made_of (emits σ₀)) e) }

module _ {S : Type 0} {emit : S → Pack → List ℕ} {next : S → Pack → S} {emits : S → List Pack → List ℕ} {law : Emits emit next emits} {f : Form} {σ₀ : S} {s out₀ out : List ℕ} {σ : S} {p k : ℕ} where
  module _ (g : SeriesWriting f s out₀ out p k law σ₀ σ) where
    pub series_done : length s ≤ p → (k ≡ length (made_of (emits σ₀) (series_run f s))) × (out ≡ sets out₀ 0 (made_of (emits σ₀) (series_run f s)))
    series_done h = writing_done law _ _ _ _ _ _ g.writes h

    pub pack_comes : p < length s → Next law _ _ _ _ _ _ g.writes
    pack_comes h = next_here law _ _ _ _ _ _ g.writes h refl

    -- where a pack stands, the code reads a head
    pub pack_fault : {X : Type 0} → p < length s → (r : Refusal) → pack_head_of (Err r) ≡ pack_head (take (length s - p) (drop p s)) → X
    pack_fault h r e =
        let n = pack_comes h in
        no_head_pack f g.writes.seen (drop p s) n.it n.read (Err r) (rw tail_part at e) refl

  module _ {h : Head} (i : PackAt f s out₀ out p k h law σ₀ σ) where
    pub one_pack_lem : Next law _ _ _ _ _ _ i.going.writes
    one_pack_lem = pack_comes i.going i.here

    pub pack_stands : PackHere f (drop p s) h.key h.used h.width h.size one_pack_lem.it
    pack_stands = pack_here f i.going.writes.seen (drop p s) (bytes_drop p s i.bytes) one_pack_lem.it one_pack_lem.read (Ok h) (rw tail_part at i.reads) refl

    pub pack_id : h.key < 2 ^ 63
    pack_id = (pack_head_says (drop p s) _ (bytes_drop p s i.bytes) (sym (rw tail_part at i.reads))).id_range

    pub pack_room : (p + h.width + h.size ≤ length s) × (0 < h.width) × (h.used ≤ h.size) × (length s ≤ 8192)
    pack_room = (omega (arith, pack_stands.room, length-drop p s), pack_stands.len, pack_stands.body, i.most)

    -- its items, as they are lent
    abbrev pub items_at : List ℕ
    items_at = take (p + h.width + h.size - (p + h.width + h.used)) (drop (p + h.width + h.used) s)

    items_are : items_at ≡ drop h.used (take h.size (drop h.width (drop p s)))
    items_are =
        let z : p + h.width + h.size - (p + h.width + h.used) ≡ h.size - h.used = omega arith in
        rw (z, drop_take h.used h.size (drop h.width (drop p s)), drop-drop h.used h.width (drop p s), drop-drop (h.width + h.used) p s, ← add_assoc p h.width h.used)

    pub items_long : length items_at ≡ h.size - h.used
    items_long =
        let z : p + h.width + h.size - (p + h.width + h.used) ≡ h.size - h.used = omega arith in
        length-take-le (p + h.width + h.size - (p + h.width + h.used)) (drop (p + h.width + h.used) s) (rw length-drop (omega (arith, pack_room))) ∙ z

    pub items_run : level_run pack f items_at ≡ ok pack_stands.entries
    items_run = ap (level_run pack f) items_are ∙ pack_stands.runs

    pub items_asked : (length items_at ≤ 8192) × Ran (level_run pack f items_at)
    items_asked = (omega (arith, items_long, pack_room), ran_ok (level_run pack f items_at) items_run)

    -- what it writes, and the turn when that is stored
    abbrev pub packed : List ℕ
    packed = emit σ one_pack_lem.it.val

    pub pack_fits : k + length packed ≤ length out
    pack_fits = next_room law _ _ _ _ _ _ i.going.writes one_pack_lem i.room

    pub pack_more : {k' : ℕ} {out' : List ℕ} → Puts out k packed k' out' → {σ' : S} → σ' ≡ next σ one_pack_lem.it.val → SeriesWriting f s out₀ out' (p + h.width + h.size) k' law σ₀ σ'
    pack_more e es =
        let w = pack_stands in
        record {
          writes = writing_more law _ _ _ _ _ _ i.going.writes one_pack_lem (omega (arith, w.used_is, w.len)) (omega (arith, w.used_is, pack_room)) e.1 es (omega (arith, w.used_is)) e.0;
        }
