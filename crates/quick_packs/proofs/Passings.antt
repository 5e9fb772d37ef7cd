-- The quick way over packs as its loop goes: one more, whose items are told.
use mathlib.Core.Path.{◌≡◌, refl, sym}
use mathlib.Core.Bool.{Bool, true, false}
use mathlib.Core.List.{List}
use Prim.Native.Nat.{ℕ, ◌+◌, ◌-◌, ◌≤◌, ◌<◌}
use native.Mathlib.Omega.{arith}
use Rattle.std.proofs.Common.{Ok, Option, Some, None}
use lib.ListN.{length, take, drop}
use Rattle.format.specs.Coding.{Bytes}
use Rattle.items.specs.Meet.{form_of}
use Rattle.heads.specs.declared.Head.{Head}
use Rattle.heads.specs.Meet.{peek, PackHeadIf}
use Rattle.heads.proofs.Before.{pack_peek}
use Rattle.repeats.proofs.Noted.{Noted, noted_none}
use Rattle.tally.specs.Going.{SeriesGoing}
use Rattle.tally.proofs.Turns.{Fresh}
use Rattle.tally.proofs.PackTurns.{PackAt, series_start, whole, head_stood, head_room}
use Rattle.quick_packs.specs.declared.bounds.Bounds.{Bounds}
use Rattle.quick_packs.specs.declared.Choice.{Choice}
use Rattle.quick_packs.specs.declared.Model.{Model}
use Rattle.quick_packs.specs.Ids.{no_bounds, Bounded, IdNew}
use Rattle.quick_packs.specs.Packs.{packed_sizes, As, InUse, ItemsAsked, Chosen, Choosing}
use Rattle.quick_packs.proofs.Models.{as_model, items_asked, told_more}
use Rattle.quick_packs.proofs.Fresh.{bounded_none, id_fresh, id_bounded, id_noted}

-- ---- what is in use

use_later : (alone : Bool) (masks s : List ℕ) (m : Option Model) {p q : ℕ} → p ≤ q → InUse alone masks s p m → InUse alone masks s q m
use_later alone masks s None l i = tt
use_later alone masks s (Some m) l i = (i.0, omega (arith, i.1, l))

-- a model of their own
pub choosing : {alone : Bool} {masks s : List ℕ} {from next misses k : ℕ} {m : Model} → Chosen alone masks s from next m → k ≤ 1 + misses
    → Choosing alone masks s from next misses (record { model = Some m; rows = m.rows; misses = k })
choosing q few = record { told = q.told; model = (q.modelled, q.earlier); few = few }

-- the model that was, where the items are laid out as its are
pub use_as : {alone : Bool} {masks s : List ℕ} {from next misses : ℕ} {o : Option Model} {m : Model} → o ≡ Some m → InUse alone masks s from o → ItemsAsked s from next → (m.size ≡ next - from) × As masks s m from
    → Choosing alone masks s from next misses (record { model = o; rows = m.rows; misses = misses })
use_as {from = from} {next = next} e u asked a = let l = rw e at u in rw e (choosing (as_model l.0 from next asked l.1 a) (omega arith))

-- ---- the loop

-- the packs up to p were walked; their bounds, the bits in which their ids are noted, and what is in use
pub record Passing (alone : Bool) (s bits masks : List ℕ) (p rows more : ℕ) (b : Bounds) (c : Choice) : Type 0 where
  pub going : SeriesGoing (form_of alone) s p (packed_sizes p rows more) b.top b.low
  pub bounded : Bounded p b
  pub noted : Noted (peek false true false) s bits p
  pub model : InUse alone masks s p c.model
  pub few : c.misses ≤ p

pub passing_none : (alone : Bool) (s bits masks : List ℕ) → Passing alone s bits masks 0 0 0 no_bounds (record { model = None; rows = 0; misses = 0 })
passing_none alone s bits masks = record {
  going = series_start _ _;
  bounded = bounded_none;
  noted = noted_none _ _ _;
  model = tt;
  few = omega arith;
}

-- one more, with a byte for its length and one or two for its id, whose head the code has read
pub record ShortHere (alone : Bool) (s bits masks : List ℕ) (p rows more : ℕ) (b : Bounds) (c : Choice) (h : Head) : Type 0 where
  pub passing : Passing alone s bits masks p rows more b c
  pub here : p < length s
  pub head : PackHeadIf (Some h) (take (length s - p) (drop p s))
  pub bytes : Bytes s
  pub most : length s ≤ 8192

module _ {alone : Bool} {s bits masks : List ℕ} {p rows more : ℕ} {b : Bounds} {c : Choice} {h : Head} (i : ShortHere alone s bits masks p rows more b c h) where
  at : PackAt (form_of alone) s p (packed_sizes p rows more) b.top b.low h.key h.used h.width h.size
  at = record { going = i.passing.going; here = i.here; it = Ok h; told = i.head.0; is = refl; bytes = i.bytes; most = i.most }

  short : (h.width ≡ 1) × (h.size < 128) × (h.used ≤ 2)
  short = (i.head.1, i.head.2, i.head.3)

  here_next : (p < p + h.width + h.size) × (p + h.width + h.size ≤ length s) × (h.used ≤ h.size)
  here_next = (omega (arith, (head_stood at).len), head_room at, (head_stood at).body)

  pub here_asks : ItemsAsked s (p + h.width + h.used) (p + h.width + h.size) × InUse alone masks s (p + h.width + h.used) c.model × (c.misses ≤ 8192)
  here_asks = (items_asked at short, use_later alone masks s c.model (omega arith) i.passing.model, omega (arith, i.passing.few, i.here, i.most))

  -- its id is new
  module _ {after : List ℕ} {r : Bounds} (n : IdNew bits after p b h.key r) where
    here_fresh : Fresh (peek false true false) s p b.top b.low h.key r.top r.low
    here_fresh = id_fresh i.passing.noted n

    -- and its items are told
    module _ {masks' : List ℕ} {c' : Choice} (k : Choosing alone masks' s (p + h.width + h.used) (p + h.width + h.size) c.misses c') where
      pub passing_more : Passing alone s after masks' (p + h.width + h.size) (rows + c'.rows) (more + 5 - h.used) r c'
      passing_more =
          let g = i.passing.going.past in
          let e : p + h.width + h.size ≡ p + (h.width + h.size) = omega arith in
          let some : 0 < h.width + h.size = omega (arith, here_next) in
          record {
            going = told_more more at short here_fresh k.told;
            bounded = id_bounded i.passing.noted n _ (omega (arith, here_next));
            noted = rw e (id_noted i.passing.noted n g.keys g.heads (h.width + h.size) (pack_peek false (drop p s) _ (sym (whole at))) some);
            model = use_later alone masks' s c'.model (omega (arith, here_next)) k.model;
            few = omega (arith, k.few, i.passing.few, here_next);
          }
