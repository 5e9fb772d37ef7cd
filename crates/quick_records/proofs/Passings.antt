-- The quick way over targets as its loop goes: one more that holds such records as the code has a model for.
use Rattle.std.proofs.Common.{Option, Some, None, IfSome, ◌≡◌, ℕ, ◌+◌, ◌-◌, ◌*◌, ◌<◌, ◌≤◌, Bool, true, false, List, length, take, drop, refl, arith}
use Rattle.format.specs.Coding.{Bytes, bytes_number, oid_bytes}
use Rattle.format.specs.Sheet.{TG, is}
use Rattle.items.specs.Meet.{form_of}
use Rattle.heads.specs.Meet.{peek}
use Rattle.repeats.proofs.Noted.{Noted, noted_none}
use Rattle.tally.specs.Meet.{sizes}
use Rattle.tally.specs.Going.{stage_at}
use Rattle.tally.proofs.Turns.{going_wide}
use Rattle.tally_records.specs.Going.{TargetsGoing}
use Rattle.tally_records.proofs.Opens.{target_whole_lem}
use Rattle.tally_records.proofs.TargetTurns.{TargetAt, targets_start}
use Rattle.quick_packs.specs.declared.Model.{Model}
use Rattle.quick_packs.specs.declared.bounds.Bounds.{Bounds}
use Rattle.quick_packs.specs.Ids.{no_bounds, Bounded, IdNew}
use Rattle.quick_packs.proofs.Fresh.{bounded_none, id_fresh, id_bounded, id_noted}
use Rattle.quick_records.specs.Going.{TargetsPassed}
use Rattle.quick_records.specs.Targets.{Modelled, ModelAt}
use Rattle.quick_records.proofs.Models.{held_looks, held_more}

-- the targets before p are walked, with so many rows and bytes in a packet, their ids within the bounds and noted; another stands there
pub record Passing (alone : Bool) (s bits masks : List ℕ) (p rows normal : ℕ) (b : Bounds) (last : Option Model) : Type 0 where
  pub going : TargetsGoing (form_of alone) s p (sizes p rows normal 0) 0 b.top b.low
  pub opens : is TG s ≡ true
  pub begins : p < length s → is TG (drop p s) ≡ true
  pub bounded : Bounded p b
  pub small : b.top ≤ 16383
  pub model : IfSome last (λ m. Modelled alone masks s m × (m.from ≤ p))
  pub noted : Noted (peek true true false) s bits p

pub passing_none : {alone : Bool} {s bits masks : List ℕ} → is TG s ≡ true → Passing alone s bits masks 0 0 0 no_bounds None
passing_none tg = record {
  going = targets_start _ _;
  opens = tg;
  begins = λ _. tg;
  bounded = bounded_none;
  small = omega arith;
  model = tt;
  noted = noted_none _ _ _;
}

module _ {alone : Bool} {s bits masks : List ℕ} {p rows normal : ℕ} {b : Bounds} {last : Option Model} (i : Passing alone s bits masks p rows normal b last) where
  -- the walk may go on there
  pub passing_stays : TargetsPassed (form_of alone) s (stage_at p (sizes p rows normal 0) 0 b.top b.low)
  passing_stays = (i.going, omega (arith, i.small), refl, i.opens)

  -- an id of two bytes at the most, told to be new, and the bounds that the code has then
  module _ {id : ℕ} (low : id ≤ 16383) {after : List ℕ} {r : Bounds} (new : IdNew bits after p b id r) (below : (m : ℕ) → b.top ≤ m → id ≤ m → r.top ≤ m) where
    pub passing_wide : TargetsPassed (form_of alone) s (stage_at p (sizes p rows normal 0) 0 r.top r.low)
    passing_wide = (going_wide i.going new.over.0 new.under.0, omega (arith, below 16383 i.small low), refl, i.opens)

    -- which is that of a target here
    module _ (bytes : Bytes s) (most : length s ≤ 65536) (ten : 10 ≤ length s - p) (ei : id ≡ bytes_number (take 8 (take (length s - (p + 2)) (drop (p + 2) s)))) where
      here : TargetAt (form_of alone) s (stage_at p (sizes p rows normal 0) 0 b.top b.low) id 10 0 0
      here = record {
        going = i.going;
        here = omega arith;
        more = i.begins (omega arith);
        told = λ seen q. target_whole_lem s p seen ten ei (omega arith) ((id_fresh i.noted new).new seen q) refl;
        bytes = bytes;
        most = most;
      }

      -- and a model that its records are laid out as
      module _ {masks' : List ℕ} {m' : Model} (a : ModelAt alone masks' s (p + 10) m') where
        -- w bytes of its id, and as many in its pack as fit a byte for its length
        pub passing_more : {w : ℕ} → (w ≡ length (oid_bytes id)) × (w ≤ 9) → {body : ℕ} → body ≡ w + (m'.size + 4 - 4 * m'.rows) → body ≤ 127
            → Passing alone s after masks' (p + 10 + m'.size) (rows + m'.rows) (normal + 1 + body) r (Some m')
        passing_more ew eb few =
            let fresh = id_fresh i.noted new in
            let e : p + 10 + m'.size ≡ p + (10 + m'.size) = omega arith in
            record {
              going = held_more here a.held a.over ew eb few fresh.over fresh.under;
              opens = i.opens;
              begins = a.over.next;
              bounded = id_bounded i.noted new (p + 10 + m'.size) (omega arith);
              small = below 16383 i.small low;
              model = (a.modelled, omega (arith, a.before));
              noted = rw e (id_noted i.noted new i.going.past.keys i.going.past.heads (10 + m'.size) (held_looks here a.held a.over) (omega arith));
            }
