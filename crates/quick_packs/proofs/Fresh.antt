-- An id that is told to be new stood nowhere before, and whatever follows finds it noted.
use mathlib.Core.Path.{◌≡◌, refl}
use mathlib.Core.Logic.{⊎_elim}
use Prim.Native.Nat.{ℕ, ◌+◌, ◌<◌}
use native.Mathlib.Omega.{arith}
use mathlib.Core.List.{List}
use lib.ListN.{drop}
use Rattle.format.specs.Answer.{Got, got}
use Rattle.heads.specs.Meet.{Heads}
use Rattle.repeats.proofs.Noted.{Noted, noted_new, noted_more}
use Rattle.tally.proofs.Turns.{Fresh, new_key}
use Rattle.quick_packs.specs.declared.bounds.Bounds.{Bounds}
use Rattle.quick_packs.specs.Ids.{no_bounds, Bounded, IdNew}

pub bounded_none : Bounded 0 no_bounds
bounded_none = record { first = λ _. refl; later = λ h. absurd (omega arith) }

module _ {look : List ℕ → Got ℕ} {s before after : List ℕ} {p : ℕ} {b : Bounds} {id : ℕ} {r : Bounds} (n : Noted look s before p) (h : IdNew before after p b id r) where
  pub id_fresh : Fresh look s p b.top b.low id r.top r.low
  id_fresh = record { new = ⊎_elim new_key (noted_new look s before p n id) h.new; over = h.over; under = h.under; between = h.between }

  -- next is where it was passed
  pub id_bounded : (next : ℕ) → 0 < next → Bounded next r
  id_bounded next z = record { first = λ e. absurd (omega arith); later = λ _. h.between }

  pub id_noted : (keys : List ℕ) → Heads look s p keys → (u : ℕ) → look (drop p s) ≡ got id u → 0 < u → Noted look s after (p + u)
  id_noted keys g u e z = noted_more look s before p n keys g id u e z after h.noting
