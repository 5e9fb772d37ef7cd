-- Number and place come back out of the one number.
use mathlib.Core.Path.{◌≡◌, refl, sym, ap, ◌∙◌}
use mathlib.Core.List.{List}
use Prim.Native.Nat.{ℕ, ◌+◌, ◌*◌, ◌/◌, ◌%◌, ◌≤◌}
use native.Mathlib.Omega.{arith}
use Rattle.format.specs.Answer.{Ans}
use Rattle.format.specs.Calls.{read, write, normalise}
use Rattle.format.specs.Edit.{edit}
use Rattle.format.specs.Targets.{add_target, drop_target}
use Rattle.format.specs.Room.{leaves, one_number}
use Rattle.answers.specs.Meet.{left_of, answer_of}
use Rattle.vmti.specs.Meet.{Returns}
use Rattle.vmti.specs.FromC.{said_by, FromC}
use Rattle.vmti.proofs.Bounds.{Small, read_small, write_small, normalise_small, edit_small, add_small, drop_small}

-- any two results of a call are equal, number and whole buffer
pub one_return : (lent : List ℕ) (x : Ans (List ℕ)) (r s : ℕ) (left then : List ℕ) → Returns lent x r left → Returns lent x s then → (r ≡ s) × (left ≡ then)
one_return lent x r s left then (e, z) (q, y) = (e ∙ sym q, z ∙ sym y)

-- the number is below 256, so that nothing of the place is in it
taken_apart : (n p : ℕ) → n ≤ 20 → ((256 * p + n) % 256 ≡ n) × ((256 * p + n) / 256 ≡ p)
taken_apart n p h = (omega arith, omega arith)

module _ (lent : List ℕ) (x : Ans (List ℕ)) (small : Small (answer_of (leaves lent x).number (leaves lent x).place)) (r : ℕ) (left : List ℕ) where
  said_by_is : Returns lent x r left → left_of (said_by r) left ≡ leaves lent x
  unfolding one_number
  said_by_is (e, z) =
      let (n, p) = taken_apart (leaves lent x).number (leaves lent x).place small.0 in
      let en : r % 256 ≡ (leaves lent x).number = ap (λ k. k % 256) e ∙ n in
      let ep : r / 256 ≡ (leaves lent x).place = ap (λ k. k / 256) e ∙ p in
      λ i. record { number = en i; place = ep i; lent = z i }

pub from_c : FromC
from_c = record {
  reads = λ f packet lent r left h e. said_by_is lent (read f packet) (read_small lent _ _ f packet h refl) r left e;
  writes = λ sheet lent r left e. said_by_is lent (write sheet) (write_small lent _ _ sheet refl) r left e;
  normalises = λ f packet lent r left h e. said_by_is lent (normalise f packet) (normalise_small lent _ _ f packet h refl) r left e;
  edits = λ f h cs packet lent r left e. said_by_is lent (edit f h cs packet) (edit_small lent _ _ f h cs packet refl) r left e;
  adds = λ f packet records lent r left e. said_by_is lent (add_target f packet records) (add_small lent _ _ f packet records refl) r left e;
  drops = λ f packet id lent r left e. said_by_is lent (drop_target f packet id) (drop_small lent _ _ f packet id refl) r left e;
}
