-- What a call leaves behind in the room lent: 16 if that is too short, and no lent byte or row changed on a refusal.
use Rattle.std.specs.Prelude.{ℕ, ◌+◌, ◌*◌, true, false, List, ◌++◌, length, drop, leb}
use Rattle.format.specs.Answer.{Ans, ok, refused}

-- the number, 0 for success; the place, or on success the count; and what was lent, as it is then
pub record Left (A : Type 0) : Type 0 where
  pub number : ℕ
  pub place : ℕ
  pub lent : List A

unfoldable pub leaves : {A : Type 0} → List A → Ans (List A) → Left A
leaves lent (refused n p) = record { number = n; place = p; lent = lent }
leaves lent (ok b) =
    elim (leb (length b) (length lent)) [
      | true ↦ record { number = 0; place = length b; lent = b ++ drop (length b) lent }
      | false ↦ record { number = 16; place = length b; lent = lent }
    ]

-- the one number that a C caller gets
unfoldable pub one_number : {A : Type 0} → Left A → ℕ
one_number r = 256 * r.place + r.number
