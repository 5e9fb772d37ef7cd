-- What a call answers, and leaves of what was lent, as a user reads it; of bytes or of rows.
use Rattle.std.specs.Prelude.{◌≡◌, ◌⊎◌, List, ◌++◌, ℕ, ◌≤◌, ◌<◌, length, take, drop}
use Rattle.format.specs.Answer.{Ans, refused}
use Rattle.format.specs.Demands.Demand1.{Listed}
use Rattle.answers.specs.Meet.{Answer, answer_of}

-- success: the count, room for it, and nothing beyond it changed
abbrev pub Done : {A : Type 0} → List A → Answer → List A → Type 0
Done lent a left = (a.number ≡ 0) × (a.place ≤ length lent) × (length left ≡ length lent) × (drop a.place left ≡ drop a.place lent)

-- too little room: 16, the number needed, and nothing changed
abbrev pub Short : {A : Type 0} → List A → Answer → List A → Type 0
Short lent a left = (a.number ≡ 16) × (length lent < a.place) × (left ≡ lent)

-- a refusal: its number, a place within the input, and nothing changed
abbrev pub Refused : {A : Type 0} → ℕ → List A → Answer → List A → Type 0
Refused size lent a left = Listed a.number × (a.place ≤ size) × (left ≡ lent)

-- one of the three, to an input of so many bytes
abbrev pub Answered : {A : Type 0} → ℕ → List A → Answer → List A → Type 0
Answered size lent a left = Done lent a left ⊎ (Short lent a left ⊎ Refused size lent a left)

-- b is to be written: given room it stands there, else 16 says how much it takes
pub record Given {A : Type 0} (b lent : List A) (a : Answer) (left : List A) : Type 0 where
  pub with_room : length b ≤ length lent → (a ≡ answer_of 0 (length b)) × (left ≡ b ++ drop (length b) lent)
  pub without : length lent < length b → (a ≡ answer_of 16 (length b)) × (left ≡ lent)

-- x refuses: its number and place, and nothing changed
abbrev pub Refusing : {A B : Type 0} → Ans B → List A → Answer → List A → Type 0
Refusing x lent a left = (n p : ℕ) → x ≡ refused n p → (a ≡ answer_of n p) × (left ≡ lent)

-- the input was not refused
abbrev pub Accepted : Answer → Type 0
Accepted a = (a.number ≡ 0) ⊎ (a.number ≡ 16)

-- what a successful call wrote
abbrev pub written : {A : Type 0} → Answer → List A → List A
written a left = take a.place left
