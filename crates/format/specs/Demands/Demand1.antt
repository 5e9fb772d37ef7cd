-- Demand 1, of the definitions: a refusal gives a number of document 01's table and a place within the input; and what a call leaves in
-- the room lent, for every answer and every room. That each call ends with an answer, for all bytes, is what it is to be a definition here.
use Rattle.std.specs.Prelude.{◌≡◌, List, ℕ, ◌≤◌, ◌<◌, length, take, drop}
use Rattle.format.specs.Answer.{Ans, ok, refused}
use Rattle.format.specs.Table.{Form}
use Rattle.format.specs.Calls.{read, write, normalise}
use Rattle.format.specs.Rows.{locate}
use Rattle.format.specs.Edit.{Holder, Changes, edit}
use Rattle.format.specs.Targets.{add_target, drop_target}
use Rattle.format.specs.Room.{leaves}

-- whatever number and place a refusal has, P holds of them
pub record Refuses {A : Type 0} (P : ℕ → ℕ → Type 0) (a : Ans A) : Type 0 where
  pub by : (n p : ℕ) → a ≡ refused n p → P n p

-- a number of the table, but for 16, which is about the room lent
abbrev pub Listed : ℕ → Type 0
Listed n = (1 ≤ n) × (n ≤ 20) × (n ≡ 16 → ⊥)

-- numbers and places of an answer to an input of so many bytes
abbrev pub Answers : {A : Type 0} → ℕ → Ans A → Type 0
Answers size a = Refuses (λ n p. Listed n × (p ≤ size)) a

pub record Numbered (f : Form) (s : List ℕ) (h : Holder) (cs : Changes) : Type 0 where
  pub read_answers : Answers (length s) (read f s)
  pub write_answers : Answers (length s) (write s)
  pub normalise_answers : Answers (length s) (normalise f s)
  pub locate_answers : Answers (length s) (locate f s)
  pub edit_answers : Answers (length s) (edit f h cs s)
  pub add_answers : (r : List ℕ) → Answers (length s) (add_target f s r)
  pub drop_answers : (i : ℕ) → Answers (length s) (drop_target f s i)

pub record Leaves {A : Type 0} (lent : List A) (a : Ans (List A)) : Type 0 where
  -- a refusal changes nothing that was lent
  pub on_refused : (n p : ℕ) → a ≡ refused n p → leaves lent a ≡ record { number = n; place = p; lent = lent }
  -- nor does too little room: 16, and the number needed
  pub on_short : (b : List A) → a ≡ ok b → length lent < length b → leaves lent a ≡ record { number = 16; place = length b; lent = lent }
  -- given room: 0, the count, the answer, and nothing beyond it changed
  pub on_room : (b : List A) → a ≡ ok b → length b ≤ length lent
      → ((leaves lent a).number ≡ 0) × ((leaves lent a).place ≡ length b) × (length (leaves lent a).lent ≡ length lent)
      × (take (length b) (leaves lent a).lent ≡ b) × (drop (length b) (leaves lent a).lent ≡ drop (length b) lent)
