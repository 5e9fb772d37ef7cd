-- Where the answers of the calls meet document 01: what a call leaves behind, for every input and every room.
use Rattle.std.specs.Prelude.{◌≡◌, ℕ, Result, Ok, Err, List}
use Rattle.format.specs.Lists.{flat_all}
use Rattle.format.specs.Table.{Form}
use Rattle.format.specs.Packet.{Entry, flat_entry, closed}
use Rattle.format.specs.Calls.{packed}
use Rattle.format.specs.Room.{Left, leaves}
use Rattle.check_packet.specs.Checks.{Checked, Fine, Wrong}
use Rattle.coding.specs.declared.refusals.Fault.{Fault}
use Rattle.coding.specs.Refusals.{number}

-- what a call answers: a refusal's number and place; or 0, and how many bytes or rows were written
pub record Answer : Type 0 where
  pub number : ℕ
  pub place : ℕ

-- an answer, with what was lent as it is then
abbrev pub left_of : {A : Type 0} → Answer → List A → Left A
left_of a lent = record { number = a.number; place = a.place; lent = lent }

abbrev pub answer_of : ℕ → ℕ → Answer
answer_of n p = record { number = n; place = p }

-- as the code has it
abbrev pub answer : Result ℕ Fault → Answer
answer (Ok n) = answer_of 0 n
answer (Err e) = answer_of (number e.refusal) e.place

abbrev pub refusal_of : Checked → Answer
refusal_of (Fine a k) = answer_of 0 0
refusal_of (Wrong n p) = answer_of n p

-- there are entries that lie flat as these bytes; and what is left of the packet of such entries
abbrev pub Entered : List ℕ → Type 0
Entered bytes = (es : List Entry) × (flat_all flat_entry es ≡ bytes)

abbrev pub EntriesPacked : Form → List ℕ → List ℕ → Answer → List ℕ → Type 0
EntriesPacked f bytes lent r left = (es : List Entry) → flat_all flat_entry es ≡ bytes → left_of r left ≡ leaves lent (packed (closed f es))
