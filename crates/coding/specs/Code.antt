-- What the code's answers mean.
use Rattle.std.specs.Prelude.{◌≡◌, ℕ, List, Option, Some, None, Result}
use Rattle.format.specs.Answer.{Ans, Got, got, ok}
use Rattle.format.specs.Coding.{len_of}
use Rattle.coding.specs.declared.Spelled.{Spelled}
use Rattle.coding.specs.declared.refusals.Refusal.{Refusal}
use Rattle.coding.specs.Refusals.{told}

-- a value and how many bytes it took
abbrev pub spelled : Spelled → Got ℕ
spelled x = got x.value x.used

abbrev pub num_of : Result Spelled Refusal → Ans (Got ℕ)
num_of = told spelled

-- a look that may say nothing, at a length
abbrev pub LenIf : Option Spelled → List ℕ → Type 0
LenIf (Some x) s = ok (spelled x) ≡ len_of s
LenIf None s = Unit {0}
