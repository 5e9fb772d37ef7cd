-- The refusals of the code: the number of each, and what a result that may be one means.
use Rattle.std.specs.Prelude.{ℕ, ◌+◌, ◌^◌, ◌<◌, Result, Ok, Err}
use Rattle.format.specs.Answer.{Ans, ok, refused}
use Rattle.coding.specs.declared.refusals.Fault.{Fault}
use Rattle.coding.specs.declared.refusals.Refusal.{Refusal}
use Rattle.coding.specs.declared.refusals.Refusal.TheVariants.{OverLimit, NotTheKey, CutOff, BadTag, BadLength, PastEnd, EmptyValue, BadId, TagRepeated, IdRepeated}
use Rattle.coding.specs.declared.refusals.Refusal.TheVariants.{LengthNotAllowed, PixelZero, MayNotStand, Missing, ChecksumDiffers, RoomTooShort, BadRecord, Absent, NotEditable, HalfCentroid}

abbrev pub number : Refusal → ℕ
number OverLimit = 1
number NotTheKey = 2
number CutOff = 3
number BadTag = 4
number BadLength = 5
number PastEnd = 6
number EmptyValue = 7
number BadId = 8
number TagRepeated = 9
number IdRepeated = 10
number LengthNotAllowed = 11
number PixelZero = 12
number MayNotStand = 13
number Missing = 14
number ChecksumDiffers = 15
number RoomTooShort = 16
number BadRecord = 17
number Absent = 18
number NotEditable = 19
number HalfCentroid = 20

-- a value, or a refusal where what was read begins
abbrev pub told : {A B : Type 0} → (A → B) → Result A Refusal → Ans B
told f (Ok a) = ok (f a)
told f (Err r) = refused (number r) 0

-- a value, or a refusal at its place
abbrev pub told_at : {A B : Type 0} → (A → B) → Result A Fault → Ans B
told_at f (Ok a) = ok (f a)
told_at f (Err e) = refused (number e.refusal) e.place

abbrev pub fault : Refusal → ℕ → Fault
fault r p = record { refusal = r; place = p }

-- the same, with a refusal's place, and with a refusal k bytes further on
abbrev pub placed : {A : Type 0} → ℕ → Result A Refusal → Result A Fault
placed p (Ok a) = Ok a
placed p (Err r) = Err (fault r p)

abbrev pub later : {A : Type 0} → ℕ → Result A Fault → Result A Fault
later k (Ok a) = Ok a
later k (Err e) = Err (fault e.refusal (k + e.place))

-- which is a number that the code has
abbrev pub Short : {A : Type 0} → Result A Fault → ℕ → Type 0
Short (Ok a) k = Unit {0}
Short (Err e) k = k + e.place < 2 ^ 64
