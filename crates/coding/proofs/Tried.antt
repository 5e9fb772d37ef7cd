-- A result placed, and later: what it was before, as a `?` finds it.
use Rattle.std.proofs.Common.{◌≡◌, ℕ, ◌+◌, ◌-◌, ◌<◌, List, [], ◌∷◌, get_or, Result, Ok, Err, refl, sym, ap, ◌∙◌, lit<}
use Rattle.coding.specs.declared.refusals.Fault.{Fault}
use Rattle.coding.specs.declared.refusals.Refusal.{Refusal}
use Rattle.coding.specs.declared.refusals.Refusal.TheVariants as refusal
use Rattle.coding.specs.Refusals.{number, fault, placed, later}

module _ {A : Type 0} where
  pub placed_ok : (p : ℕ) (r : Result A Refusal) {a : A} → placed p r ≡ Ok a → r ≡ Ok a
  placed_ok p (Ok b) e = cc
  placed_ok p (Err x) e = absurd cc

  pub placed_err : (p : ℕ) (r : Result A Refusal) {e : Fault} → placed p r ≡ Err e → (x : Refusal) × (r ≡ Err x) × (fault x p ≡ e)
  placed_err p (Ok b) e = absurd cc
  placed_err p (Err x) e = (x, refl, cc)

  pub later_ok : (k : ℕ) (r : Result A Fault) {a : A} → later k r ≡ Ok a → r ≡ Ok a
  later_ok k (Ok b) e = cc
  later_ok k (Err x) e = absurd cc

  pub later_err : (k : ℕ) (r : Result A Fault) {e : Fault} → later k r ≡ Err e → (x : Fault) × (r ≡ Err x) × (fault x.refusal (k + x.place) ≡ e)
  later_err k (Ok b) e = absurd cc
  later_err k (Err x) e = (x, refl, cc)

-- no refusal has the number 0
pub number_some : (x : Refusal) → 0 < number x
number_some refusal.OverLimit = lit< tt
number_some refusal.NotTheKey = lit< tt
number_some refusal.CutOff = lit< tt
number_some refusal.BadTag = lit< tt
number_some refusal.BadLength = lit< tt
number_some refusal.PastEnd = lit< tt
number_some refusal.EmptyValue = lit< tt
number_some refusal.BadId = lit< tt
number_some refusal.TagRepeated = lit< tt
number_some refusal.IdRepeated = lit< tt
number_some refusal.LengthNotAllowed = lit< tt
number_some refusal.PixelZero = lit< tt
number_some refusal.MayNotStand = lit< tt
number_some refusal.Missing = lit< tt
number_some refusal.ChecksumDiffers = lit< tt
number_some refusal.RoomTooShort = lit< tt
number_some refusal.BadRecord = lit< tt
number_some refusal.Absent = lit< tt
number_some refusal.NotEditable = lit< tt
number_some refusal.HalfCentroid = lit< tt

-- the refusal of a number: so no two have the same
abbrev refusals : List Refusal
refusals =
    refusal.OverLimit ∷ refusal.NotTheKey ∷ refusal.CutOff ∷ refusal.BadTag ∷ refusal.BadLength ∷ refusal.PastEnd ∷ refusal.EmptyValue ∷ refusal.BadId ∷ refusal.TagRepeated ∷ refusal.IdRepeated
    ∷ refusal.LengthNotAllowed ∷ refusal.PixelZero ∷ refusal.MayNotStand ∷ refusal.Missing ∷ refusal.ChecksumDiffers ∷ refusal.RoomTooShort ∷ refusal.BadRecord ∷ refusal.Absent ∷ refusal.NotEditable ∷ refusal.HalfCentroid ∷ []

abbrev named : ℕ → Refusal
named n = get_or refusals (n - 1) refusal.OverLimit

number_named : (x : Refusal) → named (number x) ≡ x
number_named refusal.OverLimit = refl
number_named refusal.NotTheKey = refl
number_named refusal.CutOff = refl
number_named refusal.BadTag = refl
number_named refusal.BadLength = refl
number_named refusal.PastEnd = refl
number_named refusal.EmptyValue = refl
number_named refusal.BadId = refl
number_named refusal.TagRepeated = refl
number_named refusal.IdRepeated = refl
number_named refusal.LengthNotAllowed = refl
number_named refusal.PixelZero = refl
number_named refusal.MayNotStand = refl
number_named refusal.Missing = refl
number_named refusal.ChecksumDiffers = refl
number_named refusal.RoomTooShort = refl
number_named refusal.BadRecord = refl
number_named refusal.Absent = refl
number_named refusal.NotEditable = refl
number_named refusal.HalfCentroid = refl

pub one_refusal : (x y : Refusal) → number x ≡ number y → x ≡ y
one_refusal x y e = sym (number_named x) ∙ ap named e ∙ number_named y
