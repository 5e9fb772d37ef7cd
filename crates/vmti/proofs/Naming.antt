-- What C names by numbers is what `edit` is asked for.
use mathlib.Core.Path.{◌≡◌, ap, ◌∙◌, subst}
use Prim.Native.Nat.{ℕ}
use mathlib.Core.List.{List}
use Rattle.format.specs.Table.{Form}
use Rattle.edit_rules.specs.declared.Change as told
use Rattle.edit_rules.specs.declared.Asked.{Asked}
use Rattle.edit_rules.specs.Meet.{changes_of, two_of, asked_holder}
use Rattle.answers.specs.Meet.{Answer}
use Rattle.answers.specs.Calls.{Edits}
use Rattle.vmti.specs.Meet.{holder_named, asked_by}

module _ (f : Form) (level id : ℕ) {c x : told.Change} (ec : c ≡ x) {a : Asked} (ea : a ≡ asked_by level id c) (v packet lent : List ℕ) (r : Answer) (left : List ℕ) where
  asked_as : a ≡ asked_by level id x
  asked_as = ea ∙ ap (asked_by level id) ec

  pub one_named : Edits f (asked_holder a) (changes_of a v) packet lent r left → Edits f (holder_named level id) (changes_of (asked_by level id x) v) packet lent r left
  one_named e = subst (λ b. Edits f (asked_holder b) (changes_of b v) packet lent r left) asked_as e

  pub two_named : {d y : told.Change} → d ≡ y → (w : List ℕ) → Edits f (asked_holder a) (two_of a.change d v w) packet lent r left → Edits f (holder_named level id) (two_of x y v w) packet lent r left
  two_named {y = y} ed w e =
      subst (λ b. Edits f (asked_holder b) (two_of b.change y v w) packet lent r left) asked_as (subst (λ b. Edits f (asked_holder a) (two_of a.change b v w) packet lent r left) ed e)
