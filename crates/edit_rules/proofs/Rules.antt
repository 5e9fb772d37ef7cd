-- The rules of a change in its turn, case by case, as the code asks them.
use mathlib.Core.Path.{◌≡◌, refl, sym, ap, ◌∙◌}
use Prim.Native.Nat.{ℕ, zero, suc, ◌<◌}
use native.Mathlib.Omega.{arith}
use mathlib.Core.Bool.{Bool, true, false}
use mathlib.Core.List.{List}
use lib.ListN.{length, get_or}
use lib.Dec.{ltb}
use borrow.Author.Tests.{lt-ltb, le-ltb}
use Rattle.std.specs.Prelude.{Result, Ok, Err}
use Rattle.std.specs.Result.{IsErr, IsErrAnd}
use Rattle.std.proofs.lemmas.Result.{err_from_is_err_and}
use Rattle.format.specs.Answer.{Ans, ok, refused, need}
use Rattle.format.specs.Coding.{Bytes}
use Rattle.format.specs.Table.{Form, Level, Rule, rule_of, nameable, may_stand, valued, short}
use Rattle.format.specs.Edit.{Change, put, change_rules}
use Rattle.coding.specs.declared.refusals.Refusal.{Refusal}
use Rattle.coding.specs.declared.refusals.Refusal.TheVariants.{EmptyValue, MayNotStand, Absent}
use Rattle.coding.specs.Refusals.{number}
use Rattle.items.specs.Meet.{level_of}
use Rattle.items.specs.Quick.{Glanced}
use Rattle.items.proofs.Glances.{as_same}
use Rattle.items.proofs.Tests.{bind_so, bind_not, need_so, need_not}
use Rattle.find.specs.declared.Place.{Place}
use Rattle.find.specs.Places.{holder_of, SetOf, Placed, Unheld}
use Rattle.edit_rules.specs.declared.Change as told
use Rattle.edit_rules.specs.Meet.{change_of, turn_rules, ValuedAs, RuledAs, TurnedAs, TurnAt, TurnStops}
use Rattle.edit_rules.proofs.Edits.{level_at, level_none}

-- some bytes
pub some_of : (n : ℕ) → (n ≡ 0 → ⊥) → 0 < n
some_of zero h = absurd (h refl)
some_of (suc n) h = omega arith

-- what a `?` hands back
pub err_is : {A E : Type 0} (r : Result A E) (e : E) → IsErr r × IsErrAnd r (λ d. d ≡ e) → r ≡ Err e
err_is r e h = let p = err_from_is_err_and r h.1 in p.1 ∙ ap Err p.2

-- ---- a put

module _ (f : Form) (l : Level) (tag : ℕ) (v : List ℕ) where
  pub put_7 : length v ≡ 0 → ValuedAs f l tag v (Err EmptyValue)
  unfolding change_rules
  put_7 h tags = sym (need_not _ _ _ (le-ltb 0 (length v) (omega arith)))

  module _ (h : 0 < length v) where
    pub put_13 : may_stand l f tag true ≡ false → ValuedAs f l tag v (Err MayNotStand)
    unfolding change_rules
    put_13 g tags = sym (need_so _ _ _ (lt-ltb 0 (length v) h) ∙ need_not _ _ _ g)

    module _ (g : may_stand l f tag true ≡ true) where
      put_value : (tags : List ℕ) {m : Ans (Unit {0})} → m ≡ valued (rule_of l tag) v → m ≡ change_rules f l tag tags (put v)
      unfolding change_rules
      put_value tags q = q ∙ sym (need_so _ _ _ (lt-ltb 0 (length v) h) ∙ need_so _ _ _ g)

      -- by the rule r
      module _ {r : Rule} (er : r ≡ rule_of l tag) where
        said : {m : Ans (Unit {0})} → m ≡ valued r v → m ≡ valued (rule_of l tag) v
        said e = e ∙ ap (λ x. valued x v) er

        pub put_sized : ok tt ≡ valued r v → {m : ℕ} → m ≡ length (short r v) → ValuedAs f l tag v (Ok m)
        put_sized e em = ((λ tags. put_value tags (said e)), em ∙ ap (λ x. length (short x v)) er)

        pub put_fault : (x : Refusal) → refused (number x) 0 ≡ valued r v → ValuedAs f l tag v (Err x)
        put_fault x e tags = put_value tags (said e)

  -- a value that is told at a glance
  pub put_told : Glanced l f tag (length v) (get_or v 0 0) → ValuedAs f l tag v (Ok (length v))
  put_told q = ((λ tags. put_value q.some (q.stands true) tags (sym (q.allowed v refl (as_same _ _ refl)))), sym (ap length (q.shortest v refl (as_same _ _ refl))))

-- ---- a change, where its tag stands or not

module _ (f : Form) (l : Level) (c : told.Change) (v : List ℕ) where
  module _ (r : c.removal ≡ true) where
    removal_is : (stands : Bool) → RuledAs f l c v stands (need stands 18)
    unfolding change_rules
    removal_is stands tags e = rw (r, e)

    pub removed : {stands : Bool} → stands ≡ true → TurnedAs f l c v stands (Ok 0)
    unfolding need
    removed {stands = stands} e = ((λ tags h. ap (λ y. need y 18) (sym e) ∙ removal_is stands tags h), rw r)

    pub absent : {stands : Bool} → stands ≡ false → TurnedAs f l c v stands (Err Absent)
    unfolding need
    absent {stands = stands} e = λ tags h. ap (λ y. need y 18) (sym e) ∙ removal_is stands tags h

  pub put_turned : c.removal ≡ false → (stands : Bool) (x : Result ℕ Refusal) → ValuedAs f l c.tag v x → TurnedAs f l c v stands x
  put_turned r stands (Ok m) (q, em) = ((λ tags h. rw r (q tags)), rw r em)
  put_turned r stands (Err x) q = λ tags h. rw r (q tags)

-- ---- a change in its turn

module _ (f : Form) (l : Level) (tag : ℕ) (c : Change) where
  turn_19 : nameable l tag ≡ false → (at : Ans (List ℕ)) → turn_rules f l tag c at ≡ refused 19 0
  unfolding turn_rules
  turn_19 n at = need_not _ _ _ n

  module _ (n : nameable l tag ≡ true) where
    turn_18 : (at : Ans (List ℕ)) → at ≡ refused 18 0 → turn_rules f l tag c at ≡ refused 18 0
    unfolding turn_rules
    turn_18 at e = need_so _ _ _ n ∙ bind_not _ _ _ _ e

    pub turn_is : (at : Ans (List ℕ)) {tags : List ℕ} → at ≡ ok tags → turn_rules f l tag c at ≡ change_rules f l tag tags c
    unfolding turn_rules
    turn_is at e = need_so _ _ _ n ∙ bind_so _ _ _ e

module _ (f : Form) (b : Bool) (id : ℕ) (c : told.Change) (v s : List ℕ) where
  pub unnamed : nameable (level_of b) c.tag ≡ false → TurnStops f b id c v s 19
  unnamed n = turn_19 f (level_of b) c.tag _ n _

  module _ (n : nameable (level_of b) c.tag ≡ true) where
    pub unheld : Unheld f (holder_of b id) s → TurnStops f b id c v s 18
    unheld u = turn_18 f (level_of b) c.tag _ n _ (level_none f s b id u)

    module _ (h : Bytes s) (k : SetOf f s) (p : Place) (t : Placed f (holder_of b id) c.tag s p) where
      pub turn_fine : {m : ℕ} → TurnedAs f (level_of b) c v (ltb p.at p.next) (Ok m) → TurnAt f b id c v s p m
      turn_fine (q, em) =
          let (tags, et, st) = level_at f s h k b id c.tag n p t in
          record { placed = t; tags = tags; tags_are = et; stands = st; named = n; ruled = sym (q tags st); size_is = em }

      pub turn_stops : (x : Refusal) → TurnedAs f (level_of b) c v (ltb p.at p.next) (Err x) → TurnStops f b id c v s (number x)
      turn_stops x q =
          let (tags, et, st) = level_at f s h k b id c.tag n p t in
          turn_is f (level_of b) c.tag (change_of c.removal v) n _ et ∙ sym (q tags st)
