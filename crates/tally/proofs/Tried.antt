-- A piece's and a walk's refusal as `?` passes it on; a walk's result later on, and the room that its place has.
use Rattle.std.proofs.Common.{◌≡◌, ℕ, ◌≤◌, Result, Ok, Err, refl, sym, ap, ◌∙◌, arith}
use Rattle.coding.specs.declared.refusals.Fault.{Fault}
use Rattle.coding.specs.Refusals.{placed, later, Short}
use Rattle.coding.proofs.Tried.{placed_ok, placed_err, later_ok, later_err, number_some}
use Rattle.tally.specs.declared.Walked as walks
use Rattle.std.specs.Result.{IsErr, IsErrAnd}
use Rattle.std.proofs.lemmas.Result.{err_from_is_err_and}
use Rattle.coding.specs.declared.refusals.Refusal.{Refusal}
use Rattle.coding.specs.Refusals.{number}
use Rattle.tally.specs.declared.Piece as pieces
use Rattle.tally.specs.Pieces as piece
use Rattle.tally.specs.Pieces.{Walked, Bad}
use Rattle.tally.specs.Meet.{pieced, walk_of, walked, unended, later_by, Within}

pub later_walked : (k : ℕ) (y : Result walks.Walked Fault) → walked (later k y) ≡ later_by k (walked y)
later_walked k (Ok w) = refl
later_walked k (Err e) = refl

pub short_walked : (k n : ℕ) (y : Result walks.Walked Fault) → Within (walked y) n → n ≤ 65536 → k ≤ 65536 → Short y k
short_walked k n (Ok w) h l m = tt
short_walked k n (Err e) h l m = omega (arith, h, l, m)

pub pieced_err : (r : Result pieces.Piece Refusal) (e : Refusal) → IsErr r × IsErrAnd r (λ d. d ≡ e) → pieced r ≡ piece.Fault (number e)
pieced_err r e h = let p = err_from_is_err_and r h.1 in rw (p.1, p.2)

pub walked_err : (r : Result walks.Walked Fault) (e : Fault) → IsErr r × IsErrAnd r (λ d. d ≡ e) → walked r ≡ Bad (number e.refusal) e.place
walked_err r e h = let p = err_from_is_err_and r h.1 in rw (p.1, p.2)

-- ---- q is a result placed, or later; and e is its refusal, as r says it

module _ {A : Type 0} (p : ℕ) (a : Result A Refusal) {q : Result A Fault} (eq : q ≡ placed p a) where
  pub placed_so : {x : A} → q ≡ Ok x → a ≡ Ok x
  placed_so e = placed_ok p a (sym eq ∙ e)

  pub placed_says : {e : Fault} → q ≡ Err e → {r : Walked} → r ≡ Bad (number e.refusal) e.place → (x : Refusal) × (a ≡ Err x) × (r ≡ Bad (number x) p)
  placed_says {e} t er =
      let (x, ea, ex) = placed_err p a (sym eq ∙ t) in
      (x, ea, er ∙ ap (λ (d : Fault). Bad (number d.refusal) d.place) (sym ex))

module _ (k : ℕ) (y : Result walks.Walked Fault) {q : Result walks.Walked Fault} (eq : q ≡ later k y) where
  pub later_so : {w : walks.Walked} → q ≡ Ok w → walked y ≡ walk_of w
  later_so e = ap walked (later_ok k y (sym eq ∙ e))

  pub later_says : {e : Fault} → q ≡ Err e → {r : Walked} → r ≡ Bad (number e.refusal) e.place → (n j : ℕ) × (walked y ≡ Bad n j) × (r ≡ later_by k (walked y))
  later_says {e} t er =
      let (x, ey, ex) = later_err k y (sym eq ∙ t) in
      (number x.refusal, x.place, ap walked ey, er ∙ ap (λ (d : Fault). Bad (number d.refusal) d.place) (sym ex) ∙ sym (ap (λ z. later_by k (walked z)) ey))

-- where a pack or a target ends
pub unended_not : {r : Result (Unit {0}) Refusal} {x : Refusal} → r ≡ Err x → (unended r ≡ number x) × (unended r ≡ 0 → ⊥)
unended_not {x = x} e = (ap unended e, λ z. omega (arith, number_some x, sym (ap unended e) ∙ z))
