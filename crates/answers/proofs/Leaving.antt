-- What a call leaves behind that fills a buffer: a refusal, too little room, or all that it should write.
use mathlib.Core.Path.{◌≡◌, sym, ap, ◌∙◌}
use Prim.Native.Nat.{ℕ, ◌≤◌, ◌<◌}
use native.Mathlib.Omega.{arith}
use mathlib.Core.List.{List}
use lib.ListN.{length}
use lib.Seq.{sets}
use borrow.Author.Tests.{le-leb, lt-leb}
use Rattle.format.specs.Answer.{Ans, ok, refused}
use Rattle.format.specs.Room.{leaves}
use Rattle.stores.proofs.Stores.{sets_start}
use Rattle.answers.specs.Meet.{Answer, left_of, answer_of}

short : (lent b : List ℕ) → length lent < length b → left_of (answer_of 16 (length b)) lent ≡ leaves lent (ok b)
unfolding leaves
short lent b h = rw (lt-leb (length b) (length lent) h, leaves)

whole : (lent b : List ℕ) → length b ≤ length lent → left_of (answer_of 0 (length b)) (sets lent 0 b) ≡ leaves lent (ok b)
unfolding leaves
whole lent b h = rw (le-leb (length b) (length lent) h, leaves, sets_start lent b h)

-- x is what the call should answer, r what it does
module _ (lent : List ℕ) {x : Ans (List ℕ)} {r : Answer} where
  pub left_refused : {n k : ℕ} → x ≡ refused n k → r ≡ answer_of n k → left_of r lent ≡ leaves lent x
  unfolding leaves
  left_refused e er = ap (λ a. left_of a lent) er ∙ ap (leaves lent) (sym e)

  module _ {b : List ℕ} (e : x ≡ ok b) {n : ℕ} (size : length b ≡ n) where
    pub left_short : length lent < n → r ≡ answer_of 16 n → left_of r lent ≡ leaves lent x
    left_short h er = ap (λ a. left_of a lent) (er ∙ ap (answer_of 16) (sym size)) ∙ short lent b (omega (arith, size)) ∙ ap (leaves lent) (sym e)

    pub left_whole : n ≤ length lent → {out : List ℕ} → out ≡ sets lent 0 b → r ≡ answer_of 0 n → left_of r out ≡ leaves lent x
    left_whole h eo er =
        ap (left_of r) eo ∙ ap (λ a. left_of a (sets lent 0 b)) (er ∙ ap (answer_of 0) (sym size)) ∙ whole lent b (omega (arith, size)) ∙ ap (leaves lent) (sym e)
