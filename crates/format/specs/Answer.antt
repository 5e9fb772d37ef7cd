-- What a call answers: a value, or a refusal with its number and its place.
use Rattle.std.specs.Prelude.{ℕ, ◌+◌, Bool, true, false}

pub data Ans (A : Type 0) : Type 0 where
  ok : A → Ans A
  refused : (number place : ℕ) → Ans A

-- a value, and how many bytes it took
pub record Got (A : Type 0) : Type 0 where
  pub val : A
  pub used : ℕ

abbrev pub got : {A : Type 0} → A → ℕ → Got A
got a n = record { val = a; used = n }

infixl 20 ◌>>=◌
unfoldable pub ◌>>=◌ : {A B : Type 0} → Ans A → (A → Ans B) → Ans B
ok a >>= f = f a
refused n p >>= f = refused n p

-- Goes on where the test passes. A refusal's place is counted from the start of what is read: here.
unfoldable pub need : Bool → ℕ → Ans (Unit {0})
need true n = ok tt
need false n = refused n 0

-- what is read k bytes further on
unfoldable pub after : {A : Type 0} → ℕ → Ans A → Ans A
after k (ok a) = ok a
after k (refused n p) = refused n (k + p)
