-- Answers taken apart: each statement of a do-block by one line, what follows as a function.
use mathlib.Core.Path.{◌≡◌, refl, sym}
use Prim.Native.Nat.{ℕ, ◌+◌}
use native.Mathlib.Omega.{arith}
use native.Mathlib.Nat.{add_assoc}
use mathlib.Core.Bool.{Bool, true, false, ◌&&◌, ◌||◌}
use Rattle.format.specs.Answer.{Ans, ok, refused, ◌>>=◌, need, after}

pub never : {A X : Type 0} (n p : ℕ) (a : A) → refused n p ≡ ok a → X
never {A} n p a e = absurd (let z : ◌≡◌ {A = ℕ} 0 1 = cc in omega arith)

pub no_bool : {X : Type 0} → false ≡ true → X
no_bool e = absurd (let z : ◌≡◌ {A = ℕ} 0 1 = cc in omega arith)

pub ok_inj : {A : Type 0} (a b : A) → ok a ≡ ok b → a ≡ b
ok_inj a b e = cc

-- ---- what an answer that is a value says

pub bind_then : {A B X : Type 0} (m : Ans A) (f : A → Ans B) (b : B) → m >>= f ≡ ok b → ((a : A) → m ≡ ok a → f a ≡ ok b → X) → X
unfolding ◌>>=◌
bind_then (ok a) f b e k = k a refl e
bind_then (refused n p) f b e k = never n p b e

pub need_then : {B X : Type 0} (t : Bool) (n : ℕ) (f : Unit {0} → Ans B) (b : B) → need t n >>= f ≡ ok b → (t ≡ true → f tt ≡ ok b → X) → X
unfolding ◌>>=◌ need
need_then true n f b e k = k refl e
need_then false n f b e k = never n 0 b e

pub after_then : {A B X : Type 0} (k : ℕ) (m : Ans A) (f : A → Ans B) (b : B) → after k m >>= f ≡ ok b → ((a : A) → m ≡ ok a → f a ≡ ok b → X) → X
unfolding ◌>>=◌ after
after_then k (ok a) f b e g = g a refl e
after_then k (refused n p) f b e g = never n (k + p) b e

pub after_need_then : {B X : Type 0} (k : ℕ) (t : Bool) (n : ℕ) (f : Unit {0} → Ans B) (b : B) → after k (need t n) >>= f ≡ ok b → (t ≡ true → f tt ≡ ok b → X) → X
unfolding ◌>>=◌ need after
after_need_then k true n f b e g = g refl e
after_need_then k false n f b e g = never n (k + 0) b e

pub need_last : (t : Bool) (n : ℕ) (u : Unit {0}) → need t n ≡ ok u → t ≡ true
unfolding need
need_last true n u e = refl
need_last false n u e = never n 0 u e

pub need_ok : (t : Bool) (n : ℕ) → t ≡ true → need t n ≡ ok tt
unfolding need
need_ok t n e = rw e

-- ---- what a refusal says

pub refused_then : {A B X : Type 0} (m : Ans A) (f : A → Ans B) (n p : ℕ) → m >>= f ≡ refused n p → (m ≡ refused n p → X) → ((a : A) → m ≡ ok a → f a ≡ refused n p → X) → X
unfolding ◌>>=◌
refused_then (ok a) f n p e k g = g a refl e
refused_then (refused m q) f n p e k g =
    let x : m ≡ n = cc in
    let y : q ≡ p = cc in
    k (rw (x, y))

pub need_refused : (t : Bool) (k n p : ℕ) → need t k ≡ refused n p → (t ≡ false) × (n ≡ k) × (p ≡ 0)
unfolding need
need_refused true k n p e = never n p tt (sym e)
need_refused false k n p e = (refl, cc, cc)

-- ---- a do-block that goes on

pub after_ok : {A : Type 0} (k : ℕ) (m : Ans A) (a : A) → m ≡ ok a → after k m ≡ ok a
unfolding after
after_ok k m a e = rw e

pub after_after : {A : Type 0} (j k : ℕ) (m : Ans A) → after j (after k m) ≡ after (j + k) m
unfolding after
after_after j k (ok a) = refl
after_after j k (refused n p) = rw add_assoc

-- ---- tests

pub and_both : (a b : Bool) → a && b ≡ true → (a ≡ true) × (b ≡ true)
and_both true b e = (refl, e)
and_both false b e = no_bool e

pub or_neither : (a b : Bool) → a || b ≡ false → (a ≡ false) × (b ≡ false)
or_neither true b e = no_bool (sym e)
or_neither false b e = (refl, e)

pub or_right : (b : Bool) → b || true ≡ true
or_right true = refl
or_right false = refl

pub or_mono : (a b b' : Bool) → (b ≡ true → b' ≡ true) → a || b ≡ true → a || b' ≡ true
or_mono true b b' k e = refl
or_mono false b b' k e = k e
