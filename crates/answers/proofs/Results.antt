-- What a call's contract fixes: any two results that it allows are equal, and a refusal's number and place are small.
use mathlib.Core.Path.{◌≡◌, refl, sym, ap, ◌∙◌}
use Prim.Native.Nat.{ℕ, ◌≤◌}
use native.Mathlib.Omega.{arith}
use mathlib.Core.Bool.{Bool, true, false}
use mathlib.Core.List.{List}
use lib.ListN.{length}
use lib.Dec.{leb}
use borrow.Author.Tests.{leb-true}
use Rattle.std.specs.Prelude.{Result, Ok, Err}
use Rattle.std.specs.Result.{IsErr, IsErrAnd}
use Rattle.std.proofs.lemmas.Result.{err_from_is_err_and}
use Rattle.format.specs.Answer.{Ans, ok, refused, ◌>>=◌, need}
use Rattle.format.specs.Packet.{Packet}
use Rattle.format.specs.Table.{Form}
use Rattle.format.specs.Read.{parse, limit}
use Rattle.format.specs.Room.{Left}
use Rattle.format.proofs.Bounds.Packets.{parse_answers}
use Rattle.coding.specs.declared.refusals.Fault.{Fault}
use Rattle.coding.specs.declared.refusals.Refusal.{Refusal}
use Rattle.coding.specs.Refusals.{number, fault}
use Rattle.coding.proofs.Tried.{number_some, one_refusal}
use Rattle.answers.specs.Meet.{Answer, answer_of, answer, left_of}

-- for `leaves`, `leaves_rows` and `leaves_table` alike, whatever is lent
pub one_result : {A : Type 0} (a b : Answer) (x y : List A) (l : Left A) → left_of a x ≡ l → left_of b y ≡ l → (a ≡ b) × (x ≡ y)
one_result a b x y l p q =
    let e : left_of a x ≡ left_of b y = p ∙ sym q in
    (λ i. record { number = (e i).number; place = (e i).place }, ap (λ z. z.lent) e)

-- as the code hands it back: no refusal is answered as success, and no two with the same number
pub one_answered : (r s : Result ℕ Fault) → answer r ≡ answer s → r ≡ s
one_answered (Ok m) (Ok n) e = ap (λ a. Ok a.place) e
one_answered (Ok m) (Err y) e = let z : 0 ≡ number y.refusal = ap (λ a. a.number) e in absurd (omega (arith, z, number_some y.refusal))
one_answered (Err x) (Ok n) e = let z : number x.refusal ≡ 0 = ap (λ a. a.number) e in absurd (omega (arith, z, number_some x.refusal))
one_answered (Err x) (Err y) e =
    let p : x.refusal ≡ y.refusal = one_refusal x.refusal y.refusal (ap (λ a. a.number) e) in
    let q : x.place ≡ y.place = ap (λ a. a.place) e in
    ap Err (λ i. record { refusal = p i; place = q i })

-- the same of what a contract's result is: as `one_result`, of the code's own
pub one_told : {A : Type 0} (r s : Result ℕ Fault) (x y : List A) (l : Left A) → left_of (answer r) x ≡ l → left_of (answer s) y ≡ l → (r ≡ s) × (x ≡ y)
one_told r s x y l p q = let e = one_result (answer r) (answer s) x y l p q in (one_answered r s e.0, e.1)

-- ---- a refusal

-- as the code makes it
pub refuses : {e : Fault} {r : Refusal} {p : ℕ} → e ≡ fault r p → answer (Err e) ≡ answer_of (number r) p
refuses e = ap (λ x. answer (Err x)) e

-- as a `?` passes it on
pub passed_on : (r : Result ℕ Fault) (e : Fault) → IsErr r × IsErrAnd r (λ d. d ≡ e) → answer r ≡ answer_of (number e.refusal) e.place
passed_on r e h = let p = err_from_is_err_and r h.1 in rw (p.1, p.2)

refused_small : (f : Form) (s : List ℕ) (n p : ℕ) → parse f s ≡ refused n p → (1 ≤ n) × (n ≤ 20) × (p ≤ 8192)
refused_small f s n p e = go (leb (length s) 8192) refl
  where
    long : leb (length s) 8192 ≡ false → parse f s ≡ refused 1 0
    long z = unfold parse limit need ◌>>=◌ in (rw z)

    go : (b : Bool) → leb (length s) 8192 ≡ b → (1 ≤ n) × (n ≤ 20) × (p ≤ 8192)
    go true z = let k = (parse_answers f s).by n p e in (k.0.0, k.0.1, omega (arith, k.1, leb-true (length s) 8192 z))
    go false z =
        let q : ◌≡◌ {A = Ans Packet} (refused 1 0) (refused n p) = sym (long z) ∙ e in
        let a : 1 ≡ n = cc in
        let b : 0 ≡ p = cc in
        (omega arith, omega arith, omega arith)

pub call_refused : {A : Type 0} (f : Form) (s : List ℕ) (g : Packet → A) (n p : ℕ) → (parse f s >>= λ k. ok (g k)) ≡ refused n p → (1 ≤ n) × (n ≤ 20) × (p ≤ 8192)
unfolding ◌>>=◌
call_refused {A = A} f s g n p e = go (parse f s) refl e
  where
    go : (x : Ans Packet) → parse f s ≡ x → (x >>= λ k. ok (g k)) ≡ refused n p → (1 ≤ n) × (n ≤ 20) × (p ≤ 8192)
    go (ok k) q e = absurd (let z : ◌≡◌ {A = ℕ} 0 1 = cc in omega arith)
    go (refused m j) q e =
        let a : m ≡ n = cc in
        let b : j ≡ p = cc in
        refused_small f s n p (q ∙ ap (λ k. refused k j) a ∙ ap (refused n) b)
