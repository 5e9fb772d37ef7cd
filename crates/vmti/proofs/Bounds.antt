-- What the one number for C needs: a call's number and place or count are small.
use mathlib.Core.Path.{◌≡◌, refl, sym, ap, ◌∙◌}
use Prim.Native.Nat.{ℕ, ◌+◌, ◌*◌, ◌≤◌}
use native.Mathlib.Omega.{arith}
use mathlib.Core.Bool.{Bool, true, false}
use mathlib.Core.List.{List, []}
use lib.ListN.{length}
use lib.Dec.{leb}
use borrow.Author.Tests.{leb-true}
use Rattle.format.specs.Answer.{Ans, ok, refused, ◌>>=◌, need}
use Rattle.format.specs.Coding.{Bytes}
use Rattle.format.specs.Packet.{Packet}
use Rattle.format.specs.Table.{Form, embedded}
use Rattle.format.specs.Read.{parse, limit}
use Rattle.format.specs.Sheet.{content, sheet_bytes, sheet_limit, unsheet}
use Rattle.format.specs.Calls.{packet_of, packed, read, write, normalise}
use Rattle.format.specs.Edit.{Holder, the_set, Changes, edit_packet, edit}
use Rattle.format.specs.Targets.{TargetChange, added, dropped, change_packet, change_targets, add_target, drop_target}
use Rattle.format.specs.Room.{Left, leaves, one_number}
use Rattle.format.specs.Demands.Demand1.{Answers}
use Rattle.format.proofs.Words.Answers.{bind_then}
use Rattle.format.proofs.Demands.Demand1.{numbered}
use Rattle.format.proofs.Demands.Demand2.{packed_then, write_then, normal}
use Rattle.format.proofs.Demands.Sizes.{sizes}
use Rattle.answers.specs.Meet.{Answer, left_of}
use Rattle.answers.proofs.Results.{call_refused}

-- a packet that is written is within its limit
packed_long : (p : Packet) (y : List ℕ) → packed p ≡ ok y → length y ≤ 8192
packed_long p y e = packed_then p y e λ l z. omega (arith, l, ap length z)

-- an input over its limit m is refused with 1 at 0, in any other the place is within it
limited : (m : ℕ) → m ≤ 65536 → (s : List ℕ) (x : Ans (List ℕ)) → (leb (length s) m ≡ false → x ≡ refused 1 0) → Answers (length s) x
    → (n p : ℕ) → x ≡ refused n p → (n ≤ 20) × (p ≤ 65536)
limited m l s x long h n p e = go (leb (length s) m) refl
  where
    go : (b : Bool) → leb (length s) m ≡ b → (n ≤ 20) × (p ≤ 65536)
    go true z = let k = h.by n p e in (k.0.1, omega (arith, k.1, leb-true (length s) m z, l))
    go false z =
        let q : ◌≡◌ {A = Ans (List ℕ)} (refused 1 0) (refused n p) = sym (long z) ∙ e in
        let a : 1 ≡ n = cc in
        let b : 0 ≡ p = cc in
        (omega arith, omega arith)

sheet_limit_lem : (s : List ℕ) → leb (length s) 65536 ≡ false → write s ≡ refused 1 0
unfolding write unsheet sheet_limit need ◌>>=◌
sheet_limit_lem s z = rw z

packet_limit : {A : Type 0} (f : Form) (s : List ℕ) (k : Packet → Ans A) → leb (length s) 8192 ≡ false → parse f s >>= k ≡ refused 1 0
unfolding parse limit need ◌>>=◌
packet_limit f s k z = rw z

normal_long : (f : Form) (s y : List ℕ) → normalise f s ≡ ok y → length y ≤ 8192
unfolding normalise
normal_long f s y e = bind_then _ _ _ e λ p _ e₁. packed_long (packet_of (content p)) y e₁

abbrev pub Small : Answer → Type 0
Small a = (a.number ≤ 20) × (a.place ≤ 65536)

-- from the same facts of what is left
small_of : (a : Answer) (out : List ℕ) (l : Left ℕ) → left_of a out ≡ l → l.number ≤ 20 → l.place ≤ 65536 → Small a
small_of a out l e n p = (omega (arith, ap (λ x. x.number) e), omega (arith, ap (λ x. x.place) e))

left_small : (lent b : List ℕ) → ((leaves lent (ok b)).number ≤ 20) × ((leaves lent (ok b)).place ≡ length b)
left_small lent b = go (leb (length b) (length lent)) refl
  where
    go : (z : Bool) → leb (length b) (length lent) ≡ z → ((leaves lent (ok b)).number ≤ 20) × ((leaves lent (ok b)).place ≡ length b)
    go true z = unfold leaves in (rw (z, leaves) (omega arith, refl))
    go false z = unfold leaves in (rw (z, leaves) (omega arith, refl))

-- x is what the call should answer: its refusals are small, and so is what it writes
pub call_small : (lent out : List ℕ) (a : Answer) (x : Ans (List ℕ)) → ((n p : ℕ) → x ≡ refused n p → (n ≤ 20) × (p ≤ 65536)) → ((b : List ℕ) → x ≡ ok b → length b ≤ 65536)
    → left_of a out ≡ leaves lent x → Small a
call_small lent out a (refused n p) r o e =
    let k = r n p refl in
    small_of a out (record { number = n; place = p; lent = lent }) (e ∙ unfold leaves in refl) k.0 k.1
call_small lent out a (ok y) r o e =
    let k = left_small lent y in
    small_of a out (leaves lent (ok y)) e k.0 (omega (arith, k.1, o y refl))

edit_long : (f : Form) (h : Holder) (cs : Changes) (s y : List ℕ) → edit f h cs s ≡ ok y → length y ≤ 8192
unfolding edit
edit_long f h cs s y e = bind_then _ _ _ e λ p _ e₁. bind_then _ _ _ e₁ λ _ _ e₂. packed_long (edit_packet h cs p) y e₂

change_long : (c : TargetChange) (p : Packet) (y : List ℕ) → change_targets c p ≡ ok y → length y ≤ 8192
unfolding change_targets
change_long c p y e = bind_then _ _ _ e λ _ _ e₁. packed_long (change_packet c p) y e₁

add_long : (f : Form) (s r y : List ℕ) → add_target f s r ≡ ok y → length y ≤ 8192
unfolding add_target
add_long f s r y e = bind_then _ _ _ e λ p _ e₁. bind_then _ _ _ e₁ λ t _ e₂. change_long (added t) p y e₂

drop_long : (f : Form) (s : List ℕ) (i : ℕ) (y : List ℕ) → drop_target f s i ≡ ok y → length y ≤ 8192
unfolding drop_target
drop_long f s i y e = bind_then _ _ _ e λ p _ e₁. change_long (dropped i) p y e₁

module _ (lent out : List ℕ) (a : Answer) where
  pub read_small : (f : Form) (s : List ℕ) → Bytes s → left_of a out ≡ leaves lent (read f s) → Small a
  read_small f s b e =
      call_small lent out a (read f s)
      (λ n p q. let k = call_refused f s (λ k. sheet_bytes (content k)) n p (unfold read in q) in (k.1, omega (arith, k.2)))
      (λ y q. omega (arith, ((sizes f s b).sheet y q).1))
      e

  pub normalise_small : (f : Form) (s : List ℕ) → Bytes s → left_of a out ≡ leaves lent (normalise f s) → Small a
  normalise_small f s b e =
      call_small lent out a (normalise f s)
      (λ n p q. let k = call_refused f s (λ k. sheet_bytes (content k)) n p (unfold read in (((normal f s b).refuses n p).0 q)) in (k.1, omega (arith, k.2)))
      (λ y q. omega (arith, normal_long f s y q))
      e

  pub write_small : (s : List ℕ) → left_of a out ≡ leaves lent (write s) → Small a
  write_small s e =
      call_small lent out a (write s)
      (limited 65536 (omega arith) s (write s) (sheet_limit_lem s) (numbered embedded s the_set []).write_answers)
      (λ y q. write_then s y q λ t _ l z. omega (arith, l, ap length z))
      e

  -- a packet that is changed
  packet_small : (s : List ℕ) (x : Ans (List ℕ)) → (leb (length s) 8192 ≡ false → x ≡ refused 1 0) → Answers (length s) x → ((y : List ℕ) → x ≡ ok y → length y ≤ 8192)
      → left_of a out ≡ leaves lent x → Small a
  packet_small s x long h o e = call_small lent out a x (limited 8192 (omega arith) s x long h) (λ y q. omega (arith, o y q)) e

  pub edit_small : (f : Form) (h : Holder) (cs : Changes) (s : List ℕ) → left_of a out ≡ leaves lent (edit f h cs s) → Small a
  edit_small f h cs s e = packet_small s (edit f h cs s) (λ z. unfold edit in packet_limit f s _ z) (numbered f s h cs).edit_answers (edit_long f h cs s) e

  pub add_small : (f : Form) (s r : List ℕ) → left_of a out ≡ leaves lent (add_target f s r) → Small a
  add_small f s r e = packet_small s (add_target f s r) (λ z. unfold add_target in packet_limit f s _ z) ((numbered f s the_set []).add_answers r) (add_long f s r) e

  pub drop_small : (f : Form) (s : List ℕ) (i : ℕ) → left_of a out ≡ leaves lent (drop_target f s i) → Small a
  drop_small f s i e = packet_small s (drop_target f s i) (λ z. unfold drop_target in packet_limit f s _ z) ((numbered f s the_set []).drop_answers i) (drop_long f s i) e

-- r is the one number
pub one_number_lem : (a : Answer) (out : List ℕ) (l : Left ℕ) → left_of a out ≡ l → {r : ℕ} → r ≡ 256 * a.place + a.number → (r ≡ one_number l) × (out ≡ l.lent)
unfolding one_number
one_number_lem a out l e q = (q ∙ ap one_number e, ap (λ x. x.lent) e)
