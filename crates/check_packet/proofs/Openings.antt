-- What opens a packet, case by case, as the code reads it.
use mathlib.Core.Path.{◌≡◌, sym, ◌∙◌}
use Prim.Native.Nat.{ℕ, ◌+◌, ◌-◌, ◌≤◌}
use native.Mathlib.Omega.{arith}
use mathlib.Core.Bool.{Bool, true, false}
use mathlib.Core.List.{List}
use lib.ListN.{length, take, drop, length-drop}
use lib.Dec.{eqb}
use borrow.Author.Tests.{eqb-true, eq-eqb, ne_eqb}
use Rattle.format.specs.Answer.{ok, refused, got, need, ◌>>=◌}
use Rattle.format.specs.Coding.{Bytes, len_of}
use Rattle.format.specs.Lists.{same}
use Rattle.format.specs.Packet.{the_key}
use Rattle.format.specs.Table.{Form, embedded, standalone}
use Rattle.format.specs.Read.{opening, start}
use Rattle.format.proofs.Words.Answers.{bind_then, need_then, ok_inj}
use Rattle.format.proofs.Words.Bytes.{bytes_drop}
use Rattle.coding.proofs.Rooms.{tail_part, len_room, key_room}
use Rattle.items.proofs.Tests.{bind_so, bind_not, need_so, need_not}

-- ---- what opens it

module _ (s : List ℕ) {x : Bool} (ex : x ≡ same (take 16 s) the_key) where
  pub outer_key : x ≡ false → refused 2 0 ≡ opening standalone s
  unfolding opening
  outer_key t = sym (need_not _ _ _ (sym ex ∙ t))

  pub outer_from : x ≡ true → 16 ≤ length s
  outer_from t = key_room s (sym t ∙ ex)

  module _ (tx : x ≡ true) where
    goes_on : opening standalone s ≡ (len_of (drop 16 s) >>= λ n. need (eqb (16 + n.used + n.val) (length s)) 6 >>= λ _. ok n.used)
    unfolding opening
    goes_on = need_so _ _ _ (sym ex ∙ tx)

    pub outer_len : {m : ℕ} → refused m 0 ≡ len_of (take (length s - 16) (drop 16 s)) → refused m 0 ≡ opening standalone s
    outer_len e = sym (goes_on ∙ bind_not _ _ _ _ (sym (rw tail_part at e)))

    module _ {n w : ℕ} (en : ok (got n w) ≡ len_of (take (length s - 16) (drop 16 s))) where
      said : len_of (drop 16 s) ≡ ok (got n w)
      said = sym (rw tail_part at en)

      pub outer_room : Bytes s → 16 + w ≤ length s
      outer_room h = omega (arith, outer_from tx, (len_room (drop 16 s) n w (sym said) (bytes_drop 16 s h)).1, length-drop 16 s)

      module _ (r : 16 + w ≤ length s) where
        pub outer_whole : length s - (16 + w) ≡ n → ok w ≡ opening standalone s
        outer_whole g = sym (goes_on ∙ bind_so _ _ _ said ∙ need_so _ _ _ (eq-eqb (16 + w + n) (length s) (omega arith)))

        pub outer_size : (length s - (16 + w) ≡ n → ⊥) → refused 6 0 ≡ opening standalone s
        outer_size g = sym (goes_on ∙ bind_so _ _ _ said ∙ need_not _ _ _ (ne_eqb (16 + w + n) (length s) (λ e. g (omega arith))))

-- the set begins within the packet
pub opening_room : (f : Form) (s : List ℕ) (w : ℕ) → opening f s ≡ ok w → (w ≤ length s) × (start f w ≤ length s) × (start f 0 ≤ length s)
unfolding opening
opening_room embedded s w e = let z = ok_inj _ _ e in (omega (arith, z), omega arith, omega arith)
opening_room standalone s w e =
    need_then _ _ _ _ e λ k e₁.
    bind_then _ _ _ e₁ λ n _ e₂.
    need_then _ _ _ _ e₂ λ q e₃.
    let z = ok_inj _ _ e₃ in
    let t = eqb-true (16 + n.used + n.val) (length s) q in
    (omega (arith, z, t), omega (arith, z, t), omega (arith, z, t))
