-- What `show` hands back, of the call itself: from its contract, and what is shown of the definitions.
use mathlib.Core.Path.{◌≡◌, ap, ◌∙◌}
use Prim.Native.Nat.{ℕ, ◌<◌}
use native.Mathlib.Omega.{arith}
use mathlib.Core.List.{List}
use lib.ListN.{length}
use Rattle.format.specs.Answer.{ok}
use Rattle.format.specs.Coding.{Bytes}
use Rattle.format.specs.Table.{Form}
use Rattle.format.specs.Packet.{Packet}
use Rattle.format.specs.Read.{parse}
use Rattle.format.specs.Edit.{Holder}
use Rattle.format.specs.Show.{Side, reviewer, detector, nothing, show}
use Rattle.format.specs.Demands.Shows.{value_of, ShownValue}
use Rattle.format.specs.Demands.Shows as Definitions
use Rattle.format.proofs.Reading.Packets.{parse_says}
use Rattle.format.proofs.Rows.Fit.{value_fit}
use Rattle.format.proofs.Demands.Shows.{show_so, show_unnamed}
use Rattle.show.specs.Meet.{is_detectors, of_two, bytes_shown, place_shown}
use Rattle.show.specs.Shows.{Shows, Held, Nothing, Showing, ShowPromise}

module _ (f : Form) (r d : List ℕ) (pr pd : ℕ × ℕ) (h : Holder) (tag : ℕ) (v : List ℕ) (place : ℕ × ℕ) (hr : Bytes r) (hd : Bytes d) (e : Shows f r d pr pd h tag v place) where
  none : show f r d h tag ≡ nothing → Nothing pd v place
  none z = (e.0 ∙ ap (bytes_shown r d) z, e.1 ∙ ap (place_shown pr pd) z ∙ ap (λ n. (pd.0, n)) (omega arith))

  -- of the one side or the other
  held : (side : Side) (p : Packet) (x : List ℕ) → ShownValue p (of_two (is_detectors side) r d) h tag x side (show f r d h tag) → 0 < length x
      → Held p (of_two (is_detectors side) r d) (of_two (is_detectors side) pr pd) h tag x v place
  held side p x k l =
      let is : v ≡ x = e.0 ∙ ap (bytes_shown r d) k.shows ∙ k.stands.is_value in
      record {
        is_value = is;
        not_empty = rw is l;
        offset = k.offset;
        stands = rw is k.stands;
        begins = e.1 ∙ ap (place_shown pr pd) k.shows;
      }

  some : (s : List ℕ) (p : Packet) (x : List ℕ) → Bytes s → parse f s ≡ ok p → value_of h tag p ≡ ok x → 0 < length x
  some s p x b ep z = (value_fit p h tag x (parse_says f s p b ep).valid z).1

  given : Definitions.Shows f r d h tag (show f r d h tag)
  given = show_so f r d h tag hr hd

  showing : Showing f r d pr pd h tag v place
  showing = record {
    on_refused = λ n a z. none (given.on_refused n a z);
    on_unnamed = λ z. none (show_unnamed f r d h tag z);
    from_neither = λ p q n a m b ep eq zp zq. none (given.from_neither p q n a m b ep eq zp zq);
    from_reviewer = λ p q x ep eq z. held reviewer p x (given.from_reviewer p q x ep eq z) (some r p x hr ep z);
    from_detector = λ p q x n a ep eq zp z. held detector q x (given.from_detector p q x n a ep eq zp z) (some d q x hd eq z);
  }

pub show_promise : ShowPromise
show_promise = record { showing = showing }
