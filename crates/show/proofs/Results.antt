-- What the contracts of `shown` and `show` fix: any two results that they allow are equal.
use mathlib.Core.Path.{◌≡◌, sym, ap, ◌∙◌}
use Prim.Native.Nat.{ℕ, ◌+◌}
use mathlib.Core.List.{List}
use Rattle.format.specs.Coding.{Bytes}
use Rattle.format.specs.Table.{Form}
use Rattle.format.specs.Packet.{Packet}
use Rattle.format.specs.Edit.{Holder}
use Rattle.format.specs.Valid.{Valid}
use Rattle.format.proofs.Reading.Packets.{parse_says}
use Rattle.format.proofs.Demands.Shows.{which, one_place}
use Rattle.show.specs.declared.Part.{Part}
use Rattle.show.specs.Meet.{is_detectors, part_shown}
use Rattle.show.specs.Shows.{Names, Shows, Held, Nothing, Showing}
use Rattle.show.proofs.Showing.{side_is}

-- `shown` names one part, and `show` hands back one list of bytes, at one place
pub one_part : (f : Form) (r d : List ℕ) (h : Holder) (tag : ℕ) (a b : Part) → Names f r d h tag a → Names f r d h tag b → a ≡ b
one_part f r d h tag a b p q =
    let e : part_shown a ≡ part_shown b = p.0 ∙ sym q.0 in
    let s : a.detectors ≡ b.detectors = sym (side_is a.detectors) ∙ ap (λ x. is_detectors x.side) e ∙ side_is b.detectors in
    λ i. record { detectors = s i; offset = (e i).offset; size = (e i).size }

pub one_show : (f : Form) (r d : List ℕ) (pr pd : ℕ × ℕ) (h : Holder) (tag : ℕ) (v w : List ℕ) (j k : ℕ × ℕ) → Shows f r d pr pd h tag v j → Shows f r d pr pd h tag w k → (v ≡ w) × (j ≡ k)
one_show f r d pr pd h tag v w j k p q = (p.0 ∙ sym q.0, p.1 ∙ sym q.1)

-- so does what is said of the call: a value, at one place, or the empty part at the detector's start
one_held : (p : Packet) (s : List ℕ) (from : ℕ × ℕ) (h : Holder) (tag : ℕ) (x v w : List ℕ) (j k : ℕ × ℕ) → Valid p → Held p s from h tag x v j → Held p s from h tag x w k → (v ≡ w) × (j ≡ k)
one_held p s from h tag x v w j k l a b =
    let e : v ≡ w = a.is_value ∙ sym b.is_value in
    let o : a.offset ≡ b.offset = one_place p s h tag w a.offset b.offset l (rw e at a.stands) b.stands in
    (e, a.begins ∙ ap (λ n. (from.0, n + from.1)) o ∙ sym b.begins)

pub one_showing : (f : Form) (r d : List ℕ) (pr pd : ℕ × ℕ) (h : Holder) (tag : ℕ) (v w : List ℕ) (j k : ℕ × ℕ) → Bytes r → Bytes d
    → Showing f r d pr pd h tag v j → Showing f r d pr pd h tag w k → (v ≡ w) × (j ≡ k)
one_showing f r d pr pd h tag v w j k hr hd a b =
    which f r d h tag
    (λ n m e. same (a.on_refused n m e) (b.on_refused n m e))
    (λ p q x ep eq e. one_held p r pr h tag x v w j k (parse_says f r p hr ep).valid (a.from_reviewer p q x ep eq e) (b.from_reviewer p q x ep eq e))
    (λ p q x n m ep eq o e. one_held q d pd h tag x v w j k (parse_says f d q hd eq).valid (a.from_detector p q x n m ep eq o e) (b.from_detector p q x n m ep eq o e))
    (λ p q n m i l ep eq o e. same (a.from_neither p q n m i l ep eq o e) (b.from_neither p q n m i l ep eq o e))
  where
    same : Nothing pd v j → Nothing pd w k → (v ≡ w) × (j ≡ k)
    same x y = (x.0 ∙ sym y.0, x.1 ∙ sym y.1)
