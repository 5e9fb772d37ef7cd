-- Show hands back the item's value, at its own place, and no other answer would do.
use mathlib.Core.Path.{◌≡◌, refl, sym, ap, ◌∙◌}
use Prim.Native.Nat.{ℕ, ◌+◌}
use mathlib.Core.Bool.{Bool, true, false, ◌&&◌}
use mathlib.Core.List.{List, [], ◌∷◌, ◌++◌, append_assoc}
use mathlib.Core.Logic.{◌⊎◌, inl, inr}
use lib.ListN.{length, take, drop, take-append-drop}
use lib.Seq.{take-append_seam, drop-append_seam, drop-drop}
use lib.Dec.{eqb}
use borrow.Author.Tests.{eqb-true}
use Rattle.format.specs.Answer.{Ans, ok, refused, ◌>>=◌}
use Rattle.format.specs.Coding.{Bytes}
use Rattle.format.specs.Lists.{ask_hit}
use Rattle.format.specs.Table.{Form, embedded, standalone}
use Rattle.format.specs.Packet.{Entry, Packet}
use Rattle.format.specs.Read.{start, parse}
use Rattle.format.specs.Rows.{Row, row, seal_item, sealed, rows_of}
use Rattle.format.specs.Edit.{Holder}
use Rattle.format.specs.Show.{Side, reviewer, detector, Shown, shown, nothing, number_of, find_row, showable, either_row, show_in, show}
use Rattle.format.specs.Valid.{Valid, Lies}
use Rattle.format.specs.Demands.Rows.{Cell, entry_cells, cells_of, part, InTurn}
use Rattle.format.specs.Demands.Shows.{value_in, value_of, Among, StandsAt, ShownValue, Shows}
use Rattle.format.proofs.Words.Answers.{ok_inj, and_both}
use Rattle.format.proofs.Reading.Packets.{parse_says}
use Rattle.format.proofs.Rows.Point.{lies_turn}
use Rattle.format.proofs.Rows.Find.{hit_cell, value_for, OneSeries, one_series, one_snoc, holder_value, holder_none, number_snoc}
use Rattle.format.proofs.Rows.Fit.{value_fit}
use Rattle.format.proofs.Rows.Own.{one_row}

-- ---- a row and a value that are found

-- both are, and are as P says, or neither is
abbrev Alike : (Row → List ℕ → Type 0) → Ans Row → Ans (List ℕ) → Type 0
Alike P (ok w) (ok v) = P w v
Alike P (ok w) (refused n a) = ⊥
Alike P (refused n a) (ok v) = ⊥
Alike P (refused n a) (refused m b) = Unit {0}

alike_map : (P Q : Row → List ℕ → Type 0) → ((w : Row) (v : List ℕ) → P w v → Q w v) → (x : Ans Row) (y : Ans (List ℕ)) → Alike P x y → Alike Q x y
alike_map P Q g (ok w) (ok v) h = g w v h
alike_map P Q g (ok w) (refused n a) h = h
alike_map P Q g (refused n a) (ok v) h = h
alike_map P Q g (refused n a) (refused m b) h = tt

abbrev hit_row : ℕ → ℕ → Row → Bool
hit_row k t w = eqb w.target k && eqb w.tag t

-- the row is among these, with target number k and tag t, and names the value
abbrev Named : List ℕ → ℕ → ℕ → List Row → Row → List ℕ → Type 0
Named s k t rs w v = Among (row k t w.offset (length v)) rs × (w.size ≡ length v) × (part s w.offset (length v) ≡ v)

-- a value behind its head
part_behind : (s a b : List ℕ) (at : ℕ) → part s at (length (a ++ b)) ≡ a ++ b → part s (at + length a) (length b) ≡ b
part_behind s a b at e =
    let d : List ℕ = drop at s in
    let q : d ≡ a ++ (b ++ drop (length (a ++ b)) d) = sym (take-append-drop (length (a ++ b)) d) ∙ ap (λ x. x ++ drop (length (a ++ b)) d) e ∙ append_assoc a b _ in
    ap (take (length b)) (sym (drop-drop (length a) at s) ∙ ap (drop (length a)) q ∙ drop-append_seam a _) ∙ take-append_seam b _

turn_named : (s : List ℕ) (k t at : ℕ) (cs : List Cell) (rs : List Row) → InTurn s at cs rs → Alike (Named s k t rs) (ask_hit (hit_row k t) ok rs) (value_for k t cs)
unfolding value_for ask_hit
turn_named s k t at [] [] h = tt
turn_named s k t at [] (r ∷ rs) h = absurd h
turn_named s k t at (c ∷ cs) [] h = absurd h
turn_named s k t at (c ∷ cs) (r ∷ rs) h = go (turn_named s k t (at + length c.head + c.inside) cs rs h.2) (hit_cell k t c) refl
  where
    go : Alike (Named s k t rs) (ask_hit (hit_row k t) ok rs) (value_for k t cs) → (b : Bool) → hit_cell k t c ≡ b
        → Alike (Named s k t (r ∷ rs)) (ask_hit (hit_row k t) ok (r ∷ rs)) (value_for k t (c ∷ cs))
    go ih true z =
        let (x, y) = and_both (eqb c.target k) (eqb c.tag t) z in
        let e : r ≡ row k t (at + length c.head) (length c.value) = h.0 ∙ rw (eqb-true c.target k x, eqb-true c.tag t y) in
        rw (ap (hit_row k t) h.0 ∙ z, z, ask_hit) (inl (rw e), ap (λ (w : Row). w.size) e, rw e (part_behind s c.head c.value at h.1))
    go ih false z =
        rw (ap (hit_row k t) h.0 ∙ z, z, ask_hit)
        (alike_map (Named s k t rs) (Named s k t (r ∷ rs)) (λ w v g. (inr g.0, g.1, g.2)) (ask_hit (hit_row k t) ok rs) (value_for k t cs) ih)

-- ---- in one packet

sealed_one : (f : Form) (es : List Entry) (c : List ℕ) → OneSeries es → OneSeries (sealed f es c)
unfolding sealed
sealed_one embedded es c h = h
sealed_one standalone es c h = one_snoc es (seal_item c) h

sealed_number : (f : Form) (h : Holder) (es : List Entry) (c : List ℕ) → number_of h (sealed f es c) ≡ number_of h es
unfolding sealed
sealed_number embedded h es c = refl
sealed_number standalone h es c = number_snoc h es (seal_item c)

-- the row is the item's own
abbrev Own : Packet → List ℕ → Holder → ℕ → Row → List ℕ → Type 0
Own p s h t w v = StandsAt p s h t v w.offset × (w.size ≡ length v)

found : (f : Form) (s : List ℕ) (p : Packet) (h : Holder) (t : ℕ) → Lies f s p → showable h t ≡ true → Alike (Own p s h t) (find_row h t p) (value_of h t p)
unfolding find_row value_of cells_of ◌>>=◌
found f s p h t l n = at_number (number_of h p.entries) refl
  where
    all : List Entry
    all = sealed p.form p.entries p.sum

    numbered : {a : Ans ℕ} → number_of h p.entries ≡ a → number_of h all ≡ a
    numbered e = sealed_number p.form h p.entries p.sum ∙ e

    value_is : (k : ℕ) → number_of h p.entries ≡ ok k → value_for k t (entry_cells all) ≡ value_in h t all
    value_is k e = holder_value h k t all n (sealed_one p.form p.entries p.sum (one_series p.entries l.valid.entries_valid.once)) (numbered e)

    own : (k : ℕ) → number_of h p.entries ≡ ok k → (w : Row) (v : List ℕ) → Named s k t (rows_of p) w v → Own p s h t w v
    own k e w v g = (record { number = k; numbered = e; own_row = g.0; is_value = g.2 }, g.1)

    at_number : (a : Ans ℕ) → number_of h p.entries ≡ a → Alike (Own p s h t) (find_row h t p) (value_in h t all)
    at_number (ok k) e =
        rw e (alike_map (Named s k t (rows_of p)) (Own p s h t) (own k e) (ask_hit (hit_row k t) ok (rows_of p)) (value_in h t all)
        (rw (← value_is k e) (turn_named s k t (start f p.width) (entry_cells all) (rows_of p) (lies_turn f s p l))))
    at_number (refused m a) e = rw (e, holder_none h m a t all (numbered e)) tt

-- ---- in two

module _ (f : Form) (r d : List ℕ) (h : Holder) (t : ℕ) where
  pub show_refused : (n a : ℕ) → (parse f r ≡ refused n a) ⊎ (parse f d ≡ refused n a) → show f r d h t ≡ nothing
  unfolding show show_in
  show_refused n a (inl e) = rw e (go (parse f d))
    where
      go : (y : Ans Packet) → show_in h t (refused n a) y ≡ nothing
      go (ok q) = refl
      go (refused m b) = refl
  show_refused n a (inr e) = rw e (go (parse f r))
    where
      go : (y : Ans Packet) → show_in h t y (refused n a) ≡ nothing
      go (ok q) = refl
      go (refused m b) = refl

  pub show_unnamed : showable h t ≡ false → show f r d h t ≡ nothing
  unfolding show show_in
  show_unnamed e = go (parse f r) (parse f d)
    where
      go : (x y : Ans Packet) → show_in h t x y ≡ nothing
      go (ok p) (ok q) = rw (e, show_in)
      go (ok p) (refused m b) = refl
      go (refused n a) (ok q) = refl
      go (refused n a) (refused m b) = refl

  module _ (p q : Packet) (ep : parse f r ≡ ok p) (eq : parse f d ≡ ok q) where
    both : showable h t ≡ true → show f r d h t ≡ either_row (find_row h t p) (find_row h t q)
    unfolding show show_in
    both n = rw (ep, eq) (rw (n, show_in))

    module _ (hr : Bytes r) (hd : Bytes d) where
      in_r : showable h t ≡ true → Alike (Own p r h t) (find_row h t p) (value_of h t p)
      in_r n = found f r p h t (parse_says f r p hr ep) n

      in_d : showable h t ≡ true → Alike (Own q d h t) (find_row h t q) (value_of h t q)
      in_d n = found f d q h t (parse_says f d q hd eq) n

      show_reviewer : (v : List ℕ) → value_of h t p ≡ ok v → ShownValue p r h t v reviewer (show f r d h t)
      unfolding either_row
      show_reviewer v e = let n = (value_fit p h t v (parse_says f r p hr ep).valid e).0 in go n (find_row h t p) refl (rw e at (in_r n))
        where
          go : showable h t ≡ true → (x : Ans Row) → find_row h t p ≡ x → Alike (Own p r h t) x (ok v) → ShownValue p r h t v reviewer (show f r d h t)
          go n (ok w) z k = record { offset = w.offset; stands = k.0; shows = both n ∙ rw (z, k.1) }
          go n (refused m a) z k = absurd k

      show_detector : (v : List ℕ) (m a : ℕ) → value_of h t p ≡ refused m a → value_of h t q ≡ ok v → ShownValue q d h t v detector (show f r d h t)
      unfolding either_row
      show_detector v m a o e =
          let n = (value_fit q h t v (parse_says f d q hd eq).valid e).0 in
          go n (find_row h t p) (find_row h t q) refl refl (rw o at (in_r n)) (rw e at (in_d n))
        where
          go : showable h t ≡ true → (x y : Ans Row) → find_row h t p ≡ x → find_row h t q ≡ y → Alike (Own p r h t) x (refused m a) → Alike (Own q d h t) y (ok v)
              → ShownValue q d h t v detector (show f r d h t)
          go n (ok w) y z z' k k' = absurd k
          go n (refused i j) (ok w) z z' k k' = record { offset = w.offset; stands = k'.0; shows = both n ∙ rw (z, z', k'.1) }
          go n (refused i j) (refused i' j') z z' k k' = absurd k'

      show_neither : (m a m' a' : ℕ) → value_of h t p ≡ refused m a → value_of h t q ≡ refused m' a' → show f r d h t ≡ nothing
      unfolding either_row
      show_neither m a m' a' o o' = named (showable h t) refl
        where
          go : showable h t ≡ true → (x y : Ans Row) → find_row h t p ≡ x → find_row h t q ≡ y → Alike (Own p r h t) x (refused m a) → Alike (Own q d h t) y (refused m' a')
              → show f r d h t ≡ nothing
          go n (ok w) y z z' k k' = absurd k
          go n (refused i j) (ok w) z z' k k' = absurd k'
          go n (refused i j) (refused i' j') z z' k k' = both n ∙ rw (z, z')

          named : (b : Bool) → showable h t ≡ b → show f r d h t ≡ nothing
          named true n = go n (find_row h t p) (find_row h t q) refl refl (rw o at (in_r n)) (rw o' at (in_d n))
          named false n = show_unnamed n

pub show_so : (f : Form) (r d : List ℕ) (h : Holder) (t : ℕ) → Bytes r → Bytes d → Shows f r d h t (show f r d h t)
show_so f r d h t hr hd = record {
  on_refused = show_refused f r d h t;
  from_reviewer = λ p q v ep eq e. show_reviewer f r d h t p q ep eq hr hd v e;
  from_detector = λ p q v m a ep eq o e. show_detector f r d h t p q ep eq hr hd v m a o e;
  from_neither = λ p q m a m' a' ep eq o o'. show_neither f r d h t p q ep eq hr hd m a m' a' o o';
}

-- ---- no other answer

-- one of these holds
pub which : {X : Type 0} (f : Form) (r d : List ℕ) (h : Holder) (t : ℕ) → ((n a : ℕ) → (parse f r ≡ refused n a) ⊎ (parse f d ≡ refused n a) → X)
    → ((p q : Packet) (v : List ℕ) → parse f r ≡ ok p → parse f d ≡ ok q → value_of h t p ≡ ok v → X)
    → ((p q : Packet) (v : List ℕ) (n a : ℕ) → parse f r ≡ ok p → parse f d ≡ ok q → value_of h t p ≡ refused n a → value_of h t q ≡ ok v → X)
    → ((p q : Packet) (n a m b : ℕ) → parse f r ≡ ok p → parse f d ≡ ok q → value_of h t p ≡ refused n a → value_of h t q ≡ refused m b → X) → X
which {X} f r d h t none one two neither = go (parse f r) (parse f d) refl refl
  where
    at : (p q : Packet) → parse f r ≡ ok p → parse f d ≡ ok q → (x y : Ans (List ℕ)) → value_of h t p ≡ x → value_of h t q ≡ y → X
    at p q ep eq (ok v) y e g = one p q v ep eq e
    at p q ep eq (refused n a) (ok v) e g = two p q v n a ep eq e g
    at p q ep eq (refused n a) (refused m b) e g = neither p q n a m b ep eq e g

    go : (x y : Ans Packet) → parse f r ≡ x → parse f d ≡ y → X
    go (ok p) (ok q) e g = at p q e g (value_of h t p) (value_of h t q) refl refl
    go (ok p) (refused n a) e g = none n a (inr g)
    go (refused n a) y e g = none n a (inl e)

-- a value stands at one place
pub one_place : (p : Packet) (s : List ℕ) (h : Holder) (t : ℕ) (v : List ℕ) (a b : ℕ) → Valid p → StandsAt p s h t v a → StandsAt p s h t v b → a ≡ b
one_place p s h t v a b k x y =
    ap (λ (w : Row). w.offset)
    (one_row p (row x.number t a (length v)) (row y.number t b (length v)) k x.own_row y.own_row (ok_inj _ _ (sym x.numbered ∙ y.numbered)) refl)

one_value : (p : Packet) (s : List ℕ) (h : Holder) (t : ℕ) (v : List ℕ) (side : Side) (x y : Shown) → Valid p → ShownValue p s h t v side x → ShownValue p s h t v side y → x ≡ y
one_value p s h t v side x y k a b = a.shows ∙ ap (λ o. shown side o (length v)) (one_place p s h t v a.offset b.offset k a.stands b.stands) ∙ sym b.shows

pub one_shown : (f : Form) (r d : List ℕ) (h : Holder) (t : ℕ) (x y : Shown) → Bytes r → Bytes d → Shows f r d h t x → Shows f r d h t y → x ≡ y
one_shown f r d h t x y hr hd a b =
    which f r d h t
    (λ n m e. a.on_refused n m e ∙ sym (b.on_refused n m e))
    (λ p q v ep eq e. one_value p r h t v reviewer x y (parse_says f r p hr ep).valid (a.from_reviewer p q v ep eq e) (b.from_reviewer p q v ep eq e))
    (λ p q v n m ep eq o e. one_value q d h t v detector x y (parse_says f d q hd eq).valid (a.from_detector p q v n m ep eq o e) (b.from_detector p q v n m ep eq o e))
    (λ p q n m i j ep eq o e. a.from_neither p q n m i j ep eq o e ∙ sym (b.from_neither p q n m i j ep eq o e))
