-- The rows are in turn, there are no others that are, and locate answers them for what read accepts.
use mathlib.Core.Path.{◌≡◌, refl, sym, ap, ◌∙◌, subst}
use mathlib.Core.List.{List, [], ◌∷◌}
use mathlib.Core.Logic.{◌↔◌}
use Prim.Native.Nat.{ℕ, ◌+◌}
use lib.ListN.{length}
use Rattle.format.specs.Answer.{Ans, ok, refused, ◌>>=◌}
use Rattle.format.specs.Coding.{Bytes}
use Rattle.format.specs.Table.{Form}
use Rattle.format.specs.Packet.{Packet}
use Rattle.format.specs.Read.{start, parse}
use Rattle.format.specs.Calls.{read}
use Rattle.format.specs.Rows.{Row, rows_of, locate}
use Rattle.format.specs.Demands.Rows.{Cell, cells_of, InTurn, RowsPoint, LocateAnswers}
use Rattle.format.proofs.Words.Answers.{never, bind_then, ok_inj}
use Rattle.format.proofs.Reading.Packets.{parse_says}
use Rattle.format.proofs.Rows.Point.{lies_turn}
use Rattle.format.proofs.Demands.Accepted.{read_is, read_then, one_tree}

locate_is : (f : Form) (s : List ℕ) (p : Packet) → parse f s ≡ ok p → locate f s ≡ ok (rows_of p)
unfolding locate ◌>>=◌
locate_is f s p e = rw e

pub locate_then : {X : Type 0} (f : Form) (s : List ℕ) (rows : List Row) → locate f s ≡ ok rows → ((p : Packet) → parse f s ≡ ok p → rows_of p ≡ rows → X) → X
unfolding locate
locate_then f s rows e k = bind_then _ _ _ e λ p ep e₁. k p ep (ok_inj _ _ e₁)

pub locate_points : (f : Form) (s : List ℕ) (rows : List Row) → Bytes s → locate f s ≡ ok rows → RowsPoint f s rows
locate_points f s rows h e =
    locate_then f s rows e λ p ep z.
    let l = parse_says f s p h ep in
    rw (← z) (record { packet = p; lies = l; in_turn = lies_turn f s p l })

locate_refuses : (f : Form) (s : List ℕ) (n a : ℕ) → locate f s ≡ refused n a ↔ read f s ≡ refused n a
unfolding locate read ◌>>=◌
locate_refuses f s n a = go (parse f s) refl
  where
    go : (m : Ans Packet) → parse f s ≡ m → locate f s ≡ refused n a ↔ read f s ≡ refused n a
    go (ok p) e = (λ z. never n a _ (sym z ∙ locate_is f s p e), λ z. never n a _ (sym z ∙ read_is f s p e))
    go (refused m q) e = rw e ((λ z. cc), (λ z. cc))

pub locates : (f : Form) (s : List ℕ) → Bytes s → LocateAnswers f s (locate f s)
locates f s h = record {
  accepts = (
    λ r. locate_then f s r.0 r.1 λ p e _. (_, read_is f s p e),
    λ r. read_then f s r.0 r.1 λ p e _. (_, locate_is f s p e),
  );
  refuses = locate_refuses f s;
  points = λ rows e. locate_points f s rows h e;
}

-- ---- no others

one_turn : (s : List ℕ) (at : ℕ) (cs : List Cell) (rs rs' : List Row) → InTurn s at cs rs → InTurn s at cs rs' → rs ≡ rs'
one_turn s at [] [] [] h g = refl
one_turn s at [] [] (r ∷ rs) h g = absurd g
one_turn s at [] (r ∷ rs) rs' h g = absurd h
one_turn s at (c ∷ cs) [] rs' h g = absurd h
one_turn s at (c ∷ cs) (r ∷ rs) [] h g = absurd g
one_turn s at (c ∷ cs) (r ∷ rs) (r' ∷ rs') h g =
    let e : r ≡ r' = h.0 ∙ sym g.0 in
    let es : rs ≡ rs' = one_turn s (at + length c.head + c.inside) cs rs rs' h.2 g.2 in
    cc

pub one_rows : (f : Form) (s : List ℕ) (rows rows' : List Row) → RowsPoint f s rows → RowsPoint f s rows' → rows ≡ rows'
one_rows f s rows rows' h g =
    let e : h.packet ≡ g.packet = one_tree f s h.packet g.packet h.lies g.lies in
    one_turn s (start f g.packet.width) (cells_of g.packet) rows rows' (subst (λ p. InTurn s (start f p.width) (cells_of p) rows) e h.in_turn) g.in_turn

pub one_locate : (f : Form) (s : List ℕ) (x y : Ans (List Row)) → LocateAnswers f s x → LocateAnswers f s y → x ≡ y
one_locate f s (ok rows) (ok rows') h g = ap ok (one_rows f s rows rows' (h.points rows refl) (g.points rows' refl))
one_locate f s (ok rows) (refused n a) h g = (h.refuses n a).1 ((g.refuses n a).0 refl)
one_locate f s (refused n a) y h g = sym ((g.refuses n a).1 ((h.refuses n a).0 refl))
