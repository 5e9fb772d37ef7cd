-- Demand 3 of the call, from its contract and that demand of the definitions.
use mathlib.Core.Path.{◌≡◌, refl, sym, ap, ◌∙◌, subst}
use Prim.Native.Nat.{ℕ}
use mathlib.Core.List.{List}
use lib.ListN.{length}
use Rattle.format.specs.Answer.{ok}
use Rattle.format.specs.Coding.{Bytes}
use Rattle.format.specs.Table.{Form}
use Rattle.format.specs.Room.{leaves}
use Rattle.format.specs.Calls.{read, normalise}
use Rattle.format.specs.Edit.{Holder, Changes, edit}
use Rattle.format.specs.Demands.Demand3 as Definitions
use Rattle.format.specs.Demands.Kept.{Kept}
use Rattle.format.proofs.Demands.Demand1.{numbered}
use Rattle.format.proofs.Demands.Demand3.{demand_3}
use Rattle.answers.specs.Meet.{Answer}
use Rattle.answers.specs.Calls.{Edits}
use Rattle.answers.specs.Given.{written}
use Rattle.vmti.specs.Demand3.{Editing, Edited, Demand3}
use Rattle.answers.proofs.Given.{given, refusing, accepted_only, wrote, one_left}

module _ (f : Form) (h : Holder) (cs : Changes) (packet lent : List ℕ) (a : Answer) (left : List ℕ) (bytes : Bytes packet) where
  defined : Definitions.Demand3 f h cs packet
  defined = demand_3 f h cs packet bytes

  pub editing : Edits f h cs packet lent a left → Editing f h cs packet lent a left
  editing e = record {
    allowed = λ b k m l. given lent left a b (e ∙ ap (leaves lent) ((defined.accepted b).1 (k, m, l)));
    only = λ y.
        let (b, q) = accepted_only lent left a (length packet) (edit f h cs packet) (numbered f packet h cs).edit_answers e y in
        let (k, m, l) = (defined.accepted b).0 q in
        (b, k, m, l);
    refusing = λ n p y. refusing lent left a (edit f h cs packet) e n p ((defined.refusal n p).1 y);
  }

  edited : Edits f h cs packet lent a left → a.number ≡ 0 → Edited f h cs packet a left
  edited e z =
      let (b, q, s) = wrote lent left a (length packet) (edit f h cs packet) (numbered f packet h cs).edit_answers e z in
      let k = defined.changed b q in
      record {
        changed = record {
          sheet = k.sheet;
          old = k.old;
          old_back = k.old_back;
          new = ap (read f) s ∙ k.new;
          afresh = λ n. k.afresh n ∙ ap ok (sym s);
        };
        kept = subst (Kept f h cs packet) (sym s) (defined.kept b q);
        afresh = λ other d after ed zd sd out g then eg.
            let (n, nq, ns) = wrote other after d (length packet) (normalise f packet) (numbered f packet h cs).normalise_answers ed zd in
            given out then g _ (eg ∙ ap (leaves out) (k.afresh (nq ∙ ap ok (sym ns ∙ sd)) ∙ ap ok (sym s)));
        in_turn = λ ds apart other d after ed zd out g then eg.
            let first = written a left in
            let (n, nq, ns) = wrote other after d (length first) (edit f h ds first) (numbered f first h ds).edit_answers ed zd in
            given out then g _ (eg ∙ ap (leaves out) (defined.in_turn ds b n apart q (ap (edit f h ds) (sym s) ∙ nq) ∙ ap ok (sym ns)));
      }

pub demand_3_calls : Demand3
demand_3_calls = record { editing = editing; edited = λ f h cs packet lent a left bytes e z. edited f h cs packet lent a left bytes e z }

-- nothing else is so answered
pub one_editing : (f : Form) (h : Holder) (cs : Changes) (packet lent : List ℕ) (a d : Answer) (left then : List ℕ) → Bytes packet
    → Editing f h cs packet lent a left → Editing f h cs packet lent d then → (a ≡ d) × (left ≡ then)
one_editing f h cs packet lent a d left then bytes r s =
    let k = demand_3 f h cs packet bytes in
    one_left (edit f h cs packet) lent a d left then
    (λ b e. let (t, m, l) = (k.accepted b).0 e in (r.allowed b t m l, s.allowed b t m l))
    (λ n p q. r.refusing n p ((k.refusal n p).0 q))
    (λ n p q. s.refusing n p ((k.refusal n p).0 q))
