-- A target that is added or dropped is refused at 0, with a number of the table.
use mathlib.Core.Path.{refl}
use Prim.Native.Nat.{ℕ}
use native.Mathlib.Omega.{arith}
use mathlib.Core.List.{List, map}
use lib.ListN.{drop}
use Rattle.format.specs.Answer.{Ans, ok, refused}
use Rattle.format.specs.Table.{Form, pack}
use Rattle.format.specs.Packet.{Packet}
use Rattle.format.specs.Sheet.{Sheet, tag_of_val, TI, is, value_at}
use Rattle.format.specs.Targets.{TargetChange, added, dropped, new_target, at_start, target_rules, change_targets}
use Rattle.format.specs.Demands.Demand1.{Refuses, Listed, Answers}
use Rattle.format.proofs.Bounds.Answers.{listed, refuses_ok, refuses_no, refuses_need, refuses_bind, refuses_more, early_answers, run_early}
use Rattle.format.proofs.Bounds.Packets.{Here, here_need, ended_here}
use Rattle.format.proofs.Bounds.Sheets.{value_steady, packed_answers}

-- ---- the records

abbrev Numbers : {A : Type 0} → Ans A → Type 0
Numbers a = Refuses (λ n p. Listed n) a

new_numbers : (f : Form) (r : List ℕ) → Numbers (new_target f r)
unfolding new_target
new_numbers f r =
    refuses_bind _ _ (refuses_need _ 17 (listed 17 refl)) λ _ _.
    refuses_bind _ _ (refuses_need _ 17 (listed 17 refl)) λ _ _.
    refuses_bind _ _ (refuses_more _ (run_early (is TI) tag_of_val (value_at pack f) (value_steady pack f) (drop 10 r)) (λ n p q. q.0)) λ _ _.
    refuses_bind _ _ (refuses_need _ 17 (listed 17 refl)) λ _ _. refuses_ok _ _

start_here : {A : Type 0} (m : Ans A) → Numbers m → Here (at_start m)
unfolding at_start
start_here (ok a) h = refuses_ok _ a
start_here (refused n p) h = refuses_no _ n 0 (h.by n p refl, omega arith)

pub new_answers : (k : ℕ) (f : Form) (r : List ℕ) → Answers k (at_start (new_target f r))
new_answers k f r = early_answers 1 k _ (start_here _ (new_numbers f r)) (omega arith)

-- ---- the rules, and the limit

rules_here : (c : TargetChange) (s : Sheet) → Here (target_rules c s)
unfolding target_rules
rules_here (added t) s = refuses_bind _ _ (here_need _ 10 (listed 10 refl)) λ _ _. ended_here _ (map tag_of_val t.vals)
rules_here (dropped i) s = here_need _ 18 (listed 18 refl)

pub change_answers : (k : ℕ) (c : TargetChange) (p : Packet) → Answers k (change_targets c p)
unfolding change_targets
change_answers k c p = refuses_bind _ _ (early_answers 1 k _ (rules_here c _) (omega arith)) λ _ _. packed_answers k _
