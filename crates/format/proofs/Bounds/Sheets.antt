-- How large a refusal's number and place can be, for a sheet and its records, and for an edit.
use mathlib.Core.Path.{◌≡◌, refl}
use Prim.Native.Nat.{ℕ, zero, suc, ◌≤◌, ◌<◌}
use native.Mathlib.Omega.{arith}
use mathlib.Core.Bool.{Bool, true, false}
use mathlib.Core.List.{List, [], ◌∷◌, map}
use lib.ListN.{length, drop, length-drop}
use borrow.Author.Tests.{leb-true}
use Rattle.format.specs.Answer.{Ans, ok, Got}
use Rattle.format.specs.Lists.{ask_hit}
use Rattle.format.specs.Table.{Form, Level, set, pack}
use Rattle.format.specs.Packet.{Packet}
use Rattle.format.specs.Run.{always}
use Rattle.format.specs.Sheet.{Val, Target, Part, one, targets, Sheet, tag_of_val, id_of_target, tag_of_part, TS, TG, TI, IT, is, field, value_at, target_at, series_at, part_at, form_of, unsheet}
use Rattle.format.specs.Calls.{packed}
use Rattle.format.specs.Edit.{Holder, the_set, target, Change, put, remove, Changes, is_targets, target_tags, tags_at, change_rules, turns, ending, edit_rules}
use Rattle.format.specs.Demands.Demand1.{Answers}
use Rattle.format.proofs.Words.Answers.{never, no_bool, bind_then, need_then, after_then, ok_inj}
use Rattle.format.proofs.Bounds.Answers.{listed, refuses_ok, refuses_no, refuses_need, refuses_bind, refuses_after, Early, early_after, early_more, early_answers, Steady, run_early, run_room}
use Rattle.format.proofs.Bounds.Packets.{Here, here_need, standing_here, valued_here, rules_here, ended_here}

-- ---- records

field_here : (l : Level) (s : List ℕ) → Here (field l s)
unfolding field
field_here l s =
    refuses_bind _ _ (here_need _ 17 (listed 17 refl)) λ _ _.
    refuses_bind _ _ (here_need _ 17 (listed 17 refl)) λ _ _.
    refuses_bind _ _ (here_need _ 17 (listed 17 refl)) λ _ _. refuses_ok _ _

field_room : (l : Level) (s : List ℕ) (r : Got Val) → field l s ≡ ok r → (4 ≤ length s) × (r.used ≤ length s)
unfolding field
field_room l s r e =
    need_then _ _ _ _ e λ a e₁.
    need_then _ _ _ _ e₁ λ b e₂.
    need_then _ _ _ _ e₂ λ _ e₃.
    rw (← ok_inj _ _ e₃) (leb-true _ _ a, leb-true _ _ b)

pub value_here : (l : Level) (f : Form) (seen s : List ℕ) → Here (value_at l f seen s)
unfolding value_at
value_here l f seen s =
    refuses_bind _ _ (field_here l (drop 2 s)) λ v _.
    refuses_bind _ _ (rules_here l f seen _ true _) λ _ _.
    refuses_bind _ _ (here_need _ 17 (listed 17 refl)) λ _ _. refuses_ok _ _

value_room : (l : Level) (f : Form) (seen s : List ℕ) (r : Got Val) → value_at l f seen s ≡ ok r → r.used ≤ length s
unfolding value_at
value_room l f seen s r e =
    bind_then _ _ _ e λ v ev e₁.
    bind_then _ _ _ e₁ λ _ _ e₂.
    need_then _ _ _ _ e₂ λ _ e₃.
    let (a, b) = field_room l (drop 2 s) v ev in
    rw (← ok_inj _ _ e₃) (omega (arith, a, b, length-drop 2 s))

pub value_steady : (l : Level) (f : Form) → Steady (value_at l f)
value_steady l f = record { early = λ seen s p. early_more 1 (length s) _ (value_here l f seen s) p; room = value_room l f }

target_steady : (f : Form) → Steady (target_at f)
unfolding target_at
target_steady f = record { early = early; room = room }
  where
    early : (seen s : List ℕ) → 0 < length s → Early (length s) (target_at f seen s)
    early seen s p =
        refuses_bind _ _ (refuses_need _ 17 (listed 17 refl, p)) λ _ _.
        refuses_bind _ _ (refuses_need _ 17 (listed 17 refl, p)) λ _ _.
        refuses_bind _ _ (refuses_need _ 10 (listed 10 refl, p)) λ _ _.
        refuses_bind _ _
        (early_after 10 (length (drop 10 s)) (length s) _ (run_early (is TI) tag_of_val (value_at pack f) (value_steady pack f) (drop 10 s)) (λ q. omega (arith, q, length-drop 10 s))) λ vs _.
        refuses_bind _ _ (early_more 1 (length s) _ (ended_here f (map tag_of_val vs.val)) p) λ _ _. refuses_ok _ _

    room : (seen s : List ℕ) (r : Got Target) → target_at f seen s ≡ ok r → r.used ≤ length s
    room seen s r e =
        need_then _ _ _ _ e λ ten e₁.
        need_then _ _ _ _ e₁ λ _ e₂.
        need_then _ _ _ _ e₂ λ _ e₃.
        after_then _ _ _ _ e₃ λ vs evs e₄.
        bind_then _ _ _ e₄ λ _ _ e₅.
        rw (← ok_inj _ _ e₅)
        (omega (arith, leb-true 10 (length s) ten, run_room (is TI) tag_of_val (value_at pack f) (value_steady pack f) (drop 10 s) vs evs, length-drop 10 s))

series_early : (f : Form) (seen s : List ℕ) → 0 < length s → Early (length s) (series_at f seen s)
unfolding series_at
series_early f seen s p =
    refuses_bind _ _ (refuses_need _ 17 (listed 17 refl, p)) λ _ _.
    refuses_bind _ _ (early_more 1 (length s) _ (standing_here set f seen 101 true) p) λ _ _.
    refuses_bind _ _
    (early_after 2 (length (drop 2 s)) (length s) _ (run_early (is TG) id_of_target (target_at f) (target_steady f) (drop 2 s)) (λ q. omega (arith, q, length-drop 2 s))) λ _ _.
    refuses_ok _ _

series_room : (f : Form) (seen s : List ℕ) (r : Got Part) → is TS s ≡ true → series_at f seen s ≡ ok r → r.used ≤ length s
unfolding series_at
series_room f seen s r m e =
    need_then _ _ _ _ e λ _ e₁.
    bind_then _ _ _ e₁ λ _ _ e₂.
    after_then _ _ _ _ e₂ λ ts ets e₃.
    rw (← ok_inj _ _ e₃)
    (omega (arith, two s m, run_room (is TG) id_of_target (target_at f) (target_steady f) (drop 2 s) ts ets, length-drop 2 s))
  where
    two : (s : List ℕ) → is TS s ≡ true → 2 ≤ length s
    two [] m = no_bool m
    two (x ∷ []) m = no_bool m
    two (x ∷ y ∷ s) m = omega arith

part_steady : (f : Form) → Steady (part_at f)
unfolding part_at
part_steady f = record { early = early; room = room }
  where
    early : (seen s : List ℕ) → 0 < length s → Early (length s) (part_at f seen s)
    early seen s p = at_item (is IT s) refl
      where
        at_series : is IT s ≡ false → (c : Bool) → is TS s ≡ c → Early (length s) (part_at f seen s)
        at_series z true m = rw (z, part_at, m, part_at) (series_early f seen s p)
        at_series z false m = rw (z, part_at, m, part_at) (refuses_no _ 17 0 (listed 17 refl, p))

        at_item : (c : Bool) → is IT s ≡ c → Early (length s) (part_at f seen s)
        at_item true m = rw (m, part_at) (refuses_bind _ _ (early_more 1 (length s) _ (value_here set f seen s) p) λ _ _. refuses_ok _ _)
        at_item false m = at_series m (is TS s) refl

    room : (seen s : List ℕ) (r : Got Part) → part_at f seen s ≡ ok r → r.used ≤ length s
    room seen s r e = at_item (is IT s) refl
      where
        at_series : is IT s ≡ false → (c : Bool) → is TS s ≡ c → r.used ≤ length s
        at_series z true m = series_room f seen s r m (rw (z, part_at, m, part_at) at e)
        at_series z false m = never 17 0 r (rw (z, part_at, m, part_at) at e)

        at_item : (c : Bool) → is IT s ≡ c → r.used ≤ length s
        at_item true m = bind_then _ _ _ (rw (m, part_at) at e) λ v ev e₁. rw (← ok_inj _ _ e₁) (value_room set f seen s v ev)
        at_item false m = at_series m (is TS s) refl

-- ---- the sheet, and a packet's bytes within the limit

form_here : (s : List ℕ) → Here (form_of s)
form_here [] = refuses_no _ 17 0 (listed 17 refl, omega arith)
form_here (zero ∷ s) = refuses_ok _ _
form_here (suc zero ∷ s) = refuses_ok _ _
form_here (suc (suc n) ∷ s) = refuses_no _ 17 0 (listed 17 refl, omega arith)

pub unsheet_answers : (s : List ℕ) → Answers (length s) (unsheet s)
unfolding unsheet
unsheet_answers s =
    refuses_bind _ _ (refuses_need _ 1 (listed 1 refl, omega arith)) λ _ _.
    refuses_bind _ _ (refuses_need _ 17 (listed 17 refl, omega arith)) λ _ _.
    refuses_bind _ _ (early_answers 1 (length s) _ (form_here (drop 2 s)) (omega arith)) λ f _.
    refuses_bind _ _
    (early_answers (length s) (length s) _
    (early_after 3 (length (drop 3 s)) (length s) _ (run_early always tag_of_part (part_at f) (part_steady f) (drop 3 s)) (λ q. omega (arith, q, length-drop 3 s))) (omega arith)) λ ps _.
    refuses_bind _ _ (refuses_after (length s) _ (here_need _ 14 (listed 14 refl)) λ n p q. (q.0, omega (arith, q.1))) λ _ _. refuses_ok _ _

pub packed_answers : (k : ℕ) (p : Packet) → Answers k (packed p)
unfolding packed
packed_answers k p = refuses_bind _ _ (refuses_need _ 1 (listed 1 refl, omega arith)) λ _ _. refuses_ok _ _

-- ---- the edit's own refusals

ask_here : {X A : Type 0} (hit : X → Bool) (f : X → Ans A) → ((x : X) → Here (f x)) → (xs : List X) → Here (ask_hit hit f xs)
unfolding ask_hit
ask_here hit f h [] = refuses_no _ 18 0 (listed 18 refl, omega arith)
ask_here hit f h (x ∷ xs) = go (ask_here hit f h xs) (hit x) refl
  where
    go : Here (ask_hit hit f xs) → (b : Bool) → hit x ≡ b → Here (ask_hit hit f (x ∷ xs))
    go ih true z = rw (z, ask_hit) (h x)
    go ih false z = rw (z, ask_hit) ih

tags_here : (h : Holder) (ps : List Part) → Here (tags_at h ps)
unfolding tags_at target_tags
tags_here the_set ps = refuses_ok _ _
tags_here (target i) ps = ask_here is_targets (target_tags i) part ps
  where
    part : (p : Part) → Here (target_tags i p)
    part (one v) = refuses_no _ 18 0 (listed 18 refl, omega arith)
    part (targets ts) = ask_here _ _ (λ g. refuses_ok _ _) ts

change_here : (f : Form) (l : Level) (tag : ℕ) (tags : List ℕ) (c : Change) → Here (change_rules f l tag tags c)
unfolding change_rules
change_here f l tag tags (put v) =
    refuses_bind _ _ (here_need _ 7 (listed 7 refl)) λ _ _.
    refuses_bind _ _ (here_need _ 13 (listed 13 refl)) λ _ _.
    valued_here _ v
change_here f l tag tags remove = here_need _ 18 (listed 18 refl)

turns_here : (f : Form) (h : Holder) (before : List ℕ) (cs : Changes) (at : Ans (List ℕ)) → Here at → Here (turns f h before cs at)
unfolding turns
turns_here f h before [] at k = k
turns_here f h before ((tag, c) ∷ cs) at k =
    refuses_bind _ _ (here_need _ 19 (listed 19 refl)) λ _ _.
    refuses_bind _ _ k λ tags _.
    refuses_bind _ _ (change_here f _ tag tags c) λ _ _.
    turns_here f h (tag ∷ before) cs _ (refuses_ok _ _)

ending_here : (f : Form) (l : Level) (tags : List ℕ) → Here (ending f l tags)
unfolding ending
ending_here f set tags = here_need _ 14 (listed 14 refl)
ending_here f pack tags = ended_here f tags

pub edit_here : (h : Holder) (cs : Changes) (s : Sheet) → Here (edit_rules h cs s)
unfolding edit_rules
edit_here h cs s =
    refuses_bind _ _ (turns_here _ h [] cs _ (tags_here h s.parts)) λ tags _.
    ending_here _ _ tags
