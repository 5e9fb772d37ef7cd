-- How large a refusal's number and place can be, for a packet and its pieces.
use mathlib.Core.Path.{◌≡◌, refl}
use Prim.Native.Nat.{ℕ, zero, suc, ◌+◌, ◌-◌, ◌*◌, ◌≤◌, ◌<◌, min}
use native.Mathlib.Omega.{arith}
use mathlib.Core.Bool.{Bool, true, false}
use mathlib.Core.List.{List, [], ◌∷◌, map}
use lib.ListN.{length, take, drop, length-drop, length-take}
use lib.Dec.{ltb, eqb}
use borrow.Author.Tests.{leb-true}
use Rattle.format.specs.Answer.{Ans, ok, Got, need, after}
use Rattle.format.specs.Coding.{long_of, len_of, oid_go, oid, tag_of, id_of}
use Rattle.format.specs.Table.{Form, embedded, standalone, Level, pack, standing, valued, item_rules, ended, rule_of, Rule}
use Rattle.format.specs.Packet.{Item, Pack, Entry, tag_of_item, id_of_pack, tag_of_entry}
use Rattle.format.specs.Run.{run, always}
use Rattle.format.specs.Read.{Head, head_of, item, PackHead, pack_head, one_pack, deepen, entry, opening, start, closing, parse}
use Rattle.format.specs.Demands.Demand1.{Listed, Answers}
use Rattle.format.proofs.Words.Answers.{bind_then, need_then, after_then, ok_inj}
use Rattle.format.proofs.Bounds.Answers.{listed, refuses_ok, refuses_no, refuses_need, refuses_bind, refuses_after, Early, early_after, early_more, early_answers, Steady, run_early}

-- ---- refused where it begins

abbrev pub Here : {A : Type 0} → Ans A → Type 0
Here m = Early 1 m

pub here_need : (t : Bool) (n : ℕ) → Listed n → Here (need t n)
here_need t n h = refuses_need t n (h, omega arith)

oid_go_here : (k bad n acc : ℕ) (s : List ℕ) → Listed bad → Here (oid_go k bad n acc s)
unfolding oid_go
oid_go_here zero bad n acc s h = refuses_no _ bad 0 (h, omega arith)
oid_go_here (suc k) bad n acc [] h = refuses_no _ 3 0 (listed 3 refl, omega arith)
oid_go_here (suc k) bad n acc (b ∷ s) h = go (oid_go_here k bad (suc n) (acc * 128 + (b - 128)) s h) (ltb b 128) refl
  where
    go : Here (oid_go k bad (suc n) (acc * 128 + (b - 128)) s) → (t : Bool) → ltb b 128 ≡ t → Here (oid_go (suc k) bad n acc (b ∷ s))
    go ih true z = rw (z, oid_go) (refuses_ok _ _)
    go ih false z = rw (z, oid_go) ih

oid_here : (k bad : ℕ) (s : List ℕ) → Listed bad → Here (oid k bad s)
unfolding oid
oid_here k bad s h = refuses_bind _ _ (oid_go_here k bad 0 0 s h) λ r _. refuses_bind _ _ (here_need _ bad h) λ _ _. refuses_ok _ _

tag_here : (s : List ℕ) → Here (tag_of s)
unfolding tag_of
tag_here s = refuses_bind _ _ (oid_here 2 4 s (listed 4 refl)) λ r _. refuses_bind _ _ (here_need _ 4 (listed 4 refl)) λ _ _. refuses_ok _ _

id_here : (s : List ℕ) → Here (id_of s)
unfolding id_of
id_here s = oid_here 9 8 s (listed 8 refl)

pub len_here : (s : List ℕ) → Here (len_of s)
unfolding len_of long_of
len_here [] = refuses_no _ 3 0 (listed 3 refl, omega arith)
len_here (b ∷ s) = go (ltb b 128) refl
  where
    go : (t : Bool) → ltb b 128 ≡ t → Here (len_of (b ∷ s))
    go true z = rw (z, len_of) (refuses_ok _ _)
    go false z =
        rw (z, len_of)
        (refuses_bind _ _ (here_need _ 5 (listed 5 refl)) λ _ _. refuses_bind _ _ (here_need _ 3 (listed 3 refl)) λ _ _. refuses_ok _ _)

-- ---- items

pub standing_here : (l : Level) (f : Form) (seen : List ℕ) (tag : ℕ) (last : Bool) → Here (standing l f seen tag last)
unfolding standing
standing_here l f seen tag last =
    refuses_bind _ _ (here_need _ 9 (listed 9 refl)) λ _ _.
    refuses_bind _ _ (here_need _ 13 (listed 13 refl)) λ _ _.
    here_need _ 14 (listed 14 refl)

pub valued_here : (r : Rule) (v : List ℕ) → Here (valued r v)
unfolding valued
valued_here r v = refuses_bind _ _ (here_need _ 11 (listed 11 refl)) λ _ _. here_need _ 12 (listed 12 refl)

pub rules_here : (l : Level) (f : Form) (seen : List ℕ) (tag : ℕ) (last : Bool) (v : List ℕ) → Here (item_rules l f seen tag last v)
unfolding item_rules
rules_here l f seen tag last v =
    refuses_bind _ _ (here_need _ 7 (listed 7 refl)) λ _ _.
    refuses_bind _ _ (standing_here l f seen tag last) λ _ _.
    valued_here (rule_of l tag) v

head_here : (l : Level) (s : List ℕ) → Here (head_of l s)
unfolding head_of
head_here l s =
    refuses_bind _ _ (tag_here s) λ t _.
    refuses_bind _ _ (len_here (drop t.used s)) λ n _.
    refuses_bind _ _ (here_need _ 5 (listed 5 refl)) λ _ _.
    refuses_bind _ _ (here_need _ 6 (listed 6 refl)) λ _ _. refuses_ok _ _

pub head_room : (l : Level) (s : List ℕ) (h : Head) → head_of l s ≡ ok h → h.from + h.size ≤ length s
unfolding head_of
head_room l s h e =
    bind_then _ _ _ e λ t _ e₁.
    bind_then _ _ _ e₁ λ n _ e₂.
    need_then _ _ _ _ e₂ λ _ e₃.
    need_then _ _ _ _ e₃ λ r e₄.
    rw (← ok_inj _ _ e₄) (leb-true _ _ r)

pub item_here : (l : Level) (f : Form) (seen s : List ℕ) → Here (item l f seen s)
unfolding item
item_here l f seen s = refuses_bind _ _ (head_here l s) λ h _. refuses_bind _ _ (rules_here _ _ _ _ _ _) λ _ _. refuses_ok _ _

-- how long an item's value is, and what it took
pub item_room : (l : Level) (f : Form) (seen s : List ℕ) (r : Got Item) → item l f seen s ≡ ok r → (r.used ≤ length s) × (length r.val.value ≤ r.used)
unfolding item
item_room l f seen s r e =
    bind_then _ _ _ e λ h eh e₁.
    bind_then _ _ _ e₁ λ _ _ e₂.
    rw (← ok_inj _ _ e₂) (head_room l s h eh, rw length-take (omega arith))

pub item_steady : (l : Level) (f : Form) → Steady (item l f)
item_steady l f = record { early = λ seen s p. early_more 1 (length s) (item l f seen s) (item_here l f seen s) (omega arith); room = λ seen s r e. (item_room l f seen s r e).0 }

-- ---- packs

pub pack_head_here : (s : List ℕ) → Here (pack_head s)
unfolding pack_head
pack_head_here s =
    refuses_bind _ _ (len_here s) λ n _.
    refuses_bind _ _ (here_need _ 6 (listed 6 refl)) λ _ _.
    refuses_bind _ _ (id_here (take n.val (drop n.used s))) λ _ _. refuses_ok _ _

pub pack_head_room : (s : List ℕ) (h : PackHead) → pack_head s ≡ ok h → h.width + h.size ≤ length s
unfolding pack_head
pack_head_room s h e =
    bind_then _ _ _ e λ n _ e₁.
    need_then _ _ _ _ e₁ λ r e₂.
    bind_then _ _ _ e₂ λ i _ e₃.
    rw (← ok_inj _ _ e₃) (leb-true _ _ r)

pub ended_here : (f : Form) (tags : List ℕ) → Here (ended f tags)
unfolding ended
ended_here f tags = refuses_bind _ _ (here_need _ 20 (listed 20 refl)) λ _ _. here_need _ 14 (listed 14 refl)

pub pack_early : (f : Form) (seen s : List ℕ) → 0 < length s → Early (length s) (one_pack f seen s)
unfolding one_pack
pack_early f seen s p =
    refuses_bind _ _ (early_more 1 (length s) _ (pack_head_here s) (omega arith)) λ h eh.
    refuses_bind _ _ (refuses_need _ 10 (listed 10 refl, p)) λ _ _.
    let body : List ℕ = drop h.used (take h.size (drop h.width s)) in
    let l : length body ≡ min h.size (length s - h.width) - h.used = simp (length-drop, length-take) in
    refuses_bind _ _
    (early_after (h.width + h.used) (length body) (length s) _ (run_early always tag_of_item (item pack f) (item_steady pack f) body) (λ q. omega (arith, q, pack_head_room s h eh))) λ is _.
    refuses_bind _ _ (early_more 1 (length s) _ (ended_here f (map tag_of_item is.val)) (omega arith)) λ _ _. refuses_ok _ _

pub pack_steady : (f : Form) → Steady (one_pack f)
unfolding one_pack
pack_steady f = record { early = pack_early f; room = room }
  where
    room : (seen s : List ℕ) (r : Got Pack) → one_pack f seen s ≡ ok r → r.used ≤ length s
    room seen s r e =
        bind_then _ _ _ e λ h eh e₁.
        need_then _ _ _ _ e₁ λ _ e₂.
        after_then _ _ _ _ e₂ λ is _ e₃.
        bind_then _ _ _ e₃ λ _ _ e₄.
        rw (← ok_inj _ _ e₄) (pack_head_room s h eh)

-- ---- the set

deepen_early : (f : Form) (n : ℕ) (i : Got Item) → 0 < n → i.used ≤ n → length i.val.value ≤ i.used → Early n (deepen f i)
unfolding deepen
deepen_early f n i p u v = go (eqb i.val.tag 101) refl
  where
    go : (b : Bool) → eqb i.val.tag 101 ≡ b → Early n (deepen f i)
    go false z = rw (z, deepen) (refuses_ok _ _)
    go true z =
        rw (z, deepen)
        (refuses_bind _ _
        (early_after (i.used - length i.val.value) (length i.val.value) n _ (run_early always id_of_pack (one_pack f) (pack_steady f) i.val.value) (λ _. omega arith)) λ _ _. refuses_ok _ _)

deepen_used : (f : Form) (i : Got Item) (r : Got Entry) → deepen f i ≡ ok r → r.used ≡ i.used
unfolding deepen
deepen_used f i r e = go (eqb i.val.tag 101) refl
  where
    go : (b : Bool) → eqb i.val.tag 101 ≡ b → r.used ≡ i.used
    go false z = rw (← ok_inj _ _ (rw (z, deepen) at e))
    go true z = after_then _ _ _ _ (rw (z, deepen) at e) λ ps _ e₁. rw (← ok_inj _ _ e₁)

pub entry_steady : (f : Form) → Steady (entry f)
unfolding entry
entry_steady f = record { early = early; room = room }
  where
    early : (seen s : List ℕ) → 0 < length s → Early (length s) (entry f seen s)
    early seen s p =
        refuses_bind _ _ (early_more 1 (length s) _ (item_here _ f seen s) (omega arith)) λ i ei.
        let (a, b) = item_room _ f seen s i ei in
        deepen_early f (length s) i p a b

    room : (seen s : List ℕ) (r : Got Entry) → entry f seen s ≡ ok r → r.used ≤ length s
    room seen s r e = bind_then _ _ _ e λ i ei e₁. omega (arith, deepen_used f i r e₁, (item_room _ f seen s i ei).0)

-- ---- the packet

opening_here : (f : Form) (s : List ℕ) → Here (opening f s)
unfolding opening
opening_here embedded s = refuses_ok _ _
opening_here standalone s =
    refuses_bind _ _ (here_need _ 2 (listed 2 refl)) λ _ _.
    refuses_bind _ _ (len_here (drop 16 s)) λ n _.
    refuses_bind _ _ (here_need _ 6 (listed 6 refl)) λ _ _. refuses_ok _ _

closing_answers : (f : Form) (s : List ℕ) (es : List Entry) → Answers (length s) (closing f s es)
unfolding closing
closing_answers embedded s es = refuses_ok _ _
closing_answers standalone s es =
    refuses_bind _ _ (refuses_after (length s) _ (here_need _ 14 (listed 14 refl)) λ n p q. (q.0, omega (arith, q.1))) λ _ _.
    refuses_bind _ _ (refuses_after (length s - 4) _ (here_need _ 15 (listed 15 refl)) λ n p q. (q.0, omega (arith, q.1))) λ _ _. refuses_ok _ _

pub parse_answers : (f : Form) (s : List ℕ) → Answers (length s) (parse f s)
unfolding parse
parse_answers f s =
    refuses_bind _ _ (refuses_need _ 1 (listed 1 refl, omega arith)) λ _ _.
    refuses_bind _ _ (early_answers 1 (length s) _ (opening_here f s) (omega arith)) λ w _.
    refuses_bind _ _ (set_answers (start f w)) λ es _.
    refuses_bind _ _ (closing_answers f s es.val) λ _ _. refuses_ok _ _
  where
    set_answers : (k : ℕ) → Answers (length s) (after k (run always tag_of_entry (entry f) (drop k s)))
    set_answers k =
        early_answers (length s) (length s) _
        (early_after k (length (drop k s)) (length s) _ (run_early always tag_of_entry (entry f) (entry_steady f) (drop k s)) (λ p. omega (arith, p, length-drop k s))) (omega arith)
