-- The rules of an edit of one or two changes: each in its turn, then what is left of the level.
use mathlib.Core.Path.{◌≡◌, refl, sym, ap, ◌∙◌, subst}
use Prim.Native.Nat.{ℕ, ◌<◌}
use native.Mathlib.Omega.{arith}
use mathlib.Core.Bool.{Bool, true, false, not, ◌&&◌, ◌||◌}
use mathlib.Core.List.{List, [], ◌∷◌, map}
use lib.Dec.{eqb}
use borrow.Author.Tests.{eq-eqb, ne_eqb}
use Rattle.std.specs.Prelude.{Result, Ok, Err}
use Rattle.format.specs.Answer.{Ans, ok, refused, need, ◌>>=◌}
use Rattle.format.specs.Coding.{Bytes}
use Rattle.format.specs.Lists.{has}
use Rattle.format.specs.Table.{Form, set, pack, nameable}
use Rattle.format.specs.Packet.{tag_of_entry}
use Rattle.format.specs.Sheet.{part_of}
use Rattle.format.specs.Edit.{Holder, the_set, target, Change, put, remove, Changes, tags_at, change_rules, may_follow, turns, ending, edit_rules}
use Rattle.format.specs.Edit as Edit
use Rattle.format.specs.Valid.{Once, SheetValid}
use Rattle.format.proofs.Words.Answers.{ok_inj}
use Rattle.format.proofs.Words.Changes.{changed_keys, is_put, once_changed, has_other, has_changed}
use Rattle.format.proofs.Edits.Levels.{level_valid}
use Rattle.coding.specs.declared.refusals.Refusal.{Refusal}
use Rattle.coding.specs.declared.refusals.Refusal.TheVariants.{NotEditable}
use Rattle.coding.specs.Refusals.{number}
use Rattle.items.specs.Meet.{level_of, answered}
use Rattle.items.proofs.Tests.{bind_so, bind_not, need_so, need_not}
use Rattle.find.specs.declared.Place.{Place}
use Rattle.find.specs.Places.{holder_of, SetOf, kept_of}
use Rattle.edit_rules.specs.declared.Change as told
use Rattle.edit_rules.specs.declared.Asked.{Asked}
use Rattle.edit_rules.specs.declared.one.Judged as One
use Rattle.edit_rules.specs.declared.two.Judged as Two
use Rattle.edit_rules.specs.Cuts.{no_cut}
use Rattle.edit_rules.specs.Meet.{change_of, one_of, two_of, sheet_of, cut_of, turn_rules, TurnAt, TurnStops, left_by, EndsAs, Stops, OneAs, ended_one, LeftAs, TwoAs, in_order, SetStops, TurnedAs}
use Rattle.edit_rules.proofs.Sets.{set_tags}
use Rattle.edit_rules.proofs.Edits.{one_cut_lem, two_cuts}
use Rattle.edit_rules.proofs.Rules.{turn_is, unnamed}

pub level_is : (b : Bool) (id : ℕ) → Edit.level_of (holder_of b id) ≡ level_of b
level_is true id = refl
level_is false id = refl

-- ---- the turns

refused_as : {A B : Type 0} (n p m q : ℕ) → ◌≡◌ {A = Ans A} (refused n p) (refused m q) → ◌≡◌ {A = Ans B} (refused n p) (refused m q)
refused_as n p m q e = let a : n ≡ m = cc in let b : p ≡ q = cc in ap (λ x. refused x p) a ∙ ap (refused m) b

-- what is refused before its end is refused
refused_on : {A B C : Type 0} (x : Ans (Unit {0})) (y : Ans A) (z : A → Ans B) (g : A → B → Ans C) (n p : ℕ) → x >>= (λ _. y >>= z) ≡ refused n p → x >>= (λ _. y >>= λ a. z a >>= g a) ≡ refused n p
unfolding ◌>>=◌
refused_on (ok u) (ok a) z g n p e = bind_not (z a) (g a) n p e
refused_on (ok u) (refused m q) z g n p e = refused_as m q n p e
refused_on (refused m q) y z g n p e = refused_as m q n p e

and_true : (b : Bool) {m : Bool} → m ≡ true → b && m ≡ b
and_true true e = e
and_true false e = refl

and_false : (b : Bool) {m : Bool} → m ≡ false → b && m ≡ false
and_false true e = e
and_false false e = refl

module _ (f : Form) (h : Holder) (before : List ℕ) (tag : ℕ) (c : Change) (cs : Changes) (at : Ans (List ℕ)) where
  follows_not : may_follow h before tag ≡ false → turns f h before ((tag, c) ∷ cs) at ≡ refused 19 0
  unfolding turns
  follows_not m = need_not _ _ _ (and_false (nameable (Edit.level_of h) tag) m)

  module _ (m : may_follow h before tag ≡ true) where
    turn_wrong : (n : ℕ) → turn_rules f (Edit.level_of h) tag c at ≡ refused n 0 → turns f h before ((tag, c) ∷ cs) at ≡ refused n 0
    unfolding turns turn_rules
    turn_wrong n e = rw (and_true (nameable (Edit.level_of h) tag) m) (refused_on _ at (λ tags. change_rules f (Edit.level_of h) tag tags c) _ n 0 e)

    turn_right : nameable (Edit.level_of h) tag ≡ true → (tags : List ℕ) → at ≡ ok tags → change_rules f (Edit.level_of h) tag tags c ≡ ok tt
        → turns f h before ((tag, c) ∷ cs) at ≡ turns f h (tag ∷ before) cs (ok (changed_keys tag c tags))
    unfolding turns
    turn_right n tags et e = need_so _ _ _ (and_true (nameable (Edit.level_of h) tag) m ∙ n) ∙ bind_so _ _ tags et ∙ bind_so _ _ tt e

may_begin_lem : (h : Holder) (tag : ℕ) → may_follow h [] tag ≡ true
unfolding has
may_begin_lem the_set tag = refl
may_begin_lem (target i) tag = refl

-- ---- another tag

change_other : (f : Form) (b : Bool) (t : ℕ) (c : Change) (u : ℕ) (d : Change) (tags : List ℕ) → eqb t u ≡ false
    → change_rules f (level_of b) u (changed_keys t c tags) d ≡ change_rules f (level_of b) u tags d
unfolding change_rules
change_other f b t c u (put w) tags o = refl
change_other f b t c u remove tags o = ap (λ x. need x 18) (has_other t c u tags o)

turn_other : (f : Form) (b : Bool) (t : ℕ) (c : Change) (u : ℕ) (d : Change) (tags : List ℕ) → eqb t u ≡ false
    → turn_rules f (level_of b) u d (ok (changed_keys t c tags)) ≡ turn_rules f (level_of b) u d (ok tags)
unfolding turn_rules ◌>>=◌
turn_other f b t c u d tags o = ap (λ z. need (nameable (level_of b) u) 19 >>= λ _. z) (change_other f b t c u d tags o)

-- ---- what is left

put_not : (r : Bool) (v : List ℕ) → is_put (change_of r v) ≡ not r
put_not true v = refl
put_not false v = refl

left_is : (c : told.Change) (v : List ℕ) (p : Place) (m j : ℕ) (tags : List ℕ) → Once tags → has j (changed_keys c.tag (change_of c.removal v) tags) ≡ left_by (cut_of c p m) j (has j tags)
left_is c v p m j tags o = has_changed c.tag (change_of c.removal v) j tags o ∙ ap (λ x. elim (eqb c.tag j) [ true ↦ x | false ↦ has j tags ]) (put_not c.removal v)

left_none : (a j : ℕ) (x : Bool) → 0 < j → left_by (no_cut a) j x ≡ x
left_none a j x l = rw (ne_eqb 0 j (λ e. omega (arith, e, l)), left_by)

module _ (f : Form) (b : Bool) (id : ℕ) (c d : told.Change) (v w s : List ℕ) where
  abbrev h : Holder
  h = holder_of b id

  abbrev at : Ans (List ℕ)
  at = tags_at h (map part_of (kept_of f s))

  pub first_wrong : (cs : Changes) (n : ℕ) → TurnStops f b id c v s n → Stops f h (one_of c v ∷ cs) s n
  unfolding edit_rules
  first_wrong cs n e =
      bind_not _ _ n 0 (turn_wrong f h [] c.tag (change_of c.removal v) cs at (may_begin_lem h c.tag) n
      (ap (λ l. turn_rules f l c.tag (change_of c.removal v) at) (level_is b id) ∙ e))

  -- ---- the first may be made, to a level with these tags

  module _ (tags : List ℕ) (et : tags_at (holder_of b id) (map part_of (kept_of f s)) ≡ ok tags) (named : nameable (level_of b) c.tag ≡ true)
      (ruled : change_rules f (level_of b) c.tag tags (change_of c.removal v) ≡ ok tt)
    where
      -- the level's tags after it
      abbrev after : List ℕ
      after = changed_keys c.tag (change_of c.removal v) tags

      first_right : (cs : Changes) → turns f h [] (one_of c v ∷ cs) at ≡ turns f h (c.tag ∷ []) cs (ok after)
      first_right cs =
          turn_right f h [] c.tag (change_of c.removal v) cs at (may_begin_lem h c.tag) (ap (λ l. nameable l c.tag) (level_is b id) ∙ named) tags et
          (ap (λ l. change_rules f l c.tag tags (change_of c.removal v)) (level_is b id) ∙ ruled)

      pub second_not : may_follow (holder_of b id) (c.tag ∷ []) d.tag ≡ false → Stops f (holder_of b id) (two_of c d v w) s 19
      unfolding edit_rules
      second_not m = bind_not _ _ 19 0 (first_right (one_of d w ∷ []) ∙ follows_not f h (c.tag ∷ []) d.tag (change_of d.removal w) [] (ok after) m)

      pub second_wrong : may_follow (holder_of b id) (c.tag ∷ []) d.tag ≡ true → eqb c.tag d.tag ≡ false → (n : ℕ) → TurnStops f b id d w s n → Stops f (holder_of b id) (two_of c d v w) s n
      unfolding edit_rules
      second_wrong m o n e =
          let g = change_of d.removal w in
          let e₂ : turn_rules f (level_of b) d.tag g (ok after) ≡ refused n 0
          = turn_other f b c.tag (change_of c.removal v) d.tag g tags o ∙ ap (turn_rules f (level_of b) d.tag g) (sym et) ∙ e in
          bind_not _ _ n 0 (first_right (one_of d w ∷ []) ∙ turn_wrong f h (c.tag ∷ []) d.tag g [] (ok after) m n (ap (λ l. turn_rules f l d.tag g (ok after)) (level_is b id) ∙ e₂))

  -- ---- the end

  module _ {p : Place} {m : ℕ} (t : TurnAt f b id c v s p m) (sv : SheetValid (sheet_of f s)) (n : Result (Unit {0}) Refusal) where
    once : Once t.tags
    once = (level_valid h (sheet_of f s) t.tags sv t.tags_are).0

    stood : ending f (level_of b) t.tags ≡ ok tt
    stood = ap (λ l. ending f l t.tags) (sym (level_is b id)) ∙ (level_valid h (sheet_of f s) t.tags sv t.tags_are).1

    abbrev left : List ℕ
    left = changed_keys c.tag (change_of c.removal v) t.tags

    right : (cs : Changes) → turns f h [] (one_of c v ∷ cs) at ≡ turns f h (c.tag ∷ []) cs (ok left)
    right = first_right t.tags t.tags_are t.named t.ruled

    pub one_ends : (a : ℕ) → EndsAs f (level_of b) (cut_of c p m) (no_cut a) n → answered n ≡ edit_rules (holder_of b id) (one_of c v ∷ []) (sheet_of f s)
    unfolding edit_rules turns
    one_ends a e =
        e t.tags left stood (λ _. t.stands) (λ l. absurd (omega (arith, l))) (λ j l. left_is c v p m j t.tags once ∙ sym (left_none a j (left_by (cut_of c p m) j (has j t.tags)) l))
        ∙ ap (λ l. ending f l left) (sym (level_is b id)) ∙ sym (bind_so _ _ left (right []))

    pub two_ends : {p' : Place} {m' : ℕ} → TurnAt f b id d w s p' m' → may_follow (holder_of b id) (c.tag ∷ []) d.tag ≡ true → eqb c.tag d.tag ≡ false
        → EndsAs f (level_of b) (cut_of c p m) (cut_of d p' m') n → answered n ≡ edit_rules (holder_of b id) (two_of c d v w) (sheet_of f s)
    unfolding edit_rules turns
    two_ends {p' = p'} {m' = m'} t' y o e =
        let g = change_of d.removal w in
        let same : t'.tags ≡ t.tags = ok_inj _ _ (sym t'.tags_are ∙ t.tags_are) in
        let ruled : change_rules f (level_of b) d.tag left g ≡ ok tt
        = change_other f b c.tag (change_of c.removal v) d.tag g t.tags o ∙ ap (λ r. change_rules f (level_of b) d.tag r g) (sym same) ∙ t'.ruled in
        let last : turns f h (c.tag ∷ []) (one_of d w ∷ []) (ok left) ≡ ok (changed_keys d.tag g left)
        = turn_right f h (c.tag ∷ []) d.tag g [] (ok left) y (ap (λ l. nameable l d.tag) (level_is b id) ∙ t'.named) left refl
        (ap (λ l. change_rules f l d.tag left g) (level_is b id) ∙ ruled) in
        e t.tags (changed_keys d.tag g left) stood (λ _. t.stands) (λ _. ap (has d.tag) (sym same) ∙ t'.stands)
        (λ j l. left_is d w p' m' j left (once_changed c.tag (change_of c.removal v) t.tags once) ∙ ap (left_by (cut_of d p' m') j) (left_is c v p m j t.tags once))
        ∙ ap (λ l. ending f l (changed_keys d.tag g left)) (sym (level_is b id)) ∙ sym (bind_so _ _ _ (right (one_of d w ∷ []) ∙ last))

-- ---- one change

pub one_stops : (f : Form) (a : Asked) (v s : List ℕ) (x : Refusal) → TurnStops f a.set a.id a.change v s (number x) → OneAs f a v s (Err x)
one_stops f a v s x e = first_wrong f a.set a.id a.change a.change v v s [] (number x) e

pub one_left : (f : Form) (a : Asked) (v s : List ℕ) → Bytes s → SetOf f s → SheetValid (sheet_of f s) → {p : Place} {m : ℕ} → TurnAt f a.set a.id a.change v s p m
    → {r : Result One.Judged Refusal} → LeftAs f a p m r → OneAs f a v s r
one_left f a v s hb k sv {p = p} {m = m} t (n, en, e) = subst (OneAs f a v s) (sym e) (go n en)
  where
    go : (n : Result (Unit {0}) Refusal) → EndsAs f (level_of a.set) (cut_of a.change p m) (no_cut p.next) n → OneAs f a v s (ended_one n p m)
    go (Ok u) en =
        let (q, r) = one_cut_lem f s hb k a.set a.id a.change v p t in
        record { passed = sym (one_ends f a.set a.id a.change a.change v v s t sv (Ok u) p.next en); cutting = q; edited = r }
    go (Err x) en = sym (one_ends f a.set a.id a.change a.change v v s t sv (Err x) p.next en)

-- ---- two changes of the set

module _ (f : Form) (c : told.Change) (v s : List ℕ) where
  pub set_unnamed : nameable set c.tag ≡ false → SetStops f c v s 19
  set_unnamed n id d w = first_wrong f true id c d v w s (one_of d w ∷ []) 19 (unnamed f true id c v s n)

  -- the tag stands in it, or not
  module _ (n : nameable set c.tag ≡ true) {stands : Bool} (st : has c.tag (map tag_of_entry (kept_of f s)) ≡ stands) where
    pub set_first : (x : Refusal) → TurnedAs f set c v stands (Err x) → SetStops f c v s (number x)
    set_first x q id d w =
        first_wrong f true id c d v w s (one_of d w ∷ []) (number x) (turn_is f set c.tag (change_of c.removal v) n _ (set_tags (kept_of f s)) ∙ sym (q _ st))

    pub set_second : (m : ℕ) → TurnedAs f set c v stands (Ok m) → SetStops f c v s 19
    set_second m q id d w = second_not f true id c d v w s _ (set_tags (kept_of f s)) n (sym (q.0 _ st)) refl

-- ---- two changes of a target

module _ (f : Form) (id : ℕ) (c d : told.Change) (v w s : List ℕ) where
  may_follow_is : (c.tag ≡ d.tag → ⊥) → (may_follow (target id) (c.tag ∷ []) d.tag ≡ true) × (eqb c.tag d.tag ≡ false)
  unfolding has
  may_follow_is n = let e = ne_eqb c.tag d.tag n in (ap (λ x. not (x || false)) e, e)

  pub two_first : (x : Refusal) → TurnStops f false id c v s (number x) → TwoAs f id c d v w s (Err x)
  two_first x e = first_wrong f false id c d v w s (one_of d w ∷ []) (number x) e

  module _ {p : Place} {m : ℕ} (t : TurnAt f false id c v s p m) where
    pub two_same : c.tag ≡ d.tag → TwoAs f id c d v w s (Err NotEditable)
    unfolding has
    two_same e = second_not f false id c d v w s t.tags t.tags_are t.named t.ruled (ap (λ x. not (x || false)) (eq-eqb c.tag d.tag e))

    module _ (o : c.tag ≡ d.tag → ⊥) where
      pub two_second : (x : Refusal) → TurnStops f false id d w s (number x) → TwoAs f id c d v w s (Err x)
      two_second x e = second_wrong f false id c d v w s t.tags t.tags_are t.named t.ruled (may_follow_is o).0 (may_follow_is o).1 (number x) e

      module _ {q : Place} {k : ℕ} (t' : TurnAt f false id d w s q k) (sv : SheetValid (sheet_of f s)) where
        ends : (n : Result (Unit {0}) Refusal) → EndsAs f pack (cut_of c p m) (cut_of d q k) n → answered n ≡ edit_rules (target id) (two_of c d v w) (sheet_of f s)
        ends n en = two_ends f false id c d v w s t sv n t' (may_follow_is o).0 (may_follow_is o).1 en

        pub two_left : (x : Refusal) → EndsAs f pack (cut_of c p m) (cut_of d q k) (Err x) → TwoAs f id c d v w s (Err x)
        two_left x en = sym (ends (Err x) en)

        -- they are let through, at two cuts
        pub two_fine : EndsAs f pack (cut_of c p m) (cut_of d q k) (Ok tt) → Bytes s → SetOf f s → {j : Two.Judged} → j ≡ in_order p (cut_of c p m) (cut_of d q k) → TwoAs f id c d v w s (Ok j)
        two_fine en hb kk e =
            let (a, b) = two_cuts f s hb kk id c d v w p q t t' (may_follow_is o).1 in
            subst (λ x. TwoAs f id c d v w s (Ok x)) (sym e) (record { passed = sym (ends (Ok tt) en); cutting = a; edited = b })
