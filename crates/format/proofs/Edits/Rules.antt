-- What the edit's rules say of changes that they let through, and the other way.
use mathlib.Core.Path.{◌≡◌, refl}
use Prim.Native.Nat.{ℕ}
use mathlib.Core.Bool.{true}
use mathlib.Core.List.{List, [], ◌∷◌}
use lib.ListN.{length}
use borrow.Author.Tests.{ltb-true, lt-ltb}
use Rattle.format.specs.Answer.{Ans, ok, refused, ◌>>=◌, need}
use Rattle.format.specs.Lists.{has}
use Rattle.format.specs.Table.{Form, Level, nameable}
use Rattle.format.specs.Sheet.{Sheet}
use Rattle.format.specs.Edit.{Holder, Change, put, remove, Changes, level_of, applied, tags_at, change_rules, may_follow, turns, ending, edit_rules}
use Rattle.format.specs.Valid.{All}
use Rattle.format.specs.Demands.Demand3.{Asks}
use Rattle.format.proofs.Words.Answers.{never, bind_then, need_then, need_last, need_ok, ok_inj, and_both}
use Rattle.format.proofs.Words.Changes.{changed_keys}
use Rattle.format.proofs.Table.Values.{valued_says, valued_gives}
use Rattle.format.proofs.Edits.Applied.{keys_after}

-- a removal's item is there
abbrev pub Present : ℕ → Change → List ℕ → Type 0
Present tag (put v) tags = Unit {0}
Present tag remove tags = has tag tags ≡ true

-- so it is of each in its turn, in a level with these tags
abbrev pub Presents : Changes → List ℕ → Type 0
Presents [] tags = Unit {0}
Presents ((tag, c) ∷ cs) tags = Present tag c tags × Presents cs (changed_keys tag c tags)

-- each may follow those before it
abbrev pub Follows : Holder → List ℕ → Changes → Type 0
Follows h before [] = Unit {0}
Follows h before ((tag, c) ∷ cs) = (may_follow h before tag ≡ true) × Follows h (tag ∷ before) cs

-- ---- one change

change_says : (f : Form) (l : Level) (tag : ℕ) (tags : List ℕ) (c : Change) (u : Unit {0}) → nameable l tag ≡ true → change_rules f l tag tags c ≡ ok u
    → Asks f l (tag, c) × Present tag c tags
unfolding change_rules
change_says f l tag tags (put v) u n e =
    need_then _ _ _ _ e λ some e₁.
    need_then _ _ _ _ e₁ λ st e₂.
    (record { named = n; not_empty = ltb-true 0 (length v) some; may_stand = st; valued = valued_says l tag v u e₂ }, tt)
change_says f l tag tags remove u n e = (n, need_last _ _ _ e)

change_gives : (f : Form) (l : Level) (tag : ℕ) (tags : List ℕ) (c : Change) → Asks f l (tag, c) → Present tag c tags
    → (nameable l tag ≡ true) × (change_rules f l tag tags c ≡ ok tt)
unfolding change_rules ◌>>=◌ need
change_gives f l tag tags (put v) k p = (k.named, rw (lt-ltb 0 (length v) k.not_empty, k.may_stand, valued_gives l tag v k.valued))
change_gives f l tag tags remove k p = (k, need_ok _ _ p)

-- ---- each in its turn

-- what each of the changes is, to a level with these tags
pub record Turned (f : Form) (h : Holder) (before : List ℕ) (cs : Changes) (tags : List ℕ) : Type 0 where
  pub asked : All (Asks f (level_of h)) cs
  pub follow : Follows h before cs
  pub present : Presents cs tags

turns_say : (f : Form) (h : Holder) (before : List ℕ) (cs : Changes) (tags after : List ℕ) → turns f h before cs (ok tags) ≡ ok after
    → Turned f h before cs tags × (keys_after cs tags ≡ after)
unfolding turns applied
turns_say f h before [] tags after e = (record { asked = tt; follow = tt; present = tt }, ok_inj _ _ e)
turns_say f h before ((tag, c) ∷ cs) tags after e =
    need_then _ _ _ _ e λ n e₁.
    bind_then _ _ _ e₁ λ ts et e₂.
    bind_then _ _ _ e₂ λ u eu e₃.
    let z : tags ≡ ts = ok_inj _ _ et in
    let (named, may) = and_both (nameable (level_of h) tag) (may_follow h before tag) n in
    let (a, p) = change_says f (level_of h) tag tags c u named (rw (← z) at eu) in
    let (r, k) = turns_say f h (tag ∷ before) cs (changed_keys tag c tags) after (rw (← z) at e₃) in
    (record { asked = (a, r.asked); follow = (may, r.follow); present = (p, r.present) }, k)

turns_give : (f : Form) (h : Holder) (before : List ℕ) (cs : Changes) (tags : List ℕ) → Turned f h before cs tags → turns f h before cs (ok tags) ≡ ok (keys_after cs tags)
unfolding turns applied ◌>>=◌ need
turns_give f h before [] tags t = refl
turns_give f h before ((tag, c) ∷ cs) tags t =
    let (n, k) = change_gives f (level_of h) tag tags c t.asked.0 t.present.0 in
    rw (n, t.follow.0, k) (turns_give f h (tag ∷ before) cs (changed_keys tag c tags) (record { asked = t.asked.1; follow = t.follow.1; present = t.present.1 }))

-- of a level that is not there no change is made
turns_at : {X : Type 0} (f : Form) (h : Holder) (before : List ℕ) (cs : Changes) (at : Ans (List ℕ)) (after : List ℕ) → turns f h before cs at ≡ ok after
    → ((tags : List ℕ) → at ≡ ok tags → turns f h before cs (ok tags) ≡ ok after → X) → X
unfolding turns
turns_at f h before cs (ok tags) after e k = k tags refl e
turns_at f h before [] (refused n p) after e k = never n p after e
turns_at f h before ((tag, c) ∷ cs) (refused n p) after e k = need_then _ _ _ _ e λ _ e₁. bind_then _ _ _ e₁ λ ts et _. never n p ts et

-- ---- the rules

pub rules_then : {X : Type 0} (h : Holder) (cs : Changes) (s : Sheet) (u : Unit {0}) → edit_rules h cs s ≡ ok u
    → ((tags : List ℕ) → tags_at h s.parts ≡ ok tags → Turned s.form h [] cs tags → ending s.form (level_of h) (keys_after cs tags) ≡ ok tt → X) → X
unfolding edit_rules
rules_then h cs s u e k =
    bind_then _ _ _ e λ after ea e₁.
    turns_at s.form h [] cs (tags_at h s.parts) after ea λ tags et e₂.
    let (t, z) = turns_say s.form h [] cs tags after e₂ in
    k tags et t (rw z e₁)

pub rules_asked : (h : Holder) (cs : Changes) (s : Sheet) (u : Unit {0}) → edit_rules h cs s ≡ ok u → All (Asks s.form (level_of h)) cs
rules_asked h cs s u e = rules_then h cs s u e λ tags et t en. t.asked

pub rules_give : (h : Holder) (cs : Changes) (s : Sheet) (tags : List ℕ) → tags_at h s.parts ≡ ok tags → Turned s.form h [] cs tags
    → ending s.form (level_of h) (keys_after cs tags) ≡ ok tt → edit_rules h cs s ≡ ok tt
unfolding edit_rules ◌>>=◌
rules_give h cs s tags et t en = rw (et, turns_give s.form h [] cs tags t) en
