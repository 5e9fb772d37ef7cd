-- The value of an item that a valid packet has: the item may be shown, and the value is not empty.
use mathlib.Core.Path.{◌≡◌, refl}
use Prim.Native.Nat.{ℕ, ◌<◌}
use native.Mathlib.Omega.{arith}
use mathlib.Core.Bool.{Bool, true, false, not, ◌&&◌}
use mathlib.Core.List.{List, [], ◌∷◌}
use lib.ListN.{length}
use lib.Dec.{ltb, eqb}
use borrow.Author.Tests.{eqb-true, lt-ltb}
use Rattle.format.specs.Answer.{Ans, ok}
use Rattle.format.specs.Lists.{ask_hit}
use Rattle.format.specs.Table.{Form, embedded, standalone, Level, set, pack, is_set, nameable}
use Rattle.format.specs.Packet.{Item, Pack, Entry, plain, series, Packet, tag_of_entry}
use Rattle.format.specs.Rows.{seal_item, sealed}
use Rattle.format.specs.Edit.{Holder, the_set, target, level_of, is_series}
use Rattle.format.specs.Show.{showable}
use Rattle.format.specs.Valid.{All, Framed, ItemValid, PackValid, EntryValid, Valid}
use Rattle.format.specs.Demands.Shows.{item_value, entry_value, pack_value, value_in, value_of}
use Rattle.format.proofs.Words.Answers.{never, ok_inj}
use Rattle.format.proofs.Words.Keys.{all_map, all_both}
use Rattle.format.proofs.Coding.Digits.{length_fixed}
use Rattle.format.proofs.Table.Tags.{nameable_low, nameable_set}

-- what the first hit answers, where each is as P says
ask_then : {X A R : Type 0} (hit : X → Bool) (g : X → Ans A) (P : X → Type 0) (xs : List X) (a : A) → All P xs → ask_hit hit g xs ≡ ok a
    → ((x : X) → hit x ≡ true → P x → g x ≡ ok a → R) → R
unfolding ask_hit
ask_then hit g P [] a h e k = never 18 0 a e
ask_then {R = R} hit g P (x ∷ xs) a h e k = go (λ z. ask_then hit g P xs a h.1 z k) (hit x) refl
  where
    go : (ask_hit hit g xs ≡ ok a → R) → (b : Bool) → hit x ≡ b → R
    go ih true z = k x z h.0 (rw (z, ask_hit) at e)
    go ih false z = ih (rw (z, ask_hit) at e)

-- ---- what each item is

abbrev Fit : Level → ℕ → List ℕ → Type 0
Fit l tag v = (ltb 0 tag && not (is_set l && eqb tag 101) ≡ true) × (0 < length v)

abbrev FitItem : Level → Item → Type 0
FitItem l i = Fit l i.tag i.value

abbrev FitPack : Pack → Type 0
FitPack p = All (FitItem pack) p.items

abbrev FitEntry : Entry → Type 0
FitEntry (plain i) = FitItem set i
FitEntry (series w ps) = All FitPack ps

may_show : (l : Level) (tag : ℕ) → nameable l tag ≡ true → ltb 0 tag && not (is_set l && eqb tag 101) ≡ true
may_show set tag h = rw (lt-ltb 0 tag (nameable_low set tag h), (nameable_set tag h).1)
may_show pack tag h = rw (lt-ltb 0 tag (nameable_low pack tag h))

item_fit : (l : Level) (f : Form) (i : Item) → ItemValid l f i → FitItem l i
item_fit l f i h = (may_show l i.tag h.meets.named, h.meets.not_empty)

entry_fit : (f : Form) (e : Entry) → EntryValid f e → FitEntry e
entry_fit f (plain i) h = item_fit set f i h
entry_fit f (series w ps) h = all_map (PackValid f) FitPack (λ p k. all_map (ItemValid pack f) (FitItem pack) (item_fit pack f) p.items k.items_valid.each) ps h.packs_valid.each

sealed_fit : (f : Form) (w : ℕ) (b : List ℕ) (es : List Entry) (c : List ℕ) → All FitEntry es → Framed f w b c → All FitEntry (sealed f es c)
unfolding sealed seal_item
sealed_fit embedded w b es c h g = h
sealed_fit standalone w b es c h g = all_both FitEntry es (plain (seal_item c) ∷ []) h ((refl, rw (g.1, length_fixed) (omega arith)), tt)

-- ---- what is found

items_fit : (tag : ℕ) (is : List Item) (v : List ℕ) → All (FitItem pack) is → item_value tag is ≡ ok v → Fit pack tag v
unfolding item_value
items_fit tag is v h e = ask_then _ _ (FitItem pack) is v h e λ i t k z. rw (← eqb-true i.tag tag t, ← ok_inj i.value v z) k

in_fit : (h : Holder) (tag : ℕ) (es : List Entry) (v : List ℕ) → All FitEntry es → value_in h tag es ≡ ok v → Fit (level_of h) tag v
unfolding value_in
in_fit the_set tag es v k e = ask_then _ entry_value FitEntry es v k e go
  where
    go : (x : Entry) → eqb (tag_of_entry x) tag ≡ true → FitEntry x → entry_value x ≡ ok v → Fit set tag v
    go (plain i) t s z = rw (← eqb-true i.tag tag t, ← ok_inj i.value v (unfold entry_value in z)) s
    go (series w ps) t s z = never 18 0 v (unfold entry_value in z)
in_fit (target id) tag es v k e = ask_then _ (pack_value id tag) FitEntry es v k e go
  where
    go : (x : Entry) → is_series x ≡ true → FitEntry x → pack_value id tag x ≡ ok v → Fit pack tag v
    go (plain i) t s z = never 18 0 v (unfold pack_value in z)
    go (series w ps) t s z =
        let y : ask_hit (λ p. eqb p.id id) (λ p. item_value tag p.items) ps ≡ ok v = unfold pack_value in z in
        ask_then _ _ FitPack ps v s y λ p _ m q. items_fit tag p.items v m q

pub value_fit : (p : Packet) (h : Holder) (tag : ℕ) (v : List ℕ) → Valid p → value_of h tag p ≡ ok v → (showable h tag ≡ true) × (0 < length v)
unfolding value_of showable
value_fit p h tag v k e =
    in_fit h tag (sealed p.form p.entries p.sum) v
    (sealed_fit p.form p.width _ p.entries p.sum (all_map (EntryValid p.form) FitEntry (entry_fit p.form) p.entries k.entries_valid.each) k.framed) e
