-- The value of the cell with an item's target number and tag is the item's value in the tree.
use mathlib.Core.Path.{◌≡◌, refl, sym, ap, ◌∙◌}
use Prim.Native.Nat.{ℕ, suc, ◌≤◌, ◌<◌}
use native.Mathlib.Omega.{arith}
use mathlib.Core.Bool.{Bool, true, false, not, ◌&&◌}
use mathlib.Core.List.{List, [], ◌∷◌, ◌++◌, append_assoc, map}
use lib.ListN.{length}
use lib.Dec.{ltb, eqb}
use borrow.Author.Tests.{ltb-true, eq-eqb, ne_eqb, not-true}
use Rattle.format.specs.Answer.{Ans, ok, refused}
use Rattle.format.specs.Coding.{oid_bytes}
use Rattle.format.specs.Lists.{has, flat_all, ask_hit}
use Rattle.format.specs.Table.{is_set}
use Rattle.format.specs.Packet.{Item, Pack, Entry, plain, series, tag_of_entry, flat_pack, pack_body}
use Rattle.format.specs.Edit.{Holder, the_set, target, level_of, is_series}
use Rattle.format.specs.Show.{number_in, series_number, number_of, showable}
use Rattle.format.specs.Valid.{All, Once}
use Rattle.format.specs.Demands.Rows.{Cell, cell, item_cell, pack_cells, entry_cells}
use Rattle.format.specs.Demands.Shows.{item_value, entry_value, pack_value, value_in}
use Rattle.format.proofs.Words.Answers.{never, no_bool, ok_inj, and_both}
use Rattle.format.proofs.Words.Keys.{flip, has_none}

-- ---- a value by the target and tag of its cell

abbrev pub hit_cell : ℕ → ℕ → Cell → Bool
hit_cell k t c = eqb c.target k && eqb c.tag t

unfoldable pub value_for : ℕ → ℕ → List Cell → Ans (List ℕ)
value_for k t cs = ask_hit (hit_cell k t) (λ c. ok c.value) cs

other : (k t : ℕ) (c : Cell) (cs : List Cell) → hit_cell k t c ≡ false → value_for k t (c ∷ cs) ≡ value_for k t cs
unfolding value_for ask_hit
other k t c cs z = rw (z, ask_hit)

past_target : (k t : ℕ) (c : Cell) (cs : List Cell) → eqb c.target k ≡ false → value_for k t (c ∷ cs) ≡ value_for k t cs
past_target k t c cs z = other k t c cs (rw z)

skip_items : (n k t : ℕ) (is : List Item) (cs : List Cell) → eqb n k ≡ false → value_for k t (map (item_cell n) is ++ cs) ≡ value_for k t cs
skip_items n k t [] cs z = refl
skip_items n k t (i ∷ is) cs z = past_target k t (item_cell n i) (map (item_cell n) is ++ cs) z ∙ skip_items n k t is cs z

-- past a pack's own cell, its items' cells and the rest
past_pack : (n k t : ℕ) (p : Pack) (ps : List Pack) (cs : List Cell) → eqb n k && eqb 0 t ≡ false
    → value_for k t (pack_cells n (p ∷ ps) ++ cs) ≡ value_for k t (map (item_cell n) p.items ++ (pack_cells (suc n) ps ++ cs))
unfolding pack_cells
past_pack n k t p ps cs z =
    other k t (cell n 0 [] p.width (pack_body p) (length (oid_bytes p.id))) ((map (item_cell n) p.items ++ pack_cells (suc n) ps) ++ cs) z
    ∙ ap (value_for k t) (append_assoc (map (item_cell n) p.items) (pack_cells (suc n) ps) cs)

skip_packs : (n k t : ℕ) (ps : List Pack) (cs : List Cell) → k < n → value_for k t (pack_cells n ps ++ cs) ≡ value_for k t cs
skip_packs n k t [] cs l = unfold pack_cells in refl
skip_packs n k t (p ∷ ps) cs l =
    let z : eqb n k ≡ false = ne_eqb n k λ e. omega arith in
    past_pack n k t p ps cs (rw z) ∙ skip_items n k t p.items (pack_cells (suc n) ps ++ cs) z ∙ skip_packs (suc n) k t ps cs (omega arith)

items_value : (k t : ℕ) (is : List Item) (cs : List Cell) → value_for k t cs ≡ refused 18 0 → value_for k t (map (item_cell k) is ++ cs) ≡ item_value t is
unfolding item_value value_for ask_hit
items_value k t [] cs e = e
items_value k t (i ∷ is) cs e = go (items_value k t is cs e) (eqb i.tag t) refl
  where
    go : value_for k t (map (item_cell k) is ++ cs) ≡ item_value t is → (b : Bool) → eqb i.tag t ≡ b → value_for k t (map (item_cell k) (i ∷ is) ++ cs) ≡ item_value t (i ∷ is)
    go ih true z = rw (eq-eqb k k refl, z, ask_hit)
    go ih false z = rw (eq-eqb k k refl, z, ask_hit) ih

number_low : (i n : ℕ) (ps : List Pack) (k : ℕ) → number_in i n ps ≡ ok k → n ≤ k
unfolding number_in
number_low i n [] k e = never 18 0 k e
number_low i n (p ∷ ps) k e = go (number_low i (suc n) ps k) (eqb p.id i) refl
  where
    go : (number_in i (suc n) ps ≡ ok k → suc n ≤ k) → (b : Bool) → eqb p.id i ≡ b → n ≤ k
    go ih true z = let e' : n ≡ k = ok_inj n k (rw (z, number_in) at e) in omega arith
    go ih false z = let l = ih (rw (z, number_in) at e) in omega arith

packs_value : (i n k t : ℕ) (ps : List Pack) (cs : List Cell) → 0 < t → number_in i n ps ≡ ok k → value_for k t cs ≡ refused 18 0
    → value_for k t (pack_cells n ps ++ cs) ≡ ask_hit (λ p. eqb p.id i) (λ p. item_value t p.items) ps
unfolding number_in ask_hit
packs_value i n k t [] cs pos e h = never 18 0 k e
packs_value i n k t (p ∷ ps) cs pos e h = go (λ e'. packs_value i (suc n) k t ps cs pos e' h) (eqb p.id i) refl
  where
    rest : List Cell
    rest = pack_cells (suc n) ps ++ cs

    zero_tag : (b : Bool) → b && eqb 0 t ≡ false
    zero_tag true = ne_eqb 0 t λ x. omega arith
    zero_tag false = refl

    past : value_for k t (pack_cells n (p ∷ ps) ++ cs) ≡ value_for k t (map (item_cell n) p.items ++ rest)
    past = past_pack n k t p ps cs (zero_tag (eqb n k))

    own : n ≡ k → value_for k t (map (item_cell n) p.items ++ rest) ≡ item_value t p.items
    own z = rw z (items_value k t p.items (pack_cells (suc k) ps ++ cs) (skip_packs (suc k) k t ps cs (omega arith) ∙ h))

    go : (number_in i (suc n) ps ≡ ok k → value_for k t rest ≡ ask_hit (λ p. eqb p.id i) (λ p. item_value t p.items) ps) → (b : Bool) → eqb p.id i ≡ b
        → value_for k t (pack_cells n (p ∷ ps) ++ cs) ≡ ask_hit (λ p. eqb p.id i) (λ p. item_value t p.items) (p ∷ ps)
    go ih true z = past ∙ own (ok_inj n k (rw (z, number_in) at e)) ∙ rw (z, ask_hit)
    go ih false z =
        let e' : number_in i (suc n) ps ≡ ok k = rw (z, number_in) at e in
        let m : eqb n k ≡ false = ne_eqb n k λ x. omega (arith, number_low i (suc n) ps k e') in
        past ∙ skip_items n k t p.items rest m ∙ ih e' ∙ rw (z, ask_hit)

packs_none : {A : Type 0} (i n m a : ℕ) (g : Pack → Ans A) (ps : List Pack) → number_in i n ps ≡ refused m a → ask_hit (λ p. eqb p.id i) g ps ≡ refused 18 0
unfolding number_in ask_hit
packs_none i n m a g [] e = refl
packs_none i n m a g (p ∷ ps) e = go (packs_none i (suc n) m a g ps) (eqb p.id i) refl
  where
    go : (number_in i (suc n) ps ≡ refused m a → ask_hit (λ p. eqb p.id i) g ps ≡ refused 18 0) → (b : Bool) → eqb p.id i ≡ b → ask_hit (λ p. eqb p.id i) g (p ∷ ps) ≡ refused 18 0
    go ih true z = never m a n (sym (rw (z, number_in) at e))
    go ih false z = rw (z, ask_hit) (ih (rw (z, number_in) at e))

-- ---- the entries

zero_not : (k : ℕ) → 0 < k → eqb 0 k ≡ false
zero_not k l = ne_eqb 0 k λ z. omega arith

set_value : (t : ℕ) (es : List Entry) → eqb t 101 ≡ false → value_for 0 t (entry_cells es) ≡ ask_hit (λ e. eqb (tag_of_entry e) t) entry_value es
unfolding entry_cells ask_hit entry_value
set_value t [] n = unfold value_for in refl
set_value t (plain i ∷ es) n = go (set_value t es n) (eqb i.tag t) refl
  where
    go : value_for 0 t (entry_cells es) ≡ ask_hit (λ e. eqb (tag_of_entry e) t) entry_value es → (b : Bool) → eqb i.tag t ≡ b
        → value_for 0 t (item_cell 0 i ∷ entry_cells es) ≡ ask_hit (λ e. eqb (tag_of_entry e) t) entry_value (plain i ∷ es)
    go ih true z = unfold value_for in (rw (z, ask_hit))
    go ih false z = other 0 t (item_cell 0 i) (entry_cells es) z ∙ ih ∙ rw (z, ask_hit)
set_value t (series w ps ∷ es) n =
    let z : eqb 101 t ≡ false = flip t 101 n in
    other 0 t (cell 0 101 (oid_bytes 101) w (flat_all flat_pack ps) 0) (pack_cells 1 ps ++ entry_cells es) z
    ∙ skip_packs 1 0 t ps (entry_cells es) (omega arith)
    ∙ set_value t es n
    ∙ rw (z, ask_hit)

series_pos : (i k : ℕ) (es : List Entry) → ask_hit is_series (series_number i) es ≡ ok k → 0 < k
unfolding ask_hit series_number
series_pos i k [] e = never 18 0 k e
series_pos i k (plain x ∷ es) e = series_pos i k es e
series_pos i k (series w ps ∷ es) e = number_low i 1 ps k e

-- after the series there is no other
abbrev pub NoSeries : List Entry → Type 0
NoSeries es = All (λ e. is_series e ≡ false) es

abbrev pub OneSeries : List Entry → Type 0
OneSeries [] = Unit {0}
OneSeries (plain i ∷ es) = OneSeries es
OneSeries (series w ps ∷ es) = NoSeries es

pub no_series : (es : List Entry) → has 101 (map tag_of_entry es) ≡ false → NoSeries es
no_series [] h = tt
no_series (plain i ∷ es) h = (refl, no_series es (has_none i.tag 101 (map tag_of_entry es) h).1)
no_series (series w ps ∷ es) h = no_bool (sym (has_none 101 101 (map tag_of_entry es) h).0)

pub one_series : (es : List Entry) → Once (map tag_of_entry es) → OneSeries es
one_series [] h = tt
one_series (plain i ∷ es) h = one_series es h.1
one_series (series w ps ∷ es) h = no_series es h.0

no_snoc : (es : List Entry) (i : Item) → NoSeries es → NoSeries (es ++ (plain i ∷ []))
no_snoc [] i h = (refl, tt)
no_snoc (e ∷ es) i h = (h.0, no_snoc es i h.1)

pub one_snoc : (es : List Entry) (i : Item) → OneSeries es → OneSeries (es ++ (plain i ∷ []))
one_snoc [] i h = tt
one_snoc (plain x ∷ es) i h = one_snoc es i h
one_snoc (series w ps ∷ es) i h = no_snoc es i h

tail_none : (k t : ℕ) (es : List Entry) → 0 < k → NoSeries es → value_for k t (entry_cells es) ≡ refused 18 0
unfolding entry_cells
tail_none k t [] l h = unfold value_for ask_hit in refl
tail_none k t (plain i ∷ es) l h = past_target k t (item_cell 0 i) (entry_cells es) (zero_not k l) ∙ tail_none k t es l h.1
tail_none k t (series w ps ∷ es) l h = no_bool (sym h.0)

target_value : (i k t : ℕ) (es : List Entry) → 0 < t → OneSeries es → ask_hit is_series (series_number i) es ≡ ok k → value_for k t (entry_cells es) ≡ ask_hit is_series (pack_value i t) es
unfolding entry_cells ask_hit series_number pack_value
target_value i k t [] pos h e = never 18 0 k e
target_value i k t (plain x ∷ es) pos h e = past_target k t (item_cell 0 x) (entry_cells es) (zero_not k (series_pos i k es e)) ∙ target_value i k t es pos h e
target_value i k t (series w ps ∷ es) pos h e =
    let l : 0 < k = number_low i 1 ps k e in
    past_target k t (cell 0 101 (oid_bytes 101) w (flat_all flat_pack ps) 0) (pack_cells 1 ps ++ entry_cells es) (zero_not k l)
    ∙ packs_value i 1 k t ps (entry_cells es) pos e (tail_none k t es l h)

target_none : (i m a t : ℕ) (es : List Entry) → ask_hit is_series (series_number i) es ≡ refused m a → ask_hit is_series (pack_value i t) es ≡ refused 18 0
unfolding ask_hit series_number pack_value
target_none i m a t [] e = refl
target_none i m a t (plain x ∷ es) e = target_none i m a t es e
target_none i m a t (series w ps ∷ es) e = packs_none i 1 m a (λ p. item_value t p.items) ps e

showable_says : (h : Holder) (t : ℕ) → showable h t ≡ true → (0 < t) × (is_set (level_of h) && eqb t 101 ≡ false)
unfolding showable
showable_says h t e = let (a, b) = and_both (ltb 0 t) (not (is_set (level_of h) && eqb t 101)) e in (ltb-true 0 t a, not-true _ b)

pub holder_value : (h : Holder) (k t : ℕ) (es : List Entry) → showable h t ≡ true → OneSeries es → number_of h es ≡ ok k → value_for k t (entry_cells es) ≡ value_in h t es
unfolding number_of value_in
holder_value the_set k t es n o e = rw (← ok_inj 0 k e) (set_value t es (showable_says the_set t n).1)
holder_value (target i) k t es n o e = target_value i k t es (showable_says (target i) t n).0 o e

pub holder_none : (h : Holder) (m a t : ℕ) (es : List Entry) → number_of h es ≡ refused m a → value_in h t es ≡ refused 18 0
unfolding number_of value_in
holder_none the_set m a t es e = never m a 0 (sym e)
holder_none (target i) m a t es e = target_none i m a t es e

ask_snoc : {A : Type 0} (g : Entry → Ans A) (es : List Entry) (x : Item) → ask_hit is_series g (es ++ (plain x ∷ [])) ≡ ask_hit is_series g es
unfolding ask_hit
ask_snoc g [] x = refl
ask_snoc g (plain i ∷ es) x = ask_snoc g es x
ask_snoc g (series w ps ∷ es) x = refl

-- an item more at the end numbers no target anew
pub number_snoc : (h : Holder) (es : List Entry) (x : Item) → number_of h (es ++ (plain x ∷ [])) ≡ number_of h es
unfolding number_of
number_snoc the_set es x = refl
number_snoc (target i) es x = ask_snoc (series_number i) es x
