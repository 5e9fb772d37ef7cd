-- Values: shortening keeps what a value says, and what its rule asks. Once over the width.
use mathlib.Core.Path.{◌≡◌, refl, sym}
use mathlib.Core.Logic.{◌⊎◌, inl, inr}
use Prim.Native.Nat.{ℕ, zero, suc, ◌-◌, ◌%◌, ◌≤◌, ◌<◌}
use native.Mathlib.Omega.{arith}
use native.Mathlib.Nat.{mod-one}
use mathlib.Core.Bool.{Bool, true, false, not, ◌&&◌, ◌||◌}
use mathlib.Core.List.{List, [], ◌∷◌}
use lib.ListN.{length, get_or}
use lib.Dec.{leb, eqb}
use borrow.Author.Tests.{leb-true, eqb-true, le-leb, eq-eqb, lt-ltb, ltb-true, not-true}
use Rattle.format.specs.Answer.{ok, ◌>>=◌, need}
use Rattle.format.specs.Coding.{Bytes, bytes_number, number}
use Rattle.format.specs.Lists.{none?, has}
use Rattle.format.specs.Table.{Form, Level, set, pack, Most, up_to, any, Rule, rules, find, rule_of, may_stand, may_begin, standing, is_number, within, sized, valued, item_rules, strip, short}
use Rattle.format.specs.Valid.{Valued}
use Rattle.format.specs.Demands.Demand2.{Shortest}
use Rattle.format.proofs.Words.Answers.{bind_then, need_then, need_last, no_bool, and_both}
use Rattle.format.proofs.Words.Shrinks.{Shrinks, shrinks_not}

-- ---- the rules for one item, as facts

pub valued_says : (l : Level) (tag : ℕ) (v : List ℕ) (u : Unit {0}) → valued (rule_of l tag) v ≡ ok u → Valued l tag v
unfolding valued
valued_says l tag v u e = need_then _ _ _ _ e λ p e₁. record { length_allowed = p; pixel_not_0 = need_last _ _ _ e₁ }

pub valued_gives : (l : Level) (tag : ℕ) (v : List ℕ) → Valued l tag v → valued (rule_of l tag) v ≡ ok tt
unfolding valued ◌>>=◌ need
valued_gives l tag v h = rw (h.length_allowed, h.pixel_not_0)

-- what 9, 13 and 14 ask
pub record Stands (l : Level) (f : Form) (seen : List ℕ) (tag : ℕ) (last : Bool) : Type 0 where
  pub new : has tag seen ≡ false
  pub may_stand : may_stand l f tag last ≡ true
  pub begins : may_begin l f tag seen ≡ true

pub standing_says : (l : Level) (f : Form) (seen : List ℕ) (tag : ℕ) (last : Bool) (u : Unit {0}) → standing l f seen tag last ≡ ok u → Stands l f seen tag last
unfolding standing
standing_says l f seen tag last u e =
    need_then _ _ _ _ e λ p e₁.
    need_then _ _ _ _ e₁ λ q e₂.
    record { new = not-true _ p; may_stand = q; begins = need_last _ _ _ e₂ }

pub standing_gives : (l : Level) (f : Form) (seen : List ℕ) (tag : ℕ) (last : Bool) → Stands l f seen tag last → standing l f seen tag last ≡ ok tt
unfolding standing ◌>>=◌ need
standing_gives l f seen tag last h = rw (h.new, h.may_stand, h.begins)

-- what the rules of an item ask
pub record Ruled (l : Level) (f : Form) (seen : List ℕ) (tag : ℕ) (last : Bool) (v : List ℕ) : Type 0 where
  pub not_empty : 0 < length v
  pub stands : Stands l f seen tag last
  pub valued : Valued l tag v

pub rules_say : (l : Level) (f : Form) (seen : List ℕ) (tag : ℕ) (last : Bool) (v : List ℕ) (u : Unit {0}) → item_rules l f seen tag last v ≡ ok u → Ruled l f seen tag last v
unfolding item_rules
rules_say l f seen tag last v u e =
    need_then _ _ _ _ e λ p e₁.
    bind_then _ _ _ e₁ λ u₁ e₂ e₃.
    record { not_empty = ltb-true 0 (length v) p; stands = standing_says l f seen tag last u₁ e₂; valued = valued_says l tag v u e₃ }

pub rules_give : (l : Level) (f : Form) (seen : List ℕ) (tag : ℕ) (last : Bool) (v : List ℕ) → Ruled l f seen tag last v → item_rules l f seen tag last v ≡ ok tt
unfolding item_rules ◌>>=◌ need
rules_give l f seen tag last v h =
    rw (lt-ltb 0 (length v) h.not_empty, standing_gives l f seen tag last h.stands, valued_gives l tag v h.valued)

-- ---- shortening, by the zeros taken off

module _ (P : List ℕ → List ℕ → Type 0) (base : P [] []) (stop : (b : ℕ) (s : List ℕ) → eqb b 0 && not (none? s) ≡ false → P (b ∷ s) (b ∷ s))
    (more : (c : ℕ) (s : List ℕ) → P (c ∷ s) (strip (c ∷ s)) → P (0 ∷ c ∷ s) (strip (c ∷ s))) where
  strip_case : (b : ℕ) (s : List ℕ) → P s (strip s) → (t : Bool) → eqb b 0 && not (none? s) ≡ t → P (b ∷ s) (strip (b ∷ s))
  unfolding strip
  strip_case b s ih false e = rw (e, strip) (stop b s e)
  strip_case b [] ih true e = no_bool (and_both (eqb b 0) false e).1
  strip_case b (c ∷ s) ih true e =
      let z : b ≡ 0 = eqb-true b 0 (and_both (eqb b 0) true e).0 in
      rw (e, strip) (rw z (more c s ih))

  strip_by : (v : List ℕ) → P v (strip v)
  unfolding strip
  strip_by [] = base
  strip_by (b ∷ s) = strip_case b s (strip_by s) (eqb b 0 && not (none? s)) refl

pub strip_number : (v : List ℕ) → bytes_number (strip v) ≡ bytes_number v
unfolding number
strip_number = strip_by (λ v w. bytes_number w ≡ bytes_number v) refl (λ b s e. refl) (λ c s ih. ih)

strip_shrinks : (v : List ℕ) → Shrinks (strip v) v
strip_shrinks =
    strip_by (λ v w. Shrinks w v) (shrinks_not []) (λ b s e. shrinks_not (b ∷ s))
    (λ c s ih. record { less = omega (arith, ih.less); same = λ e. absurd (omega (arith, ih.less, e)) })

strip_some : (v : List ℕ) → 0 < length v → 0 < length (strip v)
strip_some = strip_by (λ v w. 0 < length v → 0 < length w) (λ h. h) (λ b s e h. h) (λ c s ih h. ih (omega arith))

-- one byte is left, or the first is not 0
strip_first : (v : List ℕ) → 0 < length v → (length (strip v) ≡ 1) ⊎ (0 < get_or (strip v) 0 0)
strip_first = strip_by (λ v w. 0 < length v → (length w ≡ 1) ⊎ (0 < get_or w 0 0)) (λ h. absurd (omega arith)) first (λ c s ih h. ih (omega arith))
  where
    first : (b : ℕ) (s : List ℕ) → eqb b 0 && not (none? s) ≡ false → 0 < length (b ∷ s) → (length (b ∷ s) ≡ 1) ⊎ (0 < b)
    first zero [] e h = inl refl
    first zero (c ∷ s) e h = no_bool (sym e)
    first (suc b) s e h = inr (omega arith)

strip_twice : (v : List ℕ) → strip (strip v) ≡ strip v
unfolding strip
strip_twice = strip_by (λ v w. strip w ≡ w) refl (λ b s e. rw (e, strip)) (λ c s ih. ih)

strip_bytes : (v : List ℕ) → Bytes v → Bytes (strip v)
strip_bytes = strip_by (λ v w. Bytes v → Bytes w) (λ h. h) (λ b s e h. h) (λ c s ih h. ih (λ i. h (suc i)))

-- ---- the table's rule, by one computed test: a number's least length is 1, and every length up to the greatest is allowed

number_row : Rule → Bool
number_row r = not (is_number r.kind) || (eqb r.least 1 && eqb r.gap 1)

all_rows : List (ℕ × Rule) → Bool
all_rows [] = true
all_rows (e ∷ es) = number_row e.1 && all_rows es

find_row_lem : (es : List (ℕ × Rule)) (tag : ℕ) → all_rows es ≡ true → number_row (find es tag) ≡ true
unfolding all_rows find number_row
find_row_lem [] tag h = refl
find_row_lem (e ∷ es) tag h = go (find_row_lem es tag (and_both (number_row e.1) (all_rows es) h).1) (eqb e.0 tag) refl
  where
    go : number_row (find es tag) ≡ true → (b : Bool) → eqb e.0 tag ≡ b → number_row (find (e ∷ es) tag) ≡ true
    go ih true z = rw (z, find) (and_both (number_row e.1) (all_rows es) h).0
    go ih false z = rw (z, find) ih

rows_right : (l : Level) → all_rows (rules l) ≡ true
unfolding all_rows number_row rules
rows_right set = refl
rows_right pack = refl

number_rule : (l : Level) (tag : ℕ) → is_number (rule_of l tag).kind ≡ true → ((rule_of l tag).least ≡ 1) × ((rule_of l tag).gap ≡ 1)
unfolding rule_of number_row
number_rule l tag h =
    let e : number_row (rule_of l tag) ≡ true = find_row_lem (rules l) tag (rows_right l) in
    let (p, q) = and_both (eqb (rule_of l tag).least 1) (eqb (rule_of l tag).gap 1) (rw h at e) in
    (eqb-true _ _ p, eqb-true _ _ q)

-- ---- a value that its rule takes, it takes shortened

within_less : (m n : ℕ) (k : Most) → m ≤ n → within n k ≡ true → within m k ≡ true
within_less m n (up_to k) h e = le-leb m k (omega (arith, leb-true n k e))
within_less m n any h e = refl

sized_less : (r : Rule) (m n : ℕ) → r.least ≡ 1 → r.gap ≡ 1 → 0 < m → m ≤ n → sized r n ≡ true → sized r m ≡ true
unfolding sized
sized_less r m n a b p q h =
    let most : within n r.most ≡ true = (and_both (leb r.least n) (within n r.most) (and_both (leb r.least n && within n r.most) _ h).0).1 in
    let gap : (m - r.least) % r.gap ≡ 0 = rw b (mod-one (m - r.least)) in
    rw (le-leb r.least m (omega arith), within_less m n r.most q most, eq-eqb ((m - r.least) % r.gap) 0 gap)

-- by whether a rule's items are numbers
short_by : (P : List ℕ → Type 0) (r : Rule) (v : List ℕ) → (is_number r.kind ≡ true → P (strip v)) → (is_number r.kind ≡ false → P v) → P (short r v)
unfolding short
short_by P r v a b = go (is_number r.kind) refl
  where
    go : (t : Bool) → is_number r.kind ≡ t → P (short r v)
    go true e = rw (e, short) (a e)
    go false e = rw (e, short) (b e)

pub short_valued : (l : Level) (tag : ℕ) (v : List ℕ) → 0 < length v → Valued l tag v → Valued l tag (short (rule_of l tag) v)
short_valued l tag v p h =
    short_by (Valued l tag) (rule_of l tag) v
    (λ e.
    let (a, b) = number_rule l tag e in
    record {
      length_allowed = sized_less (rule_of l tag) (length (strip v)) (length v) a b (strip_some v p) (strip_shrinks v).less h.length_allowed;
      pixel_not_0 = rw (strip_number v) h.pixel_not_0;
    })
    (λ _. h)

pub short_twice : (r : Rule) (v : List ℕ) → short r (short r v) ≡ short r v
unfolding short
short_twice r v = short_by (λ w. short r w ≡ w) r v (λ e. rw (e, short) (strip_twice v)) (λ e. rw (e, short))

pub short_shrinks : (r : Rule) (v : List ℕ) → Shrinks (short r v) v
short_shrinks r v = short_by (λ w. Shrinks w v) r v (λ _. strip_shrinks v) (λ _. shrinks_not v)

pub short_size : (r : Rule) (v : List ℕ) → 0 < length v → (0 < length (short r v)) × (length (short r v) ≤ length v)
short_size r v h = (short_by (λ w. 0 < length w) r v (λ e. strip_some v h) (λ _. h), (short_shrinks r v).less)

pub short_bytes : (r : Rule) (v : List ℕ) → Bytes v → Bytes (short r v)
short_bytes r v h = short_by Bytes r v (λ e. strip_bytes v h) (λ _. h)

pub short_shortest : (r : Rule) (v : List ℕ) → is_number r.kind ≡ true → Bytes v → 0 < length v → Shortest (short r v)
unfolding short
short_shortest r v e h p = rw (e, short) (strip_bytes v h, strip_some v p, strip_first v p)

-- a number keeps its number, and all other values every byte
pub short_number : (r : Rule) (v : List ℕ) → bytes_number (short r v) ≡ bytes_number v
short_number r v = short_by (λ w. bytes_number w ≡ bytes_number v) r v (λ e. strip_number v) (λ _. refl)

pub short_keeps : (r : Rule) (v : List ℕ) → is_number r.kind ≡ false → short r v ≡ v
unfolding short
short_keeps r v e = rw (e, short)
