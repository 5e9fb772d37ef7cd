-- One item's tests, case by case, as the code makes them.
use mathlib.Core.Path.{◌≡◌, refl, sym, ap, ◌∙◌}
use Prim.Native.Nat.{ℕ, zero, suc, ◌+◌, ◌-◌, ◌*◌, ◌%◌, ◌≤◌, ◌<◌}
use native.Mathlib.Omega.{arith}
use native.Mathlib.Nat.{mod-one}
use native.Mathlib.Numerals.{add-one}
use mathlib.Core.Bool.{Bool, true, false, not, ◌&&◌, ◌||◌}
use mathlib.Core.List.{List, [], ◌∷◌}
use lib.ListN.{length, drop, get_or}
use lib.Seq.{drop-cons, drop-length}
use lib.Dec.{ltb, leb, eqb}
use borrow.Author.Tests.{lt-ltb, le-leb, lt-leb, eq-eqb, ne_eqb}
use Rattle.format.specs.Answer.{Ans, ok, refused, ◌>>=◌, need}
use Rattle.format.specs.Coding.{bytes_number, number}
use Rattle.format.specs.Lists.{has, none?}
use Rattle.format.specs.Table.{Form, is_alone, is_set, Level, Rule, may_stand, may_begin, standing, sized, valued, not_pixel, is_number, strip, short}
use Rattle.items.specs.declared.Rule as declared
use Rattle.items.specs.declared.Kind as code
use Rattle.items.specs.declared.Kind.TheVariants as kind
use Rattle.items.specs.Meet.{offsets, kind_by, most_from, gap_from, kind_number, rule_from, zeros}

-- ---- do-blocks that go on, or stop

module _ {A B : Type 0} where
  pub bind_so : (m : Ans A) (f : A → Ans B) (a : A) → m ≡ ok a → m >>= f ≡ f a
  unfolding ◌>>=◌
  bind_so m f a e = rw e

  pub bind_not : (m : Ans A) (f : A → Ans B) (n p : ℕ) → m ≡ refused n p → m >>= f ≡ refused n p
  unfolding ◌>>=◌
  bind_not m f n p e = rw e

module _ {B : Type 0} (b : Bool) (n : ℕ) (f : Unit {0} → Ans B) where
  pub need_so : b ≡ true → need b n >>= f ≡ f tt
  unfolding ◌>>=◌ need
  need_so e = rw e

  pub need_not : b ≡ false → need b n >>= f ≡ refused n 0
  unfolding ◌>>=◌ need
  need_not e = rw e

-- ---- 9, 13, 14

module _ (l : Level) (f : Form) (seen : List ℕ) (tag : ℕ) (last : Bool) where
  pub standing_9 : true ≡ has tag seen → refused 9 0 ≡ standing l f seen tag last
  unfolding standing
  standing_9 e = sym (need_not _ _ _ (ap not (sym e)))

  module _ (e : false ≡ has tag seen) where
    pub standing_13 : false ≡ may_stand l f tag last → refused 13 0 ≡ standing l f seen tag last
    unfolding standing
    standing_13 g = sym (need_so _ _ _ (ap not (sym e)) ∙ need_not _ _ _ (sym g))

    module _ (g : true ≡ may_stand l f tag last) (first : Bool) (n : first ≡ none? seen) where
      begins : (b : Bool) → b ≡ (not (is_set l) || not (is_alone f) || not first || eqb tag 2) → need b 14 ≡ standing l f seen tag last
      unfolding standing may_begin
      begins b q = sym (need_so _ _ _ (ap not (sym e)) ∙ need_so _ _ _ (sym g) ∙ rw (q, n))

      pub standing_14 : false ≡ (not (is_set l) || not (is_alone f) || not first || eqb tag 2) → refused 14 0 ≡ standing l f seen tag last
      unfolding need
      standing_14 q = begins false q

      pub standing_0 : true ≡ (not (is_set l) || not (is_alone f) || not first || eqb tag 2) → ok tt ≡ standing l f seen tag last
      unfolding need
      standing_0 q = begins true q

-- ---- the offset tags

pub offset_under : (tag : ℕ) → tag < 10 → false ≡ has tag offsets
unfolding has
offset_under tag h =
    rw (ne_eqb 10 tag (λ e. omega arith), ne_eqb 11 tag (λ e. omega arith), ne_eqb 13 tag (λ e. omega arith), ne_eqb 14 tag (λ e. omega arith), ne_eqb 15 tag (λ e. omega arith), ne_eqb 16 tag (λ e. omega arith))

pub offset_over : (tag : ℕ) → 16 < tag → false ≡ has tag offsets
unfolding has
offset_over tag h =
    rw (ne_eqb 10 tag (λ e. omega arith), ne_eqb 11 tag (λ e. omega arith), ne_eqb 13 tag (λ e. omega arith), ne_eqb 14 tag (λ e. omega arith), ne_eqb 15 tag (λ e. omega arith), ne_eqb 16 tag (λ e. omega arith))

offset_at : (k : ℕ) → k ≤ 6 → not (eqb (10 + k) 12) ≡ has (10 + k) offsets
unfolding has
offset_at zero h = refl
offset_at (suc zero) h = refl
offset_at (suc (suc zero)) h = refl
offset_at (suc (suc (suc zero))) h = refl
offset_at (suc (suc (suc (suc zero)))) h = refl
offset_at (suc (suc (suc (suc (suc zero))))) h = refl
offset_at (suc (suc (suc (suc (suc (suc zero)))))) h = refl
offset_at (suc (suc (suc (suc (suc (suc (suc k))))))) h = absurd (omega arith)

pub offset_some : (tag : ℕ) → 10 ≤ tag → tag ≤ 16 → not (eqb tag 12) ≡ has tag offsets
offset_some tag h g =
    let e : 10 + (tag - 10) ≡ tag = omega arith in
    rw e at (offset_at (tag - 10) (omega arith))

-- ---- zeros at the start

-- the zeros that are counted, and those still to be
abbrev pub ZerosLeft : List ℕ → ℕ → Type 0
ZerosLeft v i = (i ≤ length v) × (zeros v ≡ i + zeros (drop i v))

module _ (v : List ℕ) (i : ℕ) (l : ZerosLeft v i) where
  pub zero_found : i < length v → (get_or v i 0 ≡ 0 → ⊥) → i ≡ zeros v
  unfolding zeros
  zero_found h g = sym (l.1 ∙ rw (drop-cons v i 0 h) (by (get_or v i 0) g))
    where
      by : (b : ℕ) → (b ≡ 0 → ⊥) → i + zeros (b ∷ drop (suc i) v) ≡ i
      by zero g = absurd (g refl)
      by (suc b) g = omega arith

  pub zero_more : i < length v → get_or v i 0 ≡ 0 → ZerosLeft v (i + 1)
  unfolding zeros
  zero_more h g =
      let e : zeros (drop i v) ≡ suc (zeros (drop (suc i) v)) = rw (drop-cons v i 0 h, g) in
      (omega arith, rw add-one (omega (arith, l.1)))

  pub zero_done : length v ≤ i → i ≡ zeros v
  unfolding zeros
  zero_done h =
      let e : i ≡ length v = omega arith in
      sym (l.1 ∙ rw (e, drop-length) (omega arith))

number_pos : (acc : ℕ) (s : List ℕ) → 0 < acc → 0 < number 256 0 acc s
unfolding number
number_pos acc [] h = h
number_pos acc (b ∷ s) h = number_pos (acc * 256 + (b - 0)) s (omega arith)

pub zeros_some : (s : List ℕ) → (zeros s ≡ length s → ⊥) → 0 < bytes_number s
unfolding number zeros
zeros_some [] h = absurd (h refl)
zeros_some (zero ∷ s) h = zeros_some s (λ e. h (ap suc e))
zeros_some (suc b ∷ s) h = number_pos (0 * 256 + (suc b - 0)) s (omega arith)

pub first_some : (s : List ℕ) → 0 < length s → (get_or s 0 0 ≡ 0 → ⊥) → 0 < bytes_number s
unfolding zeros
first_some [] h g = absurd (omega arith)
first_some (zero ∷ s) h g = absurd (g refl)
first_some (suc b ∷ s) h g = zeros_some (suc b ∷ s) (λ e. omega arith)

zeros_all : (s : List ℕ) → zeros s ≡ length s → bytes_number s ≡ 0
unfolding number zeros
zeros_all [] h = refl
zeros_all (zero ∷ s) h = zeros_all s (omega arith)
zeros_all (suc b ∷ s) h = absurd (omega arith)

-- ---- the kinds, as numbers

pub unlisted_alone : (k : code.Kind) → kind_number k ≡ 0 → k ≡ kind.Unlisted
unlisted_alone kind.Unlisted e = refl
unlisted_alone kind.Bytes e = absurd (omega (arith, e))
unlisted_alone kind.Number e = absurd (omega (arith, e))
unlisted_alone kind.Pixel e = absurd (omega (arith, e))
unlisted_alone kind.Location e = absurd (omega (arith, e))

pub location_alone : (k : code.Kind) → kind_number k ≡ 4 → k ≡ kind.Location
location_alone kind.Unlisted e = absurd (omega (arith, e))
location_alone kind.Bytes e = absurd (omega (arith, e))
location_alone kind.Number e = absurd (omega (arith, e))
location_alone kind.Pixel e = absurd (omega (arith, e))
location_alone kind.Location e = refl

pub pixel_alone : (k : code.Kind) → kind_number k ≡ 3 → k ≡ kind.Pixel
pixel_alone kind.Unlisted e = absurd (omega (arith, e))
pixel_alone kind.Bytes e = absurd (omega (arith, e))
pixel_alone kind.Number e = absurd (omega (arith, e))
pixel_alone kind.Pixel e = refl
pixel_alone kind.Location e = absurd (omega (arith, e))

pub listed_kind : (k : code.Kind) → kind_number k ≡ 4 → kind_number k ≡ 0 → ⊥
listed_kind k e z = omega (arith, e, z)

-- ---- 11: by the kind

and_so : (b : Bool) → (b && true) ≡ b
and_so true = refl
and_so false = refl

module _ (r : declared.Rule) (n : ℕ) where
  pub sized_under : n < r.least → false ≡ sized (rule_from r) n
  unfolding sized
  sized_under g = rw (lt-leb r.least n g)

  module _ (g : r.least ≤ n) where
    -- however many
    pub sized_any : kind_number r.kind ≡ 0 → true ≡ sized (rule_from r) n
    unfolding sized
    sized_any e = rw (le-leb r.least n g, e, eq-eqb ((n - r.least) % 1) 0 (mod-one (n - r.least)))

    module _ (h : kind_number r.kind ≡ 0 → ⊥) where
      listed : sized (rule_from r) n ≡ (leb n r.most && eqb ((n - r.least) % gap_from (kind_number r.kind)) 0)
      unfolding sized
      listed = rw (le-leb r.least n g, ne_eqb (kind_number r.kind) 0 h, most_from)

      pub sized_over : r.most < n → false ≡ sized (rule_from r) n
      sized_over q = sym (listed ∙ rw (lt-leb n r.most q))

      pub sized_six : n ≤ r.most → kind_number r.kind ≡ 4 → eqb ((n - r.least) % 6) 0 ≡ sized (rule_from r) n
      sized_six q z = sym (listed ∙ rw (le-leb n r.most q, z))

      pub sized_plain : (kind_number r.kind ≡ 4 → ⊥) → leb n r.most ≡ sized (rule_from r) n
      sized_plain z = sym (listed ∙ rw (ne_eqb (kind_number r.kind) 4 z, gap_from, eq-eqb ((n - r.least) % 1) 0 (mod-one (n - r.least))) (and_so (leb n r.most)))

-- ---- 12

pub number_kind : (k : ℕ) → k ≡ 2 → true ≡ is_number (kind_by (eqb k 2) (eqb k 3))
number_kind k e = rw e

pub pixel_kind : (k : ℕ) → (k ≡ 2 → ⊥) → eqb k 3 ≡ is_number (kind_by (eqb k 2) (eqb k 3))
pixel_kind k h = rw (ne_eqb k 2 h) (go (eqb k 3))
  where
    go : (x : Bool) → x ≡ is_number (kind_by false x)
    go true = refl
    go false = refl

kind_other : (k : ℕ) → (k ≡ 3 → ⊥) → not_pixel (kind_by (eqb k 2) (eqb k 3)) ≡ true
kind_other k h = rw (ne_eqb k 3 h) (go (eqb k 2))
  where
    go : (x : Bool) → not_pixel (kind_by x false) ≡ true
    go true = refl
    go false = refl

module _ (r : declared.Rule) (v : List ℕ) where
  pub valued_11 : false ≡ sized (rule_from r) (length v) → refused 11 0 ≡ valued (rule_from r) v
  unfolding valued
  valued_11 q = sym (need_not _ _ _ (sym q))

  module _ (q : true ≡ sized (rule_from r) (length v)) where
    whole : need (not_pixel (rule_from r).kind || ltb 0 (bytes_number v)) 12 ≡ valued (rule_from r) v
    unfolding valued
    whole = sym (need_so _ _ _ (sym q))

    pixel : kind_number r.kind ≡ 3 → need (ltb 0 (bytes_number v)) 12 ≡ valued (rule_from r) v
    pixel k = ap (λ x. need (not_pixel (kind_by (eqb x 2) (eqb x 3)) || ltb 0 (bytes_number v)) 12) (sym k) ∙ whole

    pub valued_12 : kind_number r.kind ≡ 3 → (z : ℕ) → z ≡ zeros v → z ≡ length v → refused 12 0 ≡ valued (rule_from r) v
    unfolding need
    valued_12 k z ez h = rw (zeros_all v (sym ez ∙ h)) at (pixel k)

    pub valued_some : kind_number r.kind ≡ 3 → (z : ℕ) → z ≡ zeros v → (z ≡ length v → ⊥) → ok tt ≡ valued (rule_from r) v
    unfolding need
    valued_some k z ez h = rw (lt-ltb 0 (bytes_number v) (zeros_some v (λ x. h (ez ∙ x)))) at (pixel k)

    pub valued_0 : (kind_number r.kind ≡ 3 → ⊥) → ok tt ≡ valued (rule_from r) v
    unfolding need
    valued_0 k = rw (kind_other (kind_number r.kind) k) at whole

-- ---- the shortest form

strip_length : (v : List ℕ) → zeros v < length v → length (strip v) ≡ length v - zeros v
unfolding strip zeros
strip_length [] h = absurd (omega arith)
strip_length (suc b ∷ s) h = rw (ne_eqb (suc b) 0 (λ e. omega arith), strip) (omega arith)
strip_length (zero ∷ []) h = absurd (omega arith)
strip_length (zero ∷ b ∷ s) h = strip_length (b ∷ s) (omega arith) ∙ omega arith

strip_one : (v : List ℕ) → 0 < length v → length v ≤ zeros v → length (strip v) ≡ 1
unfolding strip zeros
strip_one [] g h = absurd (omega arith)
strip_one (suc b ∷ s) g h = absurd (omega arith)
strip_one (zero ∷ []) g h = refl
strip_one (zero ∷ b ∷ s) g h = strip_one (b ∷ s) (omega arith) (omega arith)

strip_first : (v : List ℕ) → 0 < length v → (get_or v 0 0 ≡ 0 → ⊥) → strip v ≡ v
unfolding strip
strip_first [] h g = absurd (omega arith)
strip_first (x ∷ s) h g = rw (ne_eqb x 0 g, strip)

module _ (r : Rule) (v : List ℕ) where
  -- whatever the rule
  pub short_first : 0 < length v → (get_or v 0 0 ≡ 0 → ⊥) → short r v ≡ v
  unfolding short
  short_first h g = go (is_number r.kind)
    where
      go : (b : Bool) → elim b [ true ↦ strip v | false ↦ v ] ≡ v
      go true = strip_first v h g
      go false = refl

  pub short_whole : false ≡ is_number r.kind → length v ≡ length (short r v)
  unfolding short
  short_whole e = rw (← e, short)

  module _ (e : true ≡ is_number r.kind) (z : ℕ) (ez : z ≡ zeros v) where
    stripped : short r v ≡ strip v
    unfolding short
    stripped = rw (← e, short)

    pub short_some : z < length v → length v - z ≡ length (short r v)
    short_some q = sym (ap length stripped ∙ strip_length v (omega arith) ∙ rw ez)

    pub short_none : 0 < length v → length v ≤ z → 1 ≡ length (short r v)
    short_none p q = sym (ap length stripped ∙ strip_one v p (omega arith))
