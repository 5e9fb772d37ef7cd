-- The quick way's turns: an item told at a glance is written as the item walk writes it.
use mathlib.Core.Path.{◌≡◌, refl, sym, ap, ◌∙◌}
use Prim.Native.Nat.{ℕ, ◌+◌, ◌-◌, ◌≤◌, ◌<◌}
use native.Mathlib.Omega.{arith}
use mathlib.Core.Bool.{Bool, true, false, not, ◌&&◌}
use mathlib.Core.List.{List, [], ◌∷◌}
use lib.ListN.{length, take, drop, get_or, length-drop}
use lib.Seq.{get_or-drop, get_or-take}
use lib.Dec.{eqb, leb, ltb}
use borrow.Author.Tests.{ne_eqb, ltb-true, ltb-false, leb-true, leb-false}
use Rattle.format.specs.Answer.{ok, refused, got, ◌>>=◌, need}
use Rattle.format.specs.Coding.{Bytes, tag_of, oid, oid_go, len_of}
use Rattle.format.specs.Lists.{none?}
use Rattle.format.specs.Table.{Form, Rule, pack, rule_of, is_number, strip, short}
use Rattle.format.specs.Read.{head_of}
use Rattle.std.proofs.Common.{Err, Fits, w8}
use Rattle.coding.specs.declared.refusals.Refusal.{Refusal}
use Rattle.coding.specs.declared.refusals.Refusal.TheVariants.{BadTag, PastEnd}
use Rattle.coding.proofs.Lens.{len_small}
use Rattle.coding.proofs.Oid.{tag_one}
use Rattle.coding.proofs.Rooms.{tail_part}
use Rattle.heads.specs.Meet.{head, item_head_of}
use Rattle.heads.proofs.Heads.{mid_part, item_head_tag, item_head_over, item_head_short}
use Rattle.stores.proofs.Puts.{Puts}
use Rattle.write_laws.proofs.Writing.{each}
use Rattle.write_laws.proofs.Entries.{level_start, value_at, value_long, entry_fault, entry_room}
use Rattle.write_sheet.specs.Meet.{record_of, item_sheet, entry_sheet, LevelAsked}
use Rattle.write_sheet.specs.Quick.{LevelPassed, ItemsPassed, SmallItem}
use Rattle.write_sheet.proofs.Turns.{LevelSheets, SheetEntry, one_room, one_more}

-- ---- its value is shortest

one_kept : (r : Rule) (v : List ℕ) → (get_or v 0 0 ≡ 0 → length v ≡ 1) → short r v ≡ v
unfolding short strip
one_kept r [] h = absurd (let z : ◌≡◌ {A = ℕ} 0 1 = h refl in omega arith)
one_kept r (x ∷ s) h = go (is_number r.kind) refl
  where
    last : (s : List ℕ) → (x ≡ 0 → length (x ∷ s) ≡ 1) → eqb x 0 && not (none? s) ≡ false
    last [] h = and_false (eqb x 0)
      where
        and_false : (t : Bool) → t && false ≡ false
        and_false true = refl
        and_false false = refl
    last (y ∷ s) h = rw (ne_eqb x 0 (λ e. omega (arith, h e)))

    go : (t : Bool) → is_number r.kind ≡ t → short r (x ∷ s) ≡ x ∷ s
    go true z = unfold short strip in (rw (z, short, last s h, strip))
    go false z = unfold short in (rw (z, short))

-- ---- and its turn

zero_tag : (s : List ℕ) → 0 < length s → get_or s 0 0 ≡ 0 → refused 4 0 ≡ tag_of s
unfolding tag_of oid oid_go ◌>>=◌ need
zero_tag [] h e = absurd (omega arith)
zero_tag (b ∷ s) h e = rw e

-- the turn at such an item
pub record Turn (f : Form) (s out₀ out : List ℕ) (p k n : ℕ) : Type 0 where
  pub passed : LevelPassed false f s out₀ out p k
  pub glanced : SmallItem s p n
  pub bytes : Bytes s
  pub asked : LevelAsked pack s (length out₀) f

module _ {f : Form} {s out₀ out : List ℕ} {p k n : ℕ} (i : Turn f s out₀ out p k n) where
  abbrev q : SmallItem s p n
  q = i.glanced

  abbrev tag : ℕ
  tag = get_or s p 0

  tag_is : tag ≡ get_or (drop p s) 0 0
  tag_is = sym (get_or-drop p s 0 0 ∙ ap (λ j. get_or s j 0) (omega arith))

  size_is : n ≡ get_or (drop 1 (drop p s)) 0 0
  size_is = q.size_is ∙ sym (get_or-drop 1 (drop p s) 0 0 ∙ get_or-drop p s 1 0)

  long : 2 < length (drop p s)
  long = rw length-drop (omega (arith, q.here))

  going : LevelSheets false f s out₀ out p k
  going = record { writes = i.passed }

  -- what stands there was accepted: no head is at fault
  no_fault : {X : Type 0} (r : Refusal) → item_head_of (Err r) ≡ head_of pack (drop p s) → X
  no_fault r e = entry_fault going (omega (arith, q.here)) r (rw tail_part e)

  some_tag : 0 < tag
  some_tag = go (ltb 0 tag) refl
    where
      go : (t : Bool) → ltb 0 tag ≡ t → 0 < tag
      go true e = ltb-true 0 tag e
      go false e = no_fault BadTag (item_head_tag (drop p s) pack (zero_tag (drop p s) (omega (arith, long)) (omega (arith, tag_is, ltb-false 0 tag e))))

  fits : 1 + 1 + n ≤ length (drop p s)
  fits = go (leb (1 + 1 + n) (length (drop p s))) refl
    where
      eb : ok (got n 1) ≡ len_of (take (length (drop p s) - 1) (drop 1 (drop p s)))
      eb = rw tail_part (len_small (drop 1 (drop p s)) n size_is (rw length-drop (omega (arith, long))) q.few)

      go : (t : Bool) → leb (1 + 1 + n) (length (drop p s)) ≡ t → 1 + 1 + n ≤ length (drop p s)
      go true e = leb-true (1 + 1 + n) (length (drop p s)) e
      go false e =
          no_fault PastEnd (
          item_head_over (drop p s) (tag_one (drop p s) (omega (arith, long)) tag tag_is q.small some_tag) eb pack {x = false} refl refl
          (omega (arith, leb-false (1 + 1 + n) (length (drop p s)) e))
          )

  entry : SheetEntry false f s out₀ out p k (head tag 1 1 n)
  entry = record {
    going = going;
    here = omega (arith, q.here);
    reads = rw tail_part (item_head_short pack (drop p s) tag n tag_is size_is some_tag q.small q.few fits);
    bytes = i.bytes;
    most = i.asked.few;
    room = i.asked.fits;
  }

  two : p + 1 + 1 ≡ p + 2
  two = omega arith

  pub turn_fits : (p + 2 + n ≤ length s) × (0 < n) × (length s ≤ 8192)
  turn_fits = rw two at (entry_room entry)

  -- its value, as it is lent
  abbrev value : List ℕ
  value = take (p + 2 + n - (p + 2)) (drop (p + 2) s)

  value_is : value_at entry ≡ value
  value_is = ap (λ j. take (j + n - j) (drop j s)) two

  record_is : record_of false tag value ≡ item_sheet pack tag (value_at entry)
  unfolding item_sheet
  record_is = ap (record_of false tag) (sym value_is ∙ sym (one_kept (rule_of pack tag) (value_at entry) one))
    where
      first : get_or (value_at entry) 0 0 ≡ get_or s (p + 2) 0
      first = ap (λ v. get_or v 0 0) (value_is ∙ mid_part (p + 2) n s) ∙ get_or-take n _ 0 0 q.some ∙ get_or-drop (p + 2) s 0 0 ∙ ap (λ j. get_or s j 0) (omega arith)

      one : get_or (value_at entry) 0 0 ≡ 0 → length (value_at entry) ≡ 1
      one e = value_long entry ∙ q.shortest (sym first ∙ e)

  -- x is its tag as the code read it
  module _ {x : ℕ} (ex : x ≡ tag) where
    record_read : record_of false x value ≡ item_sheet pack tag (value_at entry)
    record_read = ap (λ y. record_of false y value) ex ∙ record_is

    pub turn_room : k + length (record_of false x value) ≤ length out
    turn_room = omega (arith, (one_room entry {x = false} refl refl).1, ap length record_read)

    pub turn_more : {k' : ℕ} {out' : List ℕ} → Puts out k (record_of false x value) k' out' → LevelPassed false f s out₀ out' (p + 2 + n) k'
    turn_more e = rw two at (one_more entry {x = false} refl refl (rw record_read at e)).writes

-- ---- the quick way over a pack's items, in a form that they were accepted in, and in whatever other

pub record ItemsGoing (s out₀ out : List ℕ) (p k : ℕ) : Type 0 where
  pub form : Form
  pub asked : LevelAsked pack s (length out₀) form
  pub goes : ItemsPassed s out₀ out p k
  pub same : length out ≡ length out₀
  pub to : p ≤ length s

module _ {s out₀ : List ℕ} where
  items_go : {out : List ℕ} {p k : ℕ} (f : Form) → LevelAsked pack s (length out₀) f → ItemsPassed s out₀ out p k → ItemsGoing s out₀ out p k
  items_go f a g = record { form = f; asked = a; goes = g; same = (g f a).same; to = (g f a).to }

  pub items_begin : (f : Form) → LevelAsked pack s (length out₀) f → ItemsGoing s out₀ out₀ 0 0
  items_begin f a = items_go f a (λ f a. (level_start (each (entry_sheet pack)) false f tt s out₀ a.ran).writes)

  module _ {out : List ℕ} {p k : ℕ} (g : ItemsGoing s out₀ out p k) where
    pub items_pass : ItemsPassed s out₀ out p k
    items_pass = g.goes

    module _ {n : ℕ} (q : SmallItem s p n) (bs : (i : ℕ) → Fits w8 (get_or s i 0)) where
      turn_in : (f : Form) → LevelAsked pack s (length out₀) f → Turn f s out₀ out p k n
      turn_in f a = record { passed = g.goes f a; glanced = q; bytes = λ i. (bs i).fits; asked = a }

      pub small_spans : (p + 2 + n ≤ length s) × (0 < n)
      small_spans = let t = turn_fits (turn_in g.form g.asked) in (t.0, t.1)

      module _ (x : ℕ) (ex : x ≡ get_or s p 0) where
        pub small_room : k + length (record_of false x (take (p + 2 + n - (p + 2)) (drop (p + 2) s))) ≤ length out
        small_room = turn_room (turn_in g.form g.asked) ex

        pub small_goes : {k' : ℕ} {out' : List ℕ} → Puts out k (record_of false x (take (p + 2 + n - (p + 2)) (drop (p + 2) s))) k' out' → ItemsGoing s out₀ out' (p + 2 + n) k'
        small_goes e = items_go g.form g.asked (λ f a. turn_more (turn_in f a) ex e)

-- what it is proved by
pub ruleset small_turns = (items_begin, items_pass, small_spans, small_room, small_goes)
