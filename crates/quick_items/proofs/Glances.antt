-- The quick way's turns: an item told at a glance is read as the item walk reads it.
use mathlib.Core.Path.{◌≡◌, refl, sym, ap, ◌∙◌}
use Prim.Native.Nat.{ℕ, ◌+◌, ◌-◌, ◌≤◌, ◌<◌}
use native.Mathlib.Omega.{arith}
use mathlib.Core.Bool.{Bool, true, false, ◌&&◌}
use mathlib.Core.List.{List}
use Rattle.std.proofs.Common.{Ok}
use lib.ListN.{length, take, drop, get_or, length-drop}
use lib.Seq.{get_or-drop, get_or-take, length-take-le}
use lib.Dec.{eqb}
use lib.Bits.{bit_or}
use Rattle.format.specs.Coding.{Bytes, oid_bytes, len_width}
use Rattle.format.specs.Answer.{ok}
use Rattle.format.specs.Table.{Form, Level, is_set, rule_of, may_stand, valued, short}
use Rattle.coding.proofs.Counts.{len_one, count_start, count_done}
use Rattle.items.specs.Meet.{level_of}
use Rattle.items.specs.Quick as items
use Rattle.items.proofs.Tests.{standing_0}
use Rattle.items.proofs.Glances.{as_same}
use Rattle.items.proofs.Looks.{looked_glanced}
use Rattle.format.specs.Lists.{has}
use Rattle.heads.specs.Meet.{head, item_head, peek, Past}
use Rattle.heads.proofs.Heads.{mid_part, item_within, item_head_short}
use Rattle.tally.specs.Pieces as piece
use Rattle.tally.specs.declared.Sizes.{Sizes}
use Rattle.tally.specs.Meet.{piece_of, sizes, item_sizes, plus_sizes, bit_of}
use Rattle.tally.specs.Going.{LevelGoing, Begun, New}
use Rattle.quick_items.specs.Items.{told_sizes, ItemGlanced, GlancedTo}
use Rattle.format.specs.Read.{head_of, item}
use Rattle.tally.proofs.Walks.{same_sizes}
use Rattle.tally.proofs.Turns.{new_key}
use Rattle.tally.proofs.Pieces.{piece_whole}
use Rattle.tally.proofs.ItemTurns.{ItemAt, level_is, item_told, entry_more}

-- one more such item
pub quick_plus : (l : Level) (tag n count p : ℕ) → is_set l && eqb tag 1 ≡ false → tag < 128 → n < 128
    → told_sizes (count + 1) (p + 2 + n) ≡ plus_sizes (told_sizes count p) (item_sizes l tag n)
unfolding item_sizes
quick_plus l tag n count p z th nh =
    let u : 1 ≡ length (oid_bytes tag) = (count_done tag 1 tag (count_start tag (omega arith)) th).0 in
    let w : 1 ≡ len_width n = len_one n nh in
    let e : item_sizes l tag n ≡ sizes (6 + n) 1 (length (oid_bytes tag) + (len_width n + n)) 0 = rw (z, item_sizes) in
    rw e (same_sizes (omega arith) refl (omega (arith, u, w)) refl)

-- ---- an item that meets its rules, under any head

-- the value of the item at p
abbrev pub value_at : List ℕ → ℕ → ℕ → ℕ → ℕ → List ℕ
value_at s p u w n = take (u + w + n - (u + w)) (drop (u + w) (drop p s))

-- its head, as the code has read it
pub record Headed (b : Bool) (s : List ℕ) (p tag u w n : ℕ) : Type 0 where
  pub told : ok (item_head (head tag u w n)) ≡ head_of (level_of b) (drop p s)

-- m bytes are its value's shortest form
pub record Meets (b : Bool) (f : Form) (s : List ℕ) (p tag u w n m : ℕ) : Type 0 where
  pub head : Headed b s p tag u w n
  pub some : 0 < n
  pub stands : may_stand (level_of b) f tag (eqb (u + w + n) (length (drop p s))) ≡ true
  pub allowed : valued (rule_of (level_of b) tag) (value_at s p u w n) ≡ ok tt
  pub shortest : length (short (rule_of (level_of b) tag) (value_at s p u w n)) ≡ m
  pub begins : Begun b f p tag

module _ {b : Bool} {s : List ℕ} {p tag u w n : ℕ} (h : Headed b s p tag u w n) where
  value_is : value_at s p u w n ≡ take n (drop (u + w) (drop p s))
  value_is = mid_part (u + w) n (drop p s)

  pub value_size : length (value_at s p u w n) ≡ n
  value_size = ap length value_is ∙ length-take-le n (drop (u + w) (drop p s)) (rw length-drop (omega (arith, item_within (drop p s) (head tag u w n) (level_of b) h.told)))

  value_head : 0 < n → get_or (value_at s p u w n) 0 0 ≡ get_or s (p + (u + w)) 0
  value_head some =
      ap (λ v. get_or v 0 0) value_is
      ∙ get_or-take n _ 0 0 some
      ∙ get_or-drop (u + w) (drop p s) 0 0
      ∙ get_or-drop p s (u + w + 0) 0
      ∙ ap (λ i. get_or s i 0) (omega arith)

  -- one that a look at its value tells
  pub looked_meets : {f : Form} {m : ℕ} → items.Looked (level_of b) f tag (value_at s p u w n) m → Begun b f p tag → Meets b f s p tag u w n m
  looked_meets q begins = record {
    head = h;
    some = omega (arith, q.some, value_size);
    stands = q.stands _;
    allowed = q.allowed;
    shortest = q.shortest;
    begins = begins;
  }

  -- one that is told at a glance
  pub quick_meets : {f : Form} → items.Glanced (level_of b) f tag n (get_or s (p + (u + w)) 0) → Begun b f p tag → Meets b f s p tag u w n n
  quick_meets q = looked_meets (looked_glanced (value_at s p u w n) value_size (as_same _ _ (value_head q.some)) q)

pub quick_piece : {b : Bool} {f : Form} {s : List ℕ} {p tag u w n m : ℕ} → Meets b f s p tag u w n m
    → {top low : ℕ} → ((seen : List ℕ) → Past (peek false false b) s p top low seen → false ≡ has tag seen)
    → (seen : List ℕ) → Past (peek false false b) s p top low seen → piece.Whole tag (u + w) n m ≡ piece_of (level_of b) (item (level_of b) f seen (drop p s))
quick_piece {b = b} {f = f} {s = s} {p = p} {tag = tag} {u = u} {w = w} {n = n} i new seen past =
    piece_whole (drop p s) (level_of b) {h = Ok (head tag u w n)} i.head.told refl f seen
    (λ e. omega (arith, i.some))
    {j = Ok tt} (standing_0 (level_of b) f seen tag _ (new seen past) (sym i.stands) (eqb p 0) (sym past.first) (sym i.begins))
    refl refl
    {m = Ok tt} (sym i.allowed) refl
    (sym i.shortest)

-- such an item, where the walk goes on, if its tag is told to be new
pub record MetAt (b : Bool) (f : Form) (s : List ℕ) (p : ℕ) (sum : Sizes) (held top low tag u w n m : ℕ) : Type 0 where
  pub going : LevelGoing b f s p sum held top low
  pub here : p < length s
  pub meets : Meets b f s p tag u w n m
  pub new : New p top low tag
  pub bytes : Bytes s
  pub most : length s ≤ 8192

pub met_item : {b : Bool} {f : Form} {s : List ℕ} {p : ℕ} {sum : Sizes} {held top low tag u w n m : ℕ} → MetAt b f s p sum held top low tag u w n m → ItemAt b f s p sum held top low tag (u + w) n m
met_item {tag = tag} {u = u} {w = w} {n = n} {m = m} i = record {
  going = i.going;
  here = i.here;
  it = piece.Whole tag (u + w) n m;
  told = quick_piece i.meets (new_key i.new);
  whole = refl;
  bytes = i.bytes;
  most = i.most;
}

module _ {b : Bool} {f : Form} {s : List ℕ} {p top n : ℕ} (g : ItemGlanced b f s p top n) where
  abbrev tag : ℕ
  tag = get_or s p 0

  glance_small : (0 < tag) × (tag < 128) × (n < 128)
  glance_small = (omega (arith, g.above), g.small, g.few)

  glance_piece : {low : ℕ} (seen : List ℕ) → Past (peek false false b) s p top low seen → piece.Whole tag 2 n n ≡ piece_of (level_of b) (item (level_of b) f seen (drop p s))
  glance_piece =
      let (z, th, nh) = glance_small in
      let et : tag ≡ get_or (drop p s) 0 0 = sym (get_or-drop p s 0 0 ∙ ap (λ i. get_or s i 0) (omega arith)) in
      let en : n ≡ get_or (drop 1 (drop p s)) 0 0 = g.size_is ∙ sym (get_or-drop 1 (drop p s) 0 0 ∙ get_or-drop p s 1 0) in
      let room : 1 + 1 + n ≤ length (drop p s) = rw length-drop (omega (arith, g.room)) in
      let i : Meets b f s p tag 1 1 n n = quick_meets (record { told = item_head_short (level_of b) (drop p s) tag n et en z th nh room }) g.quick g.begins in
      quick_piece i λ seen q. sym (q.under tag g.above)

  -- x is the tag as the code read it
  glance_more : {count held low : ℕ} → LevelGoing b f s p (told_sizes count p) held top low → Bytes s → length s ≤ 8192
      → {x : ℕ} → x ≡ tag → {y held' : ℕ} → y ≡ bit_of x → held' ≡ bit_or held y → {low' : ℕ} → (low' ≤ low) × (low' ≤ x)
      → LevelGoing b f s (p + 2 + n) (told_sizes (count + 1) (p + 2 + n)) held' x low'
  glance_more {count = count} {held = held} {low = low} go bytes most ex ey em el =
      let (z, th, nh) = glance_small in
      let i : ItemAt b f s p _ _ top low tag 2 n n = record {
        going = go;
        here = omega (arith, g.room);
        it = piece.Whole tag 2 n n;
        told = λ seen q. glance_piece seen q;
        whole = refl;
        bytes = bytes;
        most = most;
      } in
      entry_more i (item_told i {x = b && eqb tag 101} refl (rw level_is at g.quick.no_series) refl) refl (quick_plus (level_of b) tag n count p g.quick.no_seal th nh)
      (em ∙ ap (bit_or held) (ey ∙ ap bit_of ex)) (omega (arith, g.above, ex), omega (arith, ex)) (el.0, omega (arith, ex, el.1))

-- an item that ends at next by its length; x is its tag as the code read it
module _ {b : Bool} {f : Form} {s : List ℕ} {p top next : ℕ} (g : GlancedTo b f s p top next) where
  pub glanced_next : (p + 2 < next) × (p + 2 < length s)
  glanced_next = (omega (arith, g.1, g.2), g.3)

  module _ (room : next ≤ length s) where
    pub glanced_low : {low : ℕ} → (p < length s → top < get_or s p 0 → get_or s p 0 < 128 → low ≤ get_or s p 0) → {x : ℕ} → x ≡ get_or s p 0 → low ≤ x
    glanced_low h ex = let i = g.4 room in omega (arith, ex, h (omega (arith, glanced_next)) i.above i.small)

    pub glanced_more : {count held low : ℕ} → LevelGoing b f s p (told_sizes count p) held top low → Bytes s → length s ≤ 8192
        → {x : ℕ} → x ≡ get_or s p 0 → {y held' : ℕ} → y ≡ bit_of x → held' ≡ bit_or held y → low ≤ x
        → LevelGoing b f s next (told_sizes (count + 1) next) held' x low
    glanced_more go bytes most ex ey em el = rw g.1 (glance_more (g.4 room) go bytes most ex ey em (omega arith, el))
