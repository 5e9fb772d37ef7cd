-- What was there before: the look back at it, and the record that a walk keeps of it.
use mathlib.Core.Path.{◌≡◌, refl, sym, ap, ◌∙◌}
use Prim.Native.Nat.{ℕ, ◌+◌, ◌-◌, ◌≤◌, ◌<◌}
use native.Mathlib.Omega.{arith}
use mathlib.Core.Bool.{Bool, true, false, ◌||◌}
use mathlib.Core.List.{List, [], ◌∷◌, ◌++◌}
use lib.ListN.{length, take, drop, length-drop}
use lib.Seq.{drop-drop}
use lib.Dec.{eqb, ltb}
use borrow.Author.Tests.{eq-eqb, ne_eqb, ltb-true, ltb-false}
use Rattle.std.specs.Prelude.{Some, None}
use Rattle.format.specs.Answer.{Ans, ok, refused, Got, got}
use Rattle.format.specs.Lists.{has}
use Rattle.format.specs.Read.{head_of, PackHead, pack_head}
use Rattle.format.specs.Read as Read
use Rattle.format.proofs.Words.Answers.{no_bool}
use Rattle.format.proofs.Bounds.Packets.{head_room, pack_head_room}
use Rattle.coding.proofs.Rooms.{tail_part}
use Rattle.items.specs.Meet.{level_of}
use Rattle.heads.specs.Records.{peek_record}
use Rattle.heads.specs.Meet.{item_head, pack_head_from, peek_item, peek_pack, peek, peek_by, Peeked, Heads, Past}
use Rattle.heads.specs.declared.Head.{Head}
use Rattle.heads.specs.declared.Look.{Look}
use Rattle.heads.specs.declared.Look.TheVariants.{Packs, Items, Targets, Records}
use Rattle.heads.specs.declared.Next.{Next}
use Rattle.heads.proofs.Spans.{record_room}

-- ---- what is next

module _ (set : Bool) (s : List ℕ) where
  pub item_peek : (h : Read.Head) → head_of (level_of set) s ≡ ok h → peek false false set s ≡ got h.tag (h.from + h.size)
  unfolding peek
  item_peek h e = ap peek_item e

  pub pack_peek : (h : PackHead) → pack_head s ≡ ok h → peek false true set s ≡ got h.id (h.width + h.size)
  unfolding peek
  pack_peek h e = ap peek_pack e

-- the key at p, as the code reads it there
module _ (set : Bool) (s : List ℕ) (p : ℕ) (h : Head) where
  pub item_key : ok (item_head h) ≡ head_of (level_of set) (take (length s - p) (drop p s)) → h.key ≡ (peek false false set (drop p s)).val
  item_key e = sym (ap (λ (x : Got ℕ). x.val) (item_peek set (drop p s) (item_head h) (sym (rw tail_part at e))))

  pub pack_key : ok (pack_head_from h) ≡ pack_head (take (length s - p) (drop p s)) → h.key ≡ (peek false true set (drop p s)).val
  pack_key e = sym (ap (λ (x : Got ℕ). x.val) (pack_peek set (drop p s) (pack_head_from h) (sym (rw tail_part at e))))

-- among targets it does not matter of what level the records would be
pub targets_same : (set : Bool) → peek true true set ≡ peek true true false
unfolding peek peek_record
targets_same set = refl

-- what a look finds lies within the bytes
abbrev pub Looks : (List ℕ → Got ℕ) → Type 0
Looks look = (s : List ℕ) → (look s).used ≤ length s

pub peek_room : (sheet ids set : Bool) → Looks (peek sheet ids set)
unfolding peek
peek_room true ids set s = record_room ids set s
peek_room false true set s = by (pack_head s) refl
  where
    by : (a : Ans PackHead) → pack_head s ≡ a → (peek_pack a).used ≤ length s
    by (ok h) e = pack_head_room s h e
    by (refused n p) e = omega arith
peek_room false false set s = by (head_of (level_of set) s) refl
  where
    by : (a : Ans Read.Head) → head_of (level_of set) s ≡ a → (peek_item a).used ≤ length s
    by (ok h) e = head_room (level_of set) s h e
    by (refused n p) e = omega arith

pub look_room : (look : Look) → Looks (peek_by look)
look_room Packs = peek_room false true false
look_room (Items set) = peek_room false false set
look_room Targets = peek_room true true false
look_room (Records set) = peek_room true false set

-- ---- looking back

-- the keys that head the first p bytes begin with the one that is next
heads_next : (look : List ℕ → Got ℕ) (s : List ℕ) (p k u : ℕ) → look s ≡ got k u → 0 < p → (ks : List ℕ) → Heads look s p ks
    → (js : List ℕ) × (ks ≡ k ∷ js) × (0 < u) × Heads look (drop u s) (p - u) js
heads_next look s p k u e g [] h = absurd (omega arith)
heads_next look s p k u e g (j ∷ js) (v, q, z, y, h) =
    let a : k ≡ j = ap (λ (x : Got ℕ). x.val) (sym e ∙ q) in
    let b : u ≡ v = ap (λ (x : Got ℕ). x.used) (sym e ∙ q) in
    (js, rw a, rw b z, rw b h)

pub heads_none : (look : List ℕ → Got ℕ) (s : List ℕ) (p : ℕ) → p ≡ 0 → (ks : List ℕ) → Heads look s p ks → ks ≡ []
heads_none look s p e [] h = refl
heads_none look s p e (k ∷ ks) (u, q, z, y, h) = absurd (omega arith)

-- the key is among those that head the first p bytes just where it is among those from q on
pub record Left (look : List ℕ → Got ℕ) (s : List ℕ) (p key q : ℕ) : Type 0 where
  pub within : q ≤ length s
  pub rest : (ks : List ℕ) → Heads look s p ks → (js : List ℕ) × Heads look (drop q s) (p - q) js × (has key ks ≡ has key js)

pub left_start : (look : List ℕ → Got ℕ) (s : List ℕ) (p key : ℕ) → Left look s p key 0
left_start look s p key = let e : p - 0 ≡ p = omega arith in record { within = omega arith; rest = λ ks h. (ks, rw e h, refl) }

module _ (look : List ℕ → Got ℕ) (s : List ℕ) (p key q : ℕ) (l : Left look s p key q) where
  pub left_done : p ≤ q → (ks : List ℕ) → Heads look s p ks → false ≡ has key ks
  unfolding has
  left_done g ks h =
      let (js, d, e) = l.rest ks h in
      sym (e ∙ rw (heads_none look (drop q s) (p - q) (omega arith) js d))

  -- nothing is next, so no keys head the first p bytes
  pub left_gone : q < p → Peeked look (take (length s - q) (drop q s)) None → (b : Bool) (ks : List ℕ) → Heads look s p ks → b ≡ has key ks
  left_gone g n b ks h =
      let (js, d, e) = l.rest ks h in
      let (is, a, z, f) = heads_next look (drop q s) (p - q) 0 0 (rw tail_part at n) (omega arith) js d in
      absurd (omega arith)

  module _ (g : q < p) (n : Next) (r : Peeked look (take (length s - q) (drop q s)) (Some n)) where
    here : look (drop q s) ≡ got n.key n.used
    here = rw tail_part at r.0

    step : (ks : List ℕ) → Heads look s p ks → (js : List ℕ) × (has key ks ≡ has key (n.key ∷ js)) × Heads look (drop (q + n.used) s) (p - (q + n.used)) js
    step ks h =
        let (js, d, e) = l.rest ks h in
        let (is, a, z, f) = heads_next look (drop q s) (p - q) n.key n.used here (omega arith) js d in
        let w : p - q - n.used ≡ p - (q + n.used) = omega arith in
        (is, e ∙ ap (has key) a, rw (drop-drop n.used q s, w) at f)

    pub left_found : n.key ≡ key → (ks : List ℕ) → Heads look s p ks → true ≡ has key ks
    unfolding has
    left_found y ks h = sym ((step ks h).1 ∙ rw (eq-eqb n.key key y))

    pub left_passed : Looks look → (n.key ≡ key → ⊥) → Left look s p key (q + n.used)
    unfolding has
    left_passed room y = record {
      within = omega (arith, l.within, room (drop q s), ap (λ (x : Got ℕ). x.used) here, length-drop q s);
      rest = λ ks h. let (js, e, f) = step ks h in (js, f, e ∙ rw (ne_eqb n.key key y));
    }

-- ---- the record that a walk keeps

pub has_snoc : (j k : ℕ) (ks : List ℕ) → has j (ks ++ k ∷ []) ≡ has j (k ∷ ks)
unfolding has
has_snoc j k [] = refl
has_snoc j k (i ∷ is) = rw (has_snoc j k is) (swap (eqb i j) (eqb k j) (has j is))
  where
    swap : (a b c : Bool) → a || (b || c) ≡ b || (a || c)
    swap true true c = refl
    swap true false c = refl
    swap false true c = refl
    swap false false c = refl

pub heads_more : (look : List ℕ → Got ℕ) (ks s : List ℕ) (p k u : ℕ) → Heads look s p ks → look (drop p s) ≡ got k u → 0 < u → Heads look s (p + u) (ks ++ k ∷ [])
heads_more look [] s p k u h e z = (u, rw h at e, z, omega arith, omega arith)
heads_more look (j ∷ js) s p k u (v, q, y, x, h) e z =
    let a : v + (p - v) ≡ p = omega arith in
    let b : p - v + u ≡ p + u - v = omega arith in
    (v, q, y, omega arith, rw b at (heads_more look js (drop v s) (p - v) k u h (rw (drop-drop (p - v) v s, a) e) z))

module _ (look : List ℕ → Got ℕ) (s : List ℕ) where
  -- where nothing was seen, nothing is below any key
  pub past_none : {low : ℕ} → Past look s 0 0 low []
  unfolding has
  past_none = record { keys = []; heads = refl; same = λ k. refl; under = λ k h. refl; over = λ k h. refl; first = refl }

  pub past_more : (p top low : ℕ) (seen : List ℕ) → Past look s p top low seen
      → (k u top' low' : ℕ) → look (drop p s) ≡ got k u → 0 < u → top ≤ top' → k ≤ top' → low' ≤ low → low' ≤ k
      → Past look s (p + u) top' low' (k ∷ seen)
  unfolding has
  past_more p top low seen a k u top' low' e z t kt w kw = record {
    keys = a.keys ++ k ∷ [];
    heads = heads_more look a.keys s p k u a.heads e z;
    same = λ j. rw (has_snoc j k a.keys, a.same j);
    under = λ j h. rw (ne_eqb k j (λ x. omega arith)) (a.under j (omega arith));
    over = λ j h. rw (ne_eqb k j (λ x. omega arith)) (a.over j (omega arith));
    first = sym (ne_eqb (p + u) 0 (λ x. omega arith));
  }

-- once something was passed, no bound is beyond the other
pub past_between : {look : List ℕ → Got ℕ} {s : List ℕ} {p top low : ℕ} (seen : List ℕ) → Past look s p top low seen → 0 < p → low ≤ top
unfolding has
past_between {p = p} [] q h = no_bool (sym (ne_eqb p 0 (λ e. omega (arith, e, h))) ∙ sym q.first)
past_between {top = top} {low = low} (k ∷ ks) q h = by_low (ltb k low) refl
  where
    gone : has k (k ∷ ks) ≡ false → ⊥
    gone e = no_bool (sym e ∙ ap (λ b. b || has k ks) (eq-eqb k k refl))

    by_top : low ≤ k → (b : Bool) → ltb top k ≡ b → low ≤ top
    by_top l true z = absurd (gone (q.under k (ltb-true top k z)))
    by_top l false z = omega (arith, l, ltb-false top k z)

    by_low : (b : Bool) → ltb k low ≡ b → low ≤ top
    by_low true z = absurd (gone (q.over k (ltb-true k low z)))
    by_low false z = by_top (omega (arith, ltb-false k low z)) (ltb top k) refl
