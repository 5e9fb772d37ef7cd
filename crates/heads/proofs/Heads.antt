-- Heads as the code reads them, case by case, and the room of all that a head says.
use mathlib.Core.Path.{◌≡◌, refl, sym, ap, ◌∙◌}
use Prim.Native.Nat.{ℕ, ◌+◌, ◌-◌, ◌*◌, ◌≤◌, ◌<◌}
use native.Mathlib.Omega.{arith}
use mathlib.Core.Bool.{Bool, true, false, not, ◌&&◌, ◌||◌}
use mathlib.Core.List.{List}
use lib.ListN.{length, take, drop, get_or, length-drop}
use lib.Seq.{get_or-drop, get_or-take, length-take-le}
use lib.Dec.{leb, eqb}
use borrow.Author.Tests.{le-leb, lt-leb, not-true, not-false}
use Rattle.format.specs.Answer.{ok, refused, got, ◌>>=◌, need}
use Rattle.format.specs.Coding.{Bytes, tag_of, id_of, len_of}
use Rattle.format.specs.Table.{Level, is_set}
use Rattle.format.specs.Read.{head_of, pack_head}
use Rattle.format.specs.Read as Read
use Rattle.format.proofs.Words.Answers.{bind_then, need_then, ok_inj}
use Rattle.format.proofs.Words.Bytes.{bytes_drop}
use Rattle.format.proofs.Bounds.Packets.{head_room, pack_head_room}
use Rattle.coding.proofs.Lens.{len_small}
use Rattle.coding.proofs.Oid.{tag_one, id_one, id_two}
use Rattle.coding.proofs.Rooms.{tail_part, tag_room, len_room}
use Rattle.items.proofs.Tests.{bind_so, bind_not, need_so, need_not}
use Rattle.heads.specs.Meet.{head, item_head, pack_head_from}
use Rattle.heads.specs.declared.Head.{Head}
use Rattle.heads.proofs.Passed.{told_err}

-- `&s[a..a + n]`, as the borrow checker has it
pub mid_part : (a n : ℕ) (s : List ℕ) → take (a + n - a) (drop a s) ≡ take n (drop a s)
mid_part a n s = let e : a + n - a ≡ n = omega arith in rw e

-- ---- an item's head: the tag's value and bytes are t and u, the length's n and w

module _ (s : List ℕ) where
  pub item_head_tag : (l : Level) {m : ℕ} → refused m 0 ≡ tag_of s → refused m 0 ≡ head_of l s
  unfolding head_of
  item_head_tag l e = sym (bind_not _ _ _ _ (sym e))

  module _ {t u : ℕ} (et : ok (got t u) ≡ tag_of s) where
    pub item_tag_room : Bytes s → u ≤ length s
    item_tag_room h = (tag_room s t u et h).1

    pub item_head_len : (l : Level) {m : ℕ} → refused m 0 ≡ len_of (take (length s - u) (drop u s)) → refused m 0 ≡ head_of l s
    unfolding head_of
    item_head_len l e = sym (bind_so _ _ _ (sym et) ∙ bind_not _ _ _ _ (sym (rw tail_part at e)))

    module _ {n w : ℕ} (en : ok (got n w) ≡ len_of (take (length s - u) (drop u s))) where
      len_said : ok (got n w) ≡ len_of (drop u s)
      len_said = rw tail_part at en

      pub item_from_room : Bytes s → u + w ≤ length s
      item_from_room h = omega (arith, item_tag_room h, (len_room (drop u s) n w len_said (bytes_drop u s h)).1, length-drop u s)

      item_tests : (l : Level)
          → head_of l s ≡ (need (not (is_set l && eqb t 1) || eqb w 1) 5 >>= λ _. need (leb (u + w + n) (length s)) 6 >>= λ _. ok (item_head (head t u w n)))
      unfolding head_of
      item_tests l = bind_so _ _ _ (sym et) ∙ bind_so _ _ _ (sym len_said)

      -- x: this is the set's tag 1, and its length is not in one byte
      module _ (l : Level) {x : Bool} (ex : x ≡ not (not (is_set l && eqb t 1) || eqb w 1)) where
        pub item_head_seal : x ≡ true → refused 5 0 ≡ head_of l s
        item_head_seal tx = sym (item_tests l ∙ need_not _ _ _ (not-true _ (sym ex ∙ tx)))

        module _ (tx : x ≡ false) where
          pub item_head_over : length s - (u + w) < n → refused 6 0 ≡ head_of l s
          item_head_over g = sym (item_tests l ∙ need_so _ _ _ (not-false _ (sym ex ∙ tx)) ∙ need_not _ _ _ (lt-leb (u + w + n) (length s) (omega arith)))

          pub item_head_whole : u + w ≤ length s → n ≤ length s - (u + w) → ok (item_head (head t u w n)) ≡ head_of l s
          item_head_whole h g = sym (item_tests l ∙ need_so _ _ _ (not-false _ (sym ex ∙ tx)) ∙ need_so _ _ _ (le-leb (u + w + n) (length s) (omega arith)))

-- ---- a pack's head: the length's value and bytes are n and w, the id's k and u

module _ (s : List ℕ) where
  pub pack_head_len : {m : ℕ} → refused m 0 ≡ len_of s → refused m 0 ≡ pack_head s
  unfolding pack_head
  pack_head_len e = sym (bind_not _ _ _ _ (sym e))

  module _ {n w : ℕ} (en : ok (got n w) ≡ len_of s) where
    pub pack_len_room : Bytes s → w ≤ length s
    pack_len_room h = (len_room s n w en h).1

    pub pack_head_over : length s - w < n → refused 6 0 ≡ pack_head s
    unfolding pack_head
    pack_head_over g = sym (bind_so _ _ _ (sym en) ∙ need_not _ _ _ (lt-leb (w + n) (length s) (omega arith)))

    module _ (h : w ≤ length s) (g : n ≤ length s - w) where
      pub pack_head_id : {m : ℕ} → refused m 0 ≡ id_of (take (w + n - w) (drop w s)) → refused m 0 ≡ pack_head s
      unfolding pack_head
      pack_head_id e =
          sym (bind_so _ _ _ (sym en) ∙ need_so _ _ _ (le-leb (w + n) (length s) (omega arith)) ∙ bind_not _ _ _ _ (sym (rw mid_part at e)))

      pub pack_head_whole : {k u : ℕ} → ok (got k u) ≡ id_of (take (w + n - w) (drop w s)) → ok (pack_head_from (head k u w n)) ≡ pack_head s
      unfolding pack_head
      pack_head_whole e =
          sym (bind_so _ _ _ (sym en) ∙ need_so _ _ _ (le-leb (w + n) (length s) (omega arith)) ∙ bind_so _ _ _ (sym (rw mid_part at e)))

-- what `item_head` and `pack_head` are proved by
pub ruleset item_heads = (told_err, item_head_tag, item_tag_room, item_head_len, item_from_room, item_head_seal, item_head_over, item_head_whole)

pub ruleset pack_heads = (told_err, pack_head_len, pack_len_room, pack_head_over, pack_head_id, pack_head_whole)

-- ---- heads with a byte for the length, and one for the key, or two for an id

-- a tag in one byte, and a length that was read closer
module _ (s : List ℕ) {t : ℕ} (et : t ≡ get_or s 0 0) (z : 0 < t) (th : t < 128) (some : 0 < length s) {n w : ℕ} (en : ok (got n w) ≡ len_of (take (length s - 1) (drop 1 s))) where
  pub closer_room : Bytes s → 1 + w ≤ length s
  closer_room = item_from_room s (tag_one s some t et th z) en

  pub closer_whole : (l : Level) {x : Bool} → x ≡ not (not (is_set l && eqb t 1) || eqb w 1) → x ≡ false → 1 + w ≤ length s → n ≤ length s - (1 + w)
      → ok (item_head (head t 1 w n)) ≡ head_of l s
  closer_whole = item_head_whole s (tag_one s some t et th z) en

-- the length in one byte too
pub item_head_short : (l : Level) (s : List ℕ) (t n : ℕ) → t ≡ get_or s 0 0 → n ≡ get_or (drop 1 s) 0 0 → 0 < t → t < 128 → n < 128 → 1 + 1 + n ≤ length s
    → ok (item_head (head t 1 1 n)) ≡ head_of l s
item_head_short l s t n et en z th nh room =
    let long : 0 < length (drop 1 s) = rw length-drop (omega arith) in
    closer_whole s et z th (omega arith) (rw tail_part (len_small (drop 1 s) n en long nh)) l {x = false} (seal_short (is_set l && eqb t 1)) refl (omega arith) (omega arith)
  where
    seal_short : (b : Bool) → false ≡ not (not b || true)
    seal_short true = refl
    seal_short false = refl

module _ (s : List ℕ) (n : ℕ) (en : n ≡ get_or s 0 0) (nh : n < 128) (room : 1 + n ≤ length s) where
  abbrev body : List ℕ
  body = take n (drop 1 s)

  body_long : length body ≡ n
  body_long = length-take-le n (drop 1 s) (rw length-drop (omega arith))

  body_at : (i : ℕ) → i < n → get_or body i 0 ≡ get_or s (1 + i) 0
  body_at i h = get_or-take n (drop 1 s) i 0 h ∙ get_or-drop 1 s i 0

  with_id : {k u : ℕ} → ok (got k u) ≡ id_of body → ok (pack_head_from (head k u 1 n)) ≡ pack_head s
  with_id e = pack_head_whole s (len_small s n en (omega arith) nh) (omega arith) (omega arith) (rw (mid_part 1 n s) e)

  pub pack_head_one : (k : ℕ) → k ≡ get_or s 1 0 → k < 128 → 0 < n → ok (pack_head_from (head k 1 1 n)) ≡ pack_head s
  pack_head_one k e h z = with_id (id_one body (rw body_long z) k (e ∙ sym (body_at 0 z)) h)

  pub pack_head_two : (a b : ℕ) → a ≡ get_or s 1 0 → b ≡ get_or s 2 0 → 128 < a → a < 256 → b < 128 → 1 < n
      → ok (pack_head_from (head ((a - 128) * 128 + b) 2 1 n)) ≡ pack_head s
  pack_head_two a b ea eb ha la hb z = with_id (id_two body (rw body_long z) a b (ea ∙ sym (body_at 0 (omega arith))) (eb ∙ sym (body_at 1 z)) ha la hb)

-- ---- room: a head takes some bytes, and lies within them with all that it heads

module _ (s : List ℕ) (h : Head) where
  pub item_within : (l : Level) → ok (item_head h) ≡ head_of l s → h.used + h.width + h.size ≤ length s
  item_within l e = head_room l s _ (sym e)

  pub pack_within : ok (pack_head_from h) ≡ pack_head s → h.width + h.size ≤ length s
  pack_within e = pack_head_room s _ (sym e)

  pub item_some : (l : Level) → ok (item_head h) ≡ head_of l s → Bytes s → 0 < h.used + h.width
  unfolding head_of
  item_some l e b =
      bind_then _ _ _ (sym e) λ t et e₁.
      bind_then _ _ _ e₁ λ n en e₂.
      need_then _ _ _ _ e₂ λ _ e₃.
      need_then _ _ _ _ e₃ λ _ e₄.
      let q = ok_inj _ _ e₄ in
      omega (arith, (tag_room s t.val t.used (sym et) b).0, ap (λ (x : Read.Head). x.from) q)

  pub pack_some : ok (pack_head_from h) ≡ pack_head s → Bytes s → 0 < h.width
  unfolding pack_head
  pack_some e b =
      bind_then _ _ _ (sym e) λ n en e₁.
      need_then _ _ _ _ e₁ λ _ e₂.
      bind_then _ _ _ e₂ λ _ _ e₃.
      let q = ok_inj _ _ e₃ in
      omega (arith, (len_room s n.val n.used (sym en) b).0, ap (λ (x : Read.PackHead). x.width) q)
