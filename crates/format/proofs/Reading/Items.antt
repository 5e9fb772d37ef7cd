-- One item: what was read is an item laid flat that meets its rules, and such an item is read back.
use mathlib.Core.Path.{◌≡◌, refl, sym, ap, ◌∙◌}
use Prim.Native.Nat.{ℕ, ◌+◌, ◌≤◌, ◌<◌}
use native.Mathlib.Omega.{arith}
use mathlib.Core.Bool.{Bool, true, false, not, ◌&&◌, ◌||◌}
use mathlib.Core.List.{List, [], ◌∷◌, ◌++◌, append_assoc}
use lib.ListN.{length, take, drop, length-append, length-drop, take-append-drop}
use lib.Seq.{drop-drop, length-take-le, take-append_seam, drop-append_seam, drop_at}
use lib.Dec.{eqb}
use borrow.Author.Tests.{leb-true, le-leb, eq-eqb, ne_eqb}
use Rattle.format.specs.Answer.{ok, Got, got, ◌>>=◌, need}
use Rattle.format.specs.Coding.{Bytes, tag_of, oid_bytes, len_bytes}
use Rattle.format.specs.Lists.{none?, has}
use Rattle.format.specs.Table.{Form, Level, is_set, nameable, may_begin}
use Rattle.format.specs.Packet.{Item, tag_of_item, under, flat_item}
use Rattle.format.specs.Read.{Head, head_of, item}
use Rattle.format.specs.Run.{always}
use Rattle.format.specs.Valid.{Holds, ItemValid}
use Rattle.format.proofs.Words.Answers.{bind_then, need_then, ok_inj}
use Rattle.format.proofs.Words.Bytes.{bytes_drop, bytes_right, Took}
use Rattle.format.proofs.Coding.Lengths.{length_len, len_back, len_says, holds_pos}
use Rattle.format.proofs.Coding.Oids.{tag_back, tag_says, oid_some}
use Rattle.format.proofs.Table.Tags.{nameable_low, nameable_high, not_seal, stands_anywhere}
use Rattle.format.proofs.Table.Values.{Ruled, rules_say, rules_give}
use Rattle.format.proofs.Reading.Runs.{Faithful, ReadsAt}

-- ---- sizes

pub length_item : (i : Item) → length (flat_item i) ≡ length (oid_bytes i.tag) + i.width + length i.value
unfolding flat_item
length_item i = simp (length-append, length_len) (omega arith)

pub value_bytes : (i : Item) → Bytes (flat_item i) → Bytes i.value
unfolding flat_item
value_bytes i h = bytes_right (len_bytes i.width (length i.value)) i.value (bytes_right (oid_bytes i.tag) _ h)

-- what stands at the very end has nothing after it
pub at_end : (a : ℕ) (t : List ℕ) → eqb a (a + length t) ≡ none? t
at_end a [] = eq-eqb a (a + 0) (omega arith)
at_end a (x ∷ t) = ne_eqb a (a + length (x ∷ t)) (λ e. omega arith)

pub ends_none : (a t : List ℕ) → eqb (length a) (length (a ++ t)) ≡ none? t
ends_none a t = rw length-append (at_end (length a) t)

-- ---- bytes under their length

-- a length n in w bytes, and n bytes after it
pub under_took : (s : List ℕ) (w n : ℕ) → Took (len_bytes w n) s w → w + n ≤ length s → s ≡ under w (take n (drop w s)) ++ drop (w + n) s
under_took s w n t h =
    let l : length (take n (drop w s)) ≡ n = length-take-le n (drop w s) (simp length-drop (omega arith)) in
    rw l (t.bytes ∙ ap (λ x. len_bytes w n ++ x) (sym (take-append-drop n (drop w s)) ∙ ap (λ x. take n (drop w s) ++ x) (drop-drop n w s))
    ∙ sym (append_assoc (len_bytes w n) (take n (drop w s)) (drop (w + n) s)))

-- ---- the head

abbrev pub item_at : List ℕ → Head → Item
item_at s h = record { tag = h.tag; width = h.width; value = take h.size (drop h.from s) }

-- what a head that was read says
pub record HeadRead (l : Level) (s : List ℕ) (h : Head) : Type 0 where
  pub took : Took (flat_item (item_at s h)) s (h.from + h.size)
  pub size_is : length (take h.size (drop h.from s)) ≡ h.size
  pub low : 0 < h.tag
  pub high : h.tag ≤ 16383
  pub coded : Holds h.width h.size
  pub brief : not (is_set l && eqb h.tag 1) || eqb h.width 1 ≡ true

item_took : (s : List ℕ) (t u w n : ℕ) → Took (oid_bytes t) s u → Took (len_bytes w n) (drop u s) w → u + w + n ≤ length s
    → Took (flat_item (record { tag = t; width = w; value = take n (drop (u + w) s) })) s (u + w + n)
unfolding flat_item
item_took s t u w n a b h =
    let v = under_took (drop u s) w n b (simp length-drop (omega arith)) in
    let z : u + (w + n) ≡ u + w + n = omega arith in
    let v' : drop u s ≡ under w (take n (drop (u + w) s)) ++ drop (u + w + n) s = simp (drop-drop, z) at v in
    record {
      bytes = a.bytes ∙ ap (λ x. oid_bytes t ++ x) v' ∙ sym (append_assoc (oid_bytes t) (under w (take n (drop (u + w) s))) (drop (u + w + n) s));
      pos = omega (arith, a.pos);
      room = h;
    }

pub head_says : (l : Level) (s : List ℕ) (h : Head) → Bytes s → head_of l s ≡ ok h → HeadRead l s h
unfolding head_of
head_says l s h b e =
    bind_then _ _ _ e λ t et e₁.
    bind_then _ _ _ e₁ λ n en e₂.
    need_then _ _ _ _ e₂ λ br e₃.
    need_then _ _ _ _ e₃ λ room e₄.
    let (a, lo, hi) = tag_says s t b et in
    let (c, ho) = len_says (drop t.used s) n (bytes_drop t.used s b) en in
    let rm : t.used + n.used + n.val ≤ length s = leb-true _ _ room in
    rw (← ok_inj _ _ e₄)
    (record {
      took = item_took s t.val t.used n.used n.val a c rm;
      size_is = length-take-le n.val (drop (t.used + n.used) s) (simp length-drop (omega arith));
      low = lo;
      high = hi;
      coded = ho;
      brief = br;
    })

abbrev pub head_with : Item → Head
head_with i = record { tag = i.tag; width = i.width; from = length (oid_bytes i.tag) + i.width; size = length i.value }

-- where the pieces of an item stand, whatever follows it
pub record Pieces (i : Item) (t s : List ℕ) : Type 0 where
  pub after_tag : drop (length (oid_bytes i.tag)) s ≡ len_bytes i.width (length i.value) ++ (i.value ++ t)
  pub value_is : take (length i.value) (drop (length (oid_bytes i.tag) + i.width) s) ≡ i.value
  pub size_is : length s ≡ length (oid_bytes i.tag) + i.width + length i.value + length t
  pub bytes : s ≡ oid_bytes i.tag ++ (len_bytes i.width (length i.value) ++ (i.value ++ t))

pub pieces : (i : Item) (t : List ℕ) → Pieces i t (flat_item i ++ t)
unfolding flat_item
pieces i t =
    let o : List ℕ = oid_bytes i.tag in
    let w : ℕ = i.width in
    let n : ℕ = length i.value in
    let s : List ℕ = flat_item i ++ t in
    let z : s ≡ o ++ (len_bytes w n ++ (i.value ++ t)) = simp append_assoc in
    let d₁ : drop (length o) s ≡ len_bytes w n ++ (i.value ++ t) = rw z (drop-append_seam o (len_bytes w n ++ (i.value ++ t))) in
    let d₂ : drop (length o + w) s ≡ i.value ++ t = sym (drop-drop w (length o) s) ∙ rw d₁ (drop_at (len_bytes w n) (i.value ++ t) w (length_len w n)) in
    record {
      after_tag = d₁;
      value_is = rw d₂ (take-append_seam i.value t);
      size_is = rw z (simp (length-append, length_len) (omega arith));
      bytes = z;
    }

pub head_back : (l : Level) (i : Item) (t : List ℕ) → 0 < i.tag → i.tag ≤ 16383 → Holds i.width (length i.value)
    → not (is_set l && eqb i.tag 1) || eqb i.width 1 ≡ true → head_of l (flat_item i ++ t) ≡ ok (head_with i)
unfolding head_of ◌>>=◌ need
head_back l i t lo hi co br =
    let k = pieces i t in
    let u : ℕ = length (oid_bytes i.tag) in
    let n : ℕ = length i.value in
    let et : tag_of (flat_item i ++ t) ≡ ok (got i.tag u) = rw k.bytes (tag_back i.tag _ lo hi) in
    rw (
      et,
      k.after_tag,
      len_back i.width n (i.value ++ t) co,
      br,
      k.size_is,
      le-leb (u + i.width + n) (u + i.width + n + length t) (omega arith),
    )

-- ---- the item

-- what is known of an item that was read
pub record ItemRead (l : Level) (f : Form) (seen : List ℕ) (i : Item) (last : Bool) : Type 0 where
  pub low : 0 < i.tag
  pub high : i.tag ≤ 16383
  pub coded : Holds i.width (length i.value)
  pub brief : not (is_set l && eqb i.tag 1) || eqb i.width 1 ≡ true
  pub ruled : Ruled l f seen i.tag last i.value

pub item_says : (l : Level) (f : Form) (seen s : List ℕ) (r : Got Item) → Bytes s → item l f seen s ≡ ok r
    → Took (flat_item r.val) s r.used × ItemRead l f seen r.val (eqb r.used (length s))
unfolding item
item_says l f seen s r b e =
    bind_then _ _ _ e λ h eh e₁.
    bind_then _ _ _ e₁ λ u eu e₂.
    let k = head_says l s h b eh in
    rw (← ok_inj _ _ e₂) (
      k.took,
      record { low = k.low; high = k.high; coded = rw k.size_is k.coded; brief = k.brief; ruled = rules_say _ _ _ _ _ _ _ eu },
    )

pub item_back : (l : Level) (f : Form) (seen : List ℕ) (i : Item) (t : List ℕ) → ItemRead l f seen i (none? t)
    → item l f seen (flat_item i ++ t) ≡ ok (got i (length (flat_item i)))
unfolding item ◌>>=◌
item_back l f seen i t h =
    let k = pieces i t in
    let u : ℕ = length (oid_bytes i.tag) in
    let n : ℕ = length i.value in
    rw (
      head_back l i t h.low h.high h.coded h.brief,
      k.value_is,
      k.size_is,
      at_end (u + i.width + n) t,
      rules_give l f seen i.tag (none? t) i.value h.ruled,
      length_item i,
    )

-- ---- as steps of a run

pub item_faithful : (l : Level) (f : Form) → Faithful always tag_of_item (item l f) flat_item
item_faithful l f seen s r b _ e = (item_says l f seen s r b e).0

-- an item that was read where it stands
pub item_stood : (l : Level) (f : Form) (seen : List ℕ) (i : Item) (t : List ℕ) → Bytes (flat_item i ++ t) → ReadsAt always tag_of_item (item l f) flat_item seen i t
    → ItemRead l f seen i (none? t)
item_stood l f seen i t b h = rw (ends_none (flat_item i) t) at (item_says l f seen (flat_item i ++ t) (got i (length (flat_item i))) b h.reads).1

pub item_reads : (l : Level) (f : Form) (seen : List ℕ) (i : Item) (t : List ℕ) → ItemRead l f seen i (none? t) → ReadsAt always tag_of_item (item l f) flat_item seen i t
item_reads l f seen i t h = record {
  goes = refl;
  reads = item_back l f seen i t h;
  some = rw length_item (omega (arith, h.ruled.not_empty));
}

-- ---- read and valid

pub item_valid : (l : Level) (f : Form) (seen : List ℕ) (i : Item) (last : Bool) → nameable l i.tag ≡ true → ItemRead l f seen i last → ItemValid l f i
item_valid l f seen i last m h = record {
  meets = record {
    named = m;
    not_empty = h.ruled.not_empty;
    may_stand = stands_anywhere l f i.tag true last (not_seal l i.tag m) ∙ h.ruled.stands.may_stand;
    valued = h.ruled.valued;
  };
  coded = h.coded;
}

pub valid_item : (l : Level) (f : Form) (seen : List ℕ) (i : Item) (last : Bool) → has i.tag seen ≡ false → may_begin l f i.tag seen ≡ true → ItemValid l f i
    → ItemRead l f seen i last
valid_item l f seen i last n m h =
    let g = h.meets in
    let q = not_seal l i.tag g.named in
    record {
      low = nameable_low l i.tag g.named;
      high = nameable_high l i.tag g.named;
      coded = h.coded;
      brief = rw q;
      ruled = record {
        not_empty = g.not_empty;
        stands = record { new = n; may_stand = stands_anywhere l f i.tag last true q ∙ g.may_stand; begins = m };
        valued = g.valued;
      };
    }

pub item_size_lem : (l : Level) (f : Form) (i : Item) → ItemValid l f i → 2 + length i.value ≤ length (flat_item i)
item_size_lem l f i h = rw length_item (omega (arith, oid_some i.tag, holds_pos i.width (length i.value) h.coded))
