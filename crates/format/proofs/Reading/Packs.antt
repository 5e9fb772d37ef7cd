-- One pack: what was read is a valid pack laid flat, and such a pack is read back.
use mathlib.Core.Path.{◌≡◌, refl, ap, ◌∙◌}
use Prim.Native.Nat.{ℕ, ◌+◌, ◌≤◌, ◌<◌, ◌^◌}
use native.Mathlib.Omega.{arith}
use mathlib.Core.Bool.{false}
use mathlib.Core.List.{List, [], ◌++◌, append_assoc, append-nil}
use lib.ListN.{length, take, drop, length-append, length-drop}
use lib.Seq.{length-take-le, take-append_seam, drop-append_seam, drop_at}
use borrow.Author.Tests.{leb-true, le-leb, not-true}
use Rattle.format.specs.Answer.{ok, Got, got, ◌>>=◌, need, after}
use Rattle.format.specs.Coding.{Bytes, id_of, oid_bytes, len_bytes}
use Rattle.format.specs.Lists.{none?, has, flat_all}
use Rattle.format.specs.Table.{Form, pack}
use Rattle.format.specs.Packet.{Item, Pack, tag_of_item, id_of_pack, under, flat_item, pack_body, flat_pack}
use Rattle.format.specs.Run.{always}
use Rattle.format.specs.Read.{item, PackHead, pack_head, one_pack}
use Rattle.format.specs.Valid.{Holds, Together, ItemValid, PackValid}
use Rattle.format.proofs.Words.Answers.{bind_then, need_then, after_then, ok_inj}
use Rattle.format.proofs.Words.Bytes.{bytes_drop, bytes_take, Took}
use Rattle.format.proofs.Coding.Lengths.{length_len, len_back, len_says, holds_pos}
use Rattle.format.proofs.Coding.Oids.{id_back, id_says, oid_some}
use Rattle.format.proofs.Table.Tags.{pack_nameable, begin_pack}
use Rattle.format.proofs.Reading.Runs.{Along, Faithful, ReadsAt, along_together, free_along, all_says, all_back}
use Rattle.format.proofs.Reading.Items.{under_took, item_faithful, item_stood, item_reads, item_valid, valid_item}

-- ---- sizes

pub length_pack : (p : Pack) → length (flat_pack p) ≡ p.width + length (pack_body p)
unfolding flat_pack
length_pack p = simp (length-append, length_len)

pub pack_size : (p : Pack) → Holds p.width (length (pack_body p)) → 2 + length (flat_all flat_item p.items) ≤ length (flat_pack p)
unfolding pack_body
pack_size p h = rw (length_pack p, length-append) (omega (arith, oid_some p.id, holds_pos p.width _ h))

-- ---- its items

items_valid : (f : Form) (is : List Item) → Bytes (flat_all flat_item is ++ []) → Along tag_of_item flat_item (ReadsAt always tag_of_item (item pack f) flat_item) [] is []
    → Together tag_of_item (ItemValid pack f) is
items_valid f is b h =
    along_together always tag_of_item (item pack f) flat_item (ItemValid pack f)
    (λ seen i t b' r.
    let g = item_stood pack f seen i t b' r in
    (g.ruled.stands.new, item_valid pack f seen i (none? t) (pack_nameable i.tag g.low g.high) g)) is [] b h

items_read : (f : Form) (is : List Item) → Together tag_of_item (ItemValid pack f) is → Along tag_of_item flat_item (ReadsAt always tag_of_item (item pack f) flat_item) [] is []
items_read f is h =
    free_along always tag_of_item (item pack f) flat_item (ItemValid pack f) (λ t. Unit {0}) (λ i t. tt)
    (λ seen i t n _ g. item_reads pack f seen i t (valid_item pack f seen i (none? t) n (begin_pack f i.tag seen) g)) is [] tt h

-- ---- the head

-- what a pack's head that was read says
pub record PackHeadRead (s : List ℕ) (h : PackHead) : Type 0 where
  pub whole : s ≡ under h.width (take h.size (drop h.width s)) ++ drop (h.width + h.size) s
  pub size_is : length (take h.size (drop h.width s)) ≡ h.size
  pub room : h.width + h.size ≤ length s
  pub coded : Holds h.width h.size
  pub id_took : Took (oid_bytes h.id) (take h.size (drop h.width s)) h.used
  pub id_range : h.id < 2 ^ 63

pub pack_head_says : (s : List ℕ) (h : PackHead) → Bytes s → pack_head s ≡ ok h → PackHeadRead s h
unfolding pack_head
pack_head_says s h b e =
    bind_then _ _ _ e λ n en e₁.
    need_then _ _ _ _ e₁ λ room e₂.
    bind_then _ _ _ e₂ λ i ei e₃.
    let (a, c) = len_says s n b en in
    let rm : n.used + n.val ≤ length s = leb-true _ _ room in
    let (o, r) = id_says _ i (bytes_take n.val (drop n.used s) (bytes_drop n.used s b)) ei in
    rw (← ok_inj _ _ e₃)
    (record {
      whole = under_took s n.used n.val a rm;
      size_is = length-take-le n.val (drop n.used s) (simp length-drop (omega arith));
      room = rm;
      coded = c;
      id_took = o;
      id_range = r;
    })

abbrev pub pack_head_with : Pack → PackHead
pack_head_with p = record { width = p.width; size = length (pack_body p); id = p.id; used = length (oid_bytes p.id) }

body_id : (p : Pack) → p.id < 2 ^ 63 → id_of (pack_body p) ≡ ok (got p.id (length (oid_bytes p.id)))
unfolding pack_body
body_id p r = id_back p.id (flat_all flat_item p.items) r

body_items : (p : Pack) → drop (length (oid_bytes p.id)) (pack_body p) ≡ flat_all flat_item p.items
unfolding pack_body
body_items p = drop-append_seam (oid_bytes p.id) (flat_all flat_item p.items)

pub pack_head_back : (p : Pack) (t : List ℕ) → p.id < 2 ^ 63 → Holds p.width (length (pack_body p)) → pack_head (flat_pack p ++ t) ≡ ok (pack_head_with p)
unfolding pack_head ◌>>=◌ need
pack_head_back p t r c =
    let b : List ℕ = pack_body p in
    let w : ℕ = p.width in
    let s : List ℕ = len_bytes w (length b) ++ (b ++ t) in
    let z : flat_pack p ++ t ≡ s = unfold flat_pack in (simp append_assoc) in
    let size : length s ≡ w + length b + length t = simp (length-append, length_len) (omega arith) in
    let d : drop w s ≡ b ++ t = drop_at (len_bytes w (length b)) (b ++ t) w (length_len w (length b)) in
    rw (z, len_back w (length b) (b ++ t) c, size, le-leb (w + length b) (w + length b + length t) (omega arith), d, take-append_seam b t, body_id p r)

-- ---- the pack

pub record PackRead (f : Form) (seen : List ℕ) (p : Pack) : Type 0 where
  pub new : has p.id seen ≡ false
  pub valid : PackValid f p

-- a pack whose body is an id and its items
body_split : (s : List ℕ) (h : PackHead) (is : List Item) → PackHeadRead s h → drop h.used (take h.size (drop h.width s)) ≡ flat_all flat_item is
    → take h.size (drop h.width s) ≡ pack_body (record { width = h.width; id = h.id; items = is })
unfolding pack_body
body_split s h is k e = k.id_took.bytes ∙ ap (λ x. oid_bytes h.id ++ x) e

pub pack_says : (f : Form) (seen s : List ℕ) (r : Got Pack) → Bytes s → one_pack f seen s ≡ ok r → Took (flat_pack r.val) s r.used × PackRead f seen r.val
unfolding one_pack flat_pack
pack_says f seen s r b e =
    bind_then _ _ _ e λ h eh e₁.
    need_then _ _ _ _ e₁ λ new e₂.
    after_then _ _ _ _ e₂ λ is eis e₃.
    bind_then _ _ _ e₃ λ u eu e₄.
    let k = pack_head_says s h b eh in
    let body : List ℕ = take h.size (drop h.width s) in
    let hb : Bytes (drop h.used body) = bytes_drop h.used body (bytes_take h.size (drop h.width s) (bytes_drop h.width s b)) in
    let ran = all_says tag_of_item (item pack f) flat_item (item_faithful pack f) (drop h.used body) is hb eis in
    let z : body ≡ pack_body (record { width = h.width; id = h.id; items = is.val }) = body_split s h is.val k ran.bytes in
    let fl : Bytes (flat_all flat_item is.val ++ []) = rw (append-nil (flat_all flat_item is.val)) (rw ran.bytes at hb) in
    rw (← ok_inj _ _ e₄) (
      record { bytes = rw (← z) k.whole; pos = omega (arith, holds_pos h.width h.size k.coded); room = k.room },
      record {
        new = not-true _ new;
        valid = record {
          id_range = k.id_range;
          items_valid = items_valid f is.val fl ran.along;
          ends = eu;
          coded = rw (← z, k.size_is) k.coded;
        };
      },
    )

pub pack_back : (f : Form) (seen : List ℕ) (p : Pack) (t : List ℕ) → PackRead f seen p → one_pack f seen (flat_pack p ++ t) ≡ ok (got p (length (flat_pack p)))
unfolding one_pack ◌>>=◌ need after
pack_back f seen p t h =
    let b : List ℕ = pack_body p in
    let w : ℕ = p.width in
    let z : flat_pack p ++ t ≡ len_bytes w (length b) ++ (b ++ t) = unfold flat_pack in (simp append_assoc) in
    let d : drop w (flat_pack p ++ t) ≡ b ++ t = rw z (drop_at (len_bytes w (length b)) (b ++ t) w (length_len w (length b))) in
    rw (
      pack_head_back p t h.valid.id_range h.valid.coded,
      h.new,
      d,
      take-append_seam b t,
      body_items p,
      all_back tag_of_item (item pack f) flat_item p.items (items_read f p.items h.valid.items_valid),
      h.valid.ends,
      length_pack,
    )

-- ---- as steps of a run

pub pack_faithful : (f : Form) → Faithful always id_of_pack (one_pack f) flat_pack
pack_faithful f seen s r b _ e = (pack_says f seen s r b e).0

pub pack_stood : (f : Form) (seen : List ℕ) (p : Pack) (t : List ℕ) → Bytes (flat_pack p ++ t) → ReadsAt always id_of_pack (one_pack f) flat_pack seen p t → PackRead f seen p
pack_stood f seen p t b h = (pack_says f seen (flat_pack p ++ t) (got p (length (flat_pack p))) b h.reads).1

pub pack_reads : (f : Form) (seen : List ℕ) (p : Pack) (t : List ℕ) → PackRead f seen p → ReadsAt always id_of_pack (one_pack f) flat_pack seen p t
pack_reads f seen p t h = record {
  goes = refl;
  reads = pack_back f seen p t h;
  some = rw length_pack (omega (arith, holds_pos p.width _ h.valid.coded));
}
