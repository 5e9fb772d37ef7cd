-- Demand 2: writing what was read, and reading what was written.
use mathlib.Core.Path.{◌≡◌, refl, sym, ap, ◌∙◌, subst}
use mathlib.Core.Bool.{Bool, true, false}
use mathlib.Core.List.{List}
use mathlib.Core.Logic.{◌↔◌}
use Prim.Native.Nat.{ℕ, ◌≤◌, ◌<◌}
use native.Mathlib.Omega.{arith}
use lib.ListN.{length, drop}
use borrow.Author.Tests.{leb-true, le-leb}
use Rattle.format.specs.Answer.{Ans, ok, refused, ◌>>=◌, need}
use Rattle.format.specs.Coding.{Bytes}
use Rattle.format.specs.Lists.{flat_all}
use Rattle.format.specs.Table.{Form, Level, is_number, rule_of}
use Rattle.format.specs.Packet.{Item, Packet, flat}
use Rattle.format.specs.Read.{parse, limit}
use Rattle.format.specs.Sheet.{Val, Sheet, content, val_of, form_of, part_bytes, sheet_bytes, unsheet}
use Rattle.format.specs.Calls.{packet_of, packed, read, write, normalise}
use Rattle.format.specs.Valid.{Valid, SheetValid}
use Rattle.format.specs.Demands.Demand2.{Normal, SheetAgain, SameMeaning, ValueKept}
use Rattle.format.proofs.Words.Answers.{never, bind_then, need_then, ok_inj}
use Rattle.format.proofs.Table.Values.{short_keeps, short_number, short_shortest}
use Rattle.format.proofs.Table.Shortest.{shortest_one}
use Rattle.format.proofs.Reading.Packets.{parse_says, valid_parses}
use Rattle.format.proofs.Sheets.Sheets.{sheet_says, sheet_back, form_back}
use Rattle.format.proofs.Sheets.Content.{content_form, content_valid}
use Rattle.format.proofs.Sheets.Normal.{closed_form, packet_valid, packet_content}
use Rattle.format.proofs.Sheets.Same.{normal_less}
use Rattle.format.proofs.Demands.Accepted.{read_is, read_then}

-- ---- the normal form of a valid packet

normal_valid : (p : Packet) → Valid p → Valid (packet_of (content p))
normal_valid p h = packet_valid (content p) (content_valid p h) (omega (arith, normal_less p h, h.small))

pub packed_small : (p : Packet) → length (flat p) ≤ 8192 → packed p ≡ ok (flat p)
unfolding packed limit ◌>>=◌ need
packed_small p h = rw (le-leb (length (flat p)) 8192 h)

-- a valid sheet is written as its packet
pub write_afresh : (t : Sheet) → SheetValid t → Valid (packet_of t) → write (sheet_bytes t) ≡ ok (flat (packet_of t))
unfolding write ◌>>=◌
write_afresh t v w = rw (sheet_back t v) (packed_small (packet_of t) w.small)

pub packet_form : (t : Sheet) → (packet_of t).form ≡ t.form
unfolding packet_of
packet_form t = closed_form t.form _

-- the bytes of a valid sheet's packet are read as that packet
pub packet_parses : (t : Sheet) → Valid (packet_of t) → parse t.form (flat (packet_of t)) ≡ ok (packet_of t)
packet_parses t h = ap (λ g. parse g (flat (packet_of t))) (sym (packet_form t)) ∙ valid_parses (packet_of t) h

module _ (f : Form) (s : List ℕ) (b : Bytes s) where
  pub normal_is : (p : Packet) → parse f s ≡ ok p → normalise f s ≡ ok (flat (packet_of (content p)))
  unfolding normalise ◌>>=◌
  normal_is p e = rw e (packed_small (packet_of (content p)) (normal_valid p (parse_says f s p b e).valid).small)

  write_is : (p : Packet) → parse f s ≡ ok p → write (sheet_bytes (content p)) ≡ ok (flat (packet_of (content p)))
  write_is p e = let h = (parse_says f s p b e).valid in write_afresh (content p) (content_valid p h) (normal_valid p h)

  -- what the normal form reads as
  pub normal_parses : (p : Packet) → parse f s ≡ ok p → parse f (flat (packet_of (content p))) ≡ ok (packet_of (content p))
  normal_parses p e =
      let l = parse_says f s p b e in
      ap (λ g. parse g (flat (packet_of (content p)))) (sym (content_form p ∙ l.form_is)) ∙ packet_parses (content p) (normal_valid p l.valid)

  -- a packet in normal form is its sheet's packet
  pub normal_packet : (p : Packet) → parse f s ≡ ok p → normalise f s ≡ ok s → p ≡ packet_of (content p)
  normal_packet p e n =
      let z : flat (packet_of (content p)) ≡ s = ok_inj _ _ (sym (normal_is p e) ∙ n) in
      ok_inj _ _ (sym e ∙ ap (parse f) (sym z) ∙ normal_parses p e)

  normal_says : (p : Packet) → parse f s ≡ ok p → content (packet_of (content p)) ≡ content p
  normal_says p e = packet_content (content p) (content_valid p (parse_says f s p b e).valid)

  pub normal_then : {X : Type 0} (c : List ℕ) → normalise f s ≡ ok c → ((p : Packet) → parse f s ≡ ok p → flat (packet_of (content p)) ≡ c → X) → X
  unfolding normalise
  normal_then c e k = bind_then _ _ _ e λ p ep e₁. k p ep (ok_inj _ _ (sym (normal_is p ep) ∙ e))

  normal_refuses : (n a : ℕ) → normalise f s ≡ refused n a ↔ read f s ≡ refused n a
  unfolding normalise read ◌>>=◌
  normal_refuses n a = go (parse f s) refl
    where
      go : (m : Ans Packet) → parse f s ≡ m → normalise f s ≡ refused n a ↔ read f s ≡ refused n a
      go (ok p) e = (λ z. never n a _ (sym z ∙ normal_is p e), λ z. never n a _ (sym z ∙ read_is f s p e))
      go (refused m q) e = rw e ((λ z. cc), (λ z. cc))

  own_normal : (p : Packet) → parse f s ≡ ok p → normalise f (flat (packet_of (content p))) ≡ ok (flat (packet_of (content p)))
  unfolding normalise ◌>>=◌
  own_normal p e = rw (normal_parses p e, normal_says p e) (packed_small (packet_of (content p)) (normal_valid p (parse_says f s p b e).valid).small)

  pub normal : Normal f s
  normal = record {
    writes = λ p sheet e r. ap write (ok_inj _ _ (sym r ∙ read_is f s p e)) ∙ write_is p e;
    is_both = λ sheet r. read_then f s sheet r λ p e z. normal_is p e ∙ sym (write_is p e) ∙ ap write z;
    refuses = normal_refuses;
    same_sheet = λ c e. normal_then c e λ p ep z.
        ap (read f) (sym z) ∙ read_is f _ (packet_of (content p)) (normal_parses p ep) ∙ ap (λ t. ok (sheet_bytes t)) (normal_says p ep) ∙ sym (read_is f s p ep);
    own_normal = λ c e. normal_then c e λ p ep z. subst (λ x. normalise f x ≡ ok x) z (own_normal p ep);
  }

-- ---- a sheet that was written

form_again : (t : Sheet) (sheet : List ℕ) → sheet_bytes t ≡ sheet → form_of (drop 2 sheet) ≡ ok t.form
unfolding sheet_bytes
form_again t sheet z = ap (λ x. form_of (drop 2 x)) (sym z) ∙ form_back t.form (flat_all part_bytes t.parts)

pub packed_then : {X : Type 0} (p : Packet) (b : List ℕ) → packed p ≡ ok b → (length (flat p) ≤ 8192 → flat p ≡ b → X) → X
unfolding packed limit
packed_then p b e k = need_then _ _ _ _ e λ l e₁. k (leb-true (length (flat p)) 8192 l) (ok_inj _ _ e₁)

pub write_then : {X : Type 0} (sheet b : List ℕ) → write sheet ≡ ok b → ((t : Sheet) → unsheet sheet ≡ ok t → length (flat (packet_of t)) ≤ 8192 → flat (packet_of t) ≡ b → X) → X
unfolding write
write_then sheet b e k = bind_then _ _ _ e λ t et e₁. packed_then (packet_of t) b e₁ λ l z. k t et l z

pub sheet_again : (sheet : List ℕ) → Bytes sheet → SheetAgain sheet
sheet_again sheet h = record {
  again = λ b e. write_then sheet b e λ t et l z.
      let (q, v) = sheet_says sheet t h et in (
        t.form,
        form_again t sheet q,
        ap (read t.form) (sym z) ∙ read_is t.form _ (packet_of t) (packet_parses t (packet_valid t v l)) ∙ ap (λ x. ok (sheet_bytes x)) (packet_content t v) ∙ ap ok q,
      );
}

-- ---- two packets

pub same_meaning : (f : Form) (s t : List ℕ) → Bytes s → Bytes t → SameMeaning f s t
same_meaning f s t hs ht = record {
  same = λ x y ex ey.
      read_then f s x ex λ p ep zp.
      read_then f t y ey λ q eq zq.
      (λ e. forth p q ep eq (zp ∙ e ∙ sym zq), λ e. sym zp ∙ ap sheet_bytes (back p q ep eq e) ∙ zq);
}
  where
    forth : (p q : Packet) → parse f s ≡ ok p → parse f t ≡ ok q → sheet_bytes (content p) ≡ sheet_bytes (content q) → normalise f s ≡ normalise f t
    forth p q ep eq e =
        let a = sheet_back (content p) (content_valid p (parse_says f s p hs ep).valid) in
        let b = sheet_back (content q) (content_valid q (parse_says f t q ht eq).valid) in
        let z : content p ≡ content q = ok_inj _ _ (sym a ∙ ap unsheet e ∙ b) in
        normal_is f s hs p ep ∙ ap (λ c. ok (flat (packet_of c))) z ∙ sym (normal_is f t ht q eq)

    back : (p q : Packet) → parse f s ≡ ok p → parse f t ≡ ok q → normalise f s ≡ normalise f t → content p ≡ content q
    back p q ep eq e =
        let z : flat (packet_of (content p)) ≡ flat (packet_of (content q)) = ok_inj _ _ (sym (normal_is f s hs p ep) ∙ e ∙ normal_is f t ht q eq) in
        let w : packet_of (content p) ≡ packet_of (content q) = ok_inj _ _ (sym (normal_parses f s hs p ep) ∙ ap (parse f) z ∙ normal_parses f t ht q eq) in
        sym (normal_says f s hs p ep) ∙ ap content w ∙ normal_says f t ht q eq

-- ---- an item's value

pub value_kept : (l : Level) (i : Item) → Bytes i.value → 0 < length i.value → ValueKept l i (val_of l i)
unfolding val_of
value_kept l i h p = record {
  tag = refl;
  bytes = short_keeps (rule_of l i.tag) i.value;
  number = λ e. (short_number (rule_of l i.tag) i.value, short_shortest (rule_of l i.tag) i.value e h p);
}

-- nothing else is so kept
pub one_value : (l : Level) (i : Item) (x y : Val) → ValueKept l i x → ValueKept l i y → x ≡ y
one_value l i x y a b = go (is_number (rule_of l i.tag).kind) refl
  where
    same_val : x.value ≡ y.value → x ≡ y
    same_val e = let t : x.tag ≡ y.tag = a.tag ∙ sym b.tag in ap (λ (w : ℕ × List ℕ). record { tag = w.0; value = w.1 }) (rw (t, e) refl)

    go : (n : Bool) → is_number (rule_of l i.tag).kind ≡ n → x ≡ y
    go false e = same_val (a.bytes e ∙ sym (b.bytes e))
    go true e =
        let (m, s) = a.number e in
        let (n, z) = b.number e in
        same_val (shortest_one x.value y.value s z (m ∙ sym n))
