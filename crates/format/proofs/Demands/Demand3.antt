-- Demand 3, in one place.
use mathlib.Core.Path.{◌≡◌, refl, sym, ap, ◌∙◌, subst}
use Prim.Native.Nat.{ℕ, ◌≤◌}
use mathlib.Core.Bool.{Bool, true, false}
use mathlib.Core.List.{List, ◌++◌}
use mathlib.Core.Logic.{inl, inr}
use lib.ListN.{length}
use lib.Dec.{leb}
use borrow.Author.Tests.{leb-false, lt-leb}
use Rattle.format.specs.Answer.{Ans, ok, refused, ◌>>=◌, need}
use Rattle.format.specs.Coding.{Bytes}
use Rattle.format.specs.Table.{Form}
use Rattle.format.specs.Packet.{Packet, flat}
use Rattle.format.specs.Read.{parse, limit}
use Rattle.format.specs.Sheet.{content, sheet_bytes}
use Rattle.format.specs.Calls.{packet_of, packed, read, write, normalise}
use Rattle.format.specs.Edit.{Holder, Changes, edit_sheet, edit_rules, edit_packet, edit}
use Rattle.format.specs.Valid.{Valid, SheetValid}
use Rattle.format.specs.Demands.Kept.{Kept}
use Rattle.format.specs.Demands.Demand3.{Why, Distinct, Allowed, Changed, Demand3}
use Rattle.format.proofs.Words.Answers.{never, bind_then, ok_inj}
use Rattle.format.proofs.Reading.Packets.{parse_says, valid_parses, lies_parses}
use Rattle.format.proofs.Sheets.Sheets.{sheet_back}
use Rattle.format.proofs.Sheets.Content.{content_form, content_valid}
use Rattle.format.proofs.Sheets.Normal.{closed_form}
use Rattle.format.proofs.Edits.Rules.{rules_then, rules_give}
use Rattle.format.proofs.Edits.Results.{edited_valid, edited_says, edited_normal}
use Rattle.format.proofs.Edits.Allowed.{allowed_says, allowed_gives}
use Rattle.format.proofs.Edits.InTurn.{packet_both, rules_both}
use Rattle.format.proofs.Edits.Kept.{edited_kept, kept_is, kept_tags, one_kept}
use Rattle.format.proofs.Demands.Accepted.{read_is}
use Rattle.format.proofs.Demands.Demand2.{packed_then, packed_small, write_afresh, normal_packet}

edited_form : (h : Holder) (cs : Changes) (p : Packet) → (edit_packet h cs p).form ≡ p.form
unfolding edit_packet
edited_form h cs p = closed_form p.form _

-- what an edit that goes through went through
edit_then : {X : Type 0} (f : Form) (h : Holder) (cs : Changes) (s b : List ℕ) → edit f h cs s ≡ ok b
    → ((p : Packet) → parse f s ≡ ok p → (u : Unit {0}) → edit_rules h cs (content p) ≡ ok u → length (flat (edit_packet h cs p)) ≤ 8192 → flat (edit_packet h cs p) ≡ b → X) → X
unfolding edit
edit_then f h cs s b e k =
    bind_then _ _ _ e λ p ep e₁.
    bind_then _ _ _ e₁ λ u eu e₂.
    packed_then (edit_packet h cs p) b e₂ λ l z.
    k p ep u eu l z

module _ (f : Form) (h : Holder) (cs : Changes) (s : List ℕ) where
  -- ---- refused exactly when

  why_refused : (n a : ℕ) → Why f h cs s n a → edit f h cs s ≡ refused n a
  unfolding edit packed limit ◌>>=◌ need
  why_refused n a (inl e) = rw e
  why_refused n a (inr (inl (p, e, k))) = rw (e, k)
  why_refused n a (inr (inr (p, e, k, l, x, y))) = rw (e, k, lt-leb (length (flat (edit_packet h cs p))) 8192 l, x, y)

  refused_why : (n a : ℕ) → edit f h cs s ≡ refused n a → Why f h cs s n a
  unfolding edit packed limit ◌>>=◌ need
  refused_why n a e = at_parse (parse f s) refl
    where
      at_size : (p : Packet) → parse f s ≡ ok p → edit_rules h cs (content p) ≡ ok tt → (b : Bool) → leb (length (flat (edit_packet h cs p))) 8192 ≡ b → Why f h cs s n a
      at_size p x y true z = never n a (flat (edit_packet h cs p)) (sym (rw (x, y, z) at e))
      at_size p x y false z =
          let q : ◌≡◌ {A = Ans (List ℕ)} (refused 1 0) (refused n a) = rw (x, y, z) at e in
          inr (inr (p, x, y, leb-false (length (flat (edit_packet h cs p))) 8192 z, cc, cc))

      at_rules : (p : Packet) → parse f s ≡ ok p → (u : Ans (Unit {0})) → edit_rules h cs (content p) ≡ u → Why f h cs s n a
      at_rules p x (ok u) y = at_size p x y (leb (length (flat (edit_packet h cs p))) 8192) refl
      at_rules p x (refused m b) y =
          let q : ◌≡◌ {A = Ans (List ℕ)} (refused m b) (refused n a) = rw (x, y) at e in
          let q₁ : m ≡ n = cc in
          let q₂ : b ≡ a = cc in
          inr (inl (p, x, rw (q₁, q₂) at y))

      at_parse : (m : Ans Packet) → parse f s ≡ m → Why f h cs s n a
      at_parse (ok p) x = at_rules p x (edit_rules h cs (content p)) refl
      at_parse (refused m b) x =
          let q : ◌≡◌ {A = Ans (List ℕ)} (refused m b) (refused n a) = rw x at e in
          let q₁ : m ≡ n = cc in
          let q₂ : b ≡ a = cc in
          inl (rw (q₁, q₂) at x)

  -- ---- what the result says, and what it keeps

  module _ (hs : Bytes s) where
    result_valid : (p : Packet) → parse f s ≡ ok p → (u : Unit {0}) → edit_rules h cs (content p) ≡ ok u → length (flat (edit_packet h cs p)) ≤ 8192 → Valid (edit_packet h cs p)
    result_valid p e u eu l = edited_valid h cs p u (parse_says f s p hs e).valid eu l

    result_parses : (p : Packet) → parse f s ≡ ok p → Valid (edit_packet h cs p) → parse f (flat (edit_packet h cs p)) ≡ ok (edit_packet h cs p)
    result_parses p e v =
        ap (λ g. parse g (flat (edit_packet h cs p))) (sym (edited_form h cs p ∙ (parse_says f s p hs e).form_is)) ∙ valid_parses (edit_packet h cs p) v

    -- the edited sheet is valid
    result_sheet : (p : Packet) → Valid (edit_packet h cs p) → SheetValid (edit_sheet h cs (content p))
    result_sheet p v = subst SheetValid (edited_says h cs p) (content_valid (edit_packet h cs p) v)

    afresh : (p : Packet) → parse f s ≡ ok p → Valid (edit_packet h cs p) → normalise f s ≡ ok s
        → write (sheet_bytes (edit_sheet h cs (content p))) ≡ ok (flat (edit_packet h cs p))
    afresh p e v n =
        let z : edit_packet h cs p ≡ packet_of (edit_sheet h cs (content p)) = ap (edit_packet h cs) (normal_packet f s hs p e n) ∙ edited_normal h cs (content p) in
        write_afresh (edit_sheet h cs (content p)) (result_sheet p v) (subst Valid z v) ∙ ap (λ q. ok (flat q)) (sym z)

    changed : (b : List ℕ) → edit f h cs s ≡ ok b → Changed f h cs s b
    changed b e =
        edit_then f h cs s b e λ p ep u eu l z.
        let v = result_valid p ep u eu l in
        record {
          sheet = content p;
          old = read_is f s p ep;
          old_back = sheet_back (content p) (content_valid p (parse_says f s p hs ep).valid);
          new = ap (read f) (sym z) ∙ read_is f _ (edit_packet h cs p) (result_parses p ep v) ∙ ap (λ t. ok (sheet_bytes t)) (edited_says h cs p);
          afresh = λ n. afresh p ep v n ∙ ap ok z;
        }

    accepted_says : (b : List ℕ) → edit f h cs s ≡ ok b → (k : Kept f h cs s b) × Allowed f h cs (content k.packet) × (length b ≤ 8192)
    accepted_says b e =
        edit_then f h cs s b e λ p ep u eu l z.
        let q = parse_says f s p hs ep in
        let a = rules_then h cs (content p) u eu λ tags _ t _. allowed_says f h cs (content p) (content_form p ∙ q.form_is) tags t (result_sheet p (result_valid p ep u eu l)) in
        (edited_kept f h cs s p u b q eu z, a, subst (λ x. length x ≤ 8192) z l)

    accepted_gives : (b : List ℕ) → (k : Kept f h cs s b) × Allowed f h cs (content k.packet) × (length b ≤ 8192) → edit f h cs s ≡ ok b
    unfolding edit ◌>>=◌
    accepted_gives b (k, a, l) =
        let p = k.packet in
        let z = kept_is f h cs s b k in
        let (tags, et, pr) = kept_tags f h cs s b k in
        let (t, en) = allowed_gives f h cs (content p) (content_form p ∙ k.lies.form_is) tags et pr a in
        rw (lies_parses f s p k.lies, rules_give h cs (content p) tags et t en) (packed_small (edit_packet h cs p) (subst (λ x. length x ≤ 8192) z l) ∙ ap ok (sym z))

    -- ---- one after the other

    in_turn : (ds : Changes) (b d : List ℕ) → Distinct h (cs ++ ds) → edit f h cs s ≡ ok b → edit f h ds b ≡ ok d → edit f h (cs ++ ds) s ≡ ok d
    unfolding edit ◌>>=◌
    in_turn ds b d k e₁ e₂ =
        edit_then f h cs s b e₁ λ p ep u eu l z.
        edit_then f h ds b d e₂ λ q eq w ew m y.
        let x : q ≡ edit_packet h cs p = ok_inj _ _ (sym eq ∙ ap (parse f) (sym z) ∙ result_parses p ep (result_valid p ep u eu l)) in
        let both : flat (edit_packet h ds q) ≡ flat (edit_packet h (cs ++ ds) p) = ap (λ r. flat (edit_packet h ds r)) x ∙ ap flat (packet_both cs ds h p) in
        let rules = rules_both h cs ds (content p) k u w eu (ap (λ t. edit_rules h ds t) (sym (ap content x ∙ edited_says h cs p)) ∙ ew) in
        rw (ep, rules) (packed_small (edit_packet h (cs ++ ds) p) (subst (λ r. length r ≤ 8192) both m) ∙ ap ok (sym both ∙ y))

    pub demand_3 : Demand3 f h cs s
    demand_3 = record {
      changed = changed;
      refusal = λ n a. (refused_why n a, why_refused n a);
      accepted = λ b. (accepted_says b, accepted_gives b);
      kept = λ b e. (accepted_says b e).0;
      one_kept = one_kept f h cs s;
      in_turn = in_turn;
    }
