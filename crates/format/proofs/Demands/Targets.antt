-- A target added or dropped: what the result says and keeps, when it is refused, and the way back; and a target read out of another packet.
use mathlib.Core.Path.{◌≡◌, refl, sym, ap, ◌∙◌, subst}
use Prim.Native.Nat.{ℕ, ◌≤◌, ◌<◌}
use native.Mathlib.Omega.{arith}
use mathlib.Core.List.{List, [], ◌∷◌, ◌++◌, map}
use mathlib.Core.Logic.{◌⊎◌, inl, inr}
use lib.ListN.{length}
use borrow.Author.Tests.{leb-false, lt-leb}
use Rattle.format.specs.Answer.{Ans, ok, refused, ◌>>=◌, need}
use Rattle.format.specs.Coding.{Bytes}
use Rattle.format.specs.Lists.{has}
use Rattle.format.specs.Table.{Form, ended}
use Rattle.format.specs.Packet.{Packet, flat}
use Rattle.format.specs.Read.{parse, limit}
use Rattle.format.specs.Sheet.{Target, tag_of_val, target_bytes, content, sheet_bytes}
use Rattle.format.specs.Calls.{packet_of, packed, read, write, normalise}
use Rattle.format.specs.Targets.{TargetChange, added, dropped, moved, targets_in, change_sheet, change_packet, new_target, at_start, target_rules, change_targets, add_target, drop_target}
use Rattle.format.specs.Valid.{TargetValid, Valid, Lies, SheetValid}
use Rattle.format.specs.Demands.Targets.{TargetKept, TargetChanged, WhyAdd, recounted_sheet, AddDemand, FromOther, WhyDrop, DropDemand}
use Rattle.format.proofs.Words.Answers.{never, bind_then, refused_then, need_refused}
use Rattle.format.proofs.Words.Keys.{all_mid}
use Rattle.format.proofs.Reading.Packets.{parse_says, lies_parses}
use Rattle.format.proofs.Sheets.Sheets.{sheet_back}
use Rattle.format.proofs.Sheets.Content.{content_form, content_valid}
use Rattle.format.proofs.Sheets.Normal.{closed_form}
use Rattle.format.proofs.Series.Rules.{NewValid, Fits, ids_in, ids_say, packet_fits, fits_packet}
use Rattle.format.proofs.Series.Records.{new_says, new_back}
use Rattle.format.proofs.Series.Results.{changed_valid, changed_says, changed_normal}
use Rattle.format.proofs.Series.Small.{dropped_small}
use Rattle.format.proofs.Series.Sheets.{targets_valid, target_room, targets_now, added_room}
use Rattle.format.proofs.Series.Kept.{changed_kept, kept_is, one_kept, kept_id}
use Rattle.format.proofs.Series.Back.{back_rules, back_sheet}
use Rattle.format.proofs.Demands.Accepted.{read_is}
use Rattle.format.proofs.Demands.Demand2.{packed_then, packed_small, write_afresh, normal_packet}

-- ---- what a change that goes through says

changed_form : (c : TargetChange) (p : Packet) → (change_packet c p).form ≡ p.form
unfolding change_packet
changed_form c p = closed_form p.form _

module _ (f : Form) (s b : List ℕ) (c : TargetChange) (p : Packet) (q : Lies f s p) (fits : Fits p.form (ids_in p) c)
    (l : length (flat (change_packet c p)) ≤ 8192) (z : flat (change_packet c p) ≡ b) where
  now_lies : Lies f b (change_packet c p)
  now_lies = record { form_is = changed_form c p ∙ q.form_is; lies_flat = z; valid = changed_valid c p q.valid fits l }

  now_says : content (change_packet c p) ≡ change_sheet c (content p)
  now_says = changed_says p.form c p fits.0

  now_sheet : SheetValid (change_sheet c (content p))
  now_sheet = subst SheetValid now_says (content_valid (change_packet c p) now_lies.valid)

  afresh : Bytes s → normalise f s ≡ ok s → write (sheet_bytes (change_sheet c (content p))) ≡ ok b
  afresh hs n =
      let y : change_packet c p ≡ packet_of (change_sheet c (content p))
      = ap (change_packet c) (normal_packet f s hs p (lies_parses f s p q) n) ∙ changed_normal c (content p) in
      write_afresh (change_sheet c (content p)) now_sheet (subst Valid y now_lies.valid) ∙ ap (λ x. ok (flat x)) (sym y) ∙ ap ok z

  now_reads : read f b ≡ ok (sheet_bytes (change_sheet c (content p)))
  now_reads = read_is f b (change_packet c p) (lies_parses f b (change_packet c p) now_lies) ∙ ap (λ t. ok (sheet_bytes t)) now_says

  target_changed : Bytes s → TargetChanged f c s b
  target_changed hs = record {
    sheet = content p;
    old = read_is f s p (lies_parses f s p q);
    old_back = sheet_back (content p) (content_valid p q.valid);
    new = now_reads;
    afresh = afresh hs;
  }

-- ---- what calls that go through went through

changes_then : {X : Type 0} (c : TargetChange) (p : Packet) (b : List ℕ) → change_targets c p ≡ ok b
    → ((u : Unit {0}) → target_rules c (content p) ≡ ok u → length (flat (change_packet c p)) ≤ 8192 → flat (change_packet c p) ≡ b → X) → X
unfolding change_targets
changes_then c p b e k = bind_then _ _ _ e λ u eu e₁. packed_then (change_packet c p) b e₁ λ l z. k u eu l z

start_ok : {A : Type 0} (m : Ans A) (a : A) → at_start m ≡ ok a → m ≡ ok a
unfolding at_start
start_ok (ok x) a e = e
start_ok (refused n p) a e = never n 0 a e

add_then : {X : Type 0} (f : Form) (s r b : List ℕ) → add_target f s r ≡ ok b
    → ((p : Packet) → parse f s ≡ ok p → (t : Target) → new_target f r ≡ ok t → (u : Unit {0}) → target_rules (added t) (content p) ≡ ok u
    → length (flat (change_packet (added t) p)) ≤ 8192 → flat (change_packet (added t) p) ≡ b → X) → X
unfolding add_target
add_then f s r b e k =
    bind_then _ _ _ e λ p ep e₁.
    bind_then _ _ _ e₁ λ t et e₂.
    changes_then (added t) p b e₂ λ u eu l z.
    k p ep t (start_ok _ t et) u eu l z

drop_then : {X : Type 0} (f : Form) (s : List ℕ) (i : ℕ) (b : List ℕ) → drop_target f s i ≡ ok b
    → ((p : Packet) → parse f s ≡ ok p → (u : Unit {0}) → target_rules (dropped i) (content p) ≡ ok u
    → length (flat (change_packet (dropped i) p)) ≤ 8192 → flat (change_packet (dropped i) p) ≡ b → X) → X
unfolding drop_target
drop_then f s i b e k = bind_then _ _ _ e λ p ep e₁. changes_then (dropped i) p b e₁ λ u eu l z. k p ep u eu l z

drop_is : (f : Form) (s : List ℕ) (i : ℕ) (p : Packet) → parse f s ≡ ok p → drop_target f s i ≡ change_targets (dropped i) p
unfolding drop_target ◌>>=◌
drop_is f s i p e = rw e

-- and a change that fits, with a result within the limit, goes through
change_goes : (c : TargetChange) (p : Packet) → Fits p.form (ids_in p) c → length (flat (change_packet c p)) ≤ 8192 → change_targets c p ≡ ok (flat (change_packet c p))
unfolding change_targets ◌>>=◌
change_goes c p h l = rw (fits_packet c p h) (packed_small (change_packet c p) l)

-- ---- why a change is refused

abbrev WhyChange : TargetChange → Packet → ℕ → ℕ → Type 0
WhyChange c p n a = (target_rules c (content p) ≡ refused n a) ⊎ ((target_rules c (content p) ≡ ok tt) × (8192 < length (flat (change_packet c p))) × (n ≡ 1) × (a ≡ 0))

change_refused : (c : TargetChange) (p : Packet) (n a : ℕ) → WhyChange c p n a → change_targets c p ≡ refused n a
unfolding change_targets packed limit ◌>>=◌ need
change_refused c p n a (inl e) = rw e
change_refused c p n a (inr (e, l, x, y)) = rw (e, lt-leb (length (flat (change_packet c p))) 8192 l, x, y)

packed_refused : (p : Packet) (n a : ℕ) → packed p ≡ refused n a → (8192 < length (flat p)) × (n ≡ 1) × (a ≡ 0)
unfolding packed limit
packed_refused p n a e =
    refused_then _ _ n a e
    (λ x. let (l, y, z) = need_refused _ 1 n a x in (leb-false _ _ l, y, z))
    (λ u x y. never n a (flat p) (sym y))

refused_change : (c : TargetChange) (p : Packet) (n a : ℕ) → change_targets c p ≡ refused n a → WhyChange c p n a
unfolding change_targets
refused_change c p n a e = refused_then _ _ n a e inl λ u x y. let (l, k, z) = packed_refused (change_packet c p) n a y in inr (x, l, k, z)

-- ---- an addition

module _ (f : Form) (s r : List ℕ) where
  add_is : (p : Packet) (t : Target) → parse f s ≡ ok p → new_target f r ≡ ok t → add_target f s r ≡ change_targets (added t) p
  unfolding add_target ◌>>=◌ at_start
  add_is p t e k = rw (e, k)

  why_add : (n a : ℕ) → WhyAdd f s r n a → add_target f s r ≡ refused n a
  unfolding add_target ◌>>=◌ at_start
  why_add n a (inl e) = rw e
  why_add n a (inr (p, e, inl k)) = rw (e, k)
  why_add n a (inr (p, e, inr (t, k, w))) = add_is p t e k ∙ change_refused (added t) p n a w

  add_why : (n a : ℕ) → add_target f s r ≡ refused n a → WhyAdd f s r n a
  unfolding add_target
  add_why n a e =
      refused_then _ _ n a e inl λ p x e₁.
      inr (p, x, refused_then _ _ n a e₁ inl λ t y e₂. inr (t, start_ok _ t y, refused_change (added t) p n a e₂))

  abbrev Accepted : List ℕ → Type 0
  Accepted b = (t : Target) × (target_bytes t ≡ r) × TargetValid f t × TargetKept f (added t) s b × (length b ≤ 8192)

  accepted_gives : (b : List ℕ) → Accepted b → add_target f s r ≡ ok b
  accepted_gives b (t, z, v, k, l) =
      let p = k.packet in
      let w : b ≡ flat (change_packet (added t) p) = kept_is f (added t) s b k in
      let fits : Fits p.form (ids_in p) (added t) = (subst (λ g. TargetValid g t) (sym k.lies.form_is) v, kept_id f (added t) s b k) in
      let m = subst (λ x. length x ≤ 8192) w l in
      let et : new_target f r ≡ ok t = ap (new_target f) (sym z) ∙ new_back f t v (added_room t p k.lies.valid fits m) in
      add_is p t (lies_parses f s p k.lies) et ∙ change_goes (added t) p fits m ∙ ap ok (sym w)

  module _ (hs : Bytes s) (hr : Bytes r) where
    add_fits : (p : Packet) → parse f s ≡ ok p → (t : Target) → new_target f r ≡ ok t → (u : Unit {0}) → target_rules (added t) (content p) ≡ ok u
        → Fits p.form (ids_in p) (added t)
    add_fits p ep t et u eu = packet_fits (added t) p u (subst (λ g. NewValid g t) (sym (parse_says f s p hs ep).form_is) (new_says f r t hr et).1) eu

    accepted_says : (b : List ℕ) → add_target f s r ≡ ok b → Accepted b
    accepted_says b e =
        add_then f s r b e λ p ep t et u eu l z.
        let q = parse_says f s p hs ep in
        let (v, n) = add_fits p ep t et u eu in
        (t, (new_says f r t hr et).0, subst (λ g. TargetValid g t) q.form_is v, changed_kept f (added t) s p b q n z, subst (λ x. length x ≤ 8192) z l)

    -- no other valid target has the records of the one that was added
    add_records : (b : List ℕ) (t : Target) → target_bytes t ≡ r → TargetValid f t → add_target f s r ≡ ok b → new_target f r ≡ ok t
    add_records b t z v e =
        add_then f s r b e λ p ep u eu w ew l _.
        let room : length (target_bytes u) ≤ 65536 = added_room u p (parse_says f s p hs ep).valid (add_fits p ep u eu w ew) l in
        ap (new_target f) (sym z) ∙ new_back f t v (subst (λ x. length x ≤ 65536) ((new_says f r u hr eu).0 ∙ sym z) room)

    add_changed : (b : List ℕ) (t : Target) → target_bytes t ≡ r → TargetValid f t → add_target f s r ≡ ok b → TargetChanged f (added t) s b
    add_changed b t z v e =
        let et = add_records b t z v e in
        add_then f s r b e λ p ep _ _ _ _ _ _.
        changes_then (added t) p b (sym (add_is p t ep et) ∙ e) λ u eu l w.
        target_changed f s b (added t) p (parse_says f s p hs ep) (add_fits p ep t et u eu) l w hs

    back : (b : List ℕ) (t : Target) (p : Packet) → target_bytes t ≡ r → TargetValid f t → parse f s ≡ ok p → add_target f s r ≡ ok b
        → (d : List ℕ) × (drop_target f b t.id ≡ ok d) × (read f d ≡ ok (sheet_bytes (recounted_sheet (content p))))
    back b t p z v ep e =
        let et = add_records b t z v e in
        changes_then (added t) p b (sym (add_is p t ep et) ∙ e) λ u eu l w.
        let c : TargetChange = dropped t.id in
        let lies = parse_says f s p hs ep in
        let fits = add_fits p ep t et u eu in
        let q : Packet = change_packet (added t) p in
        let now : Lies f b q = now_lies f s b (added t) p lies fits l w in
        let says : content q ≡ change_sheet (added t) (content p) = now_says f s b (added t) p lies fits l w in
        let old = content_valid p lies.valid in
        let fits₁ : Fits q.form (ids_in q) c = packet_fits c q tt tt (ap (target_rules c) says ∙ back_rules t (content p) old) in
        let m = dropped_small t.id q now.valid fits₁.1 in (
          flat (change_packet c q),
          drop_is f b t.id q (lies_parses f b q now) ∙ change_goes c q fits₁ m,
          now_reads f b _ c q now fits₁ m refl
              ∙ ap (λ x. ok (sheet_bytes x)) (ap (change_sheet c) says ∙ back_sheet t (content p) old (ap (has t.id) (ids_say p) ∙ fits.1)),
        )

    pub add_demand : AddDemand f s r
    add_demand = record {
      changed = add_changed;
      refusal = λ n a. (add_why n a, why_add n a);
      accepted = λ b. (accepted_says b, accepted_gives b);
      one_kept = λ t. one_kept f (added t) s;
      back = back;
    }

-- ---- a drop

module _ (f : Form) (s : List ℕ) (i : ℕ) where
  why_drop : (n a : ℕ) → WhyDrop f s i n a → drop_target f s i ≡ refused n a
  unfolding drop_target ◌>>=◌ target_rules need
  why_drop n a (inl e) = rw e
  why_drop n a (inr (p, e, k, x, y)) = drop_is f s i p e ∙ change_refused (dropped i) p n a (inl (rw (k, x, y)))

  kept_drops : (b : List ℕ) → TargetKept f (dropped i) s b → drop_target f s i ≡ ok b
  kept_drops b k =
      let p = k.packet in
      let n = kept_id f (dropped i) s b k in
      drop_is f s i p (lies_parses f s p k.lies) ∙ change_goes (dropped i) p (tt, n) (dropped_small i p k.lies.valid n) ∙ ap ok (sym (kept_is f (dropped i) s b k))

  module _ (hs : Bytes s) where
    drop_why : (n a : ℕ) → drop_target f s i ≡ refused n a → WhyDrop f s i n a
    unfolding drop_target target_rules
    drop_why n a e = refused_then _ _ n a e inl λ p x y. at_rules p x (refused_change (dropped i) p n a y)
      where
        at_rules : (p : Packet) → parse f s ≡ ok p → WhyChange (dropped i) p n a → WhyDrop f s i n a
        at_rules p x (inl y) = let (k, m, z) = need_refused _ 18 n a y in inr (p, x, k, m, z)
        at_rules p x (inr (y, l, _, _)) = absurd (omega (arith, l, dropped_small i p (parse_says f s p hs x).valid (packet_fits (dropped i) p tt tt y).1))

    drop_changed : (b : List ℕ) → drop_target f s i ≡ ok b → TargetChanged f (dropped i) s b
    drop_changed b e =
        drop_then f s i b e λ p ep u eu l z.
        target_changed f s b (dropped i) p (parse_says f s p hs ep) (packet_fits (dropped i) p u tt eu) l z hs

    drop_kept : (b : List ℕ) → drop_target f s i ≡ ok b → TargetKept f (dropped i) s b
    drop_kept b e = drop_then f s i b e λ p ep u eu l z. changed_kept f (dropped i) s p b (parse_says f s p hs ep) (packet_fits (dropped i) p u tt eu).1 z

    pub drop_demand : DropDemand f s i
    drop_demand = record {
      changed = drop_changed;
      refusal = λ n a. (drop_why n a, why_drop n a);
      accepted = λ b. (drop_kept b, kept_drops b);
      one_kept = one_kept f (dropped i) s;
    }

-- ---- a target read out of another packet

module _ (f : Form) (s other : List ℕ) (p q : Packet) (hs : Bytes s) (ho : Bytes other) (ep : parse f s ≡ ok p) (eq : parse f other ≡ ok q)
    (before : List Target) (t : Target) (after : List Target) (at : targets_in (content q).parts ≡ before ++ (t ∷ after)) where
  sheet : SheetValid (content q)
  sheet = content_valid q (parse_says f other q ho eq).valid

  valid : TargetValid f t
  valid =
      subst (λ g. TargetValid g t) (content_form q ∙ (parse_says f other q ho eq).form_is)
      (all_mid (TargetValid (content q).form) before t after (rw at at (targets_valid (content q) sheet).each))

  records : new_target f (target_bytes t) ≡ ok t
  records = new_back f t valid (target_room (content q) sheet before t after at)

  lies : Lies f s p
  lies = parse_says f s p hs ep

  fits : (u : Unit {0}) → target_rules (added t) (content p) ≡ ok u → Fits p.form (ids_in p) (added t)
  fits u eu = packet_fits (added t) p u (rw lies.form_is (record { id_range = valid.id_range; vals_valid = valid.vals_valid })) eu

  very_items : (b : List ℕ) → add_target f s (target_bytes t) ≡ ok b
      → (read f b ≡ ok (sheet_bytes (change_sheet (added t) (content p)))) × (targets_in (change_sheet (added t) (content p)).parts ≡ targets_in (content p).parts ++ (t ∷ []))
  unfolding moved
  very_items b e =
      changes_then (added t) p b (sym (add_is f s (target_bytes t) p t ep records) ∙ e) λ u eu l z.
      (now_reads f s b (added t) p lies (fits u eu) l z, targets_now (added t) (content p) (content_valid p lies.valid))

  -- its items meet the rules where it ends, in whatever packet of the form
  rules_only : (n a : ℕ) → target_rules (added t) (content p) ≡ refused n a → (n ≡ 10) × (a ≡ 0)
  unfolding target_rules
  rules_only n a e =
      let ends : ended (content p).form (map tag_of_val t.vals) ≡ ok tt = rw (content_form p, lies.form_is) valid.ends in
      refused_then _ _ n a e (λ x. let (_, k, z) = need_refused _ 10 n a x in (k, z)) λ u x y. never n a tt (sym y ∙ ends)

  refused_only : (n a : ℕ) → add_target f s (target_bytes t) ≡ refused n a → (a ≡ 0) × ((n ≡ 10) ⊎ (n ≡ 1))
  refused_only n a e = go (refused_change (added t) p n a (sym (add_is f s (target_bytes t) p t ep records) ∙ e))
    where
      go : WhyChange (added t) p n a → (a ≡ 0) × ((n ≡ 10) ⊎ (n ≡ 1))
      go (inl x) = let (k, z) = rules_only n a x in (z, inl k)
      go (inr (_, _, k, z)) = (z, inr k)

  pub from_other : FromOther f s other p q t
  from_other = record { very_items = very_items; refused_only = refused_only }
