-- What a step says, given the head that the code read: for a walk over what was checked.
use mathlib.Core.Path.{◌≡◌, refl, sym, ap, ◌∙◌, subst}
use Prim.Native.Nat.{ℕ, ◌+◌, ◌≤◌, ◌<◌}
use native.Mathlib.Omega.{arith}
use mathlib.Core.Bool.{Bool, true, false, ◌&&◌}
use mathlib.Core.List.{List, map}
use lib.ListN.{length, take, drop}
use lib.Dec.{eqb}
use Rattle.format.specs.Answer.{ok, Got, got}
use Rattle.format.specs.Coding.{Bytes, oid_bytes}
use Rattle.format.specs.Table.{Form, Level, set, pack, is_set}
use Rattle.format.specs.Run.{run, always}
use Rattle.format.specs.Packet.{Item, Pack, Entry, plain, series, tag_of_item, flat_item, pack_body, flat_pack, flat_entry}
use Rattle.format.specs.Read.{head_of, item, pack_head, one_pack, entry}
use Rattle.format.specs.Read as Read
use Rattle.format.proofs.Words.Answers.{never, no_bool, bind_then, need_then, after_then, ok_inj}
use Rattle.format.proofs.Words.Bytes.{took_length}
use Rattle.format.proofs.Coding.Lengths.{holds_pos}
use Rattle.format.proofs.Coding.Oids.{oid_some}
use Rattle.format.proofs.Reading.Items.{length_item, head_says, item_says}
use Rattle.format.proofs.Reading.Entries.{entry_says}
use Rattle.format.proofs.Reading.Packs.{length_pack, pack_head_says, pack_says}
use Rattle.std.proofs.Common.{Result, Ok, Err}
use Rattle.coding.specs.declared.refusals.Refusal.{Refusal}
use Rattle.coding.specs.Refusals.{number}
use Rattle.heads.specs.declared.Head.{Head}
use Rattle.heads.specs.Meet.{head, item_head_of, pack_head_of}
use Rattle.tally.specs.Meet.{deepen_at, step_at}
use Rattle.tally.specs.Runs.{level_run, series_run}
use Rattle.tally.proofs.Levels.{deepen_plain, deepen_series}
use Rattle.tally.proofs.Maps.{mapped}
use Rattle.tally.proofs.Series.{run_plain}

-- ---- an entry

-- what stands at the start of u under this head
pub record EntryHere (l : Level) (f : Form) (u : List ℕ) (key used width size : ℕ) (r : Got Entry) : Type 0 where
  pub used_is : r.used ≡ used + width + size
  pub room : used + width + size ≤ length u
  pub some : 0 < size
  pub head : 0 < used
  pub oid : length (oid_bytes key) ≡ used
  pub flat_is : length (flat_entry r.val) ≡ r.used
  pub one : is_set l && eqb key 101 ≡ false → r.val ≡ plain (record { tag = key; width = width; value = take size (drop (used + width) u) })
  pub packs : is_set l && eqb key 101 ≡ true → (ps : Got (List Pack)) × (r.val ≡ series width ps.val) × (series_run f (take size (drop (used + width) u)) ≡ ok ps)

-- the head that the code read
abbrev head_is : ℕ → ℕ → ℕ → ℕ → Read.Head
head_is key used width size = record { tag = key; width = width; from = used + width; size = size }

abbrev item_is : List ℕ → Read.Head → Got Item
item_is u h = got (record { tag = h.tag; width = h.width; value = take h.size (drop h.from u) }) (h.from + h.size)

item_under : (l : Level) (f : Form) (seen u : List ℕ) (i : Got Item) → item l f seen u ≡ ok i → (h : Read.Head) → head_of l u ≡ ok h → i ≡ item_is u h
unfolding item
item_under l f seen u i e h eh =
    bind_then _ _ _ e λ k ek e₁.
    bind_then _ _ _ e₁ λ _ _ e₂.
    sym (ok_inj _ _ e₂) ∙ ap (item_is u) (ok_inj _ _ (sym ek ∙ eh))

step_item : {X : Type 0} (l : Level) (f : Form) (seen u : List ℕ) (r : Got Entry) → step_at l f seen u ≡ ok r → ((i : Got Item) → item l f seen u ≡ ok i → deepen_at l f i ≡ ok r → X) → X
unfolding step_at
step_item l f seen u r e k = bind_then _ _ _ e k

step_took : (l : Level) (f : Form) (seen u : List ℕ) (r : Got Entry) → Bytes u → step_at l f seen u ≡ ok r → length (flat_entry r.val) ≡ r.used
unfolding step_at deepen_at
step_took set f seen u r b e = took_length _ _ _ (entry_says f seen u r b (unfold entry in e)).0
step_took pack f seen u r b e = step_item pack f seen u r e λ i ei e₁. rw (← ok_inj _ _ e₁) (unfold flat_entry in (took_length _ _ _ (item_says pack f seen u i b ei).0))

series_under : (l : Level) (f : Form) (i : Got Item) (r : Got Entry) → deepen_at l f i ≡ ok r → is_set l && eqb i.val.tag 101 ≡ true
    → (ps : Got (List Pack)) × (r.val ≡ series i.val.width ps.val) × (series_run f i.val.value ≡ ok ps)
unfolding series_run
series_under set f i r e z = after_then _ _ _ _ (sym (deepen_series f i z) ∙ e) λ ps eps e₁. (ps, ap (λ x. x.val) (sym (ok_inj _ _ e₁)), eps)
series_under pack f i r e z = no_bool z

deepen_used : (l : Level) (f : Form) (i : Got Item) (r : Got Entry) → deepen_at l f i ≡ ok r → r.used ≡ i.used
deepen_used l f i r e = go (is_set l && eqb i.val.tag 101) refl
  where
    go : (z : Bool) → is_set l && eqb i.val.tag 101 ≡ z → r.used ≡ i.used
    go true z = deep l e z
      where
        deep : (l : Level) → deepen_at l f i ≡ ok r → is_set l && eqb i.val.tag 101 ≡ true → r.used ≡ i.used
        deep set e z = after_then _ _ _ _ (sym (deepen_series f i z) ∙ e) λ ps eps e₁. ap (λ x. x.used) (sym (ok_inj _ _ e₁))
        deep pack e z = no_bool z
    go false z = ap (λ x. x.used) (sym (ok_inj _ _ (sym (deepen_plain l f i z) ∙ e)))

module _ (l : Level) (f : Form) (seen u : List ℕ) where
  entry_under : Bytes u → (r : Got Entry) → step_at l f seen u ≡ ok r → (key used width size : ℕ) → head_of l u ≡ ok (head_is key used width size) → EntryHere l f u key used width size r
  entry_under b r e key used width size eh =
      step_item l f seen u r e λ i ei e₁.
      let is : i ≡ item_is u (head_is key used width size) = item_under l f seen u i ei _ eh in
      let k = head_says l u (head_is key used width size) b eh in
      let (took, read) = item_says l f seen u i b ei in
      let e₂ : deepen_at l f (item_is u (head_is key used width size)) ≡ ok r = rw is at e₁ in
      let len : length (flat_item (item_is u (head_is key used width size)).val) ≡ used + width + size = took_length _ _ _ k.took in
      let some : 0 < length (take size (drop (used + width) u)) = rw is at read.ruled.not_empty in
      let parts = length_item (item_is u (head_is key used width size)).val in
      record {
        used_is = deepen_used l f (item_is u (head_is key used width size)) r e₂;
        room = k.took.room;
        some = omega (arith, some, k.size_is);
        head = omega (arith, len, parts, k.size_is, oid_some key);
        oid = omega (arith, len, parts, k.size_is);
        flat_is = step_took l f seen u r b e;
        one = λ z. ap (λ x. x.val) (sym (ok_inj _ _ (sym (deepen_plain l f (item_is u (head_is key used width size)) z) ∙ e₂)));
        packs = λ z. series_under l f (item_is u (head_is key used width size)) r e₂ z;
      }

  -- the code's head: whole, or a fault that cannot be
  pub entry_here : Bytes u → (r : Got Entry) → step_at l f seen u ≡ ok r → (h : Result Head Refusal) → item_head_of h ≡ head_of l u
      → {key used width size : ℕ} → h ≡ Ok (head key used width size) → EntryHere l f u key used width size r
  entry_here b r e h eh t = entry_under b r e _ _ _ _ (sym eh ∙ ap item_head_of t)

  pub no_head_entry : {X : Type 0} (r : Got Entry) → step_at l f seen u ≡ ok r → (h : Result Head Refusal) → item_head_of h ≡ head_of l u → {x : Refusal} → h ≡ Err x → X
  unfolding item
  no_head_entry {X = X} r e h eh {x = x} t =
      step_item l f seen u r e λ i ei _.
      bind_then _ _ _ ei λ k ek _.
      never (number x) 0 k (ap item_head_of (sym t) ∙ eh ∙ ek)

-- ---- a pack

pub record PackHere (f : Form) (u : List ℕ) (key used width size : ℕ) (r : Got Pack) : Type 0 where
  pub used_is : r.used ≡ width + size
  pub room : width + size ≤ length u
  pub len : 0 < width
  pub body : used ≤ size
  pub oid : length (oid_bytes key) ≡ used
  pub body_is : length (pack_body r.val) ≡ size
  pub flat_is : length (flat_pack r.val) ≡ r.used
  pub items : List Item
  pub it_is : r.val ≡ record { width = width; id = key; items = items }
  pub entries : Got (List Entry)
  pub entries_are : entries.val ≡ map plain items
  pub runs : level_run pack f (drop used (take size (drop width u))) ≡ ok entries

abbrev pack_is : ℕ → ℕ → ℕ → ℕ → Read.PackHead
pack_is key used width size = record { width = width; size = size; id = key; used = used }

module _ (f : Form) (seen u : List ℕ) where
  abbrev PackUnder : Got Pack → Read.PackHead → Type 0
  PackUnder r h =
      (is : Got (List Item)) × (run always tag_of_item (item pack f) (drop h.used (take h.size (drop h.width u))) ≡ ok is)
      × (r ≡ got (record { width = h.width; id = h.id; items = is.val }) (h.width + h.size))

  pack_under : (r : Got Pack) → one_pack f seen u ≡ ok r → (h : Read.PackHead) → pack_head u ≡ ok h → PackUnder r h
  unfolding one_pack
  pack_under r e h eh =
      bind_then _ _ _ e λ k ek e₁.
      need_then _ _ _ _ e₁ λ _ e₂.
      after_then _ _ _ _ e₂ λ is eis e₃.
      bind_then _ _ _ e₃ λ _ _ e₄.
      subst (PackUnder r) (ok_inj _ _ (sym ek ∙ eh)) (is, eis, sym (ok_inj _ _ e₄))

  pack_whole : Bytes u → (r : Got Pack) → one_pack f seen u ≡ ok r → (key used width size : ℕ) → pack_head u ≡ ok (pack_is key used width size) → PackHere f u key used width size r
  unfolding level_run
  pack_whole b r e key used width size eh =
      let (is, ei, q) = pack_under r e (pack_is key used width size) eh in
      let k = pack_head_says u (pack_is key used width size) b eh in
      let len = took_length _ _ _ (pack_says f seen u r b e).0 in
      let wide : r.val.width ≡ width = ap (λ x. x.val.width) q in
      let used_is : r.used ≡ width + size = ap (λ x. x.used) q in
      record {
        used_is = used_is;
        room = k.room;
        len = holds_pos width size k.coded;
        body = omega (arith, k.id_took.room, k.size_is);
        oid = took_length _ _ _ k.id_took;
        body_is = omega (arith, length_pack r.val, len, wide, used_is);
        flat_is = len;
        items = is.val;
        it_is = ap (λ x. x.val) q;
        entries = got (map plain is.val) is.used;
        entries_are = refl;
        runs = run_plain f _ ∙ ap (mapped plain) ei;
      }

  pub pack_here : Bytes u → (r : Got Pack) → one_pack f seen u ≡ ok r → (h : Result Head Refusal) → pack_head_of h ≡ pack_head u
      → {key used width size : ℕ} → h ≡ Ok (head key used width size) → PackHere f u key used width size r
  pack_here b r e h eh t = pack_whole b r e _ _ _ _ (sym eh ∙ ap pack_head_of t)

  pub no_head_pack : {X : Type 0} (r : Got Pack) → one_pack f seen u ≡ ok r → (h : Result Head Refusal) → pack_head_of h ≡ pack_head u → {x : Refusal} → h ≡ Err x → X
  unfolding one_pack
  no_head_pack {X = X} r e h eh {x = x} t = bind_then _ _ _ e λ k ek _. never (number x) 0 k (ap pack_head_of (sym t) ∙ eh ∙ ek)
