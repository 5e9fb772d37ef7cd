-- An edit at its cuts, by what holds the items: one change, and two of a target.
use mathlib.Core.Path.{◌≡◌, refl, sym, ap, ◌∙◌, subst}
use mathlib.Core.Logic.{inl, inr}
use Prim.Native.Nat.{ℕ, ◌+◌, ◌<◌}
use native.Mathlib.Omega.{arith}
use mathlib.Core.Bool.{Bool, true, false}
use mathlib.Core.List.{List, [], ◌∷◌, map}
use lib.ListN.{length}
use lib.Dec.{eqb, ltb}
use borrow.Author.Tests.{lt-ltb, le-ltb}
use Rattle.format.specs.Answer.{ok, refused}
use Rattle.format.specs.Coding.{Bytes, oid_bytes}
use Rattle.format.specs.Lists.{has, flat_all, ask_hit}
use Rattle.format.specs.Table.{Form, set, pack, nameable}
use Rattle.format.specs.Packet.{Item, Pack, Entry, series, tag_of_item, tag_of_entry, flat_item, flat_pack, flat_entry}
use Rattle.format.specs.Sheet.{part_of}
use Rattle.format.specs.Edit.{Change, put, remove, Changes, target, applied, tags_at, is_series, edit_entries}
use Rattle.format.proofs.Words.Answers.{ok_inj}
use Rattle.format.proofs.Coding.Oids.{oid_some}
use Rattle.format.proofs.Reading.Items.{length_item}
use Rattle.format.proofs.Reading.Entries.{plain_flat}
use Rattle.format.proofs.Edits.Results.{an_item, an_entry, made_tag}
use Rattle.items.specs.Meet.{level_of}
use Rattle.find.specs.declared.Place.{Place}
use Rattle.find.specs.Spots.{spot_in, Hit, has_id, item_spot, item_lead, entry_lead}
use Rattle.find.specs.Places.{holder_of, SetOf, kept_of, SetPlaced, TargetPlaced, Placed, Unheld}
use Rattle.find.proofs.Splices.{ask_hit_lem, hit_spot}
use Rattle.edit_rules.specs.declared.Change as told
use Rattle.edit_rules.specs.declared.Cut.{Cut}
use Rattle.edit_rules.specs.declared.Cuts.{Cuts}
use Rattle.edit_rules.specs.declared.two.Judged.{Judged}
use Rattle.edit_rules.specs.Meet.{change_of, one_of, edited_of, short_of, item_bytes, cut_of, TurnAt, cuts_of, judged, in_order}
use Rattle.edit_rules.specs.Cuts.{item_put, with_two, no_cut, one_cut, low_of, Cutting, cut_bytes}
use Rattle.edit_rules.proofs.Levels.{has_spot, alone, made_bytes, one_swap, two_swapped, Two}
use Rattle.edit_rules.proofs.Items.{put_is, cut_says, no_cut_says}
use Rattle.edit_rules.proofs.Sets.{set_tags, SetSpot, set_spot, set_stands, set_edits, set_spans}
use Rattle.edit_rules.proofs.Targets.{target_tags_lem, target_edits, target_spans, none_tags}

-- ---- what a change puts

abbrev item_made : ℕ → Change → List ℕ
item_made tag c = made_bytes flat_item item_lead item_lead tag_of_item (an_item pack) tag c

abbrev entry_made : ℕ → Change → List ℕ
entry_made tag c = made_bytes flat_entry entry_lead entry_lead tag_of_entry an_entry tag c

made_item : (tag : ℕ) (c : Change) → item_made tag c ≡ item_bytes pack tag c
unfolding item_bytes
made_item tag (put v) = refl
made_item tag remove = refl

made_entry : (tag : ℕ) (c : Change) → entry_made tag c ≡ item_bytes set tag c
unfolding item_bytes
made_entry tag (put v) = plain_flat _
made_entry tag remove = refl

item_some : (i : Item) → 0 < length (flat_item i)
item_some i = rw length_item (omega (arith, oid_some i.tag))

-- ---- the first hit is one

module _ {X : Type 0} (hit : X → Bool) {xs ys : List X} (e : ys ≡ xs) (a : Hit hit xs) (b : Hit hit ys) where
  same_it : b.it ≡ a.it
  same_it = ok_inj _ _ (sym (ask_hit_lem hit b (λ x. ok x)) ∙ ap (ask_hit hit (λ x. ok x)) e ∙ ask_hit_lem hit a (λ x. ok x))

  same_before : (flat : X → List ℕ) → length (flat_all flat b.before) ≡ length (flat_all flat a.before)
  same_before flat =
      ap (λ x. x.at) (sym (hit_spot hit flat (λ x. 0) (λ x. 0) b) ∙ ap (spot_in hit flat (λ x. 0) (λ x. 0) 0) e ∙ hit_spot hit flat (λ x. 0) (λ x. 0) a)

series_same : (w w' : ℕ) (ps ps' : List Pack) → ◌≡◌ {A = Entry} (series w ps) (series w' ps') → (w ≡ w') × (ps ≡ ps')
series_same w w' ps ps' e = (cc, cc)

pack_same : (w w' i : ℕ) (is is' : List Item) → ◌≡◌ {A = Pack} (record { width = w; id = i; items = is }) (record { width = w'; id = i; items = is' }) → (w ≡ w') × (is ≡ is')
pack_same w w' i is is' e = (ap (λ p. p.width) e, ap (λ p. p.items) e)

-- two places in a target are in the same pack
pub pack_one : (f : Form) (id : ℕ) {tag tag' : ℕ} (s : List ℕ) {p p' : Place} (t : TargetPlaced f id tag s p) (t' : TargetPlaced f id tag' s p') → (p'.body ≡ p.body) × (t'.items ≡ t.items)
pack_one f id s {p = p} {p' = p'} t t' =
    let (ew, eps) = series_same _ _ _ _ (sym t'.it_is ∙ same_it is_series refl t.hit t'.hit ∙ t.it_is) in
    let (ev, eis) = pack_same _ _ _ _ _ (sym t'.pack_is ∙ same_it (has_id id) eps t.pack_hit t'.pack_hit ∙ t.pack_is) in (
      omega (
        arith,
        t.series_at,
        t.packs_at,
        t.pack_at,
        t.body_at,
        t'.series_at,
        t'.packs_at,
        t'.pack_at,
        t'.body_at,
        ew,
        ev,
        same_before is_series refl t.hit t'.hit flat_entry,
        same_before (has_id id) eps t.pack_hit t'.pack_hit flat_pack,
      ),
      eis,
    )

-- ---- cuts, and what they make of the set's bytes

abbrev pub CutAt : Form → Bool → ℕ → Changes → List ℕ → Cuts → List ℕ → List ℕ → Type 0
CutAt f b id cs s k v w = Cutting (level_of b) s k v w × (edited_of f (holder_of b id) cs s ≡ cut_bytes (level_of b) s k v w)

-- of a target, the lower first
abbrev pub CutIf : Form → ℕ → Changes → List ℕ → List ℕ → List ℕ → Judged → Type 0
CutIf f id cs s v w j = CutAt f false id cs s j.cuts (low_of j.turned v w) (low_of j.turned w v)

pub as_asked : (p : Place) (x y : Cut) → ltb y.at x.at ≡ false → in_order p x y ≡ judged (cuts_of p x y) false
as_asked p x y e = rw (e, in_order)

pub turned_round : (p : Place) (x y : Cut) → ltb y.at x.at ≡ true → in_order p x y ≡ judged (cuts_of p y x) true
turned_round p x y e = rw (e, in_order)

-- ---- by the place

pub level_none : (f : Form) (s : List ℕ) (bs : Bool) (id : ℕ) → Unheld f (holder_of bs id) s → tags_at (holder_of bs id) (map part_of (kept_of f s)) ≡ refused 18 0
level_none f s true id u = absurd u
level_none f s false id u = none_tags id (kept_of f s) u

module _ (f : Form) (s : List ℕ) (b : Bytes s) (k : SetOf f s) where
  module _ (id : ℕ) {tag : ℕ} {p : Place} (t : TargetPlaced f id tag s p) where
    abbrev a_place : Cuts
    a_place = cuts_of p (no_cut 0) (no_cut 0)

    pub target_at : (tags_at (target id) (map part_of (kept_of f s)) ≡ ok (map tag_of_item t.items)) × (has tag (map tag_of_item t.items) ≡ ltb p.at p.next)
    target_at =
        let st = has_spot tag_of_item tag flat_item item_lead item_lead item_some t.items (p.body + length (oid_bytes id)) p.at p.next (omega (arith, t.item_at)) (omega (arith, t.next_at)) in
        (target_tags_lem f s b k a_place t, st)

  pub level_at : (bs : Bool) (id tag : ℕ) → nameable (level_of bs) tag ≡ true → (p : Place) → Placed f (holder_of bs id) tag s p
      → (tags : List ℕ) × (tags_at (holder_of bs id) (map part_of (kept_of f s)) ≡ ok tags) × (has tag tags ≡ ltb p.at p.next)
  level_at true id tag n p t = (map tag_of_entry (kept_of f s), set_tags (kept_of f s), set_stands f s b k tag p (set_spot f s b k tag n p t))
  level_at false id tag n p t = let (e, st) = target_at id t in (map tag_of_item t.items, e, st)

  -- ---- one change

  one_of_set : (c : told.Change) (v : List ℕ) (p : Place) (n : nameable set c.tag ≡ true) (t : SetPlaced f c.tag s p)
      → CutAt f true 0 (one_of c v ∷ []) s (one_cut p (cut_of c p (short_of set c.tag (change_of c.removal v)))) v v
  unfolding edit_entries applied
  one_of_set c v p n t =
      let h = change_of c.removal v in
      let q : Cuts = one_cut p (cut_of c p (short_of set c.tag h)) in
      let z : SetSpot f c.tag s p = set_spot f s b k c.tag n p t in
      let y = alone (one_swap flat_entry entry_lead entry_lead tag_of_entry an_entry c.tag h (kept_of f s)) in (
        record { spans = set_spans f s b k q z (one_of c v ∷ []) (entry_made c.tag h) [] y z.at_is z.next_is z.next_is z.next_is; low = cut_says set c v p n; high = no_cut_says p.next v },
        set_edits f s b k q z (one_of c v ∷ []) (entry_made c.tag h) [] y z.at_is z.next_is z.next_is z.next_is
            ∙ ap (λ r. with_two set s q r []) (made_entry c.tag h ∙ sym (put_is set c.tag v c.removal)),
      )

  one_of_target : (id : ℕ) (c : told.Change) (v : List ℕ) (p : Place) (n : nameable pack c.tag ≡ true) (l : TargetPlaced f id c.tag s p)
      → CutAt f false id (one_of c v ∷ []) s (one_cut p (cut_of c p (short_of pack c.tag (change_of c.removal v)))) v v
  unfolding applied
  one_of_target id c v p n l =
      let h = change_of c.removal v in
      let q : Cuts = one_cut p (cut_of c p (short_of pack c.tag h)) in
      let y = alone (one_swap flat_item item_lead item_lead tag_of_item (an_item pack) c.tag h l.items) in (
        record { spans = target_spans f s b k q l (one_of c v ∷ []) (item_made c.tag h) [] y l.item_at l.next_at l.next_at l.next_at; low = cut_says pack c v p n; high = no_cut_says p.next v },
        target_edits f s b k q l (one_of c v ∷ []) (item_made c.tag h) [] y l.item_at l.next_at l.next_at l.next_at
            ∙ ap (λ r. with_two pack s q r []) (made_item c.tag h ∙ sym (put_is pack c.tag v c.removal)),
      )

  one_at : (bs : Bool) (id : ℕ) (c : told.Change) (v : List ℕ) (p : Place) (n : nameable (level_of bs) c.tag ≡ true) (t : Placed f (holder_of bs id) c.tag s p)
      → CutAt f bs id (one_of c v ∷ []) s (one_cut p (cut_of c p (short_of (level_of bs) c.tag (change_of c.removal v)))) v v
  one_at true id c v p n t = one_of_set c v p n t
  one_at false id c v p n t = one_of_target id c v p n t

  pub one_cut_lem : (bs : Bool) (id : ℕ) (c : told.Change) (v : List ℕ) (p : Place) {m : ℕ} → TurnAt f bs id c v s p m → CutAt f bs id (one_of c v ∷ []) s (one_cut p (cut_of c p m)) v v
  one_cut_lem bs id c v p t = subst (λ x. CutAt f bs id (one_of c v ∷ []) s (one_cut p (cut_of c p x)) v v) (sym t.size_is) (one_at bs id c v p t.named t.placed)

  -- ---- two of a target

  module _ (id : ℕ) (c d : told.Change) (v w : List ℕ) (p p' : Place) {m₀ n₀ : ℕ} (t : TurnAt f false id c v s p m₀) (t' : TurnAt f false id d w s p' n₀) (o : eqb c.tag d.tag ≡ false) where
    abbrev l : TargetPlaced f id c.tag s p
    l = t.placed

    abbrev cs : Changes
    cs = one_of c v ∷ one_of d w ∷ []

    abbrev x₀ : Cut
    x₀ = cut_of c p (short_of pack c.tag (change_of c.removal v))

    abbrev y₀ : Cut
    y₀ = cut_of d p' (short_of pack d.tag (change_of d.removal w))

    abbrev i : List ℕ
    i = item_made c.tag (change_of c.removal v)

    abbrev j : List ℕ
    j = item_made d.tag (change_of d.removal w)

    i_is : i ≡ item_put c.removal c.tag v x₀.size
    i_is = made_item c.tag (change_of c.removal v) ∙ sym (put_is pack c.tag v c.removal)

    j_is : j ≡ item_put d.removal d.tag w y₀.size
    j_is = made_item d.tag (change_of d.removal w) ∙ sym (put_is pack d.tag w d.removal)

    -- the second in the same pack
    at_second : p'.at ≡ p.body + (length (oid_bytes id) + (item_spot d.tag l.items).at)
    at_second = let (e, z) = pack_one f id s l t'.placed in omega (arith, t'.placed.item_at, e, ap (λ r. (item_spot d.tag r).at) z)

    next_second : p'.next ≡ p.body + (length (oid_bytes id) + (item_spot d.tag l.items).next)
    next_second = let (e, z) = pack_one f id s l t'.placed in omega (arith, t'.placed.next_at, e, ap (λ r. (item_spot d.tag r).next) z)

    abbrev both : Type 0
    both = Two flat_item item_lead item_lead tag_of_item (an_item pack) (made_tag pack) item_some c.tag (change_of c.removal v) d.tag (change_of d.removal w) o l.items

    in_order_is : both → CutIf f id cs s v w (in_order p x₀ y₀)
    unfolding applied
    in_order_is (inl (le, z)) =
        let q : Cuts = cuts_of p x₀ y₀ in
        subst (CutIf f id cs s v w) (sym (as_asked p x₀ y₀ (le-ltb p'.at p.at (omega (arith, le, at_second, l.item_at))))) (
          record { spans = target_spans f s b k q l cs i j z l.item_at l.next_at at_second next_second; low = cut_says pack c v p t.named; high = cut_says pack d w p' t'.named },
          target_edits f s b k q l cs i j z l.item_at l.next_at at_second next_second ∙ ap (λ r. with_two pack s q r j) i_is ∙ ap (with_two pack s q _) j_is,
        )
    in_order_is (inr (lt, z)) =
        let q : Cuts = cuts_of p y₀ x₀ in
        subst (CutIf f id cs s v w) (sym (turned_round p x₀ y₀ (lt-ltb p'.at p.at (omega (arith, lt, at_second, l.item_at))))) (
          record { spans = target_spans f s b k q l cs j i z at_second next_second l.item_at l.next_at; low = cut_says pack d w p' t'.named; high = cut_says pack c v p t.named },
          target_edits f s b k q l cs j i z at_second next_second l.item_at l.next_at ∙ ap (λ r. with_two pack s q r i) j_is ∙ ap (with_two pack s q _) i_is,
        )

    pub two_cuts : CutIf f id cs s v w (in_order p (cut_of c p m₀) (cut_of d p' n₀))
    two_cuts = rw (t.size_is, t'.size_is) (in_order_is (two_swapped flat_item item_lead item_lead tag_of_item (an_item pack) (made_tag pack) item_some c.tag (change_of c.removal v) d.tag (change_of d.removal w) o l.items))
