-- An edit keeps every piece but the items that it changes and the lengths around them, and no other result does.
use mathlib.Core.Path.{◌≡◌, refl, sym, ap, ◌∙◌, subst}
use Prim.Native.Nat.{ℕ}
use mathlib.Core.Bool.{true, false}
use mathlib.Core.List.{List, [], ◌∷◌, ◌++◌, map}
use mathlib.Core.Logic.{◌⊎◌, inl, inr}
use Rattle.format.specs.Answer.{ok}
use Rattle.format.specs.Coding.{oid_bytes}
use Rattle.format.specs.Lists.{has, flat_all, put_in, take_out}
use Rattle.format.specs.Table.{Form, embedded, standalone, Level, set, pack}
use Rattle.format.specs.Packet.{Pack, Entry, Packet, tag_of_item, tag_of_entry, flat_item, pack_body, flat_pack, flat_entry, framed, flat, closed}
use Rattle.format.specs.Sheet.{content}
use Rattle.format.specs.Calls.{item_of, pack_with, series_with}
use Rattle.format.specs.Edit.{Holder, the_set, target, Change, put, remove, Changes, changed, applied, val_with, tags_at, edit_rules, in_pack, edit_entries, edit_packet}
use Rattle.format.specs.Valid.{All, Once, Together, EntryValid, Lies}
use Rattle.format.specs.Demands.Kept.{brief, new_item, between, shut, At, PackAt, around, Piece, tag_of_piece, bytes_of_piece, new_piece, Exchanged, PutPiece, Step, Steps, LevelKept, SetKept, Kept}
use Rattle.format.proofs.Words.Answers.{no_bool, ok_inj}
use Rattle.format.proofs.Words.Changes.{changed_keys, once_changed}
use Rattle.format.proofs.Words.Firsts.{First, Hit, first_parts, first_put, first_out, found, keyed, none_put, none_has, first_at, at_has, at_first}
use Rattle.format.proofs.Words.Flats.{flat_append}
use Rattle.format.proofs.Reading.Packets.{lies_parses}
use Rattle.format.proofs.Edits.Applied.{map_changed, map_applied}
use Rattle.format.proofs.Edits.Rules.{Present, Presents, rules_then}
use Rattle.format.proofs.Edits.Places.{tags_in, tags_say, place_then, pack_valid, place_tags, place_edits}
use Rattle.format.proofs.Edits.Results.{an_item, an_entry, made_tag, changed_items}

-- ---- one piece

module _ (tag : ℕ) (ps : List Piece) where
  -- exchanged, at the first with the tag
  pub exchanged : (r : Hit (keyed tag_of_piece tag) ps) (new now : List Piece) → now ≡ r.before ++ (new ++ r.after) → Exchanged tag new ps now
  exchanged r new now e = record {
    before = r.before;
    bytes = r.it.1;
    after = r.after;
    was_so = first_parts r.first ∙ ap (λ k. r.before ++ ((k, r.it.1) ∷ r.after)) (first_at tag_of_piece tag r.first).key_is;
    now_so = e;
  }

  pub put_made : (b : List ℕ) → PutPiece (tag, b) ps (put_in (keyed tag_of_piece tag) (tag, b) ps)
  put_made b = go (found (keyed tag_of_piece tag) ps)
    where
      go : Hit (keyed tag_of_piece tag) ps ⊎ All (λ x. keyed tag_of_piece tag x ≡ false) ps → PutPiece (tag, b) ps (put_in (keyed tag_of_piece tag) (tag, b) ps)
      go (inl r) = inl (exchanged r _ _ (first_put (tag, b) r.first))
      go (inr n) = inr (none_has tag_of_piece tag ps n, none_put tag_of_piece tag (tag, b) ps (none_has tag_of_piece tag ps n))

  pub out_made : has tag (map tag_of_piece ps) ≡ true → Exchanged tag [] ps (take_out (keyed tag_of_piece tag) ps)
  out_made p = go (found (keyed tag_of_piece tag) ps)
    where
      go : Hit (keyed tag_of_piece tag) ps ⊎ All (λ x. keyed tag_of_piece tag x ≡ false) ps → Exchanged tag [] ps (take_out (keyed tag_of_piece tag) ps)
      go (inl r) = exchanged r _ _ (first_out r.first)
      go (inr n) = no_bool (sym (none_has tag_of_piece tag ps n) ∙ p)

  stood : {new now : List Piece} (x : Exchanged tag new ps now) → At tag_of_piece tag ps x.before (tag, x.bytes) x.after
  stood x = record { parts = x.was_so; key_is = refl }

  pub was_there : {new now : List Piece} → Exchanged tag new ps now → has tag (map tag_of_piece ps) ≡ true
  was_there x = at_has tag_of_piece tag (stood x)

  -- where no tag stands twice, that is the only place
  module _ (o : Once (map tag_of_piece ps)) where
    pub was_first : {new now : List Piece} (x : Exchanged tag new ps now) → First (keyed tag_of_piece tag) ps x.before (tag, x.bytes) x.after
    was_first x = at_first tag_of_piece tag o (stood x)

    pub put_is : (b : List ℕ) (now : List Piece) → PutPiece (tag, b) ps now → now ≡ put_in (keyed tag_of_piece tag) (tag, b) ps
    put_is b now (inl x) = x.now_so ∙ sym (first_put (tag, b) (was_first x))
    put_is b now (inr (n, e)) = e ∙ sym (none_put tag_of_piece tag (tag, b) ps n)

    pub out_is : (now : List Piece) → Exchanged tag [] ps now → now ≡ take_out (keyed tag_of_piece tag) ps
    out_is now x = x.now_so ∙ sym (first_out (was_first x))

-- ---- the pieces of a level

module _ (l : Level) where
  -- a change to them, as the definitions make it
  abbrev stepped : ℕ → Change → List Piece → List Piece
  stepped tag c ps = changed tag_of_piece (new_piece l) tag c ps

  step_tags : (tag : ℕ) (c : Change) (ps : List Piece) → map tag_of_piece (stepped tag c ps) ≡ changed_keys tag c (map tag_of_piece ps)
  step_tags tag c ps = map_changed tag_of_piece tag_of_piece (λ k. k) (new_piece l) (λ t v. t) (λ p. refl) (λ t v. refl) tag c ps

  module _ (tag : ℕ) (ps : List Piece) where
    step_made : (c : Change) → Present tag c (map tag_of_piece ps) → Step l (tag, c) ps (stepped tag c ps)
    unfolding changed
    step_made (put v) p = put_made tag ps (new_item l tag v)
    step_made remove p = out_made tag ps p

    step_is : Once (map tag_of_piece ps) → (c : Change) (now : List Piece) → Step l (tag, c) ps now → now ≡ stepped tag c ps
    unfolding changed
    step_is o (put v) now x = put_is tag ps o (new_item l tag v) now x
    step_is o remove now x = out_is tag ps o now x

    step_present : (c : Change) (now : List Piece) → Step l (tag, c) ps now → Present tag c (map tag_of_piece ps)
    step_present (put v) now x = tt
    step_present remove now x = was_there tag ps x

  -- ---- one change after the other

  steps_made : (cs : Changes) (ps : List Piece) → Presents cs (map tag_of_piece ps) → Steps l cs ps (applied tag_of_piece (new_piece l) cs ps)
  unfolding applied
  steps_made [] ps p = refl
  steps_made ((tag, c) ∷ cs) ps p =
      (stepped tag c ps, step_made tag ps c p.0, steps_made cs (stepped tag c ps) (subst (Presents cs) (sym (step_tags tag c ps)) p.1))

  steps_is : (cs : Changes) (ps now : List Piece) → Once (map tag_of_piece ps) → Steps l cs ps now → now ≡ applied tag_of_piece (new_piece l) cs ps
  unfolding applied
  steps_is [] ps now o e = e
  steps_is ((tag, c) ∷ cs) ps now o (next, x, xs) =
      let z : next ≡ stepped tag c ps = step_is tag ps o c next x in
      steps_is cs (stepped tag c ps) now (subst Once (sym (step_tags tag c ps)) (once_changed tag c (map tag_of_piece ps) o)) (subst (λ y. Steps l cs y now) z xs)

  steps_present : (cs : Changes) (ps now : List Piece) → Once (map tag_of_piece ps) → Steps l cs ps now → Presents cs (map tag_of_piece ps)
  steps_present [] ps now o e = tt
  steps_present ((tag, c) ∷ cs) ps now o (next, x, xs) =
      let z : next ≡ stepped tag c ps = step_is tag ps o c next x in
      let o₁ = subst Once (sym (step_tags tag c ps)) (once_changed tag c (map tag_of_piece ps) o) in
      (step_present tag ps c next x, subst (Presents cs) (step_tags tag c ps) (steps_present cs (stepped tag c ps) now o₁ (subst (λ y. Steps l cs y now) z xs)))

-- ---- a level of things that lie flat

pub pieces_flat : {X : Type 0} (key : X → ℕ) (lay : X → List ℕ) (xs : List X) → flat_all bytes_of_piece (map (λ x. (key x, lay x)) xs) ≡ flat_all lay xs
unfolding flat_all
pieces_flat key lay [] = refl
pieces_flat key lay (x ∷ xs) = ap (λ r. lay x ++ r) (pieces_flat key lay xs)

pub pieces_tags : {X : Type 0} (key : X → ℕ) (lay : X → List ℕ) (xs : List X) → map tag_of_piece (map (λ x. (key x, lay x)) xs) ≡ map key xs
pieces_tags key lay [] = refl
pieces_tags key lay (x ∷ xs) = ap (λ r. key x ∷ r) (pieces_tags key lay xs)

module _ {X : Type 0} (l : Level) (key : X → ℕ) (lay : X → List ℕ) (make : ℕ → List ℕ → X) (new_key : (tag : ℕ) (v : List ℕ) → key (make tag v) ≡ tag)
    (new : (tag : ℕ) (v : List ℕ) → lay (make tag v) ≡ new_item l tag v) where
  abbrev pieces_of : List X → List Piece
  pieces_of xs = map (λ x. (key x, lay x)) xs

  pieces_applied : (cs : Changes) (xs : List X) → pieces_of (applied key make cs xs) ≡ applied tag_of_piece (new_piece l) cs (pieces_of xs)
  pieces_applied cs xs = map_applied (λ x. (key x, lay x)) key tag_of_piece make (new_piece l) (λ x. refl) (λ tag v. λ j. (new_key tag v j, new tag v j)) cs xs

  bytes_applied : (cs : Changes) (xs : List X) → flat_all bytes_of_piece (applied tag_of_piece (new_piece l) cs (pieces_of xs)) ≡ flat_all lay (applied key make cs xs)
  bytes_applied cs xs = ap (flat_all bytes_of_piece) (sym (pieces_applied cs xs)) ∙ pieces_flat key lay (applied key make cs xs)

  level_kept : (cs : Changes) (xs : List X) → Presents cs (map key xs) → LevelKept l key lay cs xs (flat_all lay (applied key make cs xs))
  level_kept cs xs p = record {
    pieces = applied tag_of_piece (new_piece l) cs (pieces_of xs);
    steps = steps_made l cs (pieces_of xs) (subst (Presents cs) (sym (pieces_tags key lay xs)) p);
    now = sym (bytes_applied cs xs);
  }

  level_is : (cs : Changes) (xs : List X) (b : List ℕ) → Once (map key xs) → LevelKept l key lay cs xs b → b ≡ flat_all lay (applied key make cs xs)
  level_is cs xs b o k =
      k.now ∙ ap (flat_all bytes_of_piece) (steps_is l cs (pieces_of xs) k.pieces (subst Once (sym (pieces_tags key lay xs)) o) k.steps) ∙ bytes_applied cs xs

level_present : {X : Type 0} (l : Level) (key : X → ℕ) (lay : X → List ℕ) (cs : Changes) (xs : List X) (b : List ℕ) → Once (map key xs) → LevelKept l key lay cs xs b
    → Presents cs (map key xs)
level_present l key lay cs xs b o k =
    let e = pieces_tags key lay xs in
    subst (Presents cs) e (steps_present l cs (map (λ x. (key x, lay x)) xs) k.pieces (subst Once (sym e) o) k.steps)

-- ---- an item made of a value, in a pack and in the set

item_bytes_lem : (l : Level) (tag : ℕ) (v : List ℕ) → flat_item (an_item l tag v) ≡ new_item l tag v
unfolding flat_item item_of val_with
item_bytes_lem l tag v = refl

pub entry_bytes_lem : (tag : ℕ) (v : List ℕ) → flat_entry (an_entry tag v) ≡ new_item set tag v
unfolding flat_entry
entry_bytes_lem tag v = item_bytes_lem set tag v

-- ---- a target

laid : {X : Type 0} (lay : X → List ℕ) (before : List X) (x : X) (after : List X) → flat_all lay (before ++ (x ∷ after)) ≡ between lay before after (lay x)
unfolding flat_all
laid lay before x after = flat_append lay before (x ∷ after)

in_pack_bytes : (cs : Changes) (p : Pack) → flat_pack (in_pack cs p) ≡ brief (oid_bytes p.id ++ flat_all flat_item (changed_items cs p.items))
unfolding flat_pack pack_body in_pack pack_with
in_pack_bytes cs p = refl

pub series_bytes : (ps : List Pack) → flat_entry (series_with ps) ≡ oid_bytes 101 ++ brief (flat_all flat_pack ps)
unfolding flat_entry series_with
series_bytes ps = refl

module _ (f : Form) (cs : Changes) (es : List Entry) (valid : Together tag_of_entry (EntryValid f) es) where
  module _ (i : ℕ) (p : PackAt i es) where
    target_bytes : flat_all flat_entry (edit_entries (target i) cs es) ≡ around p (flat_all flat_item (changed_items cs p.it.items))
    target_bytes =
        ap (flat_all flat_entry) (place_edits f i es valid p cs) ∙ laid flat_entry p.before _ p.after
        ∙ ap (λ b. between flat_entry p.before p.after b)
        (series_bytes _ ∙ ap (λ b. oid_bytes 101 ++ brief b)
        (laid flat_pack p.earlier _ p.later ∙ ap (λ b. between flat_pack p.earlier p.later b)
        (in_pack_bytes cs p.it ∙ ap (λ k. brief (oid_bytes k ++ flat_all flat_item (changed_items cs p.it.items))) p.pack_at.key_is)))

    items_once : Once (map tag_of_item p.it.items)
    items_once = (pack_valid f i es valid p).items_valid.once

  -- ---- the set

  set_kept : (h : Holder) (tags : List ℕ) → tags_in h es ≡ ok tags → Presents cs tags → SetKept h cs es (flat_all flat_entry (edit_entries h cs es))
  unfolding tags_in edit_entries
  set_kept the_set tags et p = level_kept set tag_of_entry flat_entry an_entry (made_tag set) entry_bytes_lem cs es (subst (Presents cs) (sym (ok_inj _ _ et)) p)
  set_kept (target i) tags et p =
      place_then i es tags et λ at e.
      record {
        place = at;
        items = flat_all flat_item (changed_items cs at.it.items);
        in_pack = level_kept pack tag_of_item flat_item (an_item pack) (made_tag pack) (item_bytes_lem pack) cs at.it.items (subst (Presents cs) (sym e) p);
        now = target_bytes i at;
      }

  set_is : (h : Holder) (b : List ℕ) → SetKept h cs es b → b ≡ flat_all flat_entry (edit_entries h cs es)
  unfolding edit_entries
  set_is the_set b k = level_is set tag_of_entry flat_entry an_entry (made_tag set) entry_bytes_lem cs es b valid.once k
  set_is (target i) b k =
      let at = k.place in
      k.now
      ∙ ap (around at) (level_is pack tag_of_item flat_item (an_item pack) (made_tag pack) (item_bytes_lem pack) cs at.it.items k.items (items_once i at) k.in_pack)
      ∙ sym (target_bytes i at)

  set_tags : (h : Holder) (b : List ℕ) → SetKept h cs es b → (tags : List ℕ) × (tags_in h es ≡ ok tags) × Presents cs tags
  unfolding tags_in
  set_tags the_set b k = (map tag_of_entry es, refl, level_present set tag_of_entry flat_entry cs es b valid.once k)
  set_tags (target i) b k =
      let at = k.place in
      (map tag_of_item at.it.items, place_tags f i es valid at, level_present pack tag_of_item flat_item cs at.it.items k.items (items_once i at) k.in_pack)

-- ---- the packet

pub closed_bytes : (f : Form) (es : List Entry) → flat (closed f es) ≡ shut f (flat_all flat_entry es)
unfolding closed flat framed
closed_bytes embedded es = refl
closed_bytes standalone es = refl

module _ (f : Form) (h : Holder) (cs : Changes) (s : List ℕ) where
  pub edited_bytes : (p : Packet) → Lies f s p → flat (edit_packet h cs p) ≡ shut f (flat_all flat_entry (edit_entries h cs p.entries))
  unfolding edit_packet
  edited_bytes p l = closed_bytes p.form _ ∙ ap (λ g. shut g (flat_all flat_entry (edit_entries h cs p.entries))) l.form_is

  pub body_kept : (p : Packet) (u : Unit {0}) → Lies f s p → edit_rules h cs (content p) ≡ ok u → SetKept h cs p.entries (flat_all flat_entry (edit_entries h cs p.entries))
  unfolding content
  body_kept p u l e =
      rules_then h cs (content p) u e λ tags et t en.
      set_kept p.form cs p.entries l.valid.entries_valid h tags (sym (tags_say h p.entries) ∙ et) t.present

  abbrev pub edited_kept : (p : Packet) (u : Unit {0}) (b : List ℕ) → Lies f s p → edit_rules h cs (content p) ≡ ok u → flat (edit_packet h cs p) ≡ b → Kept f h cs s b
  edited_kept p u b l e z = record {
    packet = p;
    lies = l;
    body = flat_all flat_entry (edit_entries h cs p.entries);
    kept = body_kept p u l e;
    now = sym z ∙ edited_bytes p l;
  }

  -- what keeps all other pieces is the edited packet
  pub kept_is : (b : List ℕ) (k : Kept f h cs s b) → b ≡ flat (edit_packet h cs k.packet)
  kept_is b k =
      let p = k.packet in
      k.now ∙ ap (shut f) (set_is p.form cs p.entries k.lies.valid.entries_valid h k.body k.kept) ∙ sym (edited_bytes p k.lies)

  -- the level that is changed stands, and so does what is removed
  pub kept_tags : (b : List ℕ) (k : Kept f h cs s b) → (tags : List ℕ) × (tags_at h (content k.packet).parts ≡ ok tags) × Presents cs tags
  unfolding content
  kept_tags b k =
      let p = k.packet in
      let (tags, et, pr) = set_tags p.form cs p.entries k.lies.valid.entries_valid h k.body k.kept in
      (tags, tags_say h p.entries ∙ et, pr)

  -- two results that keep all other pieces are one
  pub one_kept : (b b' : List ℕ) → Kept f h cs s b → Kept f h cs s b' → b ≡ b'
  one_kept b b' k k' =
      let e : k.packet ≡ k'.packet = ok_inj _ _ (sym (lies_parses f s k.packet k.lies) ∙ lies_parses f s k'.packet k'.lies) in
      kept_is b k ∙ ap (λ p. flat (edit_packet h cs p)) e ∙ sym (kept_is b' k')
