-- A target's addition or drop keeps every piece but the pack, tag 6's item and the lengths around, and no other result does.
use mathlib.Core.Path.{◌≡◌, refl, sym, ap, ◌∙◌, subst}
use Prim.Native.Nat.{ℕ}
use mathlib.Core.Bool.{true, false}
use mathlib.Core.List.{List, [], ◌∷◌, ◌++◌, map}
use mathlib.Core.Logic.{◌⊎◌, inl, inr}
use lib.ListN.{length, length-map}
use lib.Dec.{eqb}
use Rattle.format.specs.Coding.{oid_bytes, fixed}
use Rattle.format.specs.Lists.{none?, has, flat_all, on_hit}
use Rattle.format.specs.Table.{Form, set}
use Rattle.format.specs.Packet.{Pack, Entry, plain, series, Packet, id_of_pack, tag_of_entry, flat_pack, flat_entry, flat}
use Rattle.format.specs.Sheet.{Target}
use Rattle.format.specs.Calls.{series_with, pack_of}
use Rattle.format.specs.Targets.{TargetChange, added, dropped, moved, series_now, count_of, recounted, packs_in, change_entries, change_packet}
use Rattle.format.specs.Valid.{All, Once, Together, EntryValid, Lies}
use Rattle.format.specs.Demands.Kept.{brief, new_item, shut, Piece, tag_of_piece, bytes_of_piece}
use Rattle.format.specs.Demands.Targets.{PacksStep, SeriesStep, CountStep, SeriesKept, TargetKept}
use Rattle.format.proofs.Words.Answers.{no_bool, or_right, ok_inj}
use Rattle.format.proofs.Words.Changes.{once_changed}
use Rattle.format.proofs.Words.Firsts.{Hit, found, keyed, first_on, none_on, none_has}
use Rattle.format.proofs.Words.Together.{none_mid}
use Rattle.format.proofs.Reading.Packets.{lies_parses}
use Rattle.format.proofs.Sheets.Normal.{pack_id}
use Rattle.format.proofs.Edits.Results.{made_tag, series_key}
use Rattle.format.proofs.Edits.Kept.{exchanged, put_made, out_made, was_there, was_first, put_is, out_is, pieces_flat, pieces_tags, entry_bytes_lem, series_bytes, closed_bytes}
use Rattle.format.proofs.Series.Moves.{IdFits, of_each, map_moved, map_series, map_recounted, series_change, series_keys}
use Rattle.format.proofs.Series.Rules.{ids_in}
use Rattle.format.proofs.Series.Results.{a_plain, packs_in_lem}

-- ---- the change to pieces

abbrev pack_piece : Pack → Piece
pack_piece p = (p.id, flat_pack p)

abbrev target_piece : Target → Piece
target_piece t = (t.id, flat_pack (pack_of t))

abbrev entry_piece : Entry → Piece
entry_piece e = (tag_of_entry e, flat_entry e)

abbrev series_piece : List Piece → Piece
series_piece ps = (101, oid_bytes 101 ++ brief (flat_all bytes_of_piece ps))

abbrev count_piece : ℕ → Piece
count_piece n = (6, new_item set 6 (fixed 3 n))

abbrev packs_now : TargetChange → List Piece → List Piece
packs_now c was = moved tag_of_piece target_piece c was

abbrev set_now : List Piece → List Piece → List Piece
set_now packs was = series_now tag_of_piece series_piece packs was

abbrev count_now : ℕ → List Piece → List Piece
count_now n was = on_hit (keyed tag_of_piece 6) (λ x. count_piece n) was

-- ---- the packs

packs_made : (c : TargetChange) (was : List Piece) → IdFits (map tag_of_piece was) c → PacksStep c was (packs_now c was)
unfolding moved
packs_made (added t) was n = (n, refl)
packs_made (dropped i) was n = out_made i was n

packs_is : (c : TargetChange) (was now : List Piece) → Once (map tag_of_piece was) → PacksStep c was now → now ≡ packs_now c was
unfolding moved
packs_is (added t) was now o x = x.1
packs_is (dropped i) was now o x = out_is i was o now x

packs_fit : (c : TargetChange) (was now : List Piece) → PacksStep c was now → IdFits (map tag_of_piece was) c
packs_fit (added t) was now x = x.0
packs_fit (dropped i) was now x = was_there i was x

-- ---- the series

series_made : (packs was : List Piece) → has 101 (map tag_of_piece was) ≡ true ⊎ (none? packs ≡ false) → SeriesStep packs was (set_now packs was)
unfolding series_now
series_made [] was (inl s) = out_made 101 was s
series_made [] was (inr n) = no_bool (sym n)
series_made (p ∷ ps) was s = put_made 101 was (series_piece (p ∷ ps)).1

series_is : (packs was now : List Piece) → Once (map tag_of_piece was) → SeriesStep packs was now → now ≡ set_now packs was
unfolding series_now
series_is [] was now o x = out_is 101 was o now x
series_is (p ∷ ps) was now o x = put_is 101 was o (series_piece (p ∷ ps)).1 now x

series_once : (packs was : List Piece) → Once (map tag_of_piece was) → Once (map tag_of_piece (set_now packs was))
series_once packs was o =
    subst Once (sym (series_keys tag_of_piece series_piece (λ ps. refl) packs was)) (once_changed 101 (series_change packs) (map tag_of_piece was) o)

-- ---- tag 6

count_made : (n : ℕ) (was : List Piece) → CountStep n was (count_now n was)
count_made n was = go (found (keyed tag_of_piece 6) was)
  where
    go : Hit (keyed tag_of_piece 6) was ⊎ All (λ x. keyed tag_of_piece 6 x ≡ false) was → CountStep n was (count_now n was)
    go (inl r) = inl (exchanged 6 was r _ _ (first_on (λ x. count_piece n) r.first))
    go (inr a) = let h = none_has tag_of_piece 6 was a in inr (h, none_on tag_of_piece 6 (λ x. count_piece n) was h)

count_is : (n : ℕ) (was now : List Piece) → Once (map tag_of_piece was) → CountStep n was now → now ≡ count_now n was
count_is n was now o (inl x) = x.now_so ∙ sym (first_on (λ x. count_piece n) (was_first 6 was o x))
count_is n was now o (inr (h, e)) = e ∙ sym (none_on tag_of_piece 6 (λ x. count_piece n) was h)

-- ---- the set

-- where packs stand, so does the series
series_stands : (i : ℕ) (es : List Entry) → has i (map id_of_pack (packs_in es)) ≡ true → has 101 (map tag_of_entry es) ≡ true
unfolding packs_in has
series_stands i [] h = h
series_stands i (plain x ∷ es) h = rw (series_stands i es h) (or_right (eqb x.tag 101))
series_stands i (series w ps ∷ es) h = refl

count_piece_lem : (n : ℕ) → entry_piece (a_plain (count_of n)) ≡ count_piece n
unfolding count_of
count_piece_lem n j = (made_tag set 6 (fixed 3 n) j, entry_bytes_lem 6 (fixed 3 n) j)

series_piece_lem : (ps : List Pack) → entry_piece (series_with ps) ≡ series_piece (map pack_piece ps)
series_piece_lem ps j = (series_key ps j, (series_bytes ps ∙ ap (λ b. oid_bytes 101 ++ brief b) (sym (pieces_flat id_of_pack flat_pack ps))) j)

-- the series stands, or there are packs for one
stands_now : (c : TargetChange) (es : List Entry) → IdFits (map id_of_pack (packs_in es)) c
    → has 101 (map tag_of_piece (map entry_piece es)) ≡ true ⊎ (none? (packs_now c (map pack_piece (packs_in es))) ≡ false)
unfolding moved
stands_now (added t) es n = inr (none_mid (map pack_piece (packs_in es)) (target_piece t) [])
stands_now (dropped i) es n = inl (ap (has 101) (pieces_tags tag_of_entry flat_entry es) ∙ series_stands i es n)

module _ (c : TargetChange) (es : List Entry) where
  abbrev packs_were : List Piece
  packs_were = map pack_piece (packs_in es)

  abbrev pieces_were : List Piece
  pieces_were = map entry_piece es

  abbrev pieces_now : List Piece
  pieces_now = let packs = packs_now c packs_were in count_now (length packs) (set_now packs pieces_were)

  pieces_now_is : map entry_piece (change_entries c es) ≡ pieces_now
  unfolding change_entries recounted
  pieces_now_is =
      let ps : List Pack = moved id_of_pack pack_of c (packs_in es) in
      let e : map pack_piece ps ≡ packs_now c packs_were
      = map_moved pack_piece id_of_pack tag_of_piece (λ p. refl) pack_of target_piece c (of_each _ (λ t j. (pack_id t j, flat_pack (pack_of t))) c) (packs_in es) in
      map_recounted entry_piece tag_of_entry tag_of_piece (λ x. refl) a_plain (λ v. count_piece (length ps)) (length ps) (count_piece_lem (length ps)) _
      ∙ ap (count_now (length ps)) (map_series entry_piece tag_of_entry tag_of_piece (λ x. refl) pack_piece series_with series_piece series_piece_lem ps es)
      ∙ ap (λ n. count_now n (set_now (map pack_piece ps) pieces_were)) (sym (length-map ps pack_piece))
      ∙ ap (λ packs. count_now (length packs) (set_now packs pieces_were)) e

  bytes_now : flat_all flat_entry (change_entries c es) ≡ flat_all bytes_of_piece pieces_now
  bytes_now = sym (pieces_flat tag_of_entry flat_entry (change_entries c es)) ∙ ap (flat_all bytes_of_piece) pieces_now_is

  series_kept : IdFits (map id_of_pack (packs_in es)) c → SeriesKept c es (flat_all flat_entry (change_entries c es))
  series_kept n = record {
    packs = packs_now c packs_were;
    packs_step = packs_made c packs_were (subst (λ ids. IdFits ids c) (sym (pieces_tags id_of_pack flat_pack (packs_in es))) n);
    between = set_now (packs_now c packs_were) pieces_were;
    series_step = series_made (packs_now c packs_were) pieces_were (stands_now c es n);
    pieces = pieces_now;
    count_step = count_made (length (packs_now c packs_were)) (set_now (packs_now c packs_were) pieces_were);
    now = bytes_now;
  }

  series_fits : (b : List ℕ) → SeriesKept c es b → IdFits (map id_of_pack (packs_in es)) c
  series_fits b k = subst (λ ids. IdFits ids c) (pieces_tags id_of_pack flat_pack (packs_in es)) (packs_fit c packs_were k.packs k.packs_step)

  series_kept_is : (f : Form) → Together tag_of_entry (EntryValid f) es → (b : List ℕ) → SeriesKept c es b → b ≡ flat_all flat_entry (change_entries c es)
  series_kept_is f v b k =
      let o : Once (map tag_of_piece pieces_were) = subst Once (sym (pieces_tags tag_of_entry flat_entry es)) v.once in
      let o₁ : Once (map tag_of_piece packs_were) = subst Once (sym (pieces_tags id_of_pack flat_pack (packs_in es))) (packs_in_lem f es v.each).once in
      let e₁ : k.packs ≡ packs_now c packs_were = packs_is c packs_were k.packs o₁ k.packs_step in
      let e₂ : k.between ≡ set_now k.packs pieces_were = series_is k.packs pieces_were k.between o k.series_step in
      let e₃ : k.pieces ≡ count_now (length k.packs) k.between
      = count_is (length k.packs) k.between k.pieces (subst (λ x. Once (map tag_of_piece x)) (sym e₂) (series_once k.packs pieces_were o)) k.count_step in
      k.now
      ∙ ap (flat_all bytes_of_piece)
      (e₃ ∙ ap (count_now (length k.packs)) e₂ ∙ ap (λ packs. count_now (length packs) (set_now packs pieces_were)) e₁)
      ∙ sym bytes_now

-- ---- the packet

module _ (f : Form) (c : TargetChange) (s : List ℕ) where
  changed_bytes : (p : Packet) → Lies f s p → flat (change_packet c p) ≡ shut f (flat_all flat_entry (change_entries c p.entries))
  unfolding change_packet
  changed_bytes p l = closed_bytes p.form _ ∙ ap (λ g. shut g (flat_all flat_entry (change_entries c p.entries))) l.form_is

  pub changed_kept : (p : Packet) (b : List ℕ) → Lies f s p → IdFits (ids_in p) c → flat (change_packet c p) ≡ b → TargetKept f c s b
  changed_kept p b l n z = record {
    packet = p;
    lies = l;
    body = flat_all flat_entry (change_entries c p.entries);
    kept = series_kept c p.entries n;
    now = sym z ∙ changed_bytes p l;
  }

  -- what keeps all other pieces is the changed packet
  pub kept_is : (b : List ℕ) (k : TargetKept f c s b) → b ≡ flat (change_packet c k.packet)
  kept_is b k =
      let p = k.packet in
      k.now ∙ ap (shut f) (series_kept_is c p.entries p.form k.lies.valid.entries_valid k.body k.kept) ∙ sym (changed_bytes p k.lies)

  -- two results that keep all other pieces are one
  pub one_kept : (b b' : List ℕ) → TargetKept f c s b → TargetKept f c s b' → b ≡ b'
  one_kept b b' k k' =
      let e : k.packet ≡ k'.packet = ok_inj _ _ (sym (lies_parses f s k.packet k.lies) ∙ lies_parses f s k'.packet k'.lies) in
      kept_is b k ∙ ap (λ p. flat (change_packet c p)) e ∙ sym (kept_is b' k')

  -- the id is new, or it stands
  pub kept_id : (b : List ℕ) (k : TargetKept f c s b) → IdFits (ids_in k.packet) c
  kept_id b k = series_fits c k.packet.entries k.body k.kept
