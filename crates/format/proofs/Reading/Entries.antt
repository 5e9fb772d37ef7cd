-- What a set holds: an item, or the series. What was read is laid flat and valid, and such an entry is read back.
use mathlib.Core.Path.{◌≡◌, refl, sym}
use Prim.Native.Nat.{ℕ, ◌+◌, ◌-◌, ◌%◌, ◌≤◌, ◌<◌}
use native.Mathlib.Omega.{arith}
use native.Mathlib.Nat.{mod-one}
use mathlib.Core.Bool.{Bool, true, false}
use mathlib.Core.List.{List, [], ◌∷◌, ◌++◌, append-nil}
use lib.ListN.{length, length-append}
use lib.Dec.{eqb}
use borrow.Author.Tests.{eqb-true, le-leb, eq-eqb}
use Rattle.format.specs.Answer.{ok, Got, got, ◌>>=◌, after}
use Rattle.format.specs.Coding.{Bytes}
use Rattle.format.specs.Lists.{none?, has, flat_all}
use Rattle.format.specs.Table.{Form, set, rules, find, rule_of, may_begin, sized}
use Rattle.format.specs.Packet.{Item, Pack, Entry, plain, series, id_of_pack, tag_of_entry, flat_item, flat_pack, flat_entry}
use Rattle.format.specs.Run.{always}
use Rattle.format.specs.Read.{one_pack, deepen, entry}
use Rattle.format.specs.Valid.{Together, Valued, PackValid, SeriesValid, EntryValid}
use Rattle.format.proofs.Words.Answers.{bind_then, after_then, ok_inj, no_bool}
use Rattle.format.proofs.Words.Bytes.{bytes_left, Took}
use Rattle.format.proofs.Coding.Lengths.{holds_pos}
use Rattle.format.proofs.Coding.Oids.{oid_some}
use Rattle.format.proofs.Table.Tags.{nameable_set, set_nameable, set_stands}
use Rattle.format.proofs.Table.Values.{Stands}
use Rattle.format.proofs.Reading.Runs.{Along, Faithful, ReadsAt, along_together, free_along, all_says, all_back}
use Rattle.format.proofs.Reading.Items.{length_item, value_bytes, ends_none, ItemRead, item_says, item_back, item_valid, valid_item}
use Rattle.format.proofs.Reading.Packs.{length_pack, pack_faithful, pack_stood, pack_reads}

-- ---- the series as an item

abbrev pub series_item : ℕ → List Pack → Item
series_item w ps = record { tag = 101; width = w; value = flat_all flat_pack ps }

pub series_flat : (w : ℕ) (ps : List Pack) → flat_entry (series w ps) ≡ flat_item (series_item w ps)
unfolding flat_entry flat_item
series_flat w ps = refl

pub plain_flat : (i : Item) → flat_entry (plain i) ≡ flat_item i
unfolding flat_entry
plain_flat i = refl

pub series_size_lem : (f : Form) (w : ℕ) (ps : List Pack) → SeriesValid f w ps → 2 + length (flat_all flat_pack ps) ≤ length (flat_entry (series w ps))
series_size_lem f w ps h = rw (series_flat w ps, length_item (series_item w ps)) (omega (arith, oid_some 101, holds_pos w _ h.coded))

pub series_valued : (v : List ℕ) → 0 < length v → Valued set 101 v
unfolding rule_of rules find sized
series_valued v p = record {
  length_allowed = rw (le-leb 1 (length v) p, eq-eqb ((length v - 1) % 1) 0 (mod-one (length v - 1)));
  pixel_not_0 = refl;
}

packs_some : (ps : List Pack) → 0 < length (flat_all flat_pack ps) → none? ps ≡ false
unfolding flat_all
packs_some [] h = absurd (omega arith)
packs_some (p ∷ ps) h = refl

some_packs : (f : Form) (w : ℕ) (ps : List Pack) → SeriesValid f w ps → 0 < length (flat_all flat_pack ps)
unfolding flat_all
some_packs f w [] h = no_bool (sym h.not_empty)
some_packs f w (p ∷ ps) h = simp (length-append, length_pack) (omega (arith, holds_pos p.width _ h.packs_valid.each.0.coded))

-- ---- its packs

packs_valid : (f : Form) (ps : List Pack) → Bytes (flat_all flat_pack ps ++ []) → Along id_of_pack flat_pack (ReadsAt always id_of_pack (one_pack f) flat_pack) [] ps []
    → Together id_of_pack (PackValid f) ps
packs_valid f ps b h =
    along_together always id_of_pack (one_pack f) flat_pack (PackValid f) (λ seen p t b' r. let g = pack_stood f seen p t b' r in (g.new, g.valid)) ps [] b h

packs_read : (f : Form) (ps : List Pack) → Together id_of_pack (PackValid f) ps → Along id_of_pack flat_pack (ReadsAt always id_of_pack (one_pack f) flat_pack) [] ps []
packs_read f ps h =
    free_along always id_of_pack (one_pack f) flat_pack (PackValid f) (λ t. Unit {0}) (λ p t. tt) (λ seen p t n _ g. pack_reads f seen p t (record { new = n; valid = g }))
    ps [] tt h

-- ---- the entry

abbrev pub EntryRead : Form → List ℕ → Entry → Bool → Type 0
EntryRead f seen (plain i) last = ItemRead set f seen i last × (eqb i.tag 101 ≡ false)
EntryRead f seen (series w ps) last = ItemRead set f seen (series_item w ps) last × Together id_of_pack (PackValid f) ps

deepen_says : (f : Form) (seen s : List ℕ) (i : Got Item) (r : Got Entry) (n : ℕ) → Bytes i.val.value → Took (flat_item i.val) s i.used
    → ItemRead set f seen i.val (eqb i.used n) → deepen f i ≡ ok r → Took (flat_entry r.val) s r.used × EntryRead f seen r.val (eqb r.used n)
unfolding deepen flat_entry
deepen_says f seen s i r n b t k e = go (eqb i.val.tag 101) refl
  where
    go : (c : Bool) → eqb i.val.tag 101 ≡ c → Took (flat_entry r.val) s r.used × EntryRead f seen r.val (eqb r.used n)
    go false z = rw (← ok_inj _ _ (rw (z, deepen) at e)) (t, (k, z))
    go true z =
        after_then _ _ _ _ (rw (z, deepen) at e) λ ps eps e₁.
        let ran = all_says id_of_pack (one_pack f) flat_pack (pack_faithful f) i.val.value ps b eps in
        let fl : Bytes (flat_all flat_pack ps.val ++ []) = rw (append-nil (flat_all flat_pack ps.val)) (rw ran.bytes at b) in
        let t₁ : Took (flat_item (record { tag = i.val.tag; width = i.val.width; value = i.val.value })) s i.used = t in
        let t₂ : Took (flat_item (series_item i.val.width ps.val)) s i.used = rw (eqb-true i.val.tag 101 z, ran.bytes) at t₁ in
        let k₁ : ItemRead set f seen (record { tag = i.val.tag; width = i.val.width; value = i.val.value }) (eqb i.used n) = k in
        let k₂ : ItemRead set f seen (series_item i.val.width ps.val) (eqb i.used n) = rw (eqb-true i.val.tag 101 z, ran.bytes) at k₁ in
        rw (← ok_inj _ _ e₁) (rw (← series_flat i.val.width ps.val) at t₂, (k₂, packs_valid f ps.val fl ran.along))

pub entry_says : (f : Form) (seen s : List ℕ) (r : Got Entry) → Bytes s → entry f seen s ≡ ok r
    → Took (flat_entry r.val) s r.used × EntryRead f seen r.val (eqb r.used (length s))
unfolding entry
entry_says f seen s r b e =
    bind_then _ _ _ e λ i ei e₁.
    let (t, k) = item_says set f seen s i b ei in
    let v : Bytes i.val.value = value_bytes i.val (bytes_left (flat_item i.val) _ (rw t.bytes at b)) in
    deepen_says f seen s i r (length s) v t k e₁

deepen_series : (f : Form) (u w : ℕ) (ps : List Pack) → Together id_of_pack (PackValid f) ps → deepen f (got (series_item w ps) u) ≡ ok (got (series w ps) u)
unfolding deepen ◌>>=◌ after
deepen_series f u w ps h = rw (all_back id_of_pack (one_pack f) flat_pack ps (packs_read f ps h))

pub entry_back : (f : Form) (seen : List ℕ) (e : Entry) (t : List ℕ) → EntryRead f seen e (none? t) → entry f seen (flat_entry e ++ t) ≡ ok (got e (length (flat_entry e)))
unfolding entry ◌>>=◌
entry_back f seen (plain i) t h = unfold flat_entry deepen in (rw (item_back set f seen i t h.0, h.1, deepen))
entry_back f seen (series w ps) t h = rw (series_flat w ps, item_back set f seen (series_item w ps) t h.0) (deepen_series f _ w ps h.1)

pub entry_stands : (f : Form) (seen : List ℕ) (e : Entry) (last : Bool) → EntryRead f seen e last → Stands set f seen (tag_of_entry e) last
entry_stands f seen (plain i) last h = h.0.ruled.stands
entry_stands f seen (series w ps) last h = h.0.ruled.stands

pub read_some : (f : Form) (seen : List ℕ) (e : Entry) (last : Bool) → EntryRead f seen e last → 0 < length (flat_entry e)
read_some f seen (plain i) last h = rw (plain_flat i, length_item i) (omega (arith, oid_some i.tag))
read_some f seen (series w ps) last h = rw (series_flat w ps, length_item (series_item w ps)) (omega (arith, oid_some 101))

-- ---- as steps of a run

pub entry_faithful : (f : Form) → Faithful always tag_of_entry (entry f) flat_entry
entry_faithful f seen s r b _ e = (entry_says f seen s r b e).0

pub entry_stood : (f : Form) (seen : List ℕ) (e : Entry) (t : List ℕ) → Bytes (flat_entry e ++ t) → ReadsAt always tag_of_entry (entry f) flat_entry seen e t → EntryRead f seen e (none? t)
entry_stood f seen e t b h = rw (ends_none (flat_entry e) t) at (entry_says f seen (flat_entry e ++ t) (got e (length (flat_entry e))) b h.reads).1

pub entry_reads : (f : Form) (seen : List ℕ) (e : Entry) (t : List ℕ) → EntryRead f seen e (none? t) → ReadsAt always tag_of_entry (entry f) flat_entry seen e t
entry_reads f seen e t h = record { goes = refl; reads = entry_back f seen e t h; some = read_some f seen e (none? t) h }

-- ---- read and valid, but for the checksum

pub entry_valid : (f : Form) (seen : List ℕ) (e : Entry) (last : Bool) → eqb (tag_of_entry e) 1 ≡ false → EntryRead f seen e last → EntryValid f e
entry_valid f seen (plain i) last n h = item_valid set f seen i last (set_nameable i.tag h.0.low h.0.high n h.1) h.0
entry_valid f seen (series w ps) last n h =
    record { not_empty = packs_some ps h.0.ruled.not_empty; packs_valid = h.1; coded = h.0.coded }

pub entry_not_seal : (f : Form) (e : Entry) → EntryValid f e → eqb (tag_of_entry e) 1 ≡ false
entry_not_seal f (plain i) h = (nameable_set i.tag h.meets.named).0
entry_not_seal f (series w ps) h = refl

pub valid_entry : (f : Form) (seen : List ℕ) (e : Entry) (last : Bool) → has (tag_of_entry e) seen ≡ false → may_begin set f (tag_of_entry e) seen ≡ true → EntryValid f e
    → EntryRead f seen e last
valid_entry f seen (plain i) last n m h = (valid_item set f seen i last n m h, (nameable_set i.tag h.meets.named).1)
valid_entry f seen (series w ps) last n m h =
    let p = some_packs f w ps h in (
      record {
        low = omega arith;
        high = omega arith;
        coded = h.coded;
        brief = refl;
        ruled = record {
          not_empty = p;
          stands = record { new = n; may_stand = set_stands f 101 last refl; begins = m };
          valued = series_valued (flat_all flat_pack ps) p;
        };
      },
      h.packs_valid,
    )
