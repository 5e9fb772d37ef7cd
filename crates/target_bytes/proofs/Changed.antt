-- A target added or dropped: the entries that the definitions give lie flat as the bytes that the code puts.
use mathlib.Core.Path.{◌≡◌, refl, sym, ap, ◌∙◌, subst}
use mathlib.Core.Logic.{◌⊎◌, inl, inr}
use Prim.Native.Nat.{ℕ, ◌+◌, ◌-◌}
use native.Mathlib.Omega.{arith}
use mathlib.Core.Bool.{true, false}
use mathlib.Core.List.{List, [], ◌∷◌, ◌++◌, append_assoc, append-nil, map, map-append}
use lib.ListN.{length, take, drop, length-append}
use lib.Seq.{take-length, drop-length}
use Rattle.format.specs.Answer.{Ans, ok, refused, Got}
use Rattle.format.specs.Coding.{Bytes, len_width, len_bytes, oid_bytes}
use Rattle.format.specs.Lists.{has, flat_all, take_out, on_hit}
use Rattle.format.specs.Table.{Form, set}
use Rattle.format.specs.Packet.{Pack, Entry, id_of_pack, tag_of_entry, flat_pack, flat_entry}
use Rattle.format.specs.Read.{entry}
use Rattle.format.specs.Sheet.{Target}
use Rattle.format.specs.Calls.{pack_of, series_with}
use Rattle.format.specs.Targets.{added, dropped, moved, series_now, recounted, packs_in, change_entries}
use Rattle.format.specs.Valid.{Once, Together, EntryValid}
use Rattle.format.proofs.Words.Answers.{no_bool}
use Rattle.format.proofs.Words.Flats.{flat_append, flat_snoc}
use Rattle.format.proofs.Words.Keys.{once_left}
use Rattle.format.proofs.Reading.Seal.{SetRead, split}
use Rattle.format.proofs.Reading.Packets.{set_says, set_once}
use Rattle.tally.specs.Meet.{deepen_at, step_at}
use Rattle.tally.specs.Runs.{Ran, level_run}
use Rattle.store_coded.specs.Fronts.{series_front}
use Rattle.find.specs.declared.around.Series.{Series}
use Rattle.find.specs.Spots.{Missed, Hit, things_of, entries_of, has_tag, has_id, splice, pack_lead}
use Rattle.find.specs.Series.{InOrder, tag_spot, id_spot, series_in}
use Rattle.find.specs.Places.{SetOf, kept_of}
use Rattle.find.proofs.Splices.{place, out_hit, missed_spot, splice_out, has_absent}
use Rattle.find.proofs.Packs.{pack_some}
use Rattle.find.proofs.Sets.{rest_of, the_rest, set_bytes}
use Rattle.edit_rules.specs.Cuts.{part}
use Rattle.edit_rules.proofs.Sizes.{part_long}
use Rattle.target_bytes.specs.Meet.{counted, packs_size, series_put, entries_put}
use Rattle.target_bytes.proofs.Sizes.{put_none, put_some}
use Rattle.target_bytes.proofs.Stretches.{all_later, absent_missed, once_apart, recount, flatten, recount_split, recount_bytes}
use Rattle.find.proofs.Arounds.{in_order}
use Rattle.target_bytes.proofs.Arounds.{flat_packs, Around, around, packs_before, packs_later, first_stretch, last_stretch}

-- ---- the series anew

now_series : (ps : List Pack) → flat_entry (series_with ps) ≡ series_front (length (flat_packs ps)) ++ flat_packs ps
unfolding flat_entry series_with series_front
now_series ps = sym (append_assoc (oid_bytes 101) (len_bytes (len_width (length (flat_packs ps))) (length (flat_packs ps))) (flat_packs ps))

-- tag 6 is not the series'
past_series : (n : ℕ) (ps : List Pack) (es : List Entry) → recount n (series_with ps ∷ es) ≡ series_with ps ∷ recount n es
unfolding series_with recounted on_hit
past_series n ps es = refl

-- ---- the packs anew

-- the packs but for what stands at the spot of an id, and then the new bytes
abbrev left_of : ℕ → List Pack → List ℕ → List ℕ
left_of id ps new = take (id_spot id ps).at (flat_packs ps) ++ (drop (id_spot id ps).next (flat_packs ps) ++ new)

left_added : (id : ℕ) (ps : List Pack) (p : Pack) → has id (map id_of_pack ps) ≡ false → flat_packs (ps ++ (p ∷ [])) ≡ left_of id ps (flat_pack p)
left_added id ps p h =
    let z = missed_spot (has_id id) flat_pack (λ p. p.width) pack_lead ps (absent_missed id_of_pack id ps h) in
    flat_snoc flat_pack ps p ∙ sym (rw (z, take-length (flat_packs ps), drop-length (flat_packs ps)))

left_dropped : (id : ℕ) (ps : List Pack) → flat_packs (take_out (has_id id) ps) ≡ left_of id ps []
unfolding splice
left_dropped id ps =
    splice_out (has_id id) flat_pack (λ p. p.width) pack_lead ps ∙ ap (λ x. take (id_spot id ps).at (flat_packs ps) ++ x) (sym (append-nil (drop (id_spot id ps).next (flat_packs ps))))

count_dropped : (id : ℕ) (ps : List Pack) → has id (map id_of_pack ps) ≡ true → length (take_out (has_id id) ps) ≡ length ps - 1
count_dropped id ps h = go (place (has_id id) ps)
  where
    go : Hit (has_id id) ps ⊎ Missed (has_id id) ps → length (take_out (has_id id) ps) ≡ length ps - 1
    go (inl k) =
        let u = ap length k.list_is ∙ length-append k.before (k.it ∷ k.later) in
        let v = ap length (out_hit (has_id id) k) ∙ length-append k.before k.later in
        omega (arith, u, v)
    go (inr m) = no_bool (sym (has_absent id_of_pack id ps m) ∙ h)

-- ---- the entries anew

-- r says where the series stands
module _ (id : ℕ) {es : List Entry} {r : Series} (e : r ≡ series_in id es) (a : Around es (tag_spot 101 es)) {s : List ℕ} (rest : List ℕ) (bytes : s ≡ flatten es ++ rest) (ordered : InOrder (length s) r) where
  abbrev Left : List Pack → List ℕ → Type 0
  Left ps new = flat_packs ps ≡ left_of id (packs_in es) new

  left_are : (ps : List Pack) (new : List ℕ) → Left ps new → flat_packs ps ≡ part s r.packs r.pack ++ (part s r.last r.tail ++ new)
  left_are ps new h = rw (packs_before id e a rest bytes, packs_later id e a rest bytes) h

  left_long : (ps : List Pack) (new : List ℕ) → Left ps new → packs_size r (length new) ≡ length (flat_packs ps)
  left_long ps new h =
      let u = part_long s r.packs r.pack ordered.to_pack (omega (arith, ordered)) in
      let v = part_long s r.last r.tail ordered.to_tail (omega (arith, ordered)) in
      sym (ap length (left_are ps new h) ∙ simp (length-append, u, v) (omega arith))

  no_series : (new : List ℕ) → Left [] new → series_put s r new ≡ []
  unfolding flat_all
  no_series new h = put_none s r new (left_long [] new h)

  the_series : (p : Pack) (ps : List Pack) (new : List ℕ) → Left (p ∷ ps) new → series_put s r new ≡ flat_entry (series_with (p ∷ ps))
  the_series p ps new h =
      let l = left_long (p ∷ ps) new h in
      put_some s r new (λ z. some (sym l ∙ z)) ∙ rw (l, ← left_are (p ∷ ps) new h) (sym (now_series (p ∷ ps)))
    where
      some : length (flat_packs (p ∷ ps)) ≡ 0 → ⊥
      some z = unfold flat_all in omega (arith, simp length-append at z, pack_some p)

  module _ (once : Once (map tag_of_entry es)) (n : ℕ) where
    not_both : Missed (has_tag 6) a.before ⊎ Missed (has_tag 6) a.later
    not_both = go (once_apart tag_of_entry 6 a.before (a.mid ++ a.later) (rw a.list_is at once))
      where
        go : Missed (has_tag 6) a.before ⊎ Missed (has_tag 6) (a.mid ++ a.later) → Missed (has_tag 6) a.before ⊎ Missed (has_tag 6) a.later
        go (inl m) = inl m
        go (inr m) = inr (all_later _ a.mid a.later m)

    first_is : flatten (recount n a.before) ≡ counted s r n 0 r.at
    first_is = recount_bytes (first_stretch id e a rest bytes once) n

    last_is : flatten (recount n a.later) ≡ counted s r n r.tail r.stop
    last_is = recount_bytes (last_stretch id e a rest bytes once) n

    changed : (ps : List Pack) (new : List ℕ) → flat_packs ps ≡ left_of id (packs_in es) new → flatten (recount n (series_now tag_of_entry series_with ps es)) ≡ entries_put s r n new
    unfolding flat_all series_now entries_put
    changed [] new h =
        ap (λ x. flatten (recount n x)) a.out_is
        ∙ ap flatten (recount_split n a.before a.later not_both)
        ∙ flat_append flat_entry (recount n a.before) (recount n a.later)
        ∙ rw (first_is, last_is, no_series new h)
    changed (p ∷ ps) new h =
        ap (λ x. flatten (recount n x)) (a.put_is (series_with (p ∷ ps)))
        ∙ ap flatten (recount_split n a.before (series_with (p ∷ ps) ∷ a.later) (past not_both) ∙ ap (λ x. recount n a.before ++ x) (past_series n (p ∷ ps) a.later))
        ∙ flat_append flat_entry (recount n a.before) (series_with (p ∷ ps) ∷ recount n a.later)
        ∙ rw (first_is, last_is, the_series p ps new h)
      where
        past : Missed (has_tag 6) a.before ⊎ Missed (has_tag 6) a.later → Missed (has_tag 6) a.before ⊎ Missed (has_tag 6) (series_with (p ∷ ps) ∷ a.later)
        past (inl m) = inl m
        past (inr m) = inr (unfold series_with in refl, m)

-- ---- the set of a packet that was checked

read_so : (f : Form) (s : List ℕ) (rs : Got (List Entry)) → Bytes s → level_run set f s ≡ ok rs → SetRead f [] rs.val
unfolding level_run step_at deepen_at entry
read_so f s rs b z = (set_says f s rs b z).1

-- its entries but the checksum
module _ (f : Form) (s : List ℕ) (b : Bytes s) (k : SetOf f s) where
  abbrev es : List Entry
  es = kept_of f s

  pub kept_valid : Together tag_of_entry (EntryValid f) (kept_of f s)
  kept_valid = go (level_run set f s) refl k.ran
    where
      go : (m : Ans (Got (List Entry))) → level_run set f s ≡ m → Ran m → Together tag_of_entry (EntryValid f) es
      go (refused n p) z h = absurd h
      go (ok rs) z h =
          let q : SetRead f [] (entries_of set f s) = subst (SetRead f []) (sym (ap things_of z)) (read_so f s rs b z) in
          let o = subst (λ x. Once (map tag_of_entry x)) (rest_of f s k).is (set_once f (entries_of set f s) q) in
          record { once = once_left (map tag_of_entry es) _ (rw map-append at o); each = (split f [] (entries_of set f s) q).valid }

  kept_around : Around es (tag_spot 101 es)
  kept_around = around f es kept_valid.each

  abbrev rest : List ℕ
  rest = flatten (the_rest f s b k)

  pub added_bytes_lem : (t : Target) {r : Series} → has t.id (map id_of_pack (packs_in (kept_of f s))) ≡ false → r ≡ series_in t.id (kept_of f s)
      → flat_all flat_entry (change_entries (added t) (kept_of f s)) ≡ entries_put s r (length (packs_in (kept_of f s)) + 1) (flat_pack (pack_of t))
  unfolding change_entries moved
  added_bytes_lem t {r} h e =
      let ps = packs_in es in
      changed t.id e kept_around rest (set_bytes f s b k) (in_order f s b k t.id e) kept_valid.once (length (ps ++ (pack_of t ∷ []))) (ps ++ (pack_of t ∷ [])) (flat_pack (pack_of t)) (left_added t.id ps (pack_of t) h)
      ∙ ap (λ n. entries_put s r n (flat_pack (pack_of t))) (length-append ps (pack_of t ∷ []))

  pub dropped_bytes_lem : (i : ℕ) {r : Series} → has i (map id_of_pack (packs_in (kept_of f s))) ≡ true → r ≡ series_in i (kept_of f s)
      → flat_all flat_entry (change_entries (dropped i) (kept_of f s)) ≡ entries_put s r (length (packs_in (kept_of f s)) - 1) []
  unfolding change_entries moved
  dropped_bytes_lem i {r} h e =
      let ps = packs_in es in
      changed i e kept_around rest (set_bytes f s b k) (in_order f s b k i e) kept_valid.once (length (take_out (has_id i) ps)) (take_out (has_id i) ps) [] (left_dropped i ps)
      ∙ ap (λ n. entries_put s r n []) (count_dropped i ps h)
