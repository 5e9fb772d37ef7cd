-- Packs passed whose length is coded as one before them: each ends where that says, and its id begins with another byte than the one sought.
use mathlib.Core.Path.{◌≡◌, refl, sym, ap, ◌∙◌, subst}
use Prim.Native.Nat.{ℕ, suc, ◌+◌, ◌-◌, ◌≤◌, ◌<◌, ◌^◌}
use native.Mathlib.Nat.{add-zero}
use native.Mathlib.Omega.{arith}
use mathlib.Core.Bool.{false}
use mathlib.Core.List.{List, [], ◌∷◌, ◌++◌, append_assoc, append-nil}
use lib.ListN.{length, take, drop, get_or, length-append, length-drop, get_or-append}
use lib.Seq.{drop-cons, drop-drop, get_or-take, get_or-drop}
use borrow.Author.Tests.{lt-ltb, le-leb, ne_eqb}
use Rattle.format.specs.Answer.{ok, got, ◌>>=◌, need}
use Rattle.format.specs.Coding.{Bytes, number, long_of, len_of, oid_bytes}
use Rattle.format.specs.Lists.{flat_all}
use Rattle.format.specs.Table.{Form}
use Rattle.format.specs.Valid.{All, Holds}
use Rattle.format.specs.Packet.{Pack, id_of_pack, flat_pack}
use Rattle.format.specs.Read.{pack_head, one_pack}
use Rattle.format.specs.Read as Read
use Rattle.format.proofs.Words.Answers.{bind_then, need_then, ok_inj}
use Rattle.format.proofs.Words.Bytes.{bytes_drop}
use Rattle.format.proofs.Words.Flats.{flat_append}
use Rattle.format.proofs.Words.Keys.{all_both}
use Rattle.format.proofs.Coding.Oids.{oid_some}
use Rattle.format.proofs.Reading.Packs.{pack_head_says}
use Rattle.coding.proofs.Rooms.{tail_part}
use Rattle.heads.specs.declared.Head.{Head}
use Rattle.heads.specs.Meet.{pack_head_from}
use Rattle.tally.specs.Runs.{Ran, series_run}
use Rattle.find.specs.Spots.{Missed, has_id, packs_of, pack_lead}
use Rattle.find.specs.Series.{LeadOf, InWidth, PacksTo, OtherLead, PassedOn, id_spot}
use Rattle.find.proofs.Splices.{missed_spot, grown_spot, all_snoc}
use Rattle.find.proofs.Seeks.{Seeking, long, Next, next_here, seek_more}
use Rattle.find.proofs.Packs.{packs_read, PackTurn, all_read, headed}
use Rattle.find.proofs.Passes.{few_packs, none, PackPass, none_yet, one_yet}

none_hit : (xs : List Pack) → Missed none xs
none_hit [] = tt
none_hit (x ∷ xs) = (refl, none_hit xs)

-- ---- a length at p

head_len : (u : List ℕ) (h : Read.PackHead) → pack_head u ≡ ok h → len_of u ≡ ok (got h.size h.width)
unfolding pack_head
head_len u h e =
    bind_then _ _ _ e λ n en e₁.
    need_then _ _ _ _ e₁ λ _ e₂.
    bind_then _ _ _ e₂ λ i _ e₃.
    en ∙ ap (λ x. ok (got x.size x.width)) (ok_inj _ _ e₃)

low_len : (n : ℕ) (t : List ℕ) → n < 128 → len_of (n ∷ t) ≡ ok (got n 1)
unfolding len_of
low_len n t l = rw (lt-ltb n 128 l, len_of)

long_len : (n : ℕ) (t : List ℕ) → len_of (129 ∷ n ∷ t) ≡ ok (got n 2)
unfolding len_of long_of ◌>>=◌ need number
long_len n t = rw (le-leb 1 (suc (length t)) (omega arith)) (ap (λ x. ok (got x 2)) (omega arith))

module _ (s : List ℕ) (p size : ℕ) where
  pub len_one : size < 128 → p < length s → get_or s p 0 ≡ size → len_of (drop p s) ≡ ok (got size 1)
  len_one l h e = ap len_of (drop-cons s p 0 h ∙ ap (λ x. x ∷ drop (suc p) s) e) ∙ low_len size (drop (suc p) s) l

  pub len_two : p + 1 < length s → get_or s p 0 ≡ 129 → get_or s (p + 1) 0 ≡ size → len_of (drop p s) ≡ ok (got size 2)
  len_two h e g =
      let q : suc p ≡ p + 1 = omega arith in
      let z : drop (suc p) s ≡ size ∷ drop (suc (p + 1)) s = ap (λ n. drop n s) q ∙ drop-cons s (p + 1) 0 h ∙ ap (λ x. x ∷ drop (suc (p + 1)) s) g in
      ap len_of (drop-cons s p 0 (omega arith) ∙ ap (λ x. x ∷ drop (suc p) s) e ∙ ap (λ x. 129 ∷ x) z) ∙ long_len size (drop (suc (p + 1)) s)

  -- in so many bytes, as the code reads it
  module _ {w : ℕ} (i : InWidth w size) (h : p + 2 < length s) where
    pub len_short : w ≡ 1 → get_or s (p + w - 1) 0 ≡ size → len_of (drop p s) ≡ ok (got size w)
    len_short e g = rw e (len_one (i.2 e) (omega arith) (ap (λ n. get_or s n 0) (omega arith) ∙ g))

    pub len_wide : (w ≡ 1 → ⊥) → get_or s p 0 ≡ 129 → get_or s (p + w - 1) 0 ≡ size → len_of (drop p s) ≡ ok (got size w)
    len_wide n e g =
        let two : w ≡ 2 = omega arith in
        rw two (len_two (omega arith) e (ap (λ n. get_or s n 0) (omega arith) ∙ g))

-- the byte after it is the first of the id
first_here : (s : List ℕ) (p : ℕ) (h : Read.PackHead) → Bytes (drop p s) → pack_head (drop p s) ≡ ok h → (get_or (oid_bytes h.id) 0 0 ≡ get_or s (p + h.width) 0) × (h.id < 2 ^ 63)
first_here s p h b eh =
    let u : List ℕ = drop p s in
    let a = pack_head_says u h b eh in (
      sym (get_or-append (oid_bytes h.id) (drop h.used (take h.size (drop h.width u))) 0 0 (oid_some h.id))
          ∙ ap (λ x. get_or x 0 0) (sym a.id_took.bytes)
          ∙ get_or-take h.size (drop h.width u) 0 0 (omega (arith, a.id_took.pos, a.id_took.room, a.size_is))
          ∙ ap (λ x. get_or x 0 0) (drop-drop h.width p s)
          ∙ get_or-drop (p + h.width) s 0 0 ∙ ap (λ n. get_or s n 0) (add-zero (p + h.width)),
      a.id_range,
    )

-- ---- one pack passed

module _ {f : Form} {s : List ℕ} {lead : ℕ} {before : List Pack} {p n : ℕ} (b : Bytes s) (r : Ran (series_run f s)) (i : PassedOn f s lead before p n) where
  pub passed_few : n ≤ p
  passed_few = omega (arith, i.count_is, few_packs (before ++ i.mid), length-append before i.mid, i.to.p_is)

  abbrev going : Seeking id_of_pack (one_pack f) flat_pack none (packs_of f s) p
  going = record { before = before ++ i.mid; rest = i.to.rest; list_is = i.to.list_is; missed = none_hit (before ++ i.mid); p_is = i.to.p_is }

  module _ (here : p < length s) {width size : ℕ} (len : len_of (drop p s) ≡ ok (got size width)) where
    next : Next id_of_pack (one_pack f) flat_pack none (packs_read f s b r) going
    next = next_here id_of_pack (one_pack f) flat_pack none (packs_read f s b r) going here

    -- what is known of the pack at p
    record Met : Type 0 where
      room : p + width + size ≤ length s
      ends : p + width + size ≡ p + length (flat_pack next.it)
      range : next.it.id < 2 ^ 63
      first : get_or (oid_bytes next.it.id) 0 0 ≡ get_or s (p + width) 0

    met : Met
    met =
        let u : List ℕ = drop p s in
        let bu : Bytes u = bytes_drop p s b in
        let (h, k, eh) = headed f next.here.seen u bu _ next.here.read in
        let z : got h.size h.width ≡ got size width = ok_inj _ _ (sym (head_len u h eh) ∙ len) in
        let w : h.width ≡ width = ap (λ x. x.used) z in
        let v : h.size ≡ size = ap (λ x. x.val) z in
        let (first, range) = first_here s p h bu eh in
        let id : next.it.id ≡ h.id = ap id_of_pack k.it_is in
        record {
          room = omega (arith, k.room, length-drop p s, here, w, v);
          ends = omega (arith, k.used_is, w, v);
          range = rw id range;
          first = ap (λ x. get_or (oid_bytes x) 0 0) id ∙ first ∙ ap (λ x. get_or s (p + x) 0) w;
        }

    pub passed_room : p + width + size ≤ length s
    passed_room = met.room

    pub passed_more : (get_or s (p + width) 0 ≡ lead → ⊥) → PassedOn f s lead before (p + width + size) (n + 1)
    passed_more o =
        let it : Pack = next.it in
        let g = seek_more id_of_pack (one_pack f) flat_pack none (packs_read f s b r) going next refl met.ends in
        let a : (before ++ i.mid) ++ (it ∷ []) ≡ before ++ (i.mid ++ (it ∷ [])) = append_assoc before i.mid (it ∷ []) in
        record {
          mid = i.mid ++ (it ∷ []);
          to = record { rest = g.rest; list_is = g.list_is ∙ ap (λ x. x ++ g.rest) a; p_is = g.p_is ∙ ap (λ x. length (flat_all flat_pack x)) a };
          count_is = omega (arith, i.count_is, length-append i.mid (it ∷ []));
          others = all_snoc (OtherLead lead) i.mid it i.others (met.range, λ e. o (sym met.first ∙ e));
        }

-- none yet
pub passed_none : {f : Form} {s : List ℕ} {lead : ℕ} {before : List Pack} {p : ℕ} → PacksTo f s p before → PassedOn f s lead before p 0
passed_none {before = before} t =
    let e : before ≡ before ++ [] = sym (append-nil before) in
    record {
      mid = [];
      to = record { rest = t.rest; list_is = t.list_is ∙ ap (λ x. x ++ t.rest) e; p_is = t.p_is ∙ ap (λ x. length (flat_all flat_pack x)) e };
      count_is = refl;
      others = tt;
    }

-- ---- the loop over all packs, past those

-- a length in one byte
pub pack_low : {f : Form} {s : List ℕ} {p : ℕ} → PackTurn f none s p → (h : Head) → ok (pack_head_from h) ≡ pack_head (take (length s - p) (drop p s)) → h.width ≡ 1 → h.size < 128
pack_low {s = s} {p = p} i h e w =
    let eh : pack_head (drop p s) ≡ ok (pack_head_from h) = sym (rw tail_part at e) in
    subst (λ n. Holds n h.size) w (pack_head_says (drop p s) (pack_head_from h) (bytes_drop p s i.bytes) eh).coded

-- none of them has the id
passed_missed : (id lead : ℕ) → LeadOf id lead → (xs : List Pack) → All (OtherLead lead) xs → Missed (has_id id) xs
passed_missed id lead l [] h = tt
passed_missed id lead l (x ∷ xs) h =
    (ne_eqb _ _ (λ e. h.0.1 (ap (λ n. get_or (oid_bytes n) 0 0) e ∙ sym (l (rw e at h.0.0)))), passed_missed id lead l xs h.1)

module _ {f : Form} {id : ℕ} {s : List ℕ} {p at next count : ℕ} (i : PackPass f id s p at next count) where
  abbrev pub packs_to : PacksTo f s p i.turn.going.before
  packs_to = record { rest = i.turn.going.rest; list_is = i.turn.going.list_is; p_is = i.turn.going.p_is }

  pub pass_within : p ≤ length s
  pass_within = omega (arith, long id_of_pack (one_pack f) flat_pack none (all_read i.turn) i.turn.going)

  module _ {lead m n : ℕ} (j : PassedOn f s lead i.turn.going.before m n) where
    pub join_behind : p ≤ m
    join_behind =
        let e = ap length (flat_append flat_pack i.turn.going.before j.mid) ∙ length-append (flat_all flat_pack i.turn.going.before) (flat_all flat_pack j.mid) in
        omega (arith, e, i.turn.going.p_is, j.to.p_is)

    abbrev all : List Pack
    all = i.turn.going.before ++ j.mid

    abbrev joined : {at₁ next₁ : ℕ} → at₁ ≡ (id_spot id all).at → next₁ ≡ (id_spot id all).next → PackPass f id s m at₁ next₁ (count + n)
    joined ea en = record {
      turn = record {
        going = record { before = all; rest = j.to.rest; list_is = j.to.list_is; missed = none_hit all; p_is = j.to.p_is };
        bytes = i.turn.bytes;
        asked = i.turn.asked;
      };
      at_is = ea;
      next_is = en;
      count_is = omega (arith, i.count_is, j.count_is, length-append i.turn.going.before j.mid);
    }

    pub join_missed : LeadOf id lead → at ≡ next → PackPass f id s m m m (count + n)
    join_missed l e =
        let z = missed_spot (has_id id) flat_pack (λ q. q.width) pack_lead all (all_both (λ x. has_id id x ≡ false) i.turn.going.before j.mid (none_yet i e) (passed_missed id lead l j.mid j.others)) in
        joined (j.to.p_is ∙ sym (ap (λ x. x.at) z)) (j.to.p_is ∙ sym (ap (λ x. x.next) z))

    pub join_kept : (at ≡ next → ⊥) → PackPass f id s m at next (count + n)
    join_kept o =
        let z = grown_spot (has_id id) i.turn.going.before j.mid refl flat_pack (λ q. q.width) pack_lead (one_yet i o) in
        joined (i.at_is ∙ sym (ap (λ x. x.at) z)) (i.next_is ∙ sym (ap (λ x. x.next) z))
