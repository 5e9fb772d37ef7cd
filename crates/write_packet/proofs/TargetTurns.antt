-- What a turn over the targets stores: the items behind a head of the usual size, or moved on behind a longer one, and then the head.
use mathlib.Core.Path.{◌≡◌, refl, sym, ap, ◌∙◌}
use Prim.Native.Nat.{ℕ, ◌+◌, ◌-◌, ◌^◌, ◌≤◌, ◌<◌}
use native.Mathlib.Omega.{arith}
use mathlib.Core.Bool.{Bool, true, false}
use mathlib.Core.List.{List, ◌++◌, append_assoc, map}
use lib.ListN.{length, get_or, take, drop, length-append, length-drop, take-append-drop}
use lib.Seq.{sets, sets-eq, drop-drop, length-sets, length-take-le}
use borrow.Rule.Slice.PartMut.{put_mid}
use Rattle.format.specs.Answer.{ok, got}
use Rattle.format.specs.Coding.{Bytes, bytes_number, len_width, oid_bytes}
use Rattle.format.specs.Lists.{flat_all}
use Rattle.format.specs.Table.{Form, pack}
use Rattle.format.specs.Sheet.{one, id_of_target, TG, is, target_at}
use Rattle.format.proofs.Words.Bytes.{bytes_drop}
use Rattle.std.proofs.Common.{Fits, w8}
use Rattle.coding.proofs.Counts.{len_some, len_one}
use Rattle.coding.proofs.Rooms.{tail_part}
use Rattle.tally.specs.Meet.{total, weight_of_val}
use Rattle.tally.specs.Runs.{made_of}
use Rattle.tally_records.proofs.Runs.{vals_used}
use Rattle.write_laws.specs.Writing.{Writing}
use Rattle.stores.proofs.Puts.{Puts, Parted, head_room}
use Rattle.stores.proofs.Stores.{sets_append, sets_swap, sets_under, tail_length, tail_stored}
use Rattle.stores.proofs.Shifts.{stored_reads}
use Rattle.write_laws.proofs.Writing.{each, writing_begins, none_over, writing_over, Next, next_here, next_room, writing_passes, long}
use Rattle.write_laws.proofs.Entries.{ran, ran_ok}
use Rattle.store_coded.specs.Fronts.{pack_front}
use Rattle.write_packet.specs.Meet.{used_of, records_run, targets_run, target_normal, part_normal, records_normal, targets_normal}
use Rattle.write_packet.specs.Writing.{RecordsAsked, Passes, ValsLeft, TargetsAsked, TargetsLeft}
use Rattle.write_packet.proofs.Steps.{mark_room, TargetHere, target_here, vals_read}
use Rattle.write_packet.proofs.Forms.{target_normal_lem, vals_normal, no_inner}
use Rattle.store_coded.proofs.Fronts.{pack_long}

pub record TargetsWriting (f : Form) (s out₀ out : List ℕ) (p k : ℕ) : Type 0 where
  pub writes : Writing (is TG) (λ (_ : Unit {0}). flat_all target_normal) id_of_target (target_at f) (targets_normal f s) s out₀ out tt p k
  pub passed : p + writes.things.used ≡ used_of (targets_run f s)

module _ {f : Form} {s out₀ : List ℕ} where
  pub targets_start : TargetsAsked f s (length out₀) → TargetsWriting f s out₀ out₀ 0 0
  unfolding targets_run
  targets_start a =
      let (rs, e) = ran (targets_run f s) a.1 in
      let (w, u) = writing_begins (each target_normal) (is TG) id_of_target (target_at f) _ s out₀ tt rs e (ap (made_of (flat_all target_normal)) e) in
      record { writes = w; passed = omega (arith, u, ap used_of e) }

  module _ {out : List ℕ} {p k : ℕ} (g : TargetsWriting f s out₀ out p k) where
    pub targets_over : is TG (drop p s) ≡ false → Passes out₀ (targets_run f s) (targets_normal f s) p k out
    targets_over m =
        let (wrote, left) = writing_over (each target_normal) _ _ _ _ _ _ g.writes m in
        record { used = omega (arith, g.passed, none_over (each target_normal) _ _ _ _ _ _ g.writes m); wrote = wrote; left = left }

-- a `TG` stands at p
pub record TargetAt (f : Form) (s out₀ out : List ℕ) (p k : ℕ) : Type 0 where
  pub going : TargetsWriting f s out₀ out p k
  pub more : is TG (drop p s) ≡ true
  pub bytes : Bytes s
  pub asked : TargetsAsked f s (length out₀)

module _ {f : Form} {s out₀ out : List ℕ} {p k : ℕ} (i : TargetAt f s out₀ out p k) where
  pub target : Next (each target_normal) _ _ _ _ _ _ i.going.writes
  target = next_here (each target_normal) _ _ _ _ _ _ i.going.writes (omega (arith, mark_room TG (drop p s) i.more, length-drop p s)) i.more

  stands : TargetHere f (drop p s) target.it
  stands = target_here f i.going.writes.seen (drop p s) target.it target.read

  pub target_room : (p + 10 ≤ length s) × (length s ≤ 65536)
  target_room = (omega (arith, stands.ten, length-drop p s), i.asked.0)

  -- its id and its values, as they are lent
  abbrev id_lent : List ℕ
  id_lent = take (length s - (p + 2)) (drop (p + 2) s)

  id_lent_is : id_lent ≡ drop 2 (drop p s)
  id_lent_is = tail_part (p + 2) s ∙ sym (drop-drop 2 p s)

  abbrev vals_lent : List ℕ
  vals_lent = take (length s - (p + 10)) (drop (p + 10) s)

  vals_lent_is : vals_lent ≡ drop 10 (drop p s)
  vals_lent_is = tail_part (p + 10) s ∙ sym (drop-drop 10 p s)

  pub vals_small : length vals_lent ≤ 65536
  vals_small = omega (arith, ap length vals_lent_is, length-drop 10 (drop p s), length-drop p s, i.asked.0)

  abbrev written : List ℕ
  written = target_normal target.it.val

  module _ {id : ℕ} (ei : id ≡ bytes_number (take 8 id_lent)) where
    id_is : bytes_number (take 8 (drop 2 (drop p s))) ≡ id
    id_is = sym (ei ∙ ap (λ u. bytes_number (take 8 u)) id_lent_is)

    pub id_low : id < 2 ^ 63
    id_low = rw id_is at stands.low

    vals_run_is : records_run pack f vals_lent ≡ ok (got (map one stands.vs.val) stands.vs.used)
    vals_run_is = ap (records_run pack f) vals_lent_is ∙ vals_read f (drop 10 (drop p s)) stands.vs stands.runs

    abbrev normal : List ℕ
    normal = records_normal pack f vals_lent

    normal_long : length normal ≡ (total (weight_of_val pack) stands.vs.val).normal
    normal_long = ap (λ x. length (made_of (flat_all part_normal) x)) vals_run_is ∙ vals_normal stands.vs.val

    vals_within : stands.vs.used ≤ length (drop 10 (drop p s))
    vals_within = (vals_used f (drop 10 (drop p s)) stands.vs (bytes_drop 10 (drop p s) (bytes_drop p s i.bytes)) stands.runs).1

    written_few : length written ≤ 8192
    written_few = omega (arith, long (each target_normal) _ _ _ _ _ _ i.going.writes target, i.going.writes.sum, i.asked.3)

    -- w is how many bytes its id takes
    module _ {w : ℕ} (ew : (w ≡ length (oid_bytes id)) × (w ≤ 9)) where
      abbrev body : ℕ
      body = w + length normal

      written_is : written ≡ target_normal (record { id = id; vals = stands.vs.val })
      written_is = ap target_normal stands.it_is ∙ ap (λ j. target_normal (record { id = j; vals = stands.vs.val })) id_is

      parts : Parted out k written (pack_front body id) normal
      parts = record {
        is = written_is ∙ target_normal_lem id stands.vs.val body (omega (arith, ew.0, normal_long)) ∙ ap (λ x. pack_front body id ++ made_of (flat_all part_normal) x) (sym vals_run_is);
        fits = next_room (each target_normal) _ _ _ _ _ _ i.going.writes target i.asked.2;
      }

      front_long : length (pack_front body id) ≡ len_width body + w
      front_long = omega (arith, pack_long body id, ew.0)

      whole_long : length written ≡ length (pack_front body id) + length normal
      whole_long = ap length parts.is ∙ length-append (pack_front body id) normal

      -- behind the head that most have
      pub behind : (k + 1 + w ≤ length out) × (k + 1 + w + length normal ≤ length out)
      behind =
          let one : 1 ≤ len_width body = len_some body in
          (omega (arith, parts.fits, whole_long, front_long, one), omega (arith, parts.fits, whole_long, front_long, one))

      pub vals_asked : RecordsAsked 0 false f vals_lent (length (take (length out - (k + 1 + w)) (drop (k + 1 + w) out)))
      vals_asked = (
        vals_small,
        ran_ok (records_run pack f vals_lent) vals_run_is,
        omega arith,
        rw vals_run_is (no_inner 0 stands.vs.val),
        rw tail_length (omega (arith, behind.1)),
        omega (arith, whole_long, written_few),
      )

      -- the items are stored there, n bytes of u
      module _ {u n : ℕ} {o : List ℕ} (el : ValsLeft vals_lent (take (length out - (k + 1 + w)) (drop (k + 1 + w) out)) u n o) where
        ed : Passes (take (length out - (k + 1 + w)) (drop (k + 1 + w) out)) (records_run pack f vals_lent) normal u n o
        ed = el f vals_asked

        abbrev out₁ : List ℕ
        out₁ = put_mid (k + 1 + w) (length out - (k + 1 + w)) out o

        early : out₁ ≡ sets out (k + 1 + w) normal
        early = tail_stored out (k + 1 + w) o normal ed.left

        early_long : length out₁ ≡ length out
        early_long = ap length early ∙ length-sets out (k + 1 + w) normal

        used_is : u ≡ stands.vs.used
        used_is = ed.used ∙ ap used_of vals_run_is

        pub target_next : (p + 10 + u ≤ length s) × (length s ≤ 65536)
        target_next = (omega (arith, used_is, vals_within, length-drop 10 (drop p s), length-drop p s, stands.ten), i.asked.0)

        pub body_few : w + n ≤ 65536
        body_few = omega (arith, ed.wrote, whole_long, front_long, written_few)

        -- behind a longer head they are moved on, and then comes the head
        pub move_asked : k + 1 + w + (len_width (w + n) - 1) + n ≤ length out₁
        move_asked = rw ed.wrote (omega (arith, len_some body, parts.fits, whole_long, front_long, early_long))

        module _ {o' : List ℕ} (eo : o' ≡ sets out₁ (k + 1 + w + (len_width (w + n) - 1)) (take n (drop (k + 1 + w) out₁))) where
          moved : o' ≡ sets out₁ (k + length (pack_front body id)) normal
          moved =
              let at : k + 1 + w + (len_width body - 1) ≡ k + length (pack_front body id) = omega (arith, len_some body, front_long) in
              let same : take (length normal) (drop (k + 1 + w) out₁) ≡ normal = rw early (stored_reads out (k + 1 + w) normal behind.1) in
              rw (ed.wrote, same, at) at eo

          moved_long : length o' ≡ length out
          moved_long = ap length moved ∙ length-sets out₁ (k + length (pack_front body id)) normal ∙ early_long

          headed_is : sets o' k (pack_front body id) ≡ sets out k written
          headed_is =
              let front : List ℕ = pack_front body id in
              ap (λ x. sets x k front) moved
              ∙ sets_swap out₁ k front (k + length front) normal (omega arith)
              ∙ sym (sets_append out₁ k front normal)
              ∙ ap (sets out₁ k) (sym parts.is)
              ∙ ap (λ x. sets x k written) early
              ∙ sets_under out (k + 1 + w) normal k written (omega arith) (omega (arith, whole_long, front_long, len_some body))

          pub pack_asked : (w + n ≤ 65536) × (id < 2 ^ 63) × (k + length (pack_front (w + n) id) ≤ length o')
          pack_asked = (body_few, id_low, rw (ed.wrote, moved_long) (head_room parts))

          module _ {m : ℕ} {out₂ : List ℕ} (em : Puts o' k (pack_front (w + n) id) m out₂) where
            headed : Puts o' k (pack_front body id) m out₂
            headed = rw ed.wrote at em

            pub ends_few : m + n ≤ 8192
            ends_few = omega (arith, headed.0, ed.wrote, whole_long, long (each target_normal) _ _ _ _ _ _ i.going.writes target, i.going.writes.sum, i.asked.3)

            pub target_more : TargetsWriting f s out₀ out₂ (p + 10 + u) (m + n)
            target_more =
                let ep : p + 10 + u ≡ p + target.it.used = omega (arith, stands.used_is, used_is) in
                let ek : m + n ≡ k + length written = omega (arith, headed.0, ed.wrote, whole_long) in
                let (g, v) = writing_passes (each target_normal) _ _ _ _ _ _ i.going.writes target (omega (arith, stands.used_is)) (omega (arith, ep, target_next)) (headed.1 ∙ headed_is) refl ep ek in
                record { writes = g; passed = omega (arith, i.going.passed, v, target.passes, ep) }

-- ---- where nothing is to be moved on

stays : (l : List ℕ) (a n : ℕ) → a + n ≤ length l → sets l a (take n (drop a l)) ≡ l
stays l a n h =
    let long : length (take n (drop a l)) ≡ n = length-take-le n (drop a l) (rw length-drop (omega arith)) in
    sets-eq (take n (drop a l)) l a (omega (arith, long))
    ∙ ap (λ r. take a l ++ take n (drop a l) ++ r) (ap (λ j. drop (a + j) l) long ∙ sym (drop-drop n a l))
    ∙ append_assoc (take a l) (take n (drop a l)) (drop n (drop a l))
    ∙ ap (λ r. take a l ++ r) (take-append-drop n (drop a l))
    ∙ take-append-drop a l

pub none_moved : (l : List ℕ) (a n m : ℕ) → m < 128 → a + (len_width m - 1) + n ≤ length l → sets l (a + (len_width m - 1)) (take n (drop a l)) ≡ l
none_moved l a n m few h =
    let one : a + (len_width m - 1) ≡ a = omega (arith, len_one m few) in
    rw one (stays l a n (omega arith))

-- what the move is proved by
pub ruleset moves = (none_moved, len_some)

-- ---- the walk over the targets, in a form that they were accepted in, and in whatever other

pub record TargetsGoing (s out₀ out : List ℕ) (p k : ℕ) : Type 0 where
  pub form : Form
  pub asked : TargetsAsked form s (length out₀)
  pub goes : (f : Form) → TargetsAsked f s (length out₀) → TargetsWriting f s out₀ out p k
  pub same : length out ≡ length out₀
  pub room : is TG (drop p s) ≡ true → p + 10 ≤ length s

module _ {s out₀ : List ℕ} where
  targets_go : {out : List ℕ} {p k : ℕ} (f : Form) → TargetsAsked f s (length out₀) → Bytes s
      → ((f : Form) → TargetsAsked f s (length out₀) → TargetsWriting f s out₀ out p k)
      → TargetsGoing s out₀ out p k
  targets_go f a h g = record { form = f; asked = a; goes = g; same = (g f a).writes.same; room = λ m. (target_room (record { going = g f a; more = m; bytes = h; asked = a })).0 }

  pub targets_begin : (f : Form) → TargetsAsked f s (length out₀) → ((i : ℕ) → Fits w8 (get_or s i 0)) → TargetsGoing s out₀ out₀ 0 0
  targets_begin f a bs = targets_go f a (λ i. (bs i).fits) (λ f a. targets_start a)

  module _ {out : List ℕ} {p k : ℕ} (g : TargetsGoing s out₀ out p k) {x : Bool} (ex : x ≡ is TG (drop p s)) where
    pub targets_end : x ≡ false → TargetsLeft s out₀ p k out
    targets_end tx f a = targets_over (g.goes f a) (sym ex ∙ tx)

    -- its id, and its values as they are lent
    module _ (tx : x ≡ true) (bs : (i : ℕ) → Fits w8 (get_or s i 0)) {id : ℕ} (ei : id ≡ bytes_number (take 8 (take (length s - (p + 2)) (drop (p + 2) s)))) where
      target_in : (f : Form) → TargetsAsked f s (length out₀) → TargetAt f s out₀ out p k
      target_in f a = record { going = g.goes f a; more = sym ex ∙ tx; bytes = λ i. (bs i).fits; asked = a }

      target_now : TargetAt g.form s out₀ out p k
      target_now = target_in g.form g.asked

      pub id_few : id < 2 ^ 63
      id_few = id_low target_now ei

      module _ {w : ℕ} (ew : (w ≡ length (oid_bytes id)) × (w ≤ 9)) where
        pub vals_behind : k + 1 + w ≤ length out
        vals_behind = (behind target_now ei ew).0

        abbrev lent : List ℕ
        lent = take (length s - (p + 10)) (drop (p + 10) s)

        abbrev tail : List ℕ
        tail = take (length out - (k + 1 + w)) (drop (k + 1 + w) out)

        pub vals_here : (f : Form) × RecordsAsked 0 false f lent (length tail)
        vals_here = (g.form, vals_asked target_now ei ew)

        module _ {u n : ℕ} {o : List ℕ} (el : ValsLeft lent tail u n o) where
          pub vals_end : (p + 10 + u ≤ length s) × (w + n ≤ 65536)
          vals_end = ((target_next target_now ei ew el).0, body_few target_now ei ew el)

          abbrev behind_it : List ℕ
          behind_it = put_mid (k + 1 + w) (length out - (k + 1 + w)) out o

          pub move_here : k + 1 + w + (len_width (w + n) - 1) + n ≤ length behind_it
          move_here = move_asked target_now ei ew el

          module _ {o' : List ℕ} (eo : o' ≡ sets behind_it (k + 1 + w + (len_width (w + n) - 1)) (take n (drop (k + 1 + w) behind_it))) where
            pub pack_here : (w + n ≤ 65536) × (id < 2 ^ 63) × (k + length (pack_front (w + n) id) ≤ length o')
            pack_here = pack_asked target_now ei ew el eo

            module _ {m : ℕ} {out₂ : List ℕ} (em : Puts o' k (pack_front (w + n) id) m out₂) where
              pub pack_ends : m + n ≤ 8192
              pack_ends = ends_few target_now ei ew el eo em

              pub target_goes : TargetsGoing s out₀ out₂ (p + 10 + u) (m + n)
              target_goes = targets_go g.form g.asked (λ i. (bs i).fits) (λ f a. target_more (target_in f a) ei ew el eo em)

-- what it is proved by
pub ruleset target_turns = (targets_begin, target_goes)
