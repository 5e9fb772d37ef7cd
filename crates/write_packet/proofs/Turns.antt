-- What a turn over the records stores: an item, or a head and then, in the tail behind it, what is held.
use mathlib.Core.Path.{◌≡◌, refl, sym, ap, ◌∙◌}
use Prim.Native.Nat.{ℕ, ◌+◌, ◌-◌, ◌≤◌, ◌<◌}
use native.Mathlib.Omega.{arith}
use mathlib.Core.Bool.{Bool, true, false}
use mathlib.Core.List.{List, [], ◌∷◌, ◌++◌}
use lib.ListN.{length, take, drop, get_or, length-append, length-drop}
use lib.Seq.{sets, drop-cons, drop-drop, length-take-le}
use borrow.Rule.Slice.PartMut.{put_mid}
use Rattle.format.specs.Answer.{ok}
use Rattle.format.specs.Coding.{Bytes, bytes_number}
use Rattle.format.specs.Lists.{flat_all}
use Rattle.format.specs.Table.{Form}
use Rattle.format.specs.Packet.{flat_item}
use Rattle.format.specs.Sheet.{tag_of_part, TS, TI, is}
use Rattle.format.specs.Calls.{item_of}
use Rattle.format.proofs.Words.Bytes.{bytes_drop}
use Rattle.std.proofs.Common.{Fits, w8}
use Rattle.coding.proofs.Rooms.{tail_part}
use Rattle.coding.proofs.Lens.{two_small}
use Rattle.items.specs.Meet.{level_of}
use Rattle.tally.specs.Runs.{made_of}
use Rattle.tally_records.specs.Meet.{more_at, part_step}
use Rattle.tally_records.proofs.Runs.{targets_used}
use Rattle.stores.proofs.Puts.{Puts, Parted, head_room, head_behind, rest_room, rest_put}
use Rattle.write_laws.proofs.Writing.{each, writing_begins, none_over, writing_done, writing_over, Next, next_here, next_room, writing_passes, long}
use Rattle.write_laws.proofs.Entries.{ran, ran_ok}
use Rattle.store_coded.specs.Fronts.{series_front}
use Rattle.write_packet.specs.Meet.{used_of, records_run, targets_run, target_normal, records_normal, targets_normal}
use Rattle.write_packet.specs.Writing.{part_bytes, item_coded, RecordsAsked, RecordsWriting, RecordsLeft, Passes, Small, ValsLeft, RestAsked, RestLeft, TargetsAsked, TargetsLeft}
use Rattle.write_packet.proofs.Steps.{tag_at, size_at, OneHere, one_here as item_here, mark_room, ti_no_ts, SeriesHere, series_here as targets_at}
use Rattle.write_packet.proofs.Forms.{run_bytes}

-- ---- the records of a level

module _ {inner : ℕ} {b : Bool} {f : Form} {s out₀ : List ℕ} where
  pub records_start : RecordsAsked inner b f s (length out₀) → RecordsWriting inner b f s out₀ out₀ 0 0
  unfolding records_run
  records_start a =
      let (rs, e) = ran (records_run (level_of b) f s) a.1 in
      let (w, u) = writing_begins (each (part_bytes inner)) (more_at (level_of b)) tag_of_part (part_step (level_of b) f) _ s out₀ tt rs e
      (run_bytes inner (records_run (level_of b) f s) a.3 ∙ ap (made_of (flat_all (part_bytes inner))) e) in
      record { writes = w; passed = omega (arith, u, ap used_of e) }

  module _ {out : List ℕ} {p k : ℕ} (g : RecordsWriting inner b f s out₀ out p k) where
    pub records_done : length s ≤ p → (k ≡ length (records_normal (level_of b) f s)) × (out ≡ sets out₀ 0 (records_normal (level_of b) f s))
    records_done h = writing_done (each (part_bytes inner)) _ _ _ _ _ _ g.writes h

    module _ (m : more_at (level_of b) (drop p s) ≡ false) where
      -- all is read there
      pub records_over : Passes out₀ (records_run (level_of b) f s) (records_normal (level_of b) f s) p k out
      records_over =
          let (wrote, left) = writing_over (each (part_bytes inner)) _ _ _ _ _ _ g.writes m in
          record { used = omega (arith, g.passed, none_over (each (part_bytes inner)) _ _ _ _ _ _ g.writes m); wrote = wrote; left = left }

-- a part stands at p
pub record RecordAt (inner : ℕ) (b : Bool) (f : Form) (s out₀ out : List ℕ) (p k : ℕ) : Type 0 where
  pub going : RecordsWriting inner b f s out₀ out p k
  pub here : p < length s
  pub more : more_at (level_of b) (drop p s) ≡ true
  pub asked : RecordsAsked inner b f s (length out₀)

-- a record of a target does, where its mark was seen
pub val_here : {inner : ℕ} {f : Form} {s out₀ out : List ℕ} {p k : ℕ} → RecordsWriting inner false f s out₀ out p k → is TI (drop p s) ≡ true → RecordsAsked inner false f s (length out₀)
    → RecordAt inner false f s out₀ out p k
val_here {s = s} {p = p} g m a = record { going = g; here = omega (arith, mark_room TI (drop p s) m, length-drop p s); more = m; asked = a }

module _ {inner : ℕ} {b : Bool} {f : Form} {s out₀ out : List ℕ} {p k : ℕ} (i : RecordAt inner b f s out₀ out p k) where
  part : Next (each (part_bytes inner)) _ _ _ _ _ _ i.going.writes
  part = next_here (each (part_bytes inner)) _ _ _ _ _ _ i.going.writes i.here i.more

  -- what it writes, and the turn when that is stored
  abbrev stored : List ℕ
  stored = part_bytes inner part.it.val

  stored_fits : k + length stored ≤ length out
  stored_fits = next_room (each (part_bytes inner)) _ _ _ _ _ _ i.going.writes part i.asked.4

  stored_few : length stored ≤ 8192
  stored_few = omega (arith, long (each (part_bytes inner)) _ _ _ _ _ _ i.going.writes part, i.going.writes.sum, i.asked.5)

  stored_more : {p' : ℕ} → p' ≡ p + part.it.used → p < p' → p' ≤ length s → {k' : ℕ} {out' : List ℕ} → Puts out k stored k' out' → RecordsWriting inner b f s out₀ out' p' k'
  stored_more ep some room e =
      let (g, u) = writing_passes (each (part_bytes inner)) _ _ _ _ _ _ i.going.writes part (omega (arith, ep, some)) (omega (arith, ep, room)) e.1 refl ep e.0 in
      record { writes = g; passed = omega (arith, i.going.passed, u, part.passes, ep) }

  -- ---- an item

  module _ (z : is TS (drop p s) ≡ false) where
    item : OneHere (drop p s) part.it
    item = item_here b f i.going.writes.seen (drop p s) part.it z part.read

    pub fields_room : (p + 6 ≤ length s) × (length s ≤ 65536)
    fields_room = (omega (arith, item.room, length-drop p s, i.here), i.asked.0)

    -- its tag and its value's length were read
    module _ {tag n : ℕ} (et : tag ≡ bytes_number (take 2 (drop (p + 2) s))) (en : n ≡ bytes_number (take 2 (drop (p + 4) s))) where
      tag_is : tag_at (drop p s) ≡ tag
      tag_is = ap (λ u. bytes_number (take 2 u)) (drop-drop 2 p s) ∙ sym et

      size_is : size_at (drop p s) ≡ n
      size_is = ap (λ u. bytes_number (take 2 u)) (drop-drop 4 p s) ∙ sym en

      pub item_room : (p + 6 ≤ p + 6 + n) × (p + 6 + n ≤ length s) × (length s ≤ 65536)
      item_room = (omega arith, omega (arith, item.room, size_is, length-drop p s, i.here), i.asked.0)

      -- its value, as it is lent
      abbrev value : List ℕ
      value = take (p + 6 + n - (p + 6)) (drop (p + 6) s)

      value_is : value ≡ take (size_at (drop p s)) (drop 6 (drop p s))
      value_is =
          let w : p + 6 + n - (p + 6) ≡ size_at (drop p s) = omega (arith, size_is) in
          rw (w, drop-drop 6 p s)

      abbrev coded : List ℕ
      coded = flat_item (item_of (record { tag = tag; value = value }))

      item_stored : stored ≡ coded
      item_stored = ap (part_bytes inner) item.it_is ∙ ap (λ v. flat_item (item_of (record { tag = tag_at (drop p s); value = v }))) (sym value_is)
          ∙ ap (λ t. flat_item (item_of (record { tag = t; value = value }))) tag_is

      pub value_long : length value ≡ n
      value_long = length-take-le (p + 6 + n - (p + 6)) (drop (p + 6) s) (rw length-drop (omega (arith, item_room))) ∙ omega arith

      pub item_asked : (tag ≤ 16383) × (length value ≤ 65536) × (k + length coded ≤ length out)
      item_asked = (
        omega (arith, item.tag_small, tag_is),
        omega (arith, value_long, item_room),
        omega (arith, ap length item_stored, stored_fits),
      )

      pub item_more : {k' : ℕ} {out' : List ℕ} → Puts out k coded k' out' → RecordsWriting inner b f s out₀ out' (p + 6 + n) k'
      item_more e = stored_more (omega (arith, item.used_is, size_is)) (omega arith) item_room.1 (rw item_stored e)

    -- they have a byte each
    module _ (m : Small s p) {n : ℕ} (e : n ≡ get_or s (p + 5) 0) where
      pub tag_small : get_or s (p + 3) 0 ≡ bytes_number (take 2 (drop (p + 2) s))
      tag_small = two_small s (p + 2) (omega arith) (omega (arith, fields_room)) m.tag_high

      pub size_small : n ≡ bytes_number (take 2 (drop (p + 4) s))
      size_small = e ∙ two_small s (p + 4) (omega arith) (omega (arith, fields_room)) m.size_high

      pub small_room : (p + 6 ≤ p + 6 + n) × (p + 6 + n ≤ length s) × (length s ≤ 65536)
      small_room = item_room tag_small size_small

      pub small_asked : (get_or s (p + 3) 0 < 128) × (length (value tag_small size_small) < 128) × (k + length (coded tag_small size_small) ≤ length out)
      small_asked = (m.tag_low, omega (arith, value_long tag_small size_small, e, m.size_low), (item_asked tag_small size_small).2)

      pub small_more : {k' : ℕ} {out' : List ℕ} → Puts out k (coded tag_small size_small) k' out' → RecordsWriting inner b f s out₀ out' (p + 6 + n) k'
      small_more = item_more tag_small size_small

      -- and the value has one too
      module _ (o : n ≡ 1) where
        value_one : value tag_small size_small ≡ get_or s (p + 6) 0 ∷ []
        value_one =
            let w : p + 6 + n - (p + 6) ≡ 1 = omega (arith, o) in
            let h : p + 6 < length s = omega (arith, small_room, o) in
            rw (w, drop-cons s (p + 6) 0)

        abbrev coded_one : List ℕ
        coded_one = flat_item (item_of (record { tag = get_or s (p + 3) 0; value = get_or s (p + 6) 0 ∷ [] }))

        pub one_asked : (get_or s (p + 3) 0 < 128) × (k + length coded_one ≤ length out)
        one_asked = (m.tag_low, rw value_one at small_asked.2)

        pub one_more : {k' : ℕ} {out' : List ℕ} → Puts out k coded_one k' out' → RecordsWriting inner b f s out₀ out' (p + 7) k'
        one_more q =
            let next : p + 7 ≡ p + 6 + n = omega (arith, o) in
            rw next (small_more (rw value_one q))

  -- ---- the series

  module _ (t : is TS (drop p s) ≡ true) where
    series : SeriesHere f (drop p s) part.it
    series = targets_at b f i.going.writes.seen (drop p s) part.it i.more t part.read

    -- its targets, as they are lent
    abbrev lent : List ℕ
    lent = take (length s - (p + 2)) (drop (p + 2) s)

    lent_is : lent ≡ drop 2 (drop p s)
    lent_is = tail_part (p + 2) s ∙ sym (drop-drop 2 p s)

    runs : targets_run f lent ≡ ok series.ts
    runs = ap (targets_run f) lent_is ∙ series.runs

    series_stored : Parted out k stored (series_front inner) (targets_normal f lent)
    series_stored = record {
      is = ap (part_bytes inner) series.it_is ∙ ap (λ x. series_front inner ++ made_of (flat_all target_normal) x) (sym runs);
      fits = stored_fits;
    }

    pub head_asked : (inner ≤ 65536) × (k + length (series_front inner) ≤ length out)
    head_asked = (i.asked.2, head_room series_stored)

    -- its head is stored, and the tail behind it lent
    module _ {m : ℕ} {out₁ : List ℕ} (em : Puts out k (series_front inner) m out₁) where
      pub series_behind : m ≤ length out₁
      series_behind = head_behind series_stored em

      pub series_asked : TargetsAsked f lent (length (take (length out₁ - m) (drop m out₁)))
      series_asked = (
        omega (arith, ap length lent_is, length-drop 2 (drop p s), length-drop p s, i.asked.0),
        ran_ok (targets_run f lent) runs,
        rest_room series_stored em,
        omega (arith, ap length series_stored.is, length-append (series_front inner) (targets_normal f lent), stored_few),
      )

      module _ {u r : ℕ} {o : List ℕ} (q : TargetsLeft lent (take (length out₁ - m) (drop m out₁)) u r o) where
        used_is : u ≡ series.ts.used
        used_is = (q f series_asked).used ∙ ap used_of runs

        pub series_next : Bytes s → (p + 2 + u ≤ length s) × (length s ≤ 65536)
        unfolding targets_run
        series_next h =
            let w = (targets_used f (drop 2 (drop p s)) series.ts (bytes_drop 2 (drop p s) (bytes_drop p s h)) series.runs).1 in
            (omega (arith, used_is, w, length-drop 2 (drop p s), length-drop p s, series.two), i.asked.0)

        pub series_more : Bytes s → RecordsWriting inner b f s out₀ (put_mid m (length out₁ - m) out₁ o) (p + 2 + u) (m + r)
        series_more h = stored_more (omega (arith, series.used_is, used_is)) (omega arith) (series_next h).0 (let z = q f series_asked in rest_put series_stored em (z.wrote, z.left))

-- ---- the walk over a level's records, in a form that they were accepted in, and in whatever other

-- the record of an item at p, where one stands
abbrev pub ItemRoom : Bool → List ℕ → ℕ → Type 0
ItemRoom true s p = p < length s → is TS (drop p s) ≡ false → p + 6 + bytes_number (take 2 (drop (p + 4) s)) ≤ length s
ItemRoom false s p = is TI (drop p s) ≡ true → p + 6 + bytes_number (take 2 (drop (p + 4) s)) ≤ length s

item_fits : {inner : ℕ} (b : Bool) {f : Form} {s o out : List ℕ} {p k : ℕ} → RecordsWriting inner b f s o out p k → RecordsAsked inner b f s (length o) → ItemRoom b s p
item_fits true g a = λ l z. (item_room (record { going = g; here = l; more = refl; asked = a }) z refl refl).1
item_fits false {s = s} {p = p} g a = λ m. (item_room (val_here g m a) (ti_no_ts (drop p s) m) refl refl).1

pub record RecordsGoing (inner : ℕ) (b : Bool) (s out₀ out : List ℕ) (p k : ℕ) : Type 0 where
  pub form : Form
  pub asked : RecordsAsked inner b form s (length out₀)
  pub goes : (f : Form) → RecordsAsked inner b f s (length out₀) → RecordsWriting inner b f s out₀ out p k
  pub same : length out ≡ length out₀
  pub room : ItemRoom b s p

-- an item's record, as the code reads its tag and its length, and its value as it is lent
abbrev pub lent_value : List ℕ → ℕ → ℕ → List ℕ
lent_value s p n = take (p + 6 + n - (p + 6)) (drop (p + 6) s)

module _ {inner : ℕ} {b : Bool} {s out₀ : List ℕ} where
  records_go : {out : List ℕ} {p k : ℕ} (f : Form) → RecordsAsked inner b f s (length out₀)
      → ((f : Form) → RecordsAsked inner b f s (length out₀) → RecordsWriting inner b f s out₀ out p k)
      → RecordsGoing inner b s out₀ out p k
  records_go f a g = record { form = f; asked = a; goes = g; same = (g f a).writes.same; room = item_fits b (g f a) a }

  pub records_begin : (f : Form) → RecordsAsked inner b f s (length out₀) → RecordsGoing inner b s out₀ out₀ 0 0
  records_begin f a = records_go f a (λ f a. records_start a)

-- the records of the set
module _ {inner : ℕ} {s out₀ out : List ℕ} {p k : ℕ} (g : RecordsGoing inner true s out₀ out p k) where
  pub records_end : length s ≤ p → RecordsLeft inner s out₀ k out
  records_end l f a = records_done (g.goes f a) l

  module _ (l : p < length s) {x : Bool} (ex : x ≡ is TS (drop p s)) where
    part_in : (f : Form) → RecordsAsked inner true f s (length out₀) → RecordAt inner true f s out₀ out p k
    part_in f a = record { going = g.goes f a; here = l; more = refl; asked = a }

    module _ (tx : x ≡ false) {tag n : ℕ} (et : tag ≡ bytes_number (take 2 (drop (p + 2) s))) (en : n ≡ bytes_number (take 2 (drop (p + 4) s))) where
      pub part_asked : (tag ≤ 16383) × (length (lent_value s p n) ≤ 65536) × (k + length (item_coded tag (lent_value s p n)) ≤ length out)
      part_asked = item_asked (part_in g.form g.asked) (sym ex ∙ tx) et en

      pub part_goes : {m : ℕ} {o : List ℕ} → Puts out k (item_coded tag (lent_value s p n)) m o → RecordsGoing inner true s out₀ o (p + 6 + n) m
      part_goes q = records_go g.form g.asked (λ f a. item_more (part_in f a) (sym ex ∙ tx) et en q)

    module _ (tx : x ≡ true) where
      pub front_here : (inner ≤ 65536) × (k + length (series_front inner) ≤ length out)
      front_here = head_asked (part_in g.form g.asked) (sym ex ∙ tx)

      module _ {m : ℕ} {o : List ℕ} (q : Puts out k (series_front inner) m o) where
        pub front_end : m ≤ length o
        front_end = series_behind (part_in g.form g.asked) (sym ex ∙ tx) q

        pub targets_here : (f : Form) × TargetsAsked f (take (length s - (p + 2)) (drop (p + 2) s)) (length (take (length o - m) (drop m o)))
        targets_here = (g.form, series_asked (part_in g.form g.asked) (sym ex ∙ tx) q)

        module _ {u r : ℕ} {o₂ : List ℕ} (z : TargetsLeft (take (length s - (p + 2)) (drop (p + 2) s)) (take (length o - m) (drop m o)) u r o₂) (bs : (i : ℕ) → Fits w8 (get_or s i 0)) where
          pub series_end : (p + 2 + u ≤ length s) × (m + r ≤ 8192)
          series_end =
              let i = part_in g.form g.asked in
              let w = series_more i (sym ex ∙ tx) q z (λ i. (bs i).fits) in
              ((series_next i (sym ex ∙ tx) q z (λ i. (bs i).fits)).0, omega (arith, w.writes.sum, g.asked.5))

          pub series_goes : RecordsGoing inner true s out₀ (put_mid m (length o - m) o o₂) (p + 2 + u) (m + r)
          series_goes = records_go g.form g.asked (λ f a. series_more (part_in f a) (sym ex ∙ tx) q z (λ i. (bs i).fits))

-- a `TS` has two bytes
pub series_two : (s : List ℕ) (p : ℕ) → p < length s → is TS (drop p s) ≡ true → p + 2 ≤ length s
series_two s p l m = omega (arith, mark_room TS (drop p s) m, length-drop p s)

-- what the walk over them is proved by
pub ruleset part_turns = (series_two, records_begin, part_goes, series_goes)

-- the records of a target, small ones
module _ {s out₀ out : List ℕ} {p k : ℕ} (g : RecordsGoing 0 false s out₀ out p k) where
  pub vals_over : {x : Bool} → x ≡ is TI (drop p s) → x ≡ false → ValsLeft s out₀ p k out
  vals_over ex tx f a = records_over (g.goes f a) (sym ex ∙ tx)

  module _ {x : Bool} (ex : x ≡ is TI (drop p s)) (tx : x ≡ true) (sm : Small s p) {n : ℕ} (en : n ≡ get_or s (p + 5) 0) where
    val_in : (f : Form) → RecordsAsked 0 false f s (length out₀) → RecordAt 0 false f s out₀ out p k
    val_in f a = val_here (g.goes f a) (sym ex ∙ tx) a

    no_ts : is TS (drop p s) ≡ false
    no_ts = ti_no_ts (drop p s) (sym ex ∙ tx)

    pub val_asked : (get_or s (p + 3) 0 < 128) × (length (lent_value s p n) < 128) × (k + length (item_coded (get_or s (p + 3) 0) (lent_value s p n)) ≤ length out)
    val_asked = small_asked (val_in g.form g.asked) no_ts sm en

    pub val_goes : {m : ℕ} {o : List ℕ} → Puts out k (item_coded (get_or s (p + 3) 0) (lent_value s p n)) m o → RecordsGoing 0 false s out₀ o (p + 6 + n) m
    val_goes q = records_go g.form g.asked (λ f a. small_more (val_in f a) no_ts sm en q)

    module _ (one : n ≡ 1) where
      pub one_here : (get_or s (p + 3) 0 < 128) × (k + length (item_coded (get_or s (p + 3) 0) (get_or s (p + 6) 0 ∷ [])) ≤ length out)
      one_here = one_asked (val_in g.form g.asked) no_ts sm en one

      pub one_goes : {m : ℕ} {o : List ℕ} → Puts out k (item_coded (get_or s (p + 3) 0) (get_or s (p + 6) 0 ∷ [])) m o → RecordsGoing 0 false s out₀ o (p + 7) m
      one_goes q = records_go g.form g.asked (λ f a. one_more (val_in f a) no_ts sm en one q)

-- how long the value of a small one is
pub small_size : (s : List ℕ) (p : ℕ) → Small s p → p + 6 ≤ length s → bytes_number (take 2 (drop (p + 4) s)) ≡ get_or s (p + 5) 0
small_size s p m h = sym (two_small s (p + 4) (omega arith) (omega (arith, h)) m.size_high)

-- what the walk over them is proved by
pub ruleset val_turns = (records_begin, small_size, val_goes, one_goes)

-- ---- the rest of a target's records, likewise; o is what the output was where the target's began

pub record RestGoing (s out₀ : List ℕ) (from at : ℕ) (out : List ℕ) (p k : ℕ) : Type 0 where
  pub form : Form
  pub o : List ℕ
  pub asked : RestAsked s out₀ from at form o
  pub goes : (f : Form) (o : List ℕ) → RestAsked s out₀ from at f o → RecordsWriting 0 false f s o out p k
  pub same : length out ≡ length out₀
  pub room : ItemRoom false s p

module _ {s out₀ : List ℕ} {from at : ℕ} where
  rest_go : {out : List ℕ} {p k : ℕ} (f : Form) (o : List ℕ) → RestAsked s out₀ from at f o
      → ((f : Form) (o : List ℕ) → RestAsked s out₀ from at f o → RecordsWriting 0 false f s o out p k)
      → RestGoing s out₀ from at out p k
  rest_go f o a g = record { form = f; o = o; asked = a; goes = g; same = (g f o a).writes.same ∙ sym a.going.writes.same; room = item_fits false (g f o a) a.asked }

  pub rest_begin : (f : Form) (o : List ℕ) → RestAsked s out₀ from at f o → RestGoing s out₀ from at out₀ from at
  rest_begin f o a = rest_go f o a (λ f o a. a.going)

  module _ {out : List ℕ} {p k : ℕ} (g : RestGoing s out₀ from at out p k) {x : Bool} (ex : x ≡ is TI (drop p s)) where
    pub rest_over : x ≡ false → RestLeft s out₀ from at p k out
    rest_over tx f o a = records_over (g.goes f o a) (sym ex ∙ tx)

    module _ (tx : x ≡ true) {tag n : ℕ} (et : tag ≡ bytes_number (take 2 (drop (p + 2) s))) (en : n ≡ bytes_number (take 2 (drop (p + 4) s))) where
      rest_in : (f : Form) (o : List ℕ) → RestAsked s out₀ from at f o → RecordAt 0 false f s o out p k
      rest_in f o a = val_here (g.goes f o a) (sym ex ∙ tx) a.asked

      pub rest_asked : (tag ≤ 16383) × (length (lent_value s p n) ≤ 65536) × (k + length (item_coded tag (lent_value s p n)) ≤ length out)
      rest_asked = item_asked (rest_in g.form g.o g.asked) (ti_no_ts (drop p s) (sym ex ∙ tx)) et en

      pub rest_goes : {m : ℕ} {o : List ℕ} → Puts out k (item_coded tag (lent_value s p n)) m o → RestGoing s out₀ from at o (p + 6 + n) m
      rest_goes q = rest_go g.form g.o g.asked (λ f o a. item_more (rest_in f o a) (ti_no_ts (drop p s) (sym ex ∙ tx)) et en q)

-- what the walk over them is proved by
pub ruleset rest_turns = (rest_begin, rest_goes)
