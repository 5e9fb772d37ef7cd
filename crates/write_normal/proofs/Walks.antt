-- Where the item walk and the pack walk that write the normal form stand, and what each of their turns needs and leaves.
use mathlib.Core.Path.{◌≡◌, ap}
use Prim.Native.Nat.{ℕ, ◌+◌, ◌-◌, ◌^◌, ◌≤◌, ◌<◌}
use native.Mathlib.Omega.{arith}
use mathlib.Core.Bool.{Bool, true, false, ◌&&◌}
use mathlib.Core.List.{List}
use lib.Dec.{eqb}
use lib.ListN.{length, get_or, take, drop}
use borrow.Rule.Slice.PartMut.{put_mid}
use Rattle.format.specs.Read.{head_of, pack_head}
use Rattle.format.specs.Table.{Form, pack}
use Rattle.std.proofs.Common.{Result, Ok, Err, Fits, w8}
use Rattle.coding.specs.declared.refusals.Refusal.{Refusal}
use Rattle.coding.specs.declared.refusals.Fault.{Fault}
use Rattle.items.specs.Meet.{level_of}
use Rattle.heads.specs.declared.Head.{Head}
use Rattle.heads.specs.Meet.{item_head_of, pack_head_of}
use Rattle.tally.specs.declared.Walked.{Walked}
use Rattle.tally.specs.Meet.{walked, level_walk, Within}
use Rattle.stores.specs.Puts.{Puts, Fills}
use Rattle.store_coded.specs.Fronts.{series_front, pack_front}
use Rattle.write_laws.proofs.Writing.{each}
use Rattle.write_laws.proofs.Entries.{item_spans, entry_fault}
use Rattle.write_laws.proofs.Packs.{pack_spans, series_start, series_done, pack_id, pack_fault, items_asked}
use Rattle.write_normal.specs.Meet.{item_normal, pack_normal, level_normal, series_normal, ItemAsked, LevelAsked, SeriesAsked}
use Rattle.write_normal.proofs.Turns.{LevelNormals, level_begins, level_room, level_ends, NormalEntry, one_asked, one_more, head_asked, series_behind, series_asked, series_more}
use Rattle.write_normal.proofs.Turns.{SeriesNormals, NormalPack, no_fault, body_few, pack_asked, items_behind, level_asked, items_more, copy_asked, copied_more}

-- ---- the item walk

pub record LevelGoing (inner : ℕ) (b : Bool) (f : Form) (s out₀ out : List ℕ) (p k : ℕ) : Type 0 where
  pub asked : LevelAsked (level_of b) f s inner (length out₀)
  pub going : LevelNormals inner b f s out₀ out p k
  pub same : length out ≡ length out₀

module _ {inner : ℕ} {b : Bool} {f : Form} {s out₀ : List ℕ} where
  level_goes : LevelAsked (level_of b) f s inner (length out₀) → {out : List ℕ} {p k : ℕ} → LevelNormals inner b f s out₀ out p k → LevelGoing inner b f s out₀ out p k
  level_goes a w = record { asked = a; going = w; same = w.writes.same }

  pub level_opens : LevelAsked (level_of b) f s inner (length out₀) → LevelGoing inner b f s out₀ out₀ 0 0
  level_opens a = level_goes a (level_begins inner b f s out₀ a.1)

  module _ {out : List ℕ} {p k : ℕ} (g : LevelGoing inner b f s out₀ out p k) where
    pub level_closes : length s ≤ p → Fills out₀ (level_normal (level_of b) f s) k out
    level_closes l = level_ends inner b f s out₀ g.asked.3 g.going l

    module _ (l : p < length s) (r : Result Head Refusal) (e : item_head_of r ≡ head_of (level_of b) (take (length s - p) (drop p s))) where
      pub no_item : (x : Refusal) → r ≡ Err x → Fills out₀ (level_normal (level_of b) f s) k out
      no_item x y = entry_fault g.going l x (rw y at e)

      module _ (h : Head) (y : r ≡ Ok h) (bs : (i : ℕ) → Fits w8 (get_or s i 0)) where
        item_in : NormalEntry inner b f s out₀ out p k h
        item_in = record {
          is = record { going = g.going; here = l; reads = rw y at e; bytes = λ i. (bs i).fits; most = g.asked.0; room = level_room inner b f s out₀ g.asked.3 g.asked.4 };
          few = g.asked.2;
        }

        abbrev value : List ℕ
        value = take (p + h.used + h.width + h.size - (p + h.used + h.width)) (drop (p + h.used + h.width) s)

        module _ (x : Bool) (ex : x ≡ (b && eqb h.key 101)) where
          module _ (tx : x ≡ false) where
            pub item_here : ItemAsked (level_of b) h.key value k (length out)
            item_here = one_asked item_in ex tx

            pub item_goes : (m : ℕ) (o : List ℕ) → Puts out k (item_normal (level_of b) h.key value) m o → LevelGoing inner b f s out₀ o (p + h.used + h.width + h.size) m
            item_goes m o q = level_goes g.asked (one_more item_in ex tx q)

          module _ (tx : x ≡ true) where
            pub front_here : k + length (series_front inner) ≤ length out
            front_here = (head_asked item_in ex tx).1

            module _ (m : ℕ) (o : List ℕ) (q : Puts out k (series_front inner) m o) where
              pub front_end : m ≤ length o
              front_end = series_behind item_in ex tx q

              pub packs_here : SeriesAsked f value (length (take (length o - m) (drop m o)))
              packs_here = series_asked item_in ex tx q

              module _ (n : ℕ) (o' : List ℕ) (z : Fills (take (length o - m) (drop m o)) (series_normal f value) n o') where
                pub packs_go : LevelGoing inner b f s out₀ (put_mid m (length o - m) o o') (p + h.used + h.width + h.size) (m + n)
                packs_go = level_goes g.asked (series_more item_in ex tx q z)

                pub packs_end : m + n ≤ length out₀
                packs_end = omega (arith, (series_more item_in ex tx q z).writes.sum, item_in.is.room)

-- what the item walk is proved by
pub ruleset item_turns = (item_spans, front_end)

-- ---- the pack walk

pub record SeriesGoing (f : Form) (s out₀ out : List ℕ) (p k : ℕ) : Type 0 where
  pub asked : SeriesAsked f s (length out₀)
  pub going : SeriesNormals f s out₀ out p k
  pub same : length out ≡ length out₀

module _ {f : Form} {s out₀ : List ℕ} where
  series_goes : SeriesAsked f s (length out₀) → {out : List ℕ} {p k : ℕ} → SeriesNormals f s out₀ out p k → SeriesGoing f s out₀ out p k
  series_goes a w = record { asked = a; going = w; same = w.writes.same }

  pub series_opens : SeriesAsked f s (length out₀) → SeriesGoing f s out₀ out₀ 0 0
  series_opens a = series_goes a (series_start (each pack_normal) f tt s out₀ a.1)

  module _ {out : List ℕ} {p k : ℕ} (g : SeriesGoing f s out₀ out p k) where
    pub series_closes : length s ≤ p → Fills out₀ (series_normal f s) k out
    series_closes l = series_done g.going l

    module _ (l : p < length s) (r : Result Head Refusal) (e : pack_head_of r ≡ pack_head (take (length s - p) (drop p s))) where
      pub no_pack : (x : Refusal) → r ≡ Err x → Fills out₀ (series_normal f s) k out
      no_pack x y = pack_fault g.going l x (rw y at e)

      module _ (h : Head) (y : r ≡ Ok h) (bs : (i : ℕ) → Fits w8 (get_or s i 0)) where
        pack_in : NormalPack f s out₀ out p k h
        pack_in = record { going = g.going; here = l; reads = rw y at e; bytes = λ i. (bs i).fits; most = g.asked.0; room = g.asked.2 }

        abbrev held : List ℕ
        held = take (p + h.width + h.size - (p + h.width + h.used)) (drop (p + h.width + h.used) s)

        pub items_few : length held ≤ 8192
        items_few = (items_asked pack_in).0

        pub id_few : h.key < 2 ^ 63
        id_few = pack_id pack_in

        module _ (v : Result Walked Fault) (ev : (walked v ≡ level_walk pack f held) × Within (walked v) (length held)) where
          pub no_walk : (x : Fault) → v ≡ Err x → Fills out₀ (series_normal f s) k out
          no_walk x e = no_fault pack_in ev (ap walked e)

          module _ (w : Walked) (ew : v ≡ Ok w) where
            pub sum_few : h.used + w.sizes.normal ≤ 65536
            sum_few = body_few pack_in ev (ap walked ew)

            pub pack_here : k + length (pack_front (h.used + w.sizes.normal) h.key) ≤ length out
            pack_here = (pack_asked pack_in ev (ap walked ew)).2

            module _ (m : ℕ) (o : List ℕ) (q : Puts out k (pack_front (h.used + w.sizes.normal) h.key) m o) where
              pub front_over : m ≤ length o
              front_over = items_behind pack_in ev (ap walked ew) q

              pub items_here : LevelAsked pack f held 0 (length (take (length o - m) (drop m o)))
              items_here = level_asked pack_in ev (ap walked ew) q

              module _ (n : ℕ) (o' : List ℕ) (z : Fills (take (length o - m) (drop m o)) (level_normal pack f held) n o') where
                pub pack_goes : SeriesGoing f s out₀ (put_mid m (length o - m) o o') (p + h.width + h.size) (m + n)
                pack_goes = series_goes g.asked (items_more pack_in ev (ap walked ew) q z)

                pub items_end : m + n ≤ length out₀
                items_end = omega (arith, (items_more pack_in ev (ap walked ew) q z).writes.sum, g.asked.2)

              module _ (kept : h.used + w.sizes.normal ≡ h.size) where
                pub copy_here : m + length held ≤ length o
                copy_here = copy_asked pack_in ev (ap walked ew) q kept

                pub copy_goes : {n : ℕ} {o' : List ℕ} → Puts o m held n o' → SeriesGoing f s out₀ o' (p + h.width + h.size) n
                copy_goes z = series_goes g.asked (copied_more pack_in ev (ap walked ew) q kept z)

-- what the pack walk is proved by
pub ruleset pack_turns = (pack_spans, items_few, sum_few, copy_goes)
