-- What a turn of the item walk and of the pack walk that write the normal form stores: an item, or a head and then, in the tail behind it, what is held.
use mathlib.Core.Path.{◌≡◌, refl, sym, ap, ◌∙◌}
use Prim.Native.Nat.{ℕ, ◌+◌, ◌-◌, ◌*◌, ◌^◌, ◌≤◌, ◌<◌}
use native.Mathlib.Omega.{arith}
use mathlib.Core.Bool.{Bool, true, false, ◌&&◌}
use mathlib.Core.List.{List, ◌++◌}
use lib.Dec.{eqb}
use lib.ListN.{length, take, drop}
use lib.Seq.{sets}
use borrow.Rule.Slice.PartMut.{put_mid}
use Rattle.format.specs.Coding.{oid_bytes}
use Rattle.format.specs.Lists.{flat_all}
use Rattle.format.specs.Table.{Form, pack}
use Rattle.items.specs.Meet.{level_of}
use Rattle.heads.specs.declared.Head.{Head}
use Rattle.tally.specs.declared.Sizes.{Sizes}
use Rattle.tally.specs.Pieces.{Walked}
use Rattle.tally.specs.Pieces.{Good, Bad}
use Rattle.tally.specs.Meet.{level_walk, total, weight_of_item, Within}
use Rattle.tally.specs.Runs.{Ran, made_of, level_run, series_run}
use Rattle.tally.proofs.Turns.{within_of}
use Rattle.stores.proofs.Stores.{tail_length}
use Rattle.stores.proofs.Puts.{Puts, puts_then, Parted, head_room, head_behind, rest_room, rest_put}
use Rattle.write_laws.proofs.Writing.{each}
use Rattle.write_laws.proofs.Entries.{LevelWriting, EntryAt, level_start, level_done, entry_tag, entry_room, value_at, value_long, stored, entry_fits, entry_more, one_is, packs_run, packs_asked}
use Rattle.write_laws.proofs.Packs.{SeriesWriting, PackAt, pack_stands, pack_id, pack_room, items_at, items_long, items_run, items_asked, packed, pack_fits, pack_more}
use Rattle.store_coded.specs.Fronts.{series_front, pack_front}
use Rattle.write_normal.specs.Meet.{item_normal, entry_normal, pack_normal, level_normal, series_normal, InnerRun}
use Rattle.write_normal.proofs.Copied.{items_same}
use Rattle.write_normal.proofs.Forms.{entry_bytes, run_bytes, pack_normal_lem, no_inner, walk_sizes, walk_fault}

-- ---- the items of a level

abbrev pub LevelNormals : ℕ → Bool → Form → List ℕ → List ℕ → List ℕ → ℕ → ℕ → Type 0
LevelNormals inner b f s out₀ out p k = LevelWriting b f s out₀ out p k (each (entry_bytes inner (level_of b))) tt tt

module _ (inner : ℕ) (b : Bool) (f : Form) (s out₀ : List ℕ) where
  pub level_begins : Ran (level_run (level_of b) f s) → LevelNormals inner b f s out₀ out₀ 0 0
  level_begins h = level_start (each (entry_bytes inner (level_of b))) b f tt s out₀ h

  module _ (h : InnerRun inner (level_run (level_of b) f s)) where
    same : level_normal (level_of b) f s ≡ made_of (flat_all (entry_bytes inner (level_of b))) (level_run (level_of b) f s)
    same = run_bytes inner (level_of b) (level_run (level_of b) f s) h

    pub level_room : length (level_normal (level_of b) f s) ≤ length out₀ → length (made_of (flat_all (entry_bytes inner (level_of b))) (level_run (level_of b) f s)) ≤ length out₀
    level_room l = omega (arith, ap length same)

    pub level_ends : {out : List ℕ} {p k : ℕ} → LevelNormals inner b f s out₀ out p k → length s ≤ p → (k ≡ length (level_normal (level_of b) f s)) × (out ≡ sets out₀ 0 (level_normal (level_of b) f s))
    level_ends g l = rw same (level_done g l)

pub record NormalEntry (inner : ℕ) (b : Bool) (f : Form) (s out₀ out : List ℕ) (p k : ℕ) (h : Head) : Type 0 where
  pub is : EntryAt b f s out₀ out p k h (each (entry_bytes inner (level_of b))) tt tt
  pub few : inner ≤ 65536

-- x: it is the series
module _ {inner : ℕ} {b : Bool} {f : Form} {s out₀ out : List ℕ} {p k : ℕ} {h : Head} (i : NormalEntry inner b f s out₀ out p k h)
    {x : Bool} (ex : x ≡ (b && eqb h.key 101)) where
  abbrev value : List ℕ
  value = value_at i.is

  module _ (tx : x ≡ false) where
    one_normal : stored i.is ≡ item_normal (level_of b) h.key value
    one_normal = ap (entry_bytes inner (level_of b)) (one_is i.is ex tx)

    pub one_asked : (h.key ≤ 16383) × (0 < length value) × (length value ≤ 8192) × (k + length (item_normal (level_of b) h.key value) ≤ length out)
    one_asked =
        (entry_tag i.is, omega (arith, value_long i.is, entry_room i.is), omega (arith, value_long i.is, entry_room i.is), omega (arith, ap length one_normal, entry_fits i.is))

    pub one_more : {k' : ℕ} {out' : List ℕ} → Puts out k (item_normal (level_of b) h.key value) k' out' → LevelNormals inner b f s out₀ out' (p + h.used + h.width + h.size) k'
    one_more e = entry_more i.is (rw one_normal e) refl

  module _ (tx : x ≡ true) where
    series_normal_lem : Parted out k (stored i.is) (series_front inner) (series_normal f value)
    series_normal_lem =
        let (ps, e, r) = packs_run i.is ex tx in
        record { is = ap (entry_bytes inner (level_of b)) e ∙ ap (λ x. series_front inner ++ made_of (flat_all pack_normal) x) (sym r); fits = entry_fits i.is }

    pub head_asked : (inner ≤ 65536) × (k + length (series_front inner) ≤ length out)
    head_asked = (i.few, head_room series_normal_lem)

    -- its head is stored, and the tail behind it lent
    module _ {m : ℕ} {out₁ : List ℕ} (em : Puts out k (series_front inner) m out₁) where
      pub series_behind : m ≤ length out₁
      series_behind = head_behind series_normal_lem em

      pub series_asked : (length value ≤ 8192) × Ran (series_run f value) × (length (series_normal f value) ≤ length (take (length out₁ - m) (drop m out₁)))
      series_asked = ((packs_asked i.is ex tx).0, (packs_asked i.is ex tx).1, rest_room series_normal_lem em)

      pub series_more : {r : ℕ} {o : List ℕ} → (r ≡ length (series_normal f value)) × (o ≡ sets (take (length out₁ - m) (drop m out₁)) 0 (series_normal f value))
          → LevelNormals inner b f s out₀ (put_mid m (length out₁ - m) out₁ o) (p + h.used + h.width + h.size) (m + r)
      series_more q = entry_more i.is (rest_put series_normal_lem em q) refl

-- ---- the packs of a series

abbrev pub SeriesNormals : Form → List ℕ → List ℕ → List ℕ → ℕ → ℕ → Type 0
SeriesNormals f s out₀ out p k = SeriesWriting f s out₀ out p k (each pack_normal) tt tt

abbrev pub NormalPack : Form → List ℕ → List ℕ → List ℕ → ℕ → ℕ → Head → Type 0
NormalPack f s out₀ out p k h = PackAt f s out₀ out p k h (each pack_normal) tt tt

-- y is what the item walk says of its items
module _ {f : Form} {s out₀ out : List ℕ} {p k : ℕ} {h : Head} (i : NormalPack f s out₀ out p k h)
    {y : Walked} (ey : (y ≡ level_walk pack f (items_at i)) × Within y (length (items_at i))) where
  pub no_fault : {X : Type 0} {n q : ℕ} → y ≡ Bad n q → X
  no_fault t = let w = pack_stands i in walk_fault f (items_at i) w.items (items_run i) w.entries_are ey.0 t

  module _ {z : Sizes} {held : ℕ} (ty : y ≡ Good z held) where
    pub body_few : h.used + z.normal ≤ 65536
    body_few = let l : z.normal ≤ 3 * length (items_at i) = (within_of (length (items_at i)) (sym ty) ey.1).normal in omega (arith, l, items_long i, pack_room i)

    pack_parts : Parted out k (packed i) (pack_front (h.used + z.normal) h.key) (level_normal pack f (items_at i))
    pack_parts =
        let w = pack_stands i in
        let n : h.used + z.normal ≡ length (oid_bytes h.key) + (total (weight_of_item pack) w.items).normal
        = omega (arith, w.oid, ap (λ a. a.normal) (walk_sizes f (items_at i) w.items (items_run i) w.entries_are ey.0 ty)) in
        record {
          is = ap pack_normal w.it_is ∙ pack_normal_lem h.width h.key w.items (h.used + z.normal) n
              ∙ ap (λ x. pack_front (h.used + z.normal) h.key ++ flat_all (entry_normal pack) x) (sym w.entries_are)
              ∙ ap (λ x. pack_front (h.used + z.normal) h.key ++ made_of (flat_all (entry_normal pack)) x) (sym (items_run i));
          fits = pack_fits i;
        }

    pub pack_asked : (h.used + z.normal ≤ 65536) × (h.key < 2 ^ 63) × (k + length (pack_front (h.used + z.normal) h.key) ≤ length out)
    pack_asked = (body_few, pack_id i, head_room pack_parts)

    -- its head is stored, and the tail behind it lent
    module _ {m : ℕ} {out₁ : List ℕ} (em : Puts out k (pack_front (h.used + z.normal) h.key) m out₁) where
      pub items_behind : m ≤ length out₁
      items_behind = head_behind pack_parts em

      pub level_asked : (length (items_at i) ≤ 8192) × Ran (level_run pack f (items_at i)) × (0 ≤ 65536) × InnerRun 0 (level_run pack f (items_at i))
          × (length (level_normal pack f (items_at i)) ≤ length (take (length out₁ - m) (drop m out₁)))
      level_asked = ((items_asked i).0, (items_asked i).1, omega arith, rw (items_run i, (pack_stands i).entries_are) (no_inner 0 (pack_stands i).items), rest_room pack_parts em)

      pub items_more : {r : ℕ} {o : List ℕ} → (r ≡ length (level_normal pack f (items_at i))) × (o ≡ sets (take (length out₁ - m) (drop m out₁)) 0 (level_normal pack f (items_at i)))
          → SeriesNormals f s out₀ (put_mid m (length out₁ - m) out₁ o) (p + h.width + h.size) (m + r)
      items_more q = pack_more i (rest_put pack_parts em q) refl

      -- and its items copied, where they keep their size
      module _ (kept : h.used + z.normal ≡ h.size) where
        same_items : level_normal pack f (items_at i) ≡ items_at i
        same_items = let w = pack_stands i in items_same i (sym (ap (λ a. a.normal) (walk_sizes f (items_at i) w.items (items_run i) w.entries_are ey.0 ty))) kept

        pub copy_asked : m + length (items_at i) ≤ length out₁
        copy_asked = omega (arith, ap length same_items, rw tail_length at (rest_room pack_parts em), items_behind)

        pub copied_more : {r : ℕ} {o : List ℕ} → Puts out₁ m (items_at i) r o → SeriesNormals f s out₀ o (p + h.width + h.size) r
        copied_more q = pack_more i (rw (pack_parts.is, same_items) (puts_then out k (pack_front (h.used + z.normal) h.key) (items_at i) em q)) refl
