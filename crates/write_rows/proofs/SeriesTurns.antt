-- What a turn of the walk over a series' packs stores: a row, and the rows of its items in the tail behind it.
use mathlib.Core.Path.{◌≡◌, refl, sym, ap, ◌∙◌}
use Prim.Native.Nat.{ℕ, ◌+◌, ◌-◌, ◌≤◌, ◌<◌}
use native.Mathlib.Omega.{arith}
use native.Mathlib.Numerals.{add-one}
use mathlib.Core.List.{List, [], ◌∷◌}
use lib.ListN.{length, get_or, take, drop, length-append}
use borrow.Rule.Slice.PartMut.{put_mid}
use Rattle.format.specs.Coding.{oid_bytes}
use Rattle.format.specs.Read.{pack_head}
use Rattle.format.specs.Table.{Form, pack}
use Rattle.format.specs.Packet.{pack_body, flat_pack}
use Rattle.format.specs.Rows.{item_rows}
use Rattle.std.proofs.Common.{Result, Ok, Err, Fits, w8}
use Rattle.coding.specs.declared.refusals.Refusal.{Refusal}
use Rattle.heads.specs.declared.Head.{Head}
use Rattle.heads.specs.Meet.{pack_head_of}
use Rattle.tally.specs.Runs.{Ran, series_run, made_of}
use Rattle.stores.proofs.Puts.{Puts, Parted, rest_room, rest_put}
use Rattle.write_laws.proofs.Writing.{next_room}
use Rattle.write_laws.proofs.Packs as Packs
use Rattle.write_laws.proofs.Packs.{pack_spans, PackAt, one_pack_lem, pack_stands, items_at, items_run, packed}
use Rattle.write_rows.specs.Meet.{numbers, level_numbers, LevelAsked, LevelLeft, SeriesAsked, SeriesLeft}
use Rattle.write_rows.proofs.Numbers.{level_pack, entries_numbers, pack_numbers, packs_emit, same_row}

-- n is the number of the pack that comes; as each takes a byte, it is small
pub record SeriesRows (f : Form) (at : ℕ) (s out₀ out : List ℕ) (p k n : ℕ) : Type 0 where
  pub going : Packs.SeriesWriting f s out₀ out p k packs_emit (1, at) (n, at + p)
  pub few : n ≤ p + 1

pub series_rows : (f : Form) (at : ℕ) (s out : List ℕ) → Ran (series_run f s) → SeriesRows f at s out out 0 0 1
series_rows f at s out h =
    let z : at + 0 ≡ at = omega arith in
    record { going = rw z (Packs.series_start packs_emit f (1, at) s out h); few = omega arith }

-- what stands at p, by the head that the code read there
pub record RowsPack (f : Form) (at : ℕ) (s out₀ out : List ℕ) (p k n : ℕ) (h : Head) : Type 0 where
  pub is : PackAt f s out₀ out p k h packs_emit (1, at) (n, at + p)
  pub few : n ≤ p + 1
  pub within : at + length s ≤ 8192

module _ {f : Form} {at : ℕ} {s out₀ out : List ℕ} {p k n : ℕ} {h : Head} (e : RowsPack f at s out₀ out p k n h) where
  abbrev held : List ℕ
  held = level_numbers pack f n (at + (p + h.width + h.used)) (items_at e.is)

  abbrev row : List ℕ
  row = n ∷ 0 ∷ (at + p + h.width) ∷ h.size ∷ []

  packed_is : Parted out k (packed e.is) row held
  packed_is =
      let i = pack_stands e.is in
      let v = i.it_is in
      let o : at + p + h.width + length (oid_bytes h.key) ≡ at + (p + h.width + h.used) = omega (arith, i.oid) in
      let l : length (pack_body (record { width = h.width; id = h.key; items = i.items })) ≡ h.size = ap (λ x. length (pack_body x)) (sym v) ∙ i.body_is in
      let h : held ≡ numbers (item_rows n (at + (p + h.width + h.used)) i.items)
      = ap (made_of (entries_numbers n (at + (p + h.width + h.used)))) (items_run e.is)
      ∙ ap (entries_numbers n (at + (p + h.width + h.used))) i.entries_are
      ∙ ap numbers (level_pack n (at + (p + h.width + h.used)) i.items) in
      record { is = ap (pack_numbers (n, at + p)) v ∙ same_row refl refl l (ap (λ j. numbers (item_rows n j i.items)) o ∙ sym h); fits = Packs.pack_fits e.is }

  module _ {m : ℕ} {o : List ℕ} (q : Puts out k row m o) where
    abbrev tail : List ℕ
    tail = take (length o - m) (drop m o)

    pub level_asked : LevelAsked pack n (at + (p + h.width + h.used)) (items_at e.is) (length tail) f
    level_asked = record {
      few = omega (arith, Packs.items_long e.is, Packs.pack_room e.is, e.within);
      ran = (Packs.items_asked e.is).1;
      fits = rest_room packed_is q;
    }

    module _ {j : ℕ} {o' : List ℕ} (r : LevelLeft pack n (at + (p + h.width + h.used)) (items_at e.is) tail j o') where
      pub items_end : m + j ≤ length out₀
      items_end = omega (arith, q.0, Packs.pack_fits e.is, ap length packed_is.is, length-append row held, e.is.going.writes.same, (r f level_asked).0)

      pub pack_more : SeriesRows f at s out₀ (put_mid m (length o - m) o o') (p + h.width + h.size) (m + j) (n + 1)
      pack_more =
          let i = pack_stands e.is in
          let z : at + (p + h.width + h.size) ≡ at + p + length (flat_pack (one_pack_lem e.is).it.val) = omega (arith, i.flat_is, i.used_is) in
          record { going = Packs.pack_more e.is (rest_put packed_is q (r f level_asked)) (rw (z, add-one n)); few = omega (arith, e.few, i.len) }

-- ---- the walk, in a form that the series was accepted in, and in whatever other

pub record SeriesGoing (at : ℕ) (s out₀ out : List ℕ) (p k n : ℕ) : Type 0 where
  pub form : Form
  pub asked : SeriesAsked at s (length out₀) form
  pub goes : (f : Form) → SeriesAsked at s (length out₀) f → SeriesRows f at s out₀ out p k n
  pub same : length out ≡ length out₀
  pub few : n ≤ p + 1
  pub room : p < length s → k + 4 ≤ length out

module _ {at : ℕ} {s out₀ : List ℕ} where
  series_goes : {out : List ℕ} {p k n : ℕ} (f : Form) → SeriesAsked at s (length out₀) f
      → ((f : Form) → SeriesAsked at s (length out₀) f → SeriesRows f at s out₀ out p k n)
      → SeriesGoing at s out₀ out p k n
  series_goes f a g = record {
    form = f;
    asked = a;
    goes = g;
    same = (g f a).going.writes.same;
    few = (g f a).few;
    room = λ l. let r = Packs.pack_comes (g f a).going l in omega (arith, next_room _ _ _ _ _ _ _ _ r a.fits);
  }

  pub series_begins : (f : Form) → SeriesAsked at s (length out₀) f → SeriesGoing at s out₀ out₀ 0 0 1
  series_begins f a = series_goes f a (λ f a. series_rows f at s out₀ a.ran)

  module _ {out : List ℕ} {p k n : ℕ} (g : SeriesGoing at s out₀ out p k n) where
    pub series_ends : length s ≤ p → SeriesLeft at s out₀ k out
    series_ends e f a = Packs.series_done (g.goes f a).going e

    module _ (l : p < length s) (r : Result Head Refusal) (e : pack_head_of r ≡ pack_head (take (length s - p) (drop p s))) where
      pub no_pack : (x : Refusal) → r ≡ Err x → SeriesLeft at s out₀ k out
      no_pack x o f a = Packs.pack_fault (g.goes f a).going l x (rw o at e)

      module _ (h : Head) (o : r ≡ Ok h) (bs : (i : ℕ) → Fits w8 (get_or s i 0)) where
        pack_in : (f : Form) → SeriesAsked at s (length out₀) f → RowsPack f at s out₀ out p k n h
        pack_in f a = record {
          is = record { going = (g.goes f a).going; here = l; reads = rw o at e; bytes = λ i. (bs i).fits; most = omega (arith, a.few); room = a.fits };
          few = (g.goes f a).few;
          within = a.few;
        }

        abbrev value : List ℕ
        value = take (p + h.width + h.size - (p + h.width + h.used)) (drop (p + h.width + h.used) s)

        abbrev row_here : List ℕ
        row_here = n ∷ 0 ∷ (at + p + h.width) ∷ h.size ∷ []

        module _ (m : ℕ) (o₁ : List ℕ) (q : Puts out k row_here m o₁) where
          pub items_here : (t : ℕ) → 1 ≡ t
              → (0 < t) × ((f : Form) × LevelAsked pack n (at + (p + h.width + h.used)) value (length (take (length o₁ - m) (drop m o₁))) f)
          items_here t y = (omega (arith, y), (g.form, level_asked (pack_in g.form g.asked) q))

          module _ (j : ℕ) (o₂ : List ℕ) (z : LevelLeft pack n (at + (p + h.width + h.used)) value (take (length o₁ - m) (drop m o₁)) j o₂) where
            pub pack_goes : SeriesGoing at s out₀ (put_mid m (length o₁ - m) o₁ o₂) (p + h.width + h.size) (m + j) (n + 1)
            pack_goes = series_goes g.form g.asked (λ f a. pack_more (pack_in f a) q z)

            pub items_over : m + j ≤ length out₀
            items_over = items_end (pack_in g.form g.asked) q z

-- what the pack walk is proved by
pub ruleset series_turns = (pack_spans, series_begins, series_ends, no_pack, items_here, pack_goes, items_over)
