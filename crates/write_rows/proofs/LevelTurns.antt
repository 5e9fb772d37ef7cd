-- What a turn of the walk over a level's items stores: a row, and for the series the rows of its packs in the tail behind it.
use mathlib.Core.Path.{◌≡◌, refl, sym, ap, ◌∙◌}
use Prim.Native.Nat.{ℕ, ◌+◌, ◌-◌, ◌≤◌, ◌<◌}
use native.Mathlib.Omega.{arith}
use mathlib.Core.Bool.{Bool, true, false, ◌&&◌}
use mathlib.Core.List.{List, [], ◌∷◌}
use lib.ListN.{length, get_or, take, drop, length-append}
use lib.Dec.{eqb}
use borrow.Author.Tests.{eqb-true}
use borrow.Rule.Slice.PartMut.{put_mid}
use Rattle.format.specs.Coding.{digits, oid_bytes}
use Rattle.format.specs.Read.{head_of}
use Rattle.format.specs.Table.{Form}
use Rattle.format.specs.Packet.{flat_pack, flat_entry}
use Rattle.format.specs.Lists.{flat_all}
use Rattle.format.specs.Rows.{pack_rows}
use Rattle.format.proofs.Words.Answers.{no_bool}
use Rattle.format.proofs.Sheets.Normal.{length_series}
use Rattle.items.specs.Meet.{level_of}
use Rattle.std.proofs.Common.{Result, Ok, Err, Fits, w8}
use Rattle.coding.specs.declared.refusals.Refusal.{Refusal}
use Rattle.heads.specs.declared.Head.{Head}
use Rattle.heads.specs.Meet.{item_head_of}
use Rattle.tally.proofs.ItemTurns.{depth, series_deep}
use Rattle.tally.specs.Runs.{Ran, level_run, made_of}
use Rattle.stores.proofs.Puts.{Puts, Parted, rest_room, rest_put}
use Rattle.write_laws.proofs.Writing.{next_room}
use Rattle.write_laws.proofs.Entries.{item_spans, LevelWriting, EntryAt, level_start, level_done, entry_comes, entry_fault, entry, entry_stands, entry_room, value_at, value_long, stored, entry_fits, entry_more, one_is, packs_run, packs_asked}
use Rattle.write_rows.specs.Meet.{numbers, series_numbers, LevelAsked, LevelLeft, SeriesAsked, SeriesLeft}
use Rattle.write_rows.proofs.Numbers.{entry_numbers, entry_next, entries_emit, entry_four, same_row}

-- the state is where the entry that comes stands
abbrev pub LevelRows : Bool → Form → ℕ → ℕ → List ℕ → List ℕ → List ℕ → ℕ → ℕ → Type 0
LevelRows b f target at s out₀ out p k = LevelWriting b f s out₀ out p k (entries_emit target) at (at + p)

pub level_rows_lem : (b : Bool) (f : Form) (target at : ℕ) (s out : List ℕ) → Ran (level_run (level_of b) f s) → LevelRows b f target at s out out 0 0
level_rows_lem b f target at s out h = let z : at + 0 ≡ at = omega arith in rw z (level_start (entries_emit target) b f at s out h)

and_right : (b c : Bool) → b && c ≡ true → c ≡ true
and_right true c e = e
and_right false c e = no_bool e

one_byte : length (oid_bytes 101) ≡ 1
unfolding oid_bytes digits
one_byte = refl

-- what stands at p, by the head that the code read there
pub record RowsEntry (b : Bool) (f : Form) (target at : ℕ) (s out₀ out : List ℕ) (p k : ℕ) (h : Head) : Type 0 where
  pub is : EntryAt b f s out₀ out p k h (entries_emit target) at (at + p)
  pub within : at + length s ≤ 8192

module _ {b : Bool} {f : Form} {target at : ℕ} {s out₀ out : List ℕ} {p k : ℕ} {h : Head} (e : RowsEntry b f target at s out₀ out p k h) where
  abbrev row : List ℕ
  row = target ∷ h.key ∷ (at + (p + h.used + h.width)) ∷ h.size ∷ []

  stored_more : {out' : List ℕ} {k' : ℕ} → Puts out k (stored e.is) k' out' → LevelRows b f target at s out₀ out' (p + h.used + h.width + h.size) k'
  stored_more q =
      let w = entry_stands e.is in
      let z : at + (p + h.used + h.width + h.size) ≡ entry_next (at + p) (entry e.is).it.val = omega (arith, w.flat_is, w.used_is) in
      entry_more e.is q z

  module _ {x : Bool} (ex : x ≡ (b && eqb h.key 101)) where
    module _ (tx : x ≡ false) where
      item_is_lem : stored e.is ≡ row
      item_is_lem =
          let o : at + p + length (oid_bytes h.key) + h.width ≡ at + (p + h.used + h.width) = omega (arith, (entry_stands e.is).oid) in
          ap (entry_numbers target (at + p)) (one_is e.is ex tx) ∙ rw (o, value_long e.is)

      pub item_more : {m : ℕ} {o : List ℕ} → Puts out k row m o → LevelRows b f target at s out₀ o (p + h.used + h.width + h.size) m
      item_more q = stored_more (rw item_is_lem q)

    module _ (tx : x ≡ true) where
      tag_is : h.key ≡ 101
      tag_is = eqb-true h.key 101 (and_right b _ (sym ex ∙ tx))

      abbrev inside : List ℕ
      inside = series_numbers f (at + (p + h.used + h.width)) (value_at e.is)

      series_is : Parted out k (stored e.is) row inside
      series_is =
          let (ps, v, r) = packs_run e.is ex tx in
          let w = entry_stands e.is in
          let one : h.used ≡ 1 = sym w.oid ∙ ap (λ t. length (oid_bytes t)) tag_is ∙ one_byte in
          let o : at + p + 1 + h.width ≡ at + (p + h.used + h.width) = omega (arith, one) in
          let n : length (flat_all flat_pack ps.val) ≡ h.size = omega (arith, one, one_byte, length_series h.width ps.val, ap (λ z. length (flat_entry z)) v, w.flat_is, w.used_is) in
          let i : inside ≡ numbers (pack_rows 1 (at + (p + h.used + h.width)) ps.val) = ap (made_of (λ qs. numbers (pack_rows 1 (at + (p + h.used + h.width)) qs))) r in
          record { is = ap (entry_numbers target (at + p)) v ∙ same_row (sym tag_is) o n (ap (λ j. numbers (pack_rows 1 j ps.val)) o ∙ sym i); fits = entry_fits e.is }

      module _ {m : ℕ} {o : List ℕ} (q : Puts out k row m o) where
        abbrev tail : List ℕ
        tail = take (length o - m) (drop m o)

        pub series_asked : SeriesAsked (at + (p + h.used + h.width)) (value_at e.is) (length tail) f
        series_asked = record {
          few = omega (arith, value_long e.is, (entry_room e.is).0, e.within);
          ran = (packs_asked e.is ex tx).1;
          fits = rest_room series_is q;
        }

        module _ {n : ℕ} {o' : List ℕ} (r : SeriesLeft (at + (p + h.used + h.width)) (value_at e.is) tail n o') where
          pub series_end : m + n ≤ length out₀
          series_end = omega (arith, entry_fits e.is, ap length series_is.is, length-append row inside, q.0, e.is.going.writes.same, (r f series_asked).0)

          pub series_more : LevelRows b f target at s out₀ (put_mid m (length o - m) o o') (p + h.used + h.width + h.size) (m + n)
          series_more = stored_more (rest_put series_is q (r f series_asked))

-- ---- the walk, in a form that the level was accepted in, and in whatever other

pub record LevelGoing (b : Bool) (target at : ℕ) (s out₀ out : List ℕ) (p k : ℕ) : Type 0 where
  pub form : Form
  pub asked : LevelAsked (level_of b) target at s (length out₀) form
  pub goes : (f : Form) → LevelAsked (level_of b) target at s (length out₀) f → LevelRows b f target at s out₀ out p k
  pub same : length out ≡ length out₀
  pub room : p < length s → k + 4 ≤ length out

module _ {b : Bool} {target at : ℕ} {s out₀ : List ℕ} where
  level_goes : {out : List ℕ} {p k : ℕ} (f : Form) → LevelAsked (level_of b) target at s (length out₀) f
      → ((f : Form) → LevelAsked (level_of b) target at s (length out₀) f → LevelRows b f target at s out₀ out p k)
      → LevelGoing b target at s out₀ out p k
  level_goes {p = p} f a g = record {
    form = f;
    asked = a;
    goes = g;
    same = (g f a).writes.same;
    room = λ l. let n = entry_comes (g f a) l in omega (arith, next_room _ _ _ _ _ _ _ _ n a.fits, entry_four target (at + p) n.it.val);
  }

  pub level_begins : (f : Form) → LevelAsked (level_of b) target at s (length out₀) f → LevelGoing b target at s out₀ out₀ 0 0
  level_begins f a = level_goes f a (λ f a. level_rows_lem b f target at s out₀ a.ran)

  module _ {out : List ℕ} {p k : ℕ} (g : LevelGoing b target at s out₀ out p k) where
    pub level_ends : length s ≤ p → LevelLeft (level_of b) target at s out₀ k out
    level_ends e f a = level_done (g.goes f a) e

    module _ (l : p < length s) (r : Result Head Refusal) (e : item_head_of r ≡ head_of (level_of b) (take (length s - p) (drop p s))) where
      pub no_item : (x : Refusal) → r ≡ Err x → LevelLeft (level_of b) target at s out₀ k out
      no_item x o f a = entry_fault (g.goes f a) l x (rw o at e)

      module _ (h : Head) (o : r ≡ Ok h) (bs : (i : ℕ) → Fits w8 (get_or s i 0)) where
        item_in : (f : Form) → LevelAsked (level_of b) target at s (length out₀) f → RowsEntry b f target at s out₀ out p k h
        item_in f a = record { is = record { going = g.goes f a; here = l; reads = rw o at e; bytes = λ i. (bs i).fits; most = omega (arith, a.few); room = a.fits }; within = a.few }

        abbrev value : List ℕ
        value = take (p + h.used + h.width + h.size - (p + h.used + h.width)) (drop (p + h.used + h.width) s)

        abbrev row_here : List ℕ
        row_here = target ∷ h.key ∷ (at + (p + h.used + h.width)) ∷ h.size ∷ []

        module _ (x : Bool) (ex : x ≡ (b && eqb h.key 101)) (m : ℕ) (o₁ : List ℕ) (q : Puts out k row_here m o₁) where
          pub item_goes : x ≡ false → LevelGoing b target at s out₀ o₁ (p + h.used + h.width + h.size) m
          item_goes tx = level_goes g.form g.asked (λ f a. item_more (item_in f a) ex tx q)

          module _ (tx : x ≡ true) where
            pub packs_here : (t : ℕ) → depth b ≡ t
                → (1 < t) × ((f : Form) × SeriesAsked (at + (p + h.used + h.width)) value (length (take (length o₁ - m) (drop m o₁))) f)
            packs_here t y = (rw (← y) (series_deep b h.key ex tx), (g.form, series_asked (item_in g.form g.asked) ex tx q))

            module _ (n : ℕ) (o₂ : List ℕ) (z : SeriesLeft (at + (p + h.used + h.width)) value (take (length o₁ - m) (drop m o₁)) n o₂) where
              pub series_goes : LevelGoing b target at s out₀ (put_mid m (length o₁ - m) o₁ o₂) (p + h.used + h.width + h.size) (m + n)
              series_goes = level_goes g.form g.asked (λ f a. series_more (item_in f a) ex tx q z)

              pub packs_end : m + n ≤ length out₀
              packs_end = series_end (item_in g.form g.asked) ex tx q z

-- what the item walk is proved by
pub ruleset level_turns = (item_spans, level_begins, level_ends, no_item, item_goes, packs_here, series_goes, packs_end)
