-- What a turn of the item walk and of the pack walk that write a sheet stores: a record, or a mark and then, in the tail behind it, what is held.
use mathlib.Core.Path.{◌≡◌, refl, sym, ap, ◌∙◌}
use Prim.Native.Nat.{ℕ, ◌+◌, ◌-◌, ◌*◌, ◌≤◌, ◌<◌}
use native.Mathlib.Omega.{arith}
use mathlib.Core.Bool.{Bool, true, false, ◌&&◌}
use mathlib.Core.List.{List, [], ◌∷◌, ◌++◌, map}
use lib.Dec.{eqb}
use lib.ListN.{length, get_or, take, drop, length-append}
use lib.Seq.{sets}
use borrow.Rule.Slice.PartMut.{put_mid}
use Rattle.format.specs.Answer.{ok}
use Rattle.format.specs.Coding.{fixed}
use Rattle.format.specs.Lists.{flat_all}
use Rattle.format.specs.Table.{Form, Level, pack}
use Rattle.format.specs.Packet.{Item, Pack, plain, series}
use Rattle.format.specs.Read.{head_of, pack_head}
use Rattle.format.specs.Sheet.{val_of, val_bytes, target_of, target_bytes, part_of, part_bytes, mark_number, TS, TG}
use Rattle.format.proofs.Coding.Digits.{length_fixed}
use Rattle.items.specs.Meet.{level_of}
use Rattle.std.proofs.Common.{Result, Ok, Err, Fits, w8}
use Rattle.coding.specs.declared.refusals.Refusal.{Refusal}
use Rattle.heads.specs.declared.Head.{Head}
use Rattle.heads.specs.Meet.{item_head_of, pack_head_from, pack_head_of}
use Rattle.tally.proofs.ItemTurns.{depth, series_deep}
use Rattle.tally.specs.Runs.{made_of}
use Rattle.stores.specs.Puts.{Fills}
use Rattle.stores.proofs.Puts.{Puts, puts_sized, puts_fixed, Parted, head_room, head_behind, rest_room, rest_put}
use Rattle.write_laws.proofs.Writing.{each, next_room}
use Rattle.write_laws.proofs.Entries.{item_spans, LevelWriting, EntryAt, level_start, level_done, entry_fault, entry_stands, value_at, value_long, stored, entry_fits, entry_more, one_is, packs_run, packs_asked}
use Rattle.write_laws.proofs.Packs.{pack_spans, SeriesWriting, PackAt, series_start, series_done, pack_comes, pack_fault, pack_stands, items_at, items_run, items_asked, packed, pack_fits, pack_more}
use Rattle.write_sheet.specs.Meet.{item_sheet, entry_sheet, pack_sheet, level_sheet, series_sheet, LevelAsked, SeriesAsked, LevelLeft, SeriesLeft}
use Rattle.write_sheet.specs.Quick.{ItemsPassed, PacksPassed, RestAsked, RestLeft}

-- the items of a pack, as the records of its target and as entries
same_sheet : (is : List Item) → flat_all (val_bytes pack) (map (val_of pack) is) ≡ flat_all (entry_sheet pack) (map plain is)
unfolding flat_all item_sheet val_of
same_sheet [] = refl
same_sheet (i ∷ is) = ap (λ x. entry_sheet pack (plain i) ++ x) (same_sheet is)

-- the packs of a series, as its targets
targets_sheet : (ps : List Pack) → flat_all target_bytes (map target_of ps) ≡ flat_all pack_sheet ps
unfolding flat_all
targets_sheet [] = refl
targets_sheet (p ∷ ps) = ap (λ x. pack_sheet p ++ x) (targets_sheet ps)

series_parts : (l : Level) (w : ℕ) (ps : List Pack) → entry_sheet l (series w ps) ≡ fixed 2 (mark_number TS) ++ flat_all pack_sheet ps
unfolding part_bytes part_of fixed
series_parts l w ps = ap (λ x. TS.0 ∷ TS.1 ∷ x) (targets_sheet ps)

pack_parts : (w id : ℕ) (is : List Item) → pack_sheet (record { width = w; id = id; items = is }) ≡ (TG.0 ∷ TG.1 ∷ fixed 8 id) ++ flat_all (entry_sheet pack) (map plain is)
unfolding target_bytes target_of
pack_parts w id is = ap (λ x. (TG.0 ∷ TG.1 ∷ fixed 8 id) ++ x) (same_sheet is)

pack_long : (p : Pack) → 10 ≤ length (pack_sheet p)
pack_long p = omega (arith, ap length (pack_parts p.width p.id p.items), length-append (TG.0 ∷ TG.1 ∷ fixed 8 p.id) (flat_all (entry_sheet pack) (map plain p.items)), length_fixed 8 p.id)

-- ---- the items of a level

abbrev pub LevelSheets : Bool → Form → List ℕ → List ℕ → List ℕ → ℕ → ℕ → Type 0
LevelSheets b f s out₀ out p k = LevelWriting b f s out₀ out p k (each (entry_sheet (level_of b))) tt tt

abbrev pub SheetEntry : Bool → Form → List ℕ → List ℕ → List ℕ → ℕ → ℕ → Head → Type 0
SheetEntry b f s out₀ out p k h = EntryAt b f s out₀ out p k h (each (entry_sheet (level_of b))) tt tt

-- x: it is the series
module _ {b : Bool} {f : Form} {s out₀ out : List ℕ} {p k : ℕ} {h : Head} (i : SheetEntry b f s out₀ out p k h) {x : Bool} (ex : x ≡ (b && eqb h.key 101)) where
  module _ (tx : x ≡ false) where
    one_sheet : stored i ≡ item_sheet (level_of b) h.key (value_at i)
    one_sheet = ap (entry_sheet (level_of b)) (one_is i ex tx)

    pub one_room : (0 < length (value_at i)) × (k + length (item_sheet (level_of b) h.key (value_at i)) ≤ length out)
    one_room = (omega (arith, value_long i, (entry_stands i).some), omega (arith, ap length one_sheet, entry_fits i))

    pub one_more : {k' : ℕ} {out' : List ℕ} → Puts out k (item_sheet (level_of b) h.key (value_at i)) k' out' → LevelSheets b f s out₀ out' (p + h.used + h.width + h.size) k'
    one_more e = entry_more i (rw one_sheet e) refl

  module _ (tx : x ≡ true) where
    series_sheet_is : Parted out k (stored i) (fixed 2 (mark_number TS)) (series_sheet f (value_at i))
    series_sheet_is =
        let (ps, e, r) = packs_run i ex tx in
        record { is = ap (entry_sheet (level_of b)) e ∙ series_parts (level_of b) h.width ps.val ∙ ap (λ x. fixed 2 (mark_number TS) ++ made_of (flat_all pack_sheet) x) (sym r); fits = entry_fits i }

    pub mark_room : k + 2 ≤ length out
    mark_room = omega (arith, head_room series_sheet_is, length_fixed 2 (mark_number TS))

    -- its mark is stored, and the tail behind it lent
    module _ {m : ℕ} {out₁ : List ℕ} (em : (m ≡ k + 2) × (out₁ ≡ sets out k (fixed 2 (mark_number TS)))) where
      pub series_behind : m ≤ length out₁
      series_behind = head_behind series_sheet_is (puts_fixed out k 2 (mark_number TS) em)

      abbrev packs_tail : List ℕ
      packs_tail = take (length out₁ - m) (drop m out₁)

      pub series_asked : SeriesAsked (value_at i) (length packs_tail) f
      series_asked = record { few = (packs_asked i ex tx).0; ran = (packs_asked i ex tx).1; fits = rest_room series_sheet_is (puts_fixed out k 2 (mark_number TS) em) }

      pub series_more : {r : ℕ} {o : List ℕ} → SeriesLeft (value_at i) packs_tail r o → LevelSheets b f s out₀ (put_mid m (length out₁ - m) out₁ o) (p + h.used + h.width + h.size) (m + r)
      series_more q = entry_more i (rest_put series_sheet_is (puts_fixed out k 2 (mark_number TS) em) (q f series_asked)) refl

-- ---- the packs of a series

abbrev pub SeriesSheets : Form → List ℕ → List ℕ → List ℕ → ℕ → ℕ → Type 0
SeriesSheets f s out₀ out p k = SeriesWriting f s out₀ out p k (each pack_sheet) tt tt

abbrev pub SheetPack : Form → List ℕ → List ℕ → List ℕ → ℕ → ℕ → Head → Type 0
SheetPack f s out₀ out p k h = PackAt f s out₀ out p k h (each pack_sheet) tt tt

module _ {f : Form} {s out₀ out : List ℕ} {p k : ℕ} {h : Head} (i : SheetPack f s out₀ out p k h) where
  abbrev pub target_mark : List ℕ
  target_mark = TG.0 ∷ TG.1 ∷ fixed 8 h.key

  pub pack_sheet_lem : Parted out k (packed i) target_mark (level_sheet pack f (items_at i))
  pack_sheet_lem =
      let w = pack_stands i in
      record {
        is = ap pack_sheet w.it_is ∙ pack_parts h.width h.key w.items ∙ ap (λ x. target_mark ++ flat_all (entry_sheet pack) x) (sym w.entries_are)
            ∙ ap (λ x. target_mark ++ made_of (flat_all (entry_sheet pack)) x) (sym (items_run i));
        fits = pack_fits i;
      }

  mark_long : length target_mark ≡ 10
  mark_long = omega (arith, length_fixed 8 h.key)

  -- its mark and its id are stored, and the tail behind them lent
  module _ {m : ℕ} {out₁ : List ℕ} (em : (m ≡ k + 10) × (out₁ ≡ sets out k target_mark)) where
    pub target_put : Puts out k target_mark m out₁
    target_put = puts_sized out k target_mark mark_long em

    pub items_behind : m ≤ length out₁
    items_behind = head_behind pack_sheet_lem target_put

    abbrev pub items_tail : List ℕ
    items_tail = take (length out₁ - m) (drop m out₁)

    pub level_asked : LevelAsked pack (items_at i) (length items_tail) f
    level_asked = record { few = (items_asked i).0; ran = (items_asked i).1; fits = rest_room pack_sheet_lem target_put }

    pub items_stored : {r : ℕ} {o : List ℕ} → Fills items_tail (level_sheet pack f (items_at i)) r o → SeriesSheets f s out₀ (put_mid m (length out₁ - m) out₁ o) (p + h.width + h.size) (m + r)
    items_stored q = pack_more i (rest_put pack_sheet_lem target_put q) refl

    pub items_more : {r : ℕ} {o : List ℕ} → LevelLeft pack (items_at i) items_tail r o → SeriesSheets f s out₀ (put_mid m (length out₁ - m) out₁ o) (p + h.width + h.size) (m + r)
    items_more q = items_stored (q f level_asked)

-- the quick way passed all items of a pack
pub items_over : {s out₀ out : List ℕ} {p k : ℕ} → ItemsPassed s out₀ out p k → length s ≤ p → LevelLeft pack s out₀ k out
items_over {s = s} {out₀ = out₀} {out = out} {p = p} {k = k} q l f a = let w : LevelSheets false f s out₀ out p k = record { writes = q f a } in level_done w l

-- ---- the item walk from a place on, in a form that the level was accepted in, and in whatever other; o is what the output was where the level began

pub record RestGoing (b : Bool) (s out₀ : List ℕ) (from at : ℕ) (out : List ℕ) (p k : ℕ) : Type 0 where
  pub form : Form
  pub o : List ℕ
  pub asked : RestAsked b s out₀ from at form o
  pub goes : (f : Form) (o : List ℕ) → RestAsked b s out₀ from at f o → LevelSheets b f s o out p k
  pub same : length out ≡ length out₀

-- where nothing was passed
pub rest_whole : {b : Bool} {s o : List ℕ} {f : Form} → LevelAsked (level_of b) s (length o) f → RestAsked b s o 0 0 f o
rest_whole {b = b} {s = s} {o = o} {f = f} a = record { asked = a; passed = (level_start (each (entry_sheet (level_of b))) b f tt s o a.ran).writes }

-- the quick way passed p bytes of a pack's items, and the item walk the rest
pub rest_left : {s o out out' : List ℕ} {p k r : ℕ} → ItemsPassed s o out p k → RestLeft false s out p k r out' → LevelLeft pack s o r out'
rest_left q z f a = z f _ (record { asked = a; passed = q f a })

module _ {b : Bool} {s out₀ : List ℕ} {from at : ℕ} where
  rest_goes : {out : List ℕ} {p k : ℕ} (f : Form) (o : List ℕ) → RestAsked b s out₀ from at f o
      → ((f : Form) (o : List ℕ) → RestAsked b s out₀ from at f o → LevelSheets b f s o out p k)
      → RestGoing b s out₀ from at out p k
  rest_goes f o a g = record { form = f; o = o; asked = a; goes = g; same = (g f o a).writes.same ∙ sym a.passed.same }

  pub rest_begins : (f : Form) (o : List ℕ) → RestAsked b s out₀ from at f o → RestGoing b s out₀ from at out₀ from at
  rest_begins f o a = rest_goes f o a (λ f o a. record { writes = a.passed })

  module _ {out : List ℕ} {p k : ℕ} (g : RestGoing b s out₀ from at out p k) where
    pub rest_ends : length s ≤ p → RestLeft b s out₀ from at k out
    rest_ends l f o a = level_done (g.goes f o a) l

    module _ (l : p < length s) (r : Result Head Refusal) (e : item_head_of r ≡ head_of (level_of b) (take (length s - p) (drop p s))) where
      pub no_item : (x : Refusal) → r ≡ Err x → RestLeft b s out₀ from at k out
      no_item x y f o a = entry_fault (g.goes f o a) l x (rw y at e)

      module _ (h : Head) (y : r ≡ Ok h) (bs : (i : ℕ) → Fits w8 (get_or s i 0)) where
        item_in : (f : Form) (o : List ℕ) → RestAsked b s out₀ from at f o → SheetEntry b f s o out p k h
        item_in f o a = record { going = g.goes f o a; here = l; reads = rw y at e; bytes = λ i. (bs i).fits; most = a.asked.few; room = a.asked.fits }

        item_now : SheetEntry b g.form s g.o out p k h
        item_now = item_in g.form g.o g.asked

        abbrev value : List ℕ
        value = take (p + h.used + h.width + h.size - (p + h.used + h.width)) (drop (p + h.used + h.width) s)

        module _ (x : Bool) (ex : x ≡ (b && eqb h.key 101)) where
          module _ (tx : x ≡ false) where
            pub plain_here : (0 < length value) × (k + length (item_sheet (level_of b) h.key value) ≤ length out)
            plain_here = one_room item_now ex tx

            pub plain_goes : {m : ℕ} {o₁ : List ℕ} → Puts out k (item_sheet (level_of b) h.key value) m o₁ → RestGoing b s out₀ from at o₁ (p + h.used + h.width + h.size) m
            plain_goes q = rest_goes g.form g.o g.asked (λ f o a. one_more (item_in f o a) ex tx q)

          module _ (tx : x ≡ true) where
            pub mark_here : k + 2 ≤ length out
            mark_here = mark_room item_now ex tx

            module _ (m : ℕ) (o₁ : List ℕ) (q : (m ≡ k + 2) × (o₁ ≡ sets out k (fixed 2 (mark_number TS)))) where
              pub mark_end : m ≤ length o₁
              mark_end = series_behind item_now ex tx q

              pub packs_here : (t : ℕ) → 2 * depth b ≡ t → (2 < t) × ((f : Form) × SeriesAsked value (length (take (length o₁ - m) (drop m o₁))) f)
              packs_here t z = (omega (arith, series_deep b h.key ex tx), (g.form, series_asked item_now ex tx q))

              module _ (n : ℕ) (o₂ : List ℕ) (z : SeriesLeft value (take (length o₁ - m) (drop m o₁)) n o₂) where
                pub series_goes : RestGoing b s out₀ from at (put_mid m (length o₁ - m) o₁ o₂) (p + h.used + h.width + h.size) (m + n)
                series_goes = rest_goes g.form g.o g.asked (λ f o a. series_more (item_in f o a) ex tx q z)

                pub packs_end : m + n ≤ length out₀
                packs_end = omega (arith, (series_more item_now ex tx q z).writes.sum, g.asked.asked.fits, g.asked.passed.same)

-- what the item walk is proved by
pub ruleset rest_turns = (item_spans, rest_begins, plain_goes, series_goes)

-- ---- the pack walk, likewise

-- the items of a pack at p, as they are lent
abbrev pub held : Head → List ℕ → ℕ → List ℕ
held h s p = take (p + h.width + h.size - (p + h.width + h.used)) (drop (p + h.width + h.used) s)

pub record PacksGoing (s out₀ out : List ℕ) (p k : ℕ) : Type 0 where
  pub form : Form
  pub asked : SeriesAsked s (length out₀) form
  pub goes : (f : Form) → SeriesAsked s (length out₀) f → SeriesSheets f s out₀ out p k
  pub same : length out ≡ length out₀
  pub to : p ≤ length s
  pub room : p < length s → k + 10 ≤ length out

module _ {s out₀ : List ℕ} where
  pub packs_go : {out : List ℕ} {p k : ℕ} (f : Form) → SeriesAsked s (length out₀) f
      → ((f : Form) → SeriesAsked s (length out₀) f → SeriesSheets f s out₀ out p k)
      → PacksGoing s out₀ out p k
  packs_go f a g = record {
    form = f;
    asked = a;
    goes = g;
    same = (g f a).writes.same;
    to = (g f a).writes.to;
    room = λ l. let n = pack_comes (g f a) l in omega (arith, next_room _ _ _ _ _ _ _ _ n a.fits, pack_long n.it.val);
  }

  pub packs_begin : (f : Form) → SeriesAsked s (length out₀) f → PacksGoing s out₀ out₀ 0 0
  packs_begin f a = packs_go f a (λ f a. series_start (each pack_sheet) f tt s out₀ a.ran)

  -- from where the quick way ends
  pub packs_go_on : {out : List ℕ} {p k : ℕ} (f : Form) → SeriesAsked s (length out₀) f → PacksPassed s out₀ out p k → PacksGoing s out₀ out p k
  packs_go_on f a q = packs_go f a (λ f a. record { writes = q f a })

  module _ {out : List ℕ} {p k : ℕ} (g : PacksGoing s out₀ out p k) where
    pub packs_passed : PacksPassed s out₀ out p k
    packs_passed f a = (g.goes f a).writes

    pub packs_done : length s ≤ p → SeriesLeft s out₀ k out
    packs_done l f a = series_done (g.goes f a) l

    module _ (l : p < length s) where
      pub no_pack : (r : Result Head Refusal) → pack_head_of r ≡ pack_head (take (length s - p) (drop p s)) → (x : Refusal) → r ≡ Err x → SeriesLeft s out₀ k out
      no_pack r e x y f a = pack_fault (g.goes f a) l x (rw y at e)

      module _ (h : Head) (e : ok (pack_head_from h) ≡ pack_head (take (length s - p) (drop p s))) (bs : (i : ℕ) → Fits w8 (get_or s i 0)) where
        pub pack_in : (f : Form) → SeriesAsked s (length out₀) f → SheetPack f s out₀ out p k h
        pack_in f a = record { going = g.goes f a; here = l; reads = e; bytes = λ i. (bs i).fits; most = a.few; room = a.fits }

        module _ (m : ℕ) (o₁ : List ℕ) (q : (m ≡ k + 10) × (o₁ ≡ sets out k (TG.0 ∷ TG.1 ∷ fixed 8 h.key))) where
          pub items_here : (f : Form) × LevelAsked pack (held h s p) (length (take (length o₁ - m) (drop m o₁))) f
          items_here = (g.form, level_asked (pack_in g.form g.asked) q)

          module _ (n : ℕ) (o₂ : List ℕ) (z : LevelLeft pack (held h s p) (take (length o₁ - m) (drop m o₁)) n o₂) where
            pub pack_goes : PacksGoing s out₀ (put_mid m (length o₁ - m) o₁ o₂) (p + h.width + h.size) (m + n)
            pack_goes = packs_go g.form g.asked (λ f a. items_more (pack_in f a) q z)

            pub items_end : m + n ≤ length out₀
            items_end = omega (arith, (items_more (pack_in g.form g.asked) q z).writes.sum, g.asked.fits)

-- what the pack walk is proved by
pub ruleset pack_turns = (pack_spans, packs_go_on)
