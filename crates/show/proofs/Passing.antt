-- The row of an item among all rows: past what stands before it, and nothing in what stands after it.
use mathlib.Core.Path.{◌≡◌, refl, sym, ap, ◌∙◌}
use mathlib.Core.Logic.{◌⊎◌, inl, inr}
use Prim.Native.Nat.{ℕ, suc, ◌+◌, ◌≤◌, ◌<◌}
use native.Mathlib.Omega.{arith}
use mathlib.Core.Bool.{Bool, true, false, ◌&&◌}
use mathlib.Core.List.{List, [], ◌∷◌, ◌++◌, append-nil}
use lib.ListN.{length, length-append}
use lib.Dec.{eqb}
use borrow.Author.Tests.{ne_eqb}
use Rattle.format.specs.Answer.{Ans, ok, refused, ◌>>=◌}
use Rattle.format.specs.Coding.{oid_bytes}
use Rattle.format.specs.Lists.{flat_all, ask_hit}
use Rattle.format.specs.Packet.{Item, Pack, Entry, plain, series, pack_body, flat_item, flat_pack, flat_entry}
use Rattle.format.specs.Rows.{Row, row, item_row, item_rows, pack_rows, entry_rows}
use Rattle.format.specs.Edit.{Holder, target, is_series}
use Rattle.format.specs.Show.{number_in, number_of}
use Rattle.format.specs.Valid.{All}
use Rattle.format.proofs.Words.Answers.{never, no_bool}
use Rattle.format.proofs.Words.Keys.{all_map}
use Rattle.format.proofs.Rows.Find.{OneSeries}
use Rattle.items.proofs.Tests.{bind_so, bind_not}
use Rattle.find.specs.Spots.{Missed, Hit, has_id}
use Rattle.find.proofs.Splices.{place}

-- the row of target number k with this tag
abbrev pub row_for : ℕ → ℕ → List Row → Ans Row
row_for k tag rows = ask_hit (λ r. eqb r.target k && eqb r.tag tag) ok rows

-- the same by what holds the item: its number in the entries but the checksum, the rows of all, which begin at the offset `at`
abbrev pub row_in : Holder → ℕ → ℕ → List Entry → List Entry → Ans Row
row_in h tag at kept es = number_of h kept >>= λ k. row_for k tag (entry_rows at es)

-- and by the target's id, in packs that begin there
abbrev pub pack_row_in : ℕ → ℕ → ℕ → List Pack → Ans Row
pack_row_in id tag at ps = number_in id 1 ps >>= λ k. row_for k tag (pack_rows 1 at ps)

module _ (k tag : ℕ) where
  abbrev hit_row : Row → Bool
  hit_row r = eqb r.target k && eqb r.tag tag

  pub other : (r : Row) (rs : List Row) → hit_row r ≡ false → row_for k tag (r ∷ rs) ≡ row_for k tag rs
  unfolding ask_hit
  other r rs z = rw (z, ask_hit)

  other_target : (r : Row) (rs : List Row) → eqb r.target k ≡ false → row_for k tag (r ∷ rs) ≡ row_for k tag rs
  other_target r rs z = other r rs (rw z)

  -- a pack's own row is no item's
  own_row : (n a b : ℕ) → 0 < tag → hit_row (row n 0 a b) ≡ false
  own_row n a b h = go (eqb n k)
    where
      go : (b : Bool) → b && eqb 0 tag ≡ false
      go true = ne_eqb 0 tag λ e. omega arith
      go false = refl

  -- nothing in what follows
  front : (rs qs : List Row) → row_for k tag qs ≡ refused 18 0 → row_for k tag (rs ++ qs) ≡ row_for k tag rs
  unfolding ask_hit
  front [] qs e = e
  front (r ∷ rs) qs e = go (front rs qs e) (hit_row r) refl
    where
      go : row_for k tag (rs ++ qs) ≡ row_for k tag rs → (b : Bool) → hit_row r ≡ b → row_for k tag (r ∷ rs ++ qs) ≡ row_for k tag (r ∷ rs)
      go ih true z = rw (z, ask_hit)
      go ih false z = rw (z, ask_hit) ih

  -- nothing in what stands before
  pub behind : (rs qs : List Row) → row_for k tag rs ≡ refused 18 0 → row_for k tag (rs ++ qs) ≡ row_for k tag qs
  unfolding ask_hit
  behind [] qs e = refl
  behind (r ∷ rs) qs e = go (behind rs qs) (hit_row r) refl
    where
      go : (row_for k tag rs ≡ refused 18 0 → row_for k tag (rs ++ qs) ≡ row_for k tag qs) → (b : Bool) → hit_row r ≡ b → row_for k tag (r ∷ rs ++ qs) ≡ row_for k tag qs
      go ih true z = never 18 0 r (sym (rw (z, ask_hit) at e))
      go ih false z = rw (z, ask_hit) (ih (rw (z, ask_hit) at e))

  -- ---- past another target's items, and past packs before or after

  past_items : (n at : ℕ) (is : List Item) (rs : List Row) → eqb n k ≡ false → row_for k tag (item_rows n at is ++ rs) ≡ row_for k tag rs
  unfolding item_rows item_row
  past_items n at [] rs z = refl
  past_items n at (i ∷ is) rs z = other_target (item_row n at i) _ z ∙ past_items n (at + length (flat_item i)) is rs z

  past_pack : (n at : ℕ) (p : Pack) (ps : List Pack) → eqb n k ≡ false → row_for k tag (pack_rows n at (p ∷ ps)) ≡ row_for k tag (pack_rows (suc n) (at + length (flat_pack p)) ps)
  unfolding pack_rows
  past_pack n at p ps z =
      other_target (row n 0 (at + p.width) (length (pack_body p))) _ z
      ∙ past_items n (at + p.width + length (oid_bytes p.id)) p.items (pack_rows (suc n) (at + length (flat_pack p)) ps) z

  past_packs : (n at : ℕ) (before later : List Pack) → n + length before ≤ k
      → row_for k tag (pack_rows n at (before ++ later)) ≡ row_for k tag (pack_rows (n + length before) (at + length (flat_all flat_pack before)) later)
  unfolding flat_all
  past_packs n at [] later h = ap (λ x. row_for k tag (pack_rows x at later)) (omega arith) ∙ ap (λ x. row_for k tag (pack_rows (n + 0) x later)) (omega arith)
  past_packs n at (p ∷ ps) later h =
      past_pack n at p (ps ++ later) (ne_eqb n k λ e. omega arith)
      ∙ past_packs (suc n) (at + length (flat_pack p)) ps later (omega arith)
      ∙ ap (λ x. row_for k tag (pack_rows x (at + length (flat_pack p) + length (flat_all flat_pack ps)) later)) (omega arith)
      ∙ ap (λ x. row_for k tag (pack_rows (n + suc (length ps)) x later)) (simp length-append (omega arith))

  pub none_packs : (n at : ℕ) (ps : List Pack) → k < n → row_for k tag (pack_rows n at ps) ≡ refused 18 0
  none_packs n at [] h = unfold pack_rows ask_hit in refl
  none_packs n at (p ∷ ps) h = past_pack n at p ps (ne_eqb n k λ e. omega arith) ∙ none_packs (suc n) (at + length (flat_pack p)) ps (omega arith)

  -- ---- past entries

  abbrev pub Passed : Entry → Type 0
  Passed (plain i) = eqb 0 k && eqb i.tag tag ≡ false
  Passed (series w ps) = (k ≡ 0) × (eqb 101 tag ≡ false)

  pub past_entries : (at : ℕ) (before later : List Entry) → All Passed before
      → row_for k tag (entry_rows at (before ++ later)) ≡ row_for k tag (entry_rows (at + length (flat_all flat_entry before)) later)
  unfolding entry_rows flat_all flat_entry
  past_entries at [] later h = ap (λ x. row_for k tag (entry_rows x later)) (omega arith)
  past_entries at (plain i ∷ es) later h =
      other (item_row 0 at i) _ (unfold item_row in h.0)
      ∙ past_entries (at + length (flat_item i)) es later h.1
      ∙ ap (λ x. row_for k tag (entry_rows x later)) (simp length-append (omega arith))
  past_entries at (series w ps ∷ es) later h =
      other (row 0 101 (at + 1 + w) (length (flat_all flat_pack ps))) _ (series_row (eqb 0 k) h.0.1)
      ∙ behind (pack_rows 1 (at + 1 + w) ps) _ (none_packs 1 (at + 1 + w) ps (omega (arith, h.0.0)))
      ∙ past_entries (at + length (flat_entry (series w ps))) es later h.1
      ∙ ap (λ x. row_for k tag (entry_rows x later)) (simp length-append (omega arith))
    where
      series_row : (b : Bool) → eqb 101 tag ≡ false → b && eqb 101 tag ≡ false
      series_row true z = z
      series_row false z = refl

-- ---- in packs

number_past : (id n : ℕ) (before later : List Pack) → Missed (has_id id) before → number_in id n (before ++ later) ≡ number_in id (n + length before) later
unfolding number_in
number_past id n [] later m = ap (λ x. number_in id x later) (omega arith)
number_past id n (p ∷ ps) later m = rw (m.0, number_in) (number_past id (suc n) ps later m.1 ∙ ap (λ x. number_in id x later) (omega arith))

number_hit : (id : ℕ) (before later : List Pack) (p : Pack) → Missed (has_id id) before → has_id id p ≡ true → number_in id 1 (before ++ p ∷ later) ≡ ok (1 + length before)
unfolding number_in
number_hit id before later p m h = number_past id 1 before (p ∷ later) m ∙ rw (h, number_in)

pub number_none : (id : ℕ) (ps : List Pack) → Missed (has_id id) ps → number_in id 1 ps ≡ refused 18 0
unfolding number_in
number_none id ps m = ap (number_in id 1) (sym (append-nil ps)) ∙ number_past id 1 ps [] m

pub pack_none : (id tag at : ℕ) (ps : List Pack) → Missed (has_id id) ps → pack_row_in id tag at ps ≡ refused 18 0
pack_none id tag at ps m = bind_not (number_in id 1 ps) _ 18 0 (number_none id ps m)

-- the pack with the id: its items, and no other pack's
pub pack_row : (id tag at : ℕ) (before later : List Pack) (p : Pack) → 0 < tag → Missed (has_id id) before → has_id id p ≡ true
    → pack_row_in id tag at (before ++ p ∷ later)
    ≡ row_for (1 + length before) tag (item_rows (1 + length before) (at + length (flat_all flat_pack before) + p.width + length (oid_bytes p.id)) p.items)
unfolding pack_rows
pack_row id tag at before later p pos m h =
    let k : ℕ = 1 + length before in
    let a : ℕ = at + length (flat_all flat_pack before) in
    let from : ℕ = a + p.width + length (oid_bytes p.id) in
    bind_so (number_in id 1 (before ++ p ∷ later)) _ k (number_hit id before later p m h)
    ∙ past_packs k tag 1 at before (p ∷ later) (omega arith)
    ∙ other k tag (row k 0 (a + p.width) (length (pack_body p))) _ (own_row k tag k (a + p.width) (length (pack_body p)) pos)
    ∙ front k tag (item_rows k from p.items) (pack_rows (suc k) (a + length (flat_pack p)) later) (none_packs k tag (suc k) (a + length (flat_pack p)) later (omega arith))

-- ---- in the set

later_none : (before : List Entry) (w : ℕ) (ps : List Pack) (later : List Entry) → OneSeries (before ++ series w ps ∷ later) → All (λ e. is_series e ≡ false) before → All (λ e. is_series e ≡ false) later
later_none [] w ps later o m = o
later_none (plain i ∷ es) w ps later o m = later_none es w ps later o m.1
later_none (series v qs ∷ es) w ps later o m = no_bool (sym m.0)

-- in a set with one series, a target's item is found among its packs; kept are the entries by which targets are numbered
module _ (id tag at : ℕ) (before : List Entry) (w : ℕ) (ps : List Pack) (later : List Entry) (m : All (λ e. is_series e ≡ false) before) (o : OneSeries (before ++ series w ps ∷ later)) where
  abbrev all : List Entry
  all = before ++ series w ps ∷ later

  abbrev from : ℕ
  from = at + length (flat_all flat_entry before)

  -- entries of the set's own are passed
  passes : (k : ℕ) → 0 < k → (e : Entry) → is_series e ≡ false → Passed k tag e
  passes k h (plain i) z = let n : eqb 0 k ≡ false = ne_eqb 0 k λ e. omega arith in rw n
  passes k h (series v qs) z = no_bool (sym z)

  rows_are : (k : ℕ) → 0 < k → row_for k tag (entry_rows at all) ≡ row_for k tag (pack_rows 1 (from + 1 + w) ps)
  unfolding entry_rows
  rows_are k h =
      let after : ℕ = from + length (flat_entry (series w ps)) in
      let n : eqb 0 k ≡ false = ne_eqb 0 k λ e. omega arith in
      let none : row_for k tag (entry_rows after later) ≡ refused 18 0
      = ap (λ es. row_for k tag (entry_rows after es)) (sym (append-nil later))
      ∙ past_entries k tag after later [] (all_map (λ e. is_series e ≡ false) (Passed k tag) (passes k h) later (later_none before w ps later o m))
      ∙ unfold ask_hit in refl in
      past_entries k tag at before (series w ps ∷ later) (all_map (λ e. is_series e ≡ false) (Passed k tag) (passes k h) before m)
      ∙ other_target k tag (row 0 101 (from + 1 + w) (length (flat_all flat_pack ps))) _ n
      ∙ front k tag (pack_rows 1 (from + 1 + w) ps) (entry_rows after later) none

  pub target_row : (kept : List Entry) → number_of (target id) kept ≡ number_in id 1 ps → row_in (target id) tag at kept all ≡ pack_row_in id tag (from + 1 + w) ps
  target_row kept number_is = go (place (has_id id) ps)
    where
      go : Hit (has_id id) ps ⊎ Missed (has_id id) ps → row_in (target id) tag at kept all ≡ pack_row_in id tag (from + 1 + w) ps
      go (inl a) =
          let k : ℕ = 1 + length a.before in
          let e : number_in id 1 ps ≡ ok k = ap (number_in id 1) a.list_is ∙ number_hit id a.before a.later a.it a.missed a.hits in
          bind_so (number_of (target id) kept) _ k (number_is ∙ e) ∙ rows_are k (omega arith) ∙ sym (bind_so (number_in id 1 ps) _ k e)
      go (inr none) = bind_not (number_of (target id) kept) _ 18 0 (number_is ∙ number_none id ps none) ∙ sym (pack_none id tag (from + 1 + w) ps none)
