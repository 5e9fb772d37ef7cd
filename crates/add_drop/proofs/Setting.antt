-- A target added to a set that was checked, or dropped from it, case by case: what the rules say, and the entries as they are put.
use mathlib.Core.Path.{◌≡◌, refl, sym, ap, ◌∙◌, subst}
use Prim.Native.Nat.{ℕ, ◌+◌, ◌-◌, ◌*◌, ◌≤◌, ◌<◌}
use native.Mathlib.Omega.{arith}
use mathlib.Core.Bool.{Bool, true, false, not}
use mathlib.Core.List.{List, [], ◌∷◌, append-nil, map}
use lib.ListN.{length, length-append, length-map}
use lib.Dec.{eqb}
use borrow.Author.Tests.{eqb-true, eq-eqb}
use Rattle.std.specs.Prelude.{Result, Ok, Err}
use Rattle.format.specs.Answer.{Ans, ok, refused, need, got}
use Rattle.format.specs.Coding.{Bytes}
use Rattle.format.specs.Lists.{has, flat_all}
use Rattle.format.specs.Run.{skip, run}
use Rattle.format.specs.Table.{Form, pack, ended}
use Rattle.format.specs.Packet.{id_of_pack, flat_pack, flat_entry}
use Rattle.format.specs.Sheet.{Target, tag_of_val, id_of_target, target_bytes, content}
use Rattle.format.specs.Calls.{pack_of}
use Rattle.format.specs.Room.{leaves}
use Rattle.format.specs.Targets.{TargetChange, added, dropped, targets_in, packs_in, change_entries, new_target, target_rules}
use Rattle.format.proofs.Words.Answers.{no_bool}
use Rattle.format.proofs.Series.Rules.{ids_say}
use Rattle.format.proofs.Series.Records.{new_says, targets_run_lem}
use Rattle.items.proofs.Tests.{bind_so, bind_not, need_so, need_not}
use Rattle.tally.specs.Runs.{Ran, made_of}
use Rattle.coding.specs.declared.refusals.Fault.{Fault}
use Rattle.coding.specs.declared.refusals.Refusal.{Refusal}
use Rattle.coding.specs.Refusals.{number, placed}
use Rattle.coding.proofs.Tried.{placed_ok, placed_err}
use Rattle.tally.specs.Meet.{unended, ended_by, bit_of}
use Rattle.tally.proofs.Tried.{unended_not}
use Rattle.tally.proofs.Bits.{bits_map}
use Rattle.tally.proofs.Ends.{ended_says}
use Rattle.tally.proofs.Totals.{target_normal_lem, target_sheet}
use Rattle.tally_records.proofs.Runs.{vals_dense}
use Rattle.find.specs.declared.around.Series.{Series}
use Rattle.find.specs.Places.{SetOf, kept_of}
use Rattle.find.specs.Series.{series_in}
use Rattle.find.proofs.Arounds.{pack_there, pack_not, in_order, count_few}
use Rattle.check_target.specs.declared.Told.{Told}
use Rattle.check_target.specs.Meet.{target_told, held_by, Measures, ToldAs}
use Rattle.write_packet.specs.Meet.{targets_run, target_normal, targets_normal}
use Rattle.edit_rules.specs.Meet.{sheet_of}
use Rattle.target_bytes.specs.Meet.{series_size, packs_size, series_put, entries_put}
use Rattle.target_bytes.proofs.Sizes.{series_none, series_some, series_put_long}
use Rattle.target_bytes.proofs.Storing.{no_records}
use Rattle.target_bytes.proofs.Changed.{added_bytes_lem, dropped_bytes_lem}
use Rattle.answers.specs.Meet.{Answer, answer_of, EntriesPacked}
use Rattle.answers.proofs.Leaving.{left_refused}
use Rattle.answers.proofs.Entries.{entries_over}
use Rattle.add_drop.specs.Meet.{set_changed, SetChanges, Changing}

-- ---- any change

module _ (f : Form) (s : List ℕ) (c : TargetChange) (lent : List ℕ) {a : Answer} where
  pub rules_left : {n : ℕ} → target_rules c (sheet_of f s) ≡ refused n 0 → a ≡ answer_of n 0 → SetChanges f c s lent a lent
  unfolding set_changed
  rules_left e ea = left_refused lent (bind_not _ _ _ _ e) ea

  packed_left : target_rules c (sheet_of f s) ≡ ok tt → {bytes : List ℕ} → flat_all flat_entry (change_entries c (kept_of f s)) ≡ bytes
      → {left : List ℕ} → EntriesPacked f bytes lent a left → SetChanges f c s lent a left
  unfolding set_changed
  packed_left e z p = p (change_entries c (kept_of f s)) z ∙ ap (leaves lent) (sym (bind_so _ _ tt e))

-- the ids of what the set says
ids_at : (f : Form) (s : List ℕ) → map id_of_target (targets_in (sheet_of f s).parts) ≡ map id_of_pack (packs_in (kept_of f s))
unfolding content
ids_at f s = ids_say (record { form = f; width = 0; entries = kept_of f s; sum = [] })

-- ---- a drop

has_some : (x : ℕ) (xs : List ℕ) → has x xs ≡ true → 1 ≤ length xs
unfolding has
has_some x [] e = no_bool e
has_some x (y ∷ ys) e = omega arith

module _ (f : Form) (s : List ℕ) (b : Bytes s) (k : SetOf f s) (i : ℕ) {r : Series} (er : r ≡ series_in i (kept_of f s)) where
  pub drop_absent : r.last ≤ r.pack → target_rules (dropped i) (sheet_of f s) ≡ refused 18 0
  unfolding target_rules need
  drop_absent h = rw (ids_at f s, pack_not i (kept_of f s) er h)

  module _ (h : r.pack < r.last) where
    there : has i (map id_of_pack (packs_in (kept_of f s))) ≡ true
    there = pack_there i (kept_of f s) er h

    -- there is one, to be counted off
    pub drop_some : 1 ≤ r.count
    drop_some = omega (arith, has_some i (map id_of_pack (packs_in (kept_of f s))) there, length-map (packs_in (kept_of f s)) id_of_pack, ap (λ y. y.count) er)

    drop_met : target_rules (dropped i) (sheet_of f s) ≡ ok tt
    unfolding target_rules need
    drop_met = rw (ids_at f s, there)

    abbrev dropped_bytes : List ℕ → List ℕ
    dropped_bytes x = entries_put s r (r.count - 1) (targets_normal f x)

    module _ {x : List ℕ} (ex : x ≡ []) where
      none : targets_normal f x ≡ []
      none = no_records f ex

      dropped_are : flat_all flat_entry (change_entries (dropped i) (kept_of f s)) ≡ dropped_bytes x
      dropped_are = dropped_bytes_lem f s b k i there er ∙ ap (λ n. entries_put s r (n - 1) []) (sym (ap (λ y. y.count) er)) ∙ ap (entries_put s r (r.count - 1)) (sym none)

      pub drop_asked : Changing f s r (r.count - 1) 0 x
      unfolding targets_run run skip
      drop_asked = record {
        putting = record {
          short = k.short;
          ordered = in_order f s b k i er;
          few = omega (arith, count_few f s b k i er);
          size = ap (λ y. packs_size r (length y)) (sym none);
          few_records = omega (arith, ap length ex);
          ran = rw ex tt;
          small = omega (arith, ap length none);
        };
        size = sym (ap length none);
        entered = (change_entries (dropped i) (kept_of f s), dropped_are);
      }

      pub drop_left : (lent left : List ℕ) {a : Answer} → EntriesPacked f (dropped_bytes x) lent a left → SetChanges f (dropped i) s lent a left
      drop_left lent left p = packed_left f s (dropped i) lent drop_met dropped_are p

-- ---- an addition

-- what the code was told of the records, of the target that they are
pub told_then : {X : Type 0} (x : Ans Target) (d : Told) → ToldAs x (target_told (Ok d)) → ((t : Target) → x ≡ ok t → X) → X
told_then (ok t) d h k = k t refl
told_then (refused n p) d h k = absurd h

series_more : (m : ℕ) → m ≤ series_size m
series_more m = go (eqb m 0) refl
  where
    go : (x : Bool) → eqb m 0 ≡ x → m ≤ series_size m
    go true z = omega (arith, eqb-true m 0 z)
    go false z = omega (arith, series_some m (λ e. no_bool (sym z ∙ eq-eqb m 0 e)) refl)

-- the code at the set with the place r of the id that it was told; t is the target that the records are
pub record Asking (f : Form) (s records : List ℕ) (d : Told) (r : Series) (t : Target) : Type 0 where
  pub bytes : Bytes s
  pub set_of : SetOf f s
  pub say : ToldAs (new_target f records) (target_told (Ok d))
  pub found : r ≡ series_in d.id (kept_of f s)
  pub it : new_target f records ≡ ok t

pub asking : {f : Form} {s records : List ℕ} (d : Told) {r : Series} {t : Target} → Bytes s → SetOf f s × ToldAs (new_target f records) (target_told (Ok d)) → r ≡ series_in d.id (kept_of f s)
    → new_target f records ≡ ok t → Asking f s records d r t
asking d b q e i = record { bytes = b; set_of = q.0; say = q.1; found = e; it = i }

-- the rules that a target does not meet at its end, as a `?` finds them
pub ended_not : (r : Result (Unit {0}) Refusal) {e : Fault} → Err e ≡ placed 0 r → (answer_of (number e.refusal) e.place ≡ answer_of (unended r) 0) × (unended r ≡ 0 → ⊥)
ended_not r h =
    let (x, ex, ee) = placed_err 0 r (sym h) in
    let (n, z) = unended_not ex in
    (ap (λ (d : Fault). answer_of (number d.refusal) d.place) (sym ee) ∙ ap (λ m. answer_of m 0) (sym n), z)

pub ended_so : (r : Result (Unit {0}) Refusal) {u : Unit {0}} → Ok u ≡ placed 0 r → unended r ≡ 0
ended_so r h = ap unended (placed_ok 0 r (sym h))

module _ {f : Form} {s records : List ℕ} {d : Told} {r : Series} {t : Target} (q : Asking f s records d r t) where
  said : ToldAs (ok t) (target_told (Ok d))
  said = subst (λ x. ToldAs x (target_told (Ok d))) q.it q.say

  found : r ≡ series_in t.id (kept_of f s)
  found = q.found ∙ ap (λ i. series_in i (kept_of f s)) said.0

  ids : map id_of_target (targets_in (sheet_of f s).parts) ≡ map id_of_pack (packs_in (kept_of f s))
  ids = ids_at f s

  pub add_stands : r.pack < r.last → target_rules (added t) (sheet_of f s) ≡ refused 10 0
  unfolding target_rules
  add_stands h = need_not _ _ _ (ap not (ap (has t.id) ids ∙ pack_there t.id (kept_of f s) found h))

  module _ (h : r.last ≤ r.pack) where
    new : has t.id (map id_of_pack (packs_in (kept_of f s))) ≡ false
    new = pack_not t.id (kept_of f s) found h

    ends : target_rules (added t) (sheet_of f s) ≡ ended f (map tag_of_val t.vals)
    unfolding target_rules
    ends = need_so _ _ _ (ap not (ap (has t.id) ids ∙ new))

    module _ {number : ℕ} (en : number ≡ ended_by f d.held) where
      by_tags : (number ≡ 0 → ended f (map tag_of_val t.vals) ≡ ok tt) × ((number ≡ 0 → ⊥) → ended f (map tag_of_val t.vals) ≡ refused number 0)
      by_tags = ended_says f (map tag_of_val t.vals) en (sym (bits_map tag_of_val bit_of t.vals) ∙ sym said.1)

      pub add_unended : (number ≡ 0 → ⊥) → target_rules (added t) (sheet_of f s) ≡ refused number 0
      add_unended z = ends ∙ by_tags.1 z

      module _ (z : number ≡ 0) where
        add_met : target_rules (added t) (sheet_of f s) ≡ ok tt
        add_met = ends ∙ by_tags.0 z

        -- the records are read as that target, and make its pack
        ran : targets_run f records ≡ ok (got (t ∷ []) (length records))
        unfolding targets_run
        ran = targets_run_lem f records t q.it (by_tags.0 z)

        made : targets_normal f records ≡ flat_pack (pack_of t)
        unfolding flat_all
        made = ap (made_of (flat_all target_normal)) ran ∙ append-nil (flat_pack (pack_of t))

        abbrev added_bytes : List ℕ
        added_bytes = entries_put s r (r.count + 1) (targets_normal f records)

        added_are : flat_all flat_entry (change_entries (added t) (kept_of f s)) ≡ added_bytes
        added_are =
            added_bytes_lem f s q.bytes q.set_of t new found
            ∙ ap (λ n. entries_put s r (n + 1) (flat_pack (pack_of t))) (sym (ap (λ y. y.count) q.found))
            ∙ ap (entries_put s r (r.count + 1)) (sym made)

        long : length (targets_normal f records) ≤ length added_bytes
        unfolding entries_put
        long =
            let l = series_put_long s r (in_order f s q.bytes q.set_of d.id q.found) (targets_normal f records) in
            let m = series_more (packs_size r (length (targets_normal f records))) in
            simp length-append (omega (arith, l, m))

        pub add_over : 8192 < d.size → (lent : List ℕ) {a : Answer} → a ≡ answer_of 1 0 → SetChanges f (added t) s lent a lent
        add_over g lent ea = packed_left f s (added t) lent add_met added_are (entries_over f added_bytes (omega (arith, said.2.1 g, ap length made, long)) lent ea)

        module _ (br : Bytes records) (g : d.size ≤ 8192) where
          few : length records ≤ 65536
          few =
              let l = ap length (new_says f records t br q.it).0 in
              let n = target_normal_lem t in
              omega (arith, l, target_sheet t, n, said.2.0 g, vals_dense t.vals)

          pub add_asked : Changing f s r (r.count + 1) d.size records
          add_asked = record {
            putting = record {
              short = q.set_of.short;
              ordered = in_order f s q.bytes q.set_of d.id q.found;
              few = omega (arith, count_few f s q.bytes q.set_of d.id q.found);
              size = ap (packs_size r) (said.2.0 g ∙ sym (ap length made));
              few_records = few;
              ran = subst Ran (sym ran) tt;
              small = omega (arith, ap length made, said.2.0 g);
            };
            size = said.2.0 g ∙ sym (ap length made);
            entered = (change_entries (added t) (kept_of f s), added_are);
          }

          pub add_left : (lent left : List ℕ) {a : Answer} → EntriesPacked f added_bytes lent a left → SetChanges f (added t) s lent a left
          add_left lent left p = packed_left f s (added t) lent add_met added_are p
