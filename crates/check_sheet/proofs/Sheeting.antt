-- The whole sheet, case by case, as the code reads it.
use mathlib.Core.Path.{◌≡◌, refl, sym, ap, ◌∙◌}
use Prim.Native.Nat.{ℕ, zero, suc, ◌+◌, ◌-◌, ◌≤◌, ◌<◌}
use native.Mathlib.Omega.{arith}
use native.Mathlib.Nat.{add-zero}
use mathlib.Core.Bool.{Bool, true, false, not, ◌&&◌, ◌||◌}
use mathlib.Core.List.{List, [], ◌∷◌, map}
use lib.ListN.{length, take, drop, get_or, drop_of_length-le}
use lib.Seq.{drop-cons}
use mathlib.Core.Logic.{◌⊎◌, inl, inr}
use lib.Dec.{eqb}
use borrow.Author.Tests.{le-leb, lt-leb, eq-eqb, ne_eqb}
use Rattle.std.proofs.Common.{Result, Err}
use Rattle.std.specs.Result.{IsErr, IsErrAnd}
use Rattle.std.proofs.lemmas.Result.{err_from_is_err_and}
use Rattle.format.specs.Answer.{Ans, ok, refused, Got, ◌>>=◌, need, after}
use Rattle.format.specs.Coding.{Bytes}
use Rattle.format.specs.Lists.{none?, flat_all}
use Rattle.format.specs.Table.{Form, Level, set, is_alone, is_set}
use Rattle.format.specs.Packet.{flat_entry}
use Rattle.format.specs.Run.{run, always}
use Rattle.format.specs.Sheet.{Part, one, targets, Sheet, tag_of_part, PK, is, part_at, sheet_limit, unsheet}
use Rattle.format.specs.Sheet as sheet
use Rattle.format.specs.Calls.{entry_of}
use Rattle.format.specs.Valid.{All, PartValid}
use Rattle.format.proofs.Words.Answers.{after_ok, need_ok}
use Rattle.format.proofs.Table.Tags.{nameable_set}
use Rattle.format.proofs.Sheets.Sheets.{sheet_says}
use Rattle.coding.proofs.Rooms.{tail_part}
use Rattle.coding.specs.declared.refusals.Fault.{Fault}
use Rattle.coding.specs.declared.refusals.Refusal.{Refusal}
use Rattle.coding.specs.Refusals.{number, fault, later}
use Rattle.coding.proofs.Tried.{later_err}
use Rattle.items.specs.Meet.{form_of}
use Rattle.items.proofs.Tests.{bind_so, bind_not, need_so, need_not}
use Rattle.tally.specs.declared.Sizes.{Sizes}
use Rattle.tally.specs.Pieces.{Walked}
use Rattle.tally.specs.Pieces.{Good, Bad}
use Rattle.tally.specs.declared.Walked as walks
use Rattle.tally.specs.Meet.{walked as walked_by, item_sizes, total, bit_of, weight_of_part, walked_of}
use Rattle.tally.proofs.Totals.{NoSeal, parts_normal}
use Rattle.tally.proofs.Series.{after_not}
use Rattle.check_sheet.specs.Sheets.{Sheeted, Fine, Wrong}
use Rattle.tally_records.specs.Meet.{part_step, weight_at, records_walk}
use Rattle.check_sheet.specs.declared.Sheeted as code
use Rattle.check_sheet.specs.Meet.{sheeted, sheeted_of}
use Rattle.tally.proofs.Maps.{Walk, walked_good, walked_bad}

-- ---- the form

form_is : (b : ℕ) (t : List ℕ) → b ≤ 1 → sheet.form_of (b ∷ t) ≡ ok (form_of (eqb b 1))
form_is zero t h = refl
form_is (suc zero) t h = refl
form_is (suc (suc b)) t h = absurd (omega arith)

form_not : (b : ℕ) (t : List ℕ) → 1 < b → sheet.form_of (b ∷ t) ≡ refused 17 0
form_not zero t h = absurd (omega arith)
form_not (suc zero) t h = absurd (omega arith)
form_not (suc (suc b)) t h = refl

alone_is : (b : Bool) → is_alone (form_of b) ≡ b
alone_is true = refl
alone_is false = refl

-- ---- the parts

-- a part has a row, so no rows are no parts
item_row_lem : (l : Level) (tag n : ℕ) → (item_sizes l tag n).rows ≡ 1
unfolding item_sizes
item_row_lem l tag n = go (is_set l && eqb tag 1) refl
  where
    go : (b : Bool) → is_set l && eqb tag 1 ≡ b → (item_sizes l tag n).rows ≡ 1
    go true z = rw (z, item_sizes)
    go false z = rw (z, item_sizes)

part_row : (p : Part) → 0 < (weight_of_part p).rows
part_row (one v) = omega (arith, item_row_lem set v.tag (length v.value))
part_row (targets ts) = omega arith

no_rows : (ps : List Part) → none? ps ≡ eqb (total weight_of_part ps).rows 0
unfolding total
no_rows [] = refl
no_rows (p ∷ ps) = sym (ne_eqb ((weight_of_part p).rows + (total weight_of_part ps).rows) 0 (λ e. omega (arith, e, part_row p)))

-- no sheet has a checksum
pub no_seal : (f : Form) (ps : List Part) → All (PartValid f) ps → NoSeal ps
no_seal f [] h = tt
no_seal f (one v ∷ ps) h = ((nameable_set v.tag h.0.meets.named).0, no_seal f ps h.1)
no_seal f (targets ts ∷ ps) h = (refl, no_seal f ps h.1)

weight_set : weight_at set ≡ weight_of_part
weight_set i p = same p i
  where
    same : (p : Part) → weight_at set p ≡ weight_of_part p
    same (one v) = refl
    same (targets ts) = refl

abbrev parts_run : Form → List ℕ → Ans (Got (List Part))
parts_run f t = run always tag_of_part (part_at f) t

walk_run : (f : Form) (t : List ℕ) → records_walk set f t ≡ walked_of weight_of_part (λ p. bit_of (tag_of_part p)) (parts_run f t)
unfolding records_walk part_step
walk_run f t = ap (λ weight. walked_of weight (λ p. bit_of (tag_of_part p)) (parts_run f t)) weight_set

or_true : (b : Bool) → b || true ≡ true
or_true true = refl
or_true false = refl

-- ---- a refusal as the code says it

pub wrong_at : {d : Fault} {x : Refusal} {p : ℕ} → d ≡ fault x p → Wrong (number d.refusal) d.place ≡ Wrong (number x) p
wrong_at e = ap (λ (d : Fault). Wrong (number d.refusal) d.place) e

pub sheeted_err : (r : Result code.Sheeted Fault) (d : Fault) → IsErr r × IsErrAnd r (λ e. e ≡ d) → sheeted r ≡ Wrong (number d.refusal) d.place
sheeted_err r d h = let p = err_from_is_err_and r h.1 in rw (p.1, p.2)

-- ---- 1, 17, the parts, 14

need_no : (t : Bool) (n : ℕ) → t ≡ false → need t n ≡ refused n 0
unfolding need
need_no t n e = rw e

module _ (s : List ℕ) where
  pub check_long : {r : Sheeted} → r ≡ Wrong 1 0 → 65536 < length s → r ≡ sheeted_of (unsheet s)
  unfolding unsheet sheet_limit
  check_long e h = e ∙ ap sheeted_of (sym (need_not _ _ _ (lt-leb (length s) 65536 h)))

  abbrev ends : Form → Got (List Part) → Ans Sheet
  ends f ps = after (length s) (need (not (is_alone f) || not (none? ps.val)) 14) >>= λ _. ok (record { form = f; parts = ps.val })

  abbrev begins : Form → Ans Sheet
  begins f = after 3 (parts_run f (drop 3 s)) >>= ends f

  module _ (l : length s ≤ 65536) where
    small : unsheet s ≡ (need (is PK s) 17 >>= λ _. sheet.form_of (drop 2 s) >>= begins)
    unfolding unsheet sheet_limit
    small = need_so _ _ _ (le-leb (length s) 65536 l)

    check_mark : {r : Sheeted} → r ≡ Wrong 17 0 → is PK s ≡ false → r ≡ sheeted_of (unsheet s)
    check_mark e m = e ∙ ap sheeted_of (sym (small ∙ need_not _ _ _ m))

    unformed : is PK s ≡ true → sheet.form_of (drop 2 s) ≡ refused 17 0 → unsheet s ≡ refused 17 0
    unformed m f = small ∙ need_so _ _ _ m ∙ bind_not (sheet.form_of (drop 2 s)) begins 17 0 f

    pub check_cut : {r : Sheeted} → r ≡ Wrong 17 0 → length s < 3 → r ≡ sheeted_of (unsheet s)
    check_cut {r = r} e h = go (is PK s) refl
      where
        go : (b : Bool) → is PK s ≡ b → r ≡ sheeted_of (unsheet s)
        go true m = e ∙ ap sheeted_of (sym (unformed m (ap sheet.form_of (drop_of_length-le s {i = 2} (omega arith)))))
        go false m = check_mark e m

    -- x: `PK` stands first
    pub check_unmarked : {r : Sheeted} → r ≡ Wrong 17 0 → {x : Bool} → x ≡ is PK s → x ≡ false → r ≡ sheeted_of (unsheet s)
    check_unmarked e {x} ex tx = check_mark e (sym ex ∙ tx)

    module _ (h : 3 ≤ length s) {x : Bool} (ex : x ≡ is PK s) (tx : x ≡ true) where
      m : is PK s ≡ true
      m = sym ex ∙ tx

      third : drop 2 s ≡ get_or s 2 0 ∷ drop 3 s
      third = drop-cons s 2 0 (omega arith)

      pub check_form : {r : Sheeted} → r ≡ Wrong 17 0 → 1 < get_or s 2 0 → r ≡ sheeted_of (unsheet s)
      check_form e g = e ∙ ap sheeted_of (sym (unformed m (ap sheet.form_of third ∙ form_not (get_or s 2 0) (drop 3 s) g)))

      module _ (g : get_or s 2 0 ≤ 1) where
        abbrev form : Form
        form = form_of (eqb (get_or s 2 0) 1)

        opened : unsheet s ≡ begins form
        opened = small ∙ need_so _ _ _ m ∙ bind_so (sheet.form_of (drop 2 s)) begins form (ap sheet.form_of third ∙ form_is (get_or s 2 0) (drop 3 s) g)

        -- w is the answer on the parts
        module _ {w : Walked} (ew : w ≡ records_walk set form (take (length s - 3) (drop 3 s))) where
          walked : w ≡ walked_of weight_of_part (λ p. bit_of (tag_of_part p)) (parts_run form (drop 3 s))
          walked = ew ∙ ap (records_walk set form) (tail_part 3 s) ∙ walk_run form (drop 3 s)

          pub check_bad : {n q : ℕ} {r : Sheeted} → w ≡ Bad n q → r ≡ Wrong n (3 + q) → r ≡ sheeted_of (unsheet s)
          check_bad {n = n} {q = q} t e =
              let x = walked_bad weight_of_part _ (parts_run form (drop 3 s)) n q (sym t ∙ walked) in
              e ∙ ap sheeted_of (sym (opened ∙ bind_not _ (ends form) n (3 + q) (after_not 3 _ n q x)))

          -- as the code passes it on
          pub check_stop : (y : Result walks.Walked Fault) → walked_by y ≡ w → {r : Result walks.Walked Fault} → r ≡ later 3 y → {d : Fault} → r ≡ Err d → Wrong (number d.refusal) d.place ≡ sheeted_of (unsheet s)
          check_stop y ey er {d} t =
              let (x, es, ed) = later_err 3 y (sym er ∙ t) in
              check_bad (sym ey ∙ ap walked_by es) (ap (λ (e : Fault). Wrong (number e.refusal) e.place) (sym ed))

          module _ {z : Sizes} {c : ℕ} (t : w ≡ Good z c) where
            parts : Walk weight_of_part (λ p. bit_of (tag_of_part p)) (parts_run form (drop 3 s)) z c
            parts = walked_good weight_of_part _ (parts_run form (drop 3 s)) z c (sym t ∙ walked)

            ended : unsheet s ≡ ends form parts.rs
            ended = opened ∙ bind_so _ (ends form) parts.rs (after_ok 3 _ parts.rs parts.ran)

            -- no part is wanted, or there is one
            some : not (is_alone form) || not (none? parts.rs.val) ≡ not (eqb (get_or s 2 0) 1) || not (eqb z.rows 0)
            some =
                let a : none? parts.rs.val ≡ eqb z.rows 0 = no_rows parts.rs.val ∙ ap (λ (y : Sizes). eqb y.rows 0) parts.weighs in
                ap (λ x. not x || not (none? parts.rs.val)) (alone_is (eqb (get_or s 2 0) 1)) ∙ ap (λ x. not (eqb (get_or s 2 0) 1) || not x) a

            pub check_none : {r : Sheeted} → r ≡ Wrong 14 (length s) → get_or s 2 0 ≡ 1 → z.rows ≡ 0 → r ≡ sheeted_of (unsheet s)
            check_none e alone none =
                let wanted : not (eqb (get_or s 2 0) 1) || not (eqb z.rows 0) ≡ false = rw (eq-eqb (get_or s 2 0) 1 alone, eq-eqb z.rows 0 none) in
                let x : unsheet s ≡ refused 14 (length s + 0) = ended ∙ bind_not _ _ 14 _ (after_not (length s) _ 14 0 (need_no _ 14 (some ∙ wanted))) in
                e ∙ ap (Wrong 14) (sym (add-zero (length s))) ∙ ap sheeted_of (sym x)

            enough : ((get_or s 2 0 ≡ 1) × (z.rows ≡ 0 → ⊥)) ⊎ (get_or s 2 0 ≡ 1 → ⊥) → not (eqb (get_or s 2 0) 1) || not (eqb z.rows 0) ≡ true
            enough (inl h) = ap (λ x. not (eqb (get_or s 2 0) 1) || not x) (ne_eqb z.rows 0 h.1) ∙ or_true (not (eqb (get_or s 2 0) 1))
            enough (inr h) = ap (λ x. not x || not (eqb z.rows 0)) (ne_eqb (get_or s 2 0) 1 h)

            pub check_good : Bytes s → ((get_or s 2 0 ≡ 1) × (z.rows ≡ 0 → ⊥)) ⊎ (get_or s 2 0 ≡ 1 → ⊥) → Fine (eqb (get_or s 2 0) 1) z.normal z.inner ≡ sheeted_of (unsheet s)
            check_good b either =
                let u : Sheet = record { form = form; parts = parts.rs.val } in
                let x : unsheet s ≡ ok u = ended ∙ bind_so _ _ tt (after_ok (length s) _ tt (need_ok _ 14 (some ∙ enough either))) in
                let valid = (sheet_says s u b x).1 in
                let n : length (flat_all flat_entry (map entry_of parts.rs.val)) ≡ z.normal
                = parts_normal parts.rs.val (no_seal form parts.rs.val valid.parts_valid.each) ∙ ap (λ (y : Sizes). y.normal) parts.weighs in
                let i : (total weight_of_part parts.rs.val).inner ≡ z.inner = ap (λ (y : Sizes). y.inner) parts.weighs in
                let y : sheeted_of (ok u) ≡ Fine (eqb (get_or s 2 0) 1) z.normal z.inner = λ j. Fine (alone_is (eqb (get_or s 2 0) 1) j) (n j) (i j) in
                sym (ap sheeted_of x ∙ y)
