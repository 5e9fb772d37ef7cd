-- The packet of a sheet that was read: what its parts write, and how many bytes the packs of its series take.
use mathlib.Core.Path.{◌≡◌, refl, sym, ap, ◌∙◌}
use mathlib.Core.Logic.{◌⊎◌, inl, inr}
use Prim.Native.Nat.{ℕ, ◌≤◌, ◌<◌}
use native.Mathlib.Omega.{arith}
use mathlib.Core.List.{List, [], ◌∷◌, map}
use lib.ListN.{length, drop, length-drop}
use borrow.Author.Tests.{leb-true}
use Rattle.format.specs.Answer.{ok, Got}
use Rattle.format.specs.Coding.{Bytes}
use Rattle.format.specs.Lists.{flat_all}
use Rattle.format.specs.Table.{Form, set}
use Rattle.format.specs.Run.{run, always}
use Rattle.format.specs.Packet.{flat_pack, flat_entry}
use Rattle.format.specs.Sheet.{Part, one, targets, Sheet, tag_of_part, part_at, form_of, sheet_limit, unsheet}
use Rattle.format.specs.Calls.{pack_of, entry_of}
use Rattle.format.specs.Valid.{Once}
use Rattle.format.proofs.Words.Answers.{never, bind_then, need_then, after_then, after_need_then, ok_inj}
use Rattle.format.proofs.Sheets.Sheets.{sheet_says}
use Rattle.tally.specs.Meet.{total, weight_of_part}
use Rattle.tally.specs.Runs.{Ran, made_of}
use Rattle.tally.proofs.Inners.{one_inside}
use Rattle.tally.proofs.Totals.{val_inner, targets_normal_lem}
use Rattle.tally_records.specs.Meet.{part_step}
use Rattle.write_laws.proofs.Entries.{ran_ok}
use Rattle.write_packet.specs.Meet.{records_run, part_normal, records_normal, InnerPart, InnerParts}
use Rattle.write_packet.proofs.Forms.{flat_map}

-- ---- what was read

form_some : (s : List ℕ) (f : Form) → form_of s ≡ ok f → 0 < length s
form_some [] f e = never 17 0 f e
form_some (x ∷ s) f e = omega arith

pub record SheetRead (b : List ℕ) (t : Sheet) : Type 0 where
  pub three : 3 ≤ length b
  pub most : length b ≤ 65536
  pub ps : Got (List Part)
  pub runs : records_run set t.form (drop 3 b) ≡ ok ps
  pub parts_are : t.parts ≡ ps.val
  pub once : Once (map tag_of_part t.parts)

pub sheet_read : (b : List ℕ) (t : Sheet) → Bytes b → unsheet b ≡ ok t → SheetRead b t
unfolding unsheet sheet_limit records_run part_step
sheet_read b t h e =
    let v = (sheet_says b t h e).1.parts_valid.once in
    need_then _ _ _ _ e λ l e₁.
    need_then _ _ _ _ e₁ λ _ e₂.
    bind_then _ _ _ e₂ λ f ef e₃.
    after_then _ _ _ _ e₃ λ ps eps e₄.
    after_need_then _ _ _ _ _ e₄ λ _ e₅.
    let et = ok_inj _ _ e₅ in
    record {
      three = omega (arith, form_some (drop 2 b) f ef, length-drop 2 b);
      most = leb-true (length b) 65536 l;
      ps = ps;
      runs = ap (λ (x : Sheet). run always tag_of_part (part_at x.form) (drop 3 b)) (sym et) ∙ eps;
      parts_are = ap (λ (x : Sheet). x.parts) (sym et);
      once = v;
    }

-- ---- one series at most

part_inside : (n : ℕ) (p : Part) → (((weight_of_part p).inner ≡ 0) × InnerPart n p) ⊎ ((tag_of_part p ≡ 101) × (n ≡ (weight_of_part p).inner → InnerPart n p))
part_inside n (one v) = inl (val_inner set v, tt)
part_inside n (targets ts) = inr (refl, λ e. e ∙ sym (targets_normal_lem ts) ∙ ap length (flat_map pack_of flat_pack ts))

-- ---- what the writer is asked and tells

module _ {b : List ℕ} {t : Sheet} (k : SheetRead b t) where
  pub packet_whole : flat_all flat_entry (map entry_of t.parts) ≡ records_normal set t.form (drop 3 b)
  packet_whole = flat_map entry_of flat_entry t.parts ∙ ap (flat_all part_normal) k.parts_are ∙ ap (made_of (flat_all part_normal)) (sym k.runs)

  pub parts_ran : Ran (records_run set t.form (drop 3 b))
  parts_ran = ran_ok (records_run set t.form (drop 3 b)) k.runs

  pub inner_parts : {n : ℕ} → n ≡ (total weight_of_part t.parts).inner → InnerParts n (records_run set t.form (drop 3 b))
  inner_parts {n} e = rw (k.runs, ← k.parts_are) (one_inside tag_of_part weight_of_part InnerPart 101 part_inside n t.parts k.once e)
