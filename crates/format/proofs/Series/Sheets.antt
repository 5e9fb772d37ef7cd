-- The targets of a sheet: each valid and within the sheet's bytes; and those of a changed sheet.
use mathlib.Core.Path.{◌≡◌, refl, sym, ap, ◌∙◌, subst}
use Prim.Native.Nat.{ℕ, ◌≤◌}
use native.Mathlib.Omega.{arith}
use mathlib.Core.Bool.{Bool, true, false}
use mathlib.Core.List.{List, [], ◌∷◌, ◌++◌, map}
use lib.ListN.{length, length-append}
use lib.Dec.{eqb}
use Rattle.format.specs.Lists.{has, flat_all, put_in, take_out, on_hit}
use Rattle.format.specs.Table.{Form}
use Rattle.format.specs.Packet.{Packet, flat}
use Rattle.format.specs.Sheet.{Val, Target, Part, one, targets, Sheet, id_of_target, tag_of_part, target_bytes, part_bytes, content, sheet_bytes}
use Rattle.format.specs.Targets.{TargetChange, added, moved, series_now, recounted, targets_in, change_parts, change_sheet, change_packet}
use Rattle.format.specs.Valid.{All, Together, TargetValid, PartValid, Valid, SheetValid}
use Rattle.format.proofs.Words.Answers.{no_bool}
use Rattle.format.proofs.Words.Keys.{has_none}
use Rattle.format.proofs.Words.Together.{mid_less}
use Rattle.format.proofs.Table.Tags.{nameable_set}
use Rattle.format.proofs.Sheets.Content.{content_valid}
use Rattle.format.proofs.Series.Rules.{Fits, ids_in}
use Rattle.format.proofs.Series.Results.{changed_valid, changed_says}

-- ---- each

parts_targets : (f : Form) (ps : List Part) → All (PartValid f) ps → Together id_of_target (TargetValid f) (targets_in ps)
unfolding targets_in
parts_targets f [] h = record { once = tt; each = tt }
parts_targets f (one v ∷ ps) h = parts_targets f ps h.1
parts_targets f (targets ts ∷ ps) h = h.0.1

pub targets_valid : (s : Sheet) → SheetValid s → Together id_of_target (TargetValid s.form) (targets_in s.parts)
targets_valid s h = parts_targets s.form s.parts h.parts_valid.each

targets_less : (ps : List Part) → length (flat_all target_bytes (targets_in ps)) ≤ length (flat_all part_bytes ps)
unfolding targets_in flat_all part_bytes
targets_less [] = omega arith
targets_less (one v ∷ ps) = simp length-append (omega (arith, targets_less ps))
targets_less (targets ts ∷ ps) = simp length-append (omega arith)

-- a target of a sheet has no more bytes than a sheet may have
pub target_room : (s : Sheet) → SheetValid s → (before : List Target) (t : Target) (after : List Target) → targets_in s.parts ≡ before ++ (t ∷ after)
    → length (target_bytes t) ≤ 65536
unfolding sheet_bytes
target_room s h before t after e =
    omega (arith, h.small, targets_less s.parts, ap (λ ts. length (flat_all target_bytes ts)) e, mid_less target_bytes before t after)

-- ---- after a change: only the series has tag 101, so it is the one that is put or taken out

recounted_targets : (n : ℕ) (ps : List Part) → targets_in (recounted tag_of_part one n ps) ≡ targets_in ps
unfolding recounted targets_in on_hit
recounted_targets n [] = refl
recounted_targets n (one v ∷ ps) = go (recounted_targets n ps) (eqb v.tag 6) refl
  where
    go : targets_in (recounted tag_of_part one n ps) ≡ targets_in ps → (b : Bool) → eqb v.tag 6 ≡ b → targets_in (recounted tag_of_part one n (one v ∷ ps)) ≡ targets_in ps
    go ih true z = rw (z, on_hit)
    go ih false z = rw (z, on_hit) ih
recounted_targets n (targets ts ∷ ps) = refl

-- the series among parts
abbrev pub parts_now : List Target → List Part → List Part
parts_now ts ps = series_now tag_of_part targets ts ps

pub past_one : (f : Form) (ts : List Target) (v : Val) (ps : List Part) → PartValid f (one v) → parts_now ts (one v ∷ ps) ≡ one v ∷ parts_now ts ps
unfolding series_now put_in take_out
past_one f [] v ps h = rw ((nameable_set v.tag h.meets.named).1, take_out)
past_one f (t ∷ ts) v ps h = rw ((nameable_set v.tag h.meets.named).1, put_in)

no_targets : (ps : List Part) → has 101 (map tag_of_part ps) ≡ false → targets_in ps ≡ []
unfolding targets_in
no_targets [] n = refl
no_targets (one v ∷ ps) n = no_targets ps (has_none v.tag 101 (map tag_of_part ps) n).1
no_targets (targets ts ∷ ps) n = no_bool (sym (has_none 101 101 (map tag_of_part ps) n).0)

series_targets : (f : Form) (ts : List Target) (ps : List Part) → Together tag_of_part (PartValid f) ps → targets_in (parts_now ts ps) ≡ ts
unfolding targets_in series_now put_in take_out
series_targets f [] [] h = refl
series_targets f (t ∷ ts) [] h = refl
series_targets f ts (one v ∷ ps) h = rw (past_one f ts v ps h.each.0) (series_targets f ts ps (record { once = h.once.1; each = h.each.1 }))
series_targets f [] (targets us ∷ ps) h = no_targets ps h.once.0
series_targets f (t ∷ ts) (targets us ∷ ps) h = refl

pub targets_now : (c : TargetChange) (s : Sheet) → SheetValid s → targets_in (change_sheet c s).parts ≡ moved id_of_target (λ t. t) c (targets_in s.parts)
unfolding change_sheet change_parts
targets_now c s h = recounted_targets _ _ ∙ series_targets s.form (moved id_of_target (λ t. t) c (targets_in s.parts)) s.parts h.parts_valid

-- a target that a packet can take is within a sheet's bytes
pub added_room : (t : Target) (p : Packet) → Valid p → Fits p.form (ids_in p) (added t) → length (flat (change_packet (added t) p)) ≤ 8192 → length (target_bytes t) ≤ 65536
unfolding moved
added_room t p v fits l =
    let s : Sheet = change_sheet (added t) (content p) in
    let h : SheetValid s = subst SheetValid (changed_says p.form (added t) p fits.0) (content_valid _ (changed_valid (added t) p v fits l)) in
    target_room s h (targets_in (content p).parts) t [] (targets_now (added t) (content p) (content_valid p v))
