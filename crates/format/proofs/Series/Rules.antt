-- What the rules on a target added or dropped say of a change that they let through, and the other way.
use mathlib.Core.Path.{◌≡◌, refl, ap, ◌∙◌, subst}
use Prim.Native.Nat.{ℕ, ◌<◌, ◌^◌}
use mathlib.Core.List.{List, [], ◌∷◌, map}
use borrow.Author.Tests.{not-true}
use Rattle.format.specs.Answer.{ok, ◌>>=◌, need}
use Rattle.format.specs.Table.{Form, pack}
use Rattle.format.specs.Packet.{Entry, plain, series, Packet, id_of_pack}
use Rattle.format.specs.Sheet.{Target, Sheet, tag_of_val, id_of_target, target_of, part_of, content}
use Rattle.format.specs.Targets.{TargetChange, added, dropped, targets_in, packs_in, target_rules}
use Rattle.format.specs.Valid.{Together, ValValid, TargetValid}
use Rattle.format.proofs.Words.Answers.{need_then, need_last}
use Rattle.format.proofs.Words.Together.{map_keys}
use Rattle.format.proofs.Sheets.Content.{target_id, content_form}
use Rattle.format.proofs.Series.Moves.{Of, IdFits}

-- what a target's records say of it, before the rule where it ends
pub record NewValid (f : Form) (t : Target) : Type 0 where
  pub id_range : t.id < 2 ^ 63
  pub vals_valid : Together tag_of_val (ValValid pack f) t.vals

-- a change that may be made where the targets have these ids
abbrev pub Fits : Form → List ℕ → TargetChange → Type 0
Fits f ids c = Of (TargetValid f) c × IdFits ids c

-- ---- on a sheet

abbrev pub ids_of : Sheet → List ℕ
ids_of s = map id_of_target (targets_in s.parts)

rules_fit : (c : TargetChange) (s : Sheet) (u : Unit {0}) → Of (NewValid s.form) c → target_rules c s ≡ ok u → Fits s.form (ids_of s) c
unfolding target_rules
rules_fit (added t) s u v e =
    need_then _ _ _ _ e λ n e₁.
    (record { id_range = v.id_range; vals_valid = v.vals_valid; ends = e₁ }, not-true _ n)
rules_fit (dropped i) s u v e = (tt, need_last _ 18 u e)

fit_rules : (c : TargetChange) (s : Sheet) → Fits s.form (ids_of s) c → target_rules c s ≡ ok tt
unfolding target_rules ◌>>=◌ need
fit_rules (added t) s h = rw (h.1, h.0.ends)
fit_rules (dropped i) s h = rw h.1

-- ---- on a packet: the targets that it says are its packs

pub targets_say : (es : List Entry) → targets_in (map part_of es) ≡ map target_of (packs_in es)
unfolding targets_in packs_in part_of
targets_say [] = refl
targets_say (plain i ∷ es) = targets_say es
targets_say (series w ps ∷ es) = refl

abbrev pub ids_in : Packet → List ℕ
ids_in p = map id_of_pack (packs_in p.entries)

pub ids_say : (p : Packet) → ids_of (content p) ≡ ids_in p
unfolding content
ids_say p = ap (map id_of_target) (targets_say p.entries) ∙ map_keys target_of id_of_pack id_of_target target_id (packs_in p.entries)

pub packet_fits : (c : TargetChange) (p : Packet) (u : Unit {0}) → Of (NewValid p.form) c → target_rules c (content p) ≡ ok u → Fits p.form (ids_in p) c
packet_fits c p u v e =
    subst (λ ids. Fits p.form ids c) (ids_say p) (subst (λ f. Fits f (ids_of (content p)) c) (content_form p) (rules_fit c (content p) u (rw content_form v) e))

pub fits_packet : (c : TargetChange) (p : Packet) → Fits p.form (ids_in p) c → target_rules c (content p) ≡ ok tt
fits_packet c p h = fit_rules c (content p) (rw (ids_say p, content_form p) h)
