-- The loop over all packs of a series, which keeps where the one with an id stands, and counts.
use mathlib.Core.Path.{◌≡◌, refl, sym, ap, ◌∙◌}
use Prim.Native.Nat.{ℕ, ◌+◌, ◌-◌, ◌≤◌, ◌<◌}
use native.Mathlib.Omega.{arith}
use mathlib.Core.Bool.{Bool, false}
use mathlib.Core.List.{List, [], ◌∷◌, ◌++◌, append-nil}
use lib.ListN.{length, take, drop, length-append}
use borrow.Author.Tests.{eq-eqb, ne_eqb}
use Rattle.format.specs.Coding.{Bytes}
use Rattle.format.specs.Lists.{flat_all}
use Rattle.format.specs.Table.{Form}
use Rattle.format.specs.Packet.{Pack, flat_pack}
use Rattle.format.specs.Read.{pack_head}
use Rattle.format.specs.Answer.{ok}
use Rattle.heads.specs.declared.Head.{Head}
use Rattle.heads.specs.Meet.{pack_head_from}
use Rattle.tally.specs.Runs.{Ran, series_run}
use Rattle.find.specs.declared.Spot.{Spot}
use Rattle.find.specs.declared.around.Packs.{Packs}
use Rattle.find.specs.Spots.{spot_in, Missed, Hit, has_id, packs_of, pack_lead}
use Rattle.find.specs.Series.{id_spot, packs_spot}
use Rattle.find.proofs.Splices.{spot_present, spot_absent, grown_spot, snoc_hit, snoc_missed}
use Rattle.find.proofs.Packs.{pack_some, PackTurn, pack_start, pack_end, pack_next, pack_key, pack_ends, pack_past}

-- each has at least one byte
pub few_packs : (ps : List Pack) → length ps ≤ length (flat_all flat_pack ps)
unfolding flat_all
few_packs [] = omega arith
few_packs (p ∷ ps) = rw length-append (omega (arith, pack_some p, few_packs ps))

-- no pack ends the loop
abbrev pub none : Pack → Bool
none p = false

-- the loop at p, with what it keeps
pub record PackPass (f : Form) (id : ℕ) (s : List ℕ) (p at next count : ℕ) : Type 0 where
  pub turn : PackTurn f none s p
  pub at_is : at ≡ (id_spot id turn.going.before).at
  pub next_is : next ≡ (id_spot id turn.going.before).next
  pub count_is : count ≡ length turn.going.before

pub pass_start : (f : Form) (id : ℕ) (s : List ℕ) → Bytes s → (length s ≤ 8192) × Ran (series_run f s) → PackPass f id s 0 0 0 0
unfolding spot_in
pass_start f id s b h = record { turn = pack_start f none s b h; at_is = refl; next_is = refl; count_is = refl }

abbrev pub packs_are : ℕ → ℕ → ℕ → Packs
packs_are at next count = record { at = at; next = next; count = count }

module _ {f : Form} {id : ℕ} {s : List ℕ} {p at next count : ℕ} (i : PackPass f id s p at next count) where
  abbrev before : List Pack
  before = i.turn.going.before

  -- under the names that the code has for what it keeps
  abbrev pub pass_as : {at₁ next₁ : ℕ} → at₁ ≡ at → next₁ ≡ next → PackPass f id s p at₁ next₁ count
  pass_as ea en = record { turn = i.turn; at_is = ea ∙ i.at_is; next_is = en ∙ i.next_is; count_is = i.count_is }

  pub pass_count : count ≤ p
  pass_count = omega (arith, i.count_is, few_packs before, i.turn.going.p_is)

  pub pass_done : length s ≤ p → packs_are at next count ≡ packs_spot id (packs_of f s)
  pass_done h =
      let e : before ≡ packs_of f s = sym (i.turn.going.list_is ∙ ap (λ r. before ++ r) (pack_end i.turn h) ∙ append-nil before) in
      rw (i.at_is, i.next_is, i.count_is, e)

  -- none yet; or the one with the id
  pub none_yet : at ≡ next → Missed (has_id id) before
  none_yet e = spot_absent (has_id id) flat_pack (λ q. q.width) pack_lead before refl pack_some (omega (arith, e, i.at_is, i.next_is))

  pub one_yet : (at ≡ next → ⊥) → Hit (has_id id) before
  one_yet n = spot_present (has_id id) flat_pack (λ q. q.width) pack_lead before refl (λ e. n (i.at_is ∙ e ∙ sym i.next_is))

-- the code read h at p
module _ {f : Form} {id : ℕ} {s : List ℕ} {p at next count : ℕ} (i : PackPass f id s p at next count) (here : p < length s)
    (h : Head) (e : ok (pack_head_from h) ≡ pack_head (take (length s - p) (drop p s))) where
  abbrev it : Pack
  it = (pack_next i.turn here).it

  -- past it, with what is kept then
  past : {at₁ next₁ : ℕ} (a : Spot) → id_spot id (before i ++ (it ∷ [])) ≡ a → at₁ ≡ a.at → next₁ ≡ a.next → PackPass f id s (p + h.width + h.size) at₁ next₁ (count + 1)
  past a ez ea en = record {
    turn = pack_past i.turn here h e refl;
    at_is = ea ∙ sym (ap (λ x. x.at) ez);
    next_is = en ∙ sym (ap (λ x. x.next) ez);
    count_is = omega (arith, i.count_is, length-append (before i) (it ∷ []));
  }

  pub pass_found : at ≡ next → h.key ≡ id → PackPass f id s (p + h.width + h.size) p (p + h.width + h.size) (count + 1)
  pass_found m t =
      let hits = eq-eqb _ _ (pack_key i.turn here h e ∙ t) in
      past _ (snoc_hit (has_id id) flat_pack (λ q. q.width) pack_lead (before i) it (none_yet i m) hits p i.turn.going.p_is) refl (pack_ends i.turn here h e)

  pub pass_missed : at ≡ next → (h.key ≡ id → ⊥) → PackPass f id s (p + h.width + h.size) (p + h.width + h.size) (p + h.width + h.size) (count + 1)
  pass_missed m n =
      let other = ne_eqb _ _ (λ t. n (sym (pack_key i.turn here h e) ∙ t)) in
      let z = snoc_missed (has_id id) flat_pack (λ q. q.width) pack_lead (before i) it (none_yet i m) other p i.turn.going.p_is in
      past _ z (pack_ends i.turn here h e) (pack_ends i.turn here h e)

  pub pass_kept : (at ≡ next → ⊥) → PackPass f id s (p + h.width + h.size) at next (count + 1)
  pass_kept n = past _ (grown_spot (has_id id) (before i) (it ∷ []) refl flat_pack (λ q. q.width) pack_lead (one_yet i n)) i.at_is i.next_is
