-- Runs of records: a target's values as parts, how many bytes a run took, and how large what it read can be.
use mathlib.Core.Path.{◌≡◌, refl, sym, ap, ◌∙◌}
use Prim.Native.Nat.{ℕ, ◌+◌, ◌*◌, ◌≤◌}
use native.Mathlib.Omega.{arith}
use mathlib.Core.Bool.{Bool}
use mathlib.Core.List.{List, [], ◌∷◌, map}
use lib.ListN.{length, length-append}
use Rattle.format.specs.Answer.{ok, refused, Got}
use Rattle.format.specs.Coding.{Bytes, oid_bytes}
use Rattle.format.specs.Lists.{flat_all}
use Rattle.format.specs.Table.{Form, pack}
use Rattle.format.specs.Run.{Step, run}
use Rattle.format.specs.Sheet.{Val, Target, one, tag_of_val, id_of_target, tag_of_part, TG, TI, is, val_bytes, target_bytes, value_at, target_at}
use Rattle.format.proofs.Reading.Runs.{Faithful, run_says}
use Rattle.format.proofs.Sheets.Values.{value_faithful}
use Rattle.format.proofs.Sheets.Targets.{target_faithful}
use Rattle.format.proofs.Coding.Oids.{oid_some}
use Rattle.coding.proofs.Counts.{len_some, len_most, oid_most}
use Rattle.tally.specs.declared.Sizes.{Sizes}
use Rattle.tally.specs.Pieces.{Good, Bad}
use Rattle.tally.specs.Meet.{item_sizes, pack_sizes, series_sizes, total, bits, bit_of, weight_of_val, weight_of_target, Few}
use Rattle.tally.proofs.Bits.{bits_map}
use Rattle.tally.proofs.Maps.{mapped, run_map, mapped_good, mapped_bad, walked_good, walked_bad}
use Rattle.tally.proofs.Walks.{few_plus}
use Rattle.tally.proofs.Maps.{total_map}
use Rattle.tally.proofs.Totals.{vals_sheet, targets_sheet}
use Rattle.tally_records.specs.Meet.{more_at, part_step, weight_at, records_walk}

-- ---- a target's values

pub vals_run : (f : Form) (s : List ℕ) → run (more_at pack) tag_of_part (part_step pack f) s ≡ mapped one (run (is TI) tag_of_val (value_at pack f) s)
unfolding part_step
vals_run f s = run_map one (is TI) tag_of_val tag_of_part (value_at pack f) (part_step pack f) (λ v. refl) (λ seen t. refl) s

bits_one : (vs : List Val) → bits (λ p. bit_of (tag_of_part p)) (map one vs) ≡ bits bit_of (map tag_of_val vs)
bits_one vs = sym (bits_map one (λ p. bit_of (tag_of_part p)) vs) ∙ bits_map tag_of_val bit_of vs

-- what a walk of a target's values says of their run
pub record ValsRun (f : Form) (s : List ℕ) (a : Sizes) (m : ℕ) : Type 0 where
  pub vs : Got (List Val)
  pub ran : run (is TI) tag_of_val (value_at pack f) s ≡ ok vs
  pub weighs : total (weight_of_val pack) vs.val ≡ a
  pub holds : bits bit_of (map tag_of_val vs.val) ≡ m

pub vals_good : (f : Form) (s : List ℕ) (a : Sizes) (m : ℕ) → Good a m ≡ records_walk pack f s → ValsRun f s a m
unfolding records_walk
vals_good f s a m e =
    let w = walked_good (weight_at pack) (λ p. bit_of (tag_of_part p)) (run (more_at pack) tag_of_part (part_step pack f) s) a m e in
    let (vs, r, q) = mapped_good one (run (is TI) tag_of_val (value_at pack f) s) w.rs (sym (vals_run f s) ∙ w.ran) in
    record {
      vs = vs;
      ran = r;
      weighs = total_map one (weight_of_val pack) (weight_at pack) (λ v. refl) vs.val ∙ ap (total (weight_at pack)) q ∙ w.weighs;
      holds = sym (bits_one vs.val) ∙ ap (bits (λ p. bit_of (tag_of_part p))) q ∙ w.holds;
    }

pub vals_bad : (f : Form) (s : List ℕ) (n q : ℕ) → Bad n q ≡ records_walk pack f s → run (is TI) tag_of_val (value_at pack f) s ≡ refused n q
unfolding records_walk
vals_bad f s n q e = mapped_bad one _ n q (sym (vals_run f s) ∙ walked_bad (weight_at pack) (λ p. bit_of (tag_of_part p)) (run (more_at pack) tag_of_part (part_step pack f) s) n q e)

-- ---- what a run took: its bytes in the sheet

module _ {X : Type 0} (more : List ℕ → Bool) (key : X → ℕ) (step : Step X) (flat : X → List ℕ) (weight : X → Sizes) (faithful : Faithful more key step flat)
    (sheet : (xs : List X) → length (flat_all flat xs) ≡ (total weight xs).sheet) where
  run_used : (s : List ℕ) (rs : Got (List X)) → Bytes s → run more key step s ≡ ok rs → (rs.used ≡ (total weight rs.val).sheet) × (rs.used ≤ length s)
  run_used s rs b e =
      let k = run_says more key step flat faithful s rs b e in
      let l : length s ≡ length (flat_all flat rs.val) + length k.rest = ap length k.bytes ∙ length-append (flat_all flat rs.val) k.rest in
      (k.used_is ∙ sheet rs.val, omega (arith, l, k.used_is))

pub vals_used : (f : Form) (s : List ℕ) (vs : Got (List Val)) → Bytes s → run (is TI) tag_of_val (value_at pack f) s ≡ ok vs
    → (vs.used ≡ (total (weight_of_val pack) vs.val).sheet) × (vs.used ≤ length s)
vals_used f = run_used (is TI) tag_of_val (value_at pack f) (val_bytes pack) (weight_of_val pack) (value_faithful f) vals_sheet

pub targets_used : (f : Form) (s : List ℕ) (ts : Got (List Target)) → Bytes s → run (is TG) id_of_target (target_at f) s ≡ ok ts
    → (ts.used ≡ (total weight_of_target ts.val).sheet) × (ts.used ≤ length s)
targets_used f = run_used (is TG) id_of_target (target_at f) target_bytes weight_of_target (target_faithful f) targets_sheet

-- ---- how large it can be

abbrev pub Slim : Sizes → Type 0
Slim a = Few a a.sheet

slim_total : {X : Type 0} (weight : X → Sizes) → ((x : X) → Slim (weight x)) → (xs : List X) → Slim (total weight xs)
unfolding total
slim_total weight h [] = record { sheet = omega arith; rows = omega arith; normal = omega arith; inner = omega arith }
slim_total weight h (x ∷ xs) = few_plus (weight x) (total weight xs) (weight x).sheet (total weight xs).sheet (h x) (slim_total weight h xs)

pub slim_pack : (u : ℕ) (a : Sizes) → u ≤ 9 → Slim a → Slim (pack_sizes u a)
slim_pack u a l h = record {
  sheet = omega arith;
  rows = omega (arith, h.rows);
  normal = omega (arith, h.normal, len_most (u + a.normal));
  inner = omega arith;
}

pub slim_series : (a : Sizes) → Slim a → Slim (series_sizes a)
slim_series a h = record {
  sheet = omega arith;
  rows = omega (arith, h.rows);
  normal = omega (arith, h.normal, len_most a.normal);
  inner = omega (arith, h.normal);
}

slim_val : (v : Val) → Slim (weight_of_val pack v)
unfolding item_sizes
slim_val v = record {
  sheet = omega arith;
  rows = omega arith;
  normal = omega (arith, len_most (length v.value), oid_most v.tag);
  inner = omega arith;
}

pub slim_vals : (vs : List Val) → Slim (total (weight_of_val pack) vs)
slim_vals vs = slim_total (weight_of_val pack) slim_val vs

-- and how small: an item has two bytes beside its value, where its record has six
pub vals_dense : (vs : List Val) → (total (weight_of_val pack) vs).sheet ≤ 3 * (total (weight_of_val pack) vs).normal
unfolding total item_sizes
vals_dense [] = omega arith
vals_dense (v ∷ vs) = omega (arith, vals_dense vs, oid_some v.tag, len_some (length v.value))

pub slim_targets : (ts : List Target) → Slim (total weight_of_target ts)
slim_targets ts = slim_total weight_of_target (λ t. slim_pack (length (oid_bytes t.id)) _ (oid_most t.id) (slim_vals t.vals)) ts
