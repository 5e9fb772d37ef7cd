-- How large the packet of a sheet that was read can be.
use mathlib.Core.Path.{◌≡◌}
use Prim.Native.Nat.{ℕ, ◌*◌, ◌≤◌}
use native.Mathlib.Omega.{arith}
use mathlib.Core.Bool.{false}
use mathlib.Core.List.{List, [], ◌∷◌, map}
use lib.ListN.{length}
use lib.Dec.{eqb}
use Rattle.format.specs.Answer.{ok}
use Rattle.format.specs.Coding.{Bytes}
use Rattle.format.specs.Lists.{flat_all}
use Rattle.format.specs.Table.{set}
use Rattle.format.specs.Packet.{flat_entry}
use Rattle.format.specs.Sheet.{Val, Part, one, targets, Sheet, sheet_bytes, unsheet}
use Rattle.format.specs.Calls.{entry_of}
use Rattle.format.proofs.Sheets.Sheets.{sheet_says}
use Rattle.coding.proofs.Counts.{len_most, oid_most}
use Rattle.tally.specs.Meet.{item_sizes, series_sizes, total, weight_of_val, weight_of_target, weight_of_part}
use Rattle.tally.proofs.Walks.{few_plus}
use Rattle.tally.proofs.Totals.{NoSeal, parts_sheet, parts_normal, parts_inner}
use Rattle.tally_records.proofs.Runs.{Slim, slim_series, slim_targets}
use Rattle.check_sheet.proofs.Sheeting.{no_seal}

slim_item : (v : Val) → eqb v.tag 1 ≡ false → Slim (weight_of_val set v)
unfolding item_sizes
slim_item v z = rw (z, item_sizes) (record {
  sheet = omega arith;
  rows = omega arith;
  normal = omega (arith, len_most (length v.value), oid_most v.tag);
  inner = omega arith;
})

slim_parts : (ps : List Part) → NoSeal ps → Slim (total weight_of_part ps)
unfolding total
slim_parts [] h = record { sheet = omega arith; rows = omega arith; normal = omega arith; inner = omega arith }
slim_parts (one v ∷ ps) h = few_plus (weight_of_val set v) (total weight_of_part ps) _ _ (slim_item v h.0) (slim_parts ps h.1)
slim_parts (targets ts ∷ ps) h =
    few_plus (series_sizes (total weight_of_target ts)) (total weight_of_part ps) _ _ (slim_series (total weight_of_target ts) (slim_targets ts)) (slim_parts ps h.1)

module _ (b : List ℕ) (t : Sheet) (h : Bytes b) (e : unsheet b ≡ ok t) where
  unsealed : NoSeal t.parts
  unsealed = no_seal t.form t.parts (sheet_says b t h e).1.parts_valid.each

  pub packet_large : length (flat_all flat_entry (map entry_of t.parts)) ≤ 3 * 65536
  unfolding sheet_bytes
  packet_large =
      omega (arith, parts_normal t.parts unsealed, (slim_parts t.parts unsealed).normal, parts_sheet t.parts unsealed, (sheet_says b t h e).1.small)

  pub inner_less : (total weight_of_part t.parts).inner ≤ length (flat_all flat_entry (map entry_of t.parts))
  inner_less = omega (arith, parts_normal t.parts unsealed, parts_inner t.parts)
