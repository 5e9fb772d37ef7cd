-- Sizes that always suffice.
use mathlib.Core.Path.{◌≡◌, ap}
use mathlib.Core.List.{List}
use Prim.Native.Nat.{ℕ, ◌≤◌, ◌*◌, ◌+◌}
use native.Mathlib.Omega.{arith}
use lib.ListN.{length}
use Rattle.format.specs.Answer.{ok}
use Rattle.format.specs.Coding.{Bytes}
use Rattle.format.specs.Table.{Form}
use Rattle.format.specs.Packet.{flat}
use Rattle.format.specs.Rows.{Row, locate}
use Rattle.format.specs.Calls.{read, normalise}
use Rattle.format.specs.Demands.Sizes.{Sizes}
use Rattle.format.proofs.Reading.Packets.{parse_says}
use Rattle.format.proofs.Sheets.Content.{content_size}
use Rattle.format.proofs.Sheets.Same.{normal_less}
use Rattle.format.proofs.Rows.Point.{rows_few}
use Rattle.format.proofs.Demands.Accepted.{read_then}
use Rattle.format.proofs.Demands.Demand2.{normal_then}
use Rattle.format.proofs.Demands.Rows.{locate_then}

pub sizes : (f : Form) (s : List ℕ) → Bytes s → Sizes f s
sizes f s h = record { sheet = sheet; normal = normal; rows = rows }
  where
    sheet : (b : List ℕ) → read f s ≡ ok b → (length b ≤ 5 * length s + 3) × (length b ≤ 40963)
    sheet b e =
        read_then f s b e λ p ep z.
        let l = parse_says f s p h ep in
        let n : length (flat p) ≡ length s = ap length l.lies_flat in
        let c = content_size p l.valid in
        rw (← z) (omega (arith, n, c), omega (arith, n, c, l.valid.small))

    normal : (b : List ℕ) → normalise f s ≡ ok b → length b ≤ length s
    normal b e =
        normal_then f s h b e λ p ep z.
        let l = parse_says f s p h ep in
        rw (← z) (omega (arith, ap length l.lies_flat, normal_less p l.valid))

    rows : (rs : List Row) → locate f s ≡ ok rs → (2 * length rs ≤ length s) × (length rs ≤ 4096)
    rows rs e =
        locate_then f s rs e λ p ep z.
        let l = parse_says f s p h ep in
        let n : length (flat p) ≡ length s = ap length l.lies_flat in
        let c = rows_few p l.valid in
        rw (← z) (omega (arith, n, c), omega (arith, n, c, l.valid.small))
